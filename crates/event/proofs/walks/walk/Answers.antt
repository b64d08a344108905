use Rattle.std.proofs.Common.{sym, ap, ◌∙◌}
use Rattle.std.specs.Option.{option_map}
use Rattle.values.specs.View.{val_of}
use Rattle.world_cells.specs.View.{world_of}
use Rattle.event.specs.Walks.{by_the_board}
use Rattle.event.proofs.Ends.{end_is, ring_is}
use Rattle.event.proofs.walks.walk.Goals as goal
use Rattle.event.proofs.walks.walk.Goals.{then-is_resolved, else-is_resolved}

pub returns-clause-end : goal.returns-clause-end
returns-clause-end c =
    let m = by_the_board (world_of c.args.world.now) in
    let v = val_of c.args.target.now in
    let e = val_of c.in_ok-end.end in
    elim c.if-is_resolved.branch [
      | then-is_resolved w ↦ ap (option_map val_of) w.end2-is ∙ sym (ring_is m v e c.is_resolved.result c.in_ok-end.ensures.end c.is_resolved.ensures w.if-is_resolved.true)
      | else-is_resolved w ↦ ap (option_map val_of) w.end2-is ∙ sym (end_is m v e c.is_resolved.result c.in_ok-end.ensures.end c.is_resolved.ensures w.if-is_resolved.false)
    ]
