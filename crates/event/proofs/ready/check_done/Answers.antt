use Rattle.std.proofs.Common.{get_or, sym, ap, ◌∙◌, subst}
use Rattle.eorder.specs.Fences.{Rises}
use Rattle.world_cells.specs.View.{world_of}
use Rattle.event.specs.Ready.{first_undone, early_by}
use Rattle.event.proofs.Waiting.{any_default, undone_here}
use Rattle.event.proofs.ready.check_done.Goals as goal

pub returns-then-not-is_done-clause-err : goal.returns-then-not-is_done-clause-err
returns-then-not-is_done-clause-err c =
    let w = world_of c.args.world.now in
    let ms = c.names-name-items.result.now in
    let i = c.loop-name.name-index in
    let m = get_or ms i (record { event = record { 0 = 0 }; index = 0 }) in
    let names = c.names-name-items.ensures.names in
    let here = undone_here w (first_undone w ms) ms i m (subst Rises (sym names) c.names-name-items.ensures.rise) c.loop-name-test.true (any_default ms i (record { event = record { 0 = 0 }; index = 0 }) m c.loop-name-test.true) c.loop-name.invariant (sym c.is_done.ensures ∙ c.if-not-is_done.true) in
    ap early_by (ap (first_undone w) (sym names) ∙ here)
