use Rattle.std.proofs.Common.{List, Some, map, refl, ap, sym, ◌∙◌}
use Rattle.std.specs.Option.{option_map}
use Rattle.ids.specs.declared.names.PromId.{PromId}
use Rattle.ids.specs.declared.cells.CellKey.TheVariants as key
use Rattle.post.specs.MessageView.{message_of}
use Rattle.world_cells.specs.View.{world_of}
use Rattle.event.specs.Events.{moved_foot}
use Rattle.event.specs.Forwarding.{to_of}
use Rattle.event.proofs.Noted.{quietly}
use Rattle.world.proofs.Stepping.{goes_forward, on_way}
use Rattle.world.proofs.step.effects_of_forwarding.Goals as goal

pub returns-clause-ok : goal.returns-clause-ok
returns-clause-ok c =
    let w = world_of c.args.world.now in
    let g = message_of c.in-Ok.message.now in
    let h = message_of c.in-Some-2.forwarded in
    let u = c.in-Some.onward.to in
    let through = c.deref.result.now in
    let moved = sym (ap (option_map message_of) c.in-Some-2.is) ∙ c.in_ok-forwarded.ensures in
    let goes = ap (λ (ps : List PromId). Some (on_way u ps)) c.deref.ensures.value ∙ sym (ap (option_map to_of) c.in-Some.is) ∙ c.in_ok-onward.ensures in (
      moved_foot (map key.Board through) c.args.name h,
      record {
        does = ∣ quietly (goes_forward c.args.event c.args.name w g h c.in-Ok.vat u through c.in-Ok.ensures.waiting c.in-Ok.ensures.there moved goes) refl _ c.in_ok-move_effects.ensures.quiet ∣₁;
        brings = c.in_ok-move_effects.ensures.brings;
      },
    )
