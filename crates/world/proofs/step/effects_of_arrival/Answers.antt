use Rattle.std.proofs.Common.{[], refl, ap, sym, ◌∙◌}
use Rattle.std.specs.Option.{option_map}
use Rattle.post.specs.MessageView.{message_of}
use Rattle.world_cells.specs.World.{message_in}
use Rattle.event.specs.Events.{arrives, moved_foot}
use Rattle.event.proofs.Noted.{quietly}
use Rattle.world.proofs.step.effects_of_arrival.Goals as goal

pub returns-clause-ok : goal.returns-clause-ok
returns-clause-ok c = (
  moved_foot [] c.args.name (message_of c.in-Some-2.arrived),
  record {
    does = ∣ quietly (arrives (ap message_in (sym c.in-Some.ensures)) (sym c.in_ok-arrived.ensures ∙ ap (option_map message_of) c.in-Some-2.is)) refl _ c.in_ok-move_effects.ensures.quiet ∣₁;
    brings = c.in_ok-move_effects.ensures.brings;
  },
)
