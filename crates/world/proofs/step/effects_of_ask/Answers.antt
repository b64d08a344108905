use Rattle.std.proofs.Common.{refl, ap, sym}
use Rattle.code.specs.View.{trees_of_codes}
use Rattle.world_cells.specs.World.{vat_in}
use Rattle.event.specs.Events.{ask_foot, asks}
use Rattle.event.proofs.Noted.{quietly}
use Rattle.world.proofs.step.effects_of_ask.Goals as goal

pub returns-clause-ok : goal.returns-clause-ok
returns-clause-ok c = (
  ask_foot c.args.event c.args.name.now c.in-Some.vat.now.number (trees_of_codes c.args.question.now.items.value.items),
  record { does = ∣ quietly (asks (ap vat_in (sym c.in-Some.ensures))) refl _ c.in_ok-ask_effects.ensures.quiet ∣₁; brings = c.in_ok-ask_effects.ensures.brings },
)
