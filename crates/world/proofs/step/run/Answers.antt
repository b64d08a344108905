use Rattle.std.proofs.Common.{ap, sym, subst, ◌∙◌}
use Rattle.std.specs.Arc.{arc_value}
use Rattle.heap.specs.Found.{Found}
use Rattle.heap.specs.View.{state_of}
use Rattle.turn.specs.declared.ticket.Ran.{Ran}
use Rattle.world.proofs.step.run.Goals as goal

pub returns-in-Ok : goal.returns-in-Ok
returns-in-Ok c = (
  ap (λ (r : Ran). r.carried) c.into_parts.ensures ∙ c.in-Ok.ensures.ok,
  subst (λ (r : Ran). Found r.outcome.footprint (state_of (arc_value c.args.ticket.state))) (sym c.into_parts.ensures) c.in-Ok.ensures.found,
)
