use Rattle.std.proofs.Common.{ap, subst, sym, ◌∙◌}
use Rattle.turn_deliveries.specs.declared.outcome.Outcome.{Outcome}
use Rattle.heap.specs.Found.{Found}
use Rattle.heap.specs.View.{state_of}
use Rattle.std.specs.Arc.{arc_value}
use Rattle.turn.specs.declared.ticket.Out.{Out}
use Rattle.turn.proofs.ticket.Ticket+Out.run.Goals as goal

pub with_outcome-requires : goal.with_outcome-requires
with_outcome-requires c = c.in-Ok.ensures.meets

pub returns-in-Ok-clause-ok : goal.returns-in-Ok-clause-ok
returns-in-Ok-clause-ok c = c.with_outcome.ensures.carried ∙ ap (λ (o : Out). o.carried) c.self.view_is

pub returns-in-Ok-clause-found : goal.returns-in-Ok-clause-found
returns-in-Ok-clause-found c = rw (← c.self.view_is) (subst (λ (o : Outcome). Found o.footprint (state_of (arc_value c.self.inside.stage.state))) (sym c.with_outcome.ensures.outcome) c.in-Ok.ensures.found)

pub returns-in-Err-clause-err : goal.returns-in-Err-clause-err
returns-in-Err-clause-err c = c.self.view_is
