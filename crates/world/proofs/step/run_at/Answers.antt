use Rattle.std.proofs.Common.{ap, subst, ◌∙◌}
use Rattle.std.proofs.lemmas.Result.{IfOk-weaker}
use Rattle.std.specs.Arc.{arc_value}
use Rattle.turn_deliveries.specs.Outcomes.{found_of}
use Rattle.heap.specs.Found.{Found}
use Rattle.heap.specs.View.{state_of}
use Rattle.turn.specs.declared.ticket.Out.{Out}
use Rattle.turn.specs.declared.ticket.Task.{Task}
use Rattle.world.proofs.step.run_at.Goals as goal

pub returns-clause-ok : goal.returns-clause-ok
returns-clause-ok c = IfOk-weaker c.run.result _ _ (λ r (same, found).
    let all = same ∙ ap (λ (o : Out). o.carried) c.new.ensures in
    record {
      event = ap (λ (t : Task). t.event) all;
      name = ap (λ (t : Task). t.name) all;
      same_budget = ap (λ (t : Task). t.budget) all;
      same = ap (λ (t : Task). t.message) all;
      same_lead = ap (λ (t : Task). found_of t.lead) all;
      vat = ap (λ (t : Task). t.vat) all;
      found = subst (Found r.outcome.footprint) c.in_ok-state.ensures.shared (subst (λ (o : Out). Found r.outcome.footprint (state_of (arc_value o.state))) c.new.ensures found);
    }) c.run.ensures
