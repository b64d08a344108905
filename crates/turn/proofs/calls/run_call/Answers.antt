use Rattle.std.proofs.Common.{refl, ap, ◌∙◌}
use Rattle.values.specs.View.{val_of, vals_of}
use Rattle.post.specs.DeliveryView.{call_of}
use Rattle.eval_rules.specs.Outcomes.{halt, value}
use Rattle.eval_rules.specs.View.{at}
use Rattle.eval_rules.proofs.Answering.{ends_weaker, handed_on}
use Rattle.eval_rules.proofs.Steps.{slice_of}
use Rattle.eval_objects.specs.View.{Led as CallLed}
use Rattle.turn_deliveries.specs.Outcomes.{found_of}
use Rattle.turn_deliveries.specs.Turn.{Led, call_meeting, call_met}
use Rattle.eval.proofs.Entered.{on_method, on_none}
use Rattle.turn.proofs.Calling.{MadeOn, call_came, call_entered}
use Rattle.turn.proofs.calls.run_call.Goals as goal

pub returns-in-Some : goal.returns-in-Some
returns-in-Some c =
    let call = call_of c.args.call.now in
    let f = found_of c.args.lead.now in
    let arguments = ap vals_of c.deref_mut.ensures.value ∙ c.in_ok-arguments.ensures ∙ ap vals_of (slice_of c.deref-2.ensures.value c.deref.ensures) in
    let made = on_method _ c.call_target.new.into (MadeOn _ _ _ (at c.bring_in.new.w)) _ c.in-Some.is c.in_ok-entry.ensures in
    ends_weaker c.run_entry.result c.run_entry.new.into c.run_entry.new.w _ (Led (call_met call f (at c.args.w.now)) (call_meeting call f (at c.args.w.now))) c.run_entry.ensures (λ o b r. call_entered call f (at c.args.w.now) c.in_ok-bring_in.ensures c.in_ok-target.ensures refl arguments made r)

pub returns : goal.returns
returns c =
    let call = call_of c.args.call.now in
    let f = found_of c.args.lead.now in
    let arguments = ap vals_of c.deref_mut.ensures.value ∙ c.in_ok-arguments.ensures ∙ ap vals_of (slice_of c.deref-2.ensures.value c.deref.ensures) in
    call_came call f (at c.args.w.now) c.in_ok-bring_in.ensures c.in_ok-target.ensures refl arguments (on_none _ c.call_target.new.into (MadeOn _ _ _ (at c.bring_in.new.w)) _ c.in-None.is c.in_ok-entry.ensures)

pub returns-in_err-entry : goal.returns-in_err-entry
returns-in_err-entry c =
    let call = call_of c.args.call.now in
    let f = found_of c.args.lead.now in
    let arguments = ap vals_of c.deref_mut.ensures.value ∙ c.in_ok-arguments.ensures ∙ ap vals_of (slice_of c.deref-2.ensures.value c.deref.ensures) in
    handed_on c.from_residual-in_err-entry.result c.in_err-entry.field-0.0 c.call_target.new.w (λ u b. Led (call_met call f (at c.args.w.now)) (call_meeting call f (at c.args.w.now)) (value (val_of c.call_target.new.into)) b)
    (λ h b. CallLed (MadeOn _ _ _ (at c.bring_in.new.w)) (halt h) b) (λ h b. Led (call_met call f (at c.args.w.now)) (call_meeting call f (at c.args.w.now)) (halt h) b)
    c.from_residual-in_err-entry.ensures.1 c.in_err-entry.ensures (λ h b r. call_came call f (at c.args.w.now) c.in_ok-bring_in.ensures c.in_ok-target.ensures refl arguments r)
