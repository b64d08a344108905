use Rattle.std.proofs.Common.{◌≡◌, subst, ap, ◌∙◌}
use Rattle.std.specs.Prelude.{codes}
use Rattle.values.specs.View.{val_of, vals_of}
use Rattle.eval_rules.specs.At.{At}
use Rattle.eval_rules.specs.Doings.{given_by, behind, data_of}
use Rattle.eval_rules.specs.Outcomes.{halt, thrown, reply_end}
use Rattle.eval_rules.specs.Rules.{Target, callee_of, callee_read, callee_target, ejector_end}
use Rattle.eval_rules.specs.View.{at}
use Rattle.eval_rules.proofs.Answering.{handed_on, stop_weaker}
use Rattle.eval_objects.specs.View.{OnTarget}
use Rattle.eval_objects.proofs.Leading.{led_to_end}
use Rattle.eval_objects.proofs.calls.call_end.Goals as goal

pub returns-in-Object : goal.returns-in-Object
returns-in-Object c =
    let v = val_of c.args.receiver.now in
    let vs = vals_of c.args.args.now in
    let verb = c.args.verb.now in
    let a = at c.args.w.now in
    let on = c.in-Object.ensures ∙ ap (λ w. callee_of w v) c.here.ensures in
    subst (λ m. OnTarget c.object_target.result c.object_target.new.into c.object_target.new.w (λ t b. (t ≡ callee_target m v verb vs a) × (b ≡ callee_read m v verb vs a))) on c.object_target.ensures

pub returns-in_ok-call_datum-in-Datum : goal.returns-in_ok-call_datum-in-Datum
returns-in_ok-call_datum-in-Datum c =
    let v = val_of c.args.receiver.now in
    let vs = vals_of c.args.args.now in
    let verb = c.args.verb.now in
    let a = at c.args.w.now in
    let on = c.in-Datum.ensures ∙ ap (λ w. callee_of w v) c.here.ensures in
    let Q : Target → At → Type 0 = λ t b. (t ≡ callee_target (callee_of a.vat v) v verb vs a) × (b ≡ callee_read (callee_of a.vat v) v verb vs a) in
    led_to_end Q (reply_end (given_by (data_of v verb vs) a)) _ (behind (data_of v verb vs) a) _ (ap (λ m. callee_target m v verb vs a) on, ap (λ m. callee_read m v verb vs a) on) c.in_ok-call_datum-in-Datum.ensures

pub returns-in_err-call_datum-in-Datum : goal.returns-in_err-call_datum-in-Datum
returns-in_err-call_datum-in-Datum c =
    let v = val_of c.args.receiver.now in
    let vs = vals_of c.args.args.now in
    let verb = c.args.verb.now in
    let a = at c.args.w.now in
    let on = c.in-Datum.ensures ∙ ap (λ w. callee_of w v) c.here.ensures in
    let Q : Target → At → Type 0 = λ t b. (t ≡ callee_target (callee_of a.vat v) v verb vs a) × (b ≡ callee_read (callee_of a.vat v) v verb vs a) in
    handed_on c.from_residual-in_err-call_datum-in-Datum.result c.in_err-call_datum-in-Datum.field-0.0 c.call_datum.new.w _ _ _ c.from_residual-in_err-call_datum-in-Datum.ensures.1 c.in_err-call_datum-in-Datum.ensures
    (λ h b p. led_to_end Q (reply_end (given_by (data_of v verb vs) a)) (halt h) (behind (data_of v verb vs) a) b (ap (λ m. callee_target m v verb vs a) on, ap (λ m. callee_read m v verb vs a) on) p)

pub returns-in_ok-call_ejector-in-Ejector : goal.returns-in_ok-call_ejector-in-Ejector
returns-in_ok-call_ejector-in-Ejector c =
    let v = val_of c.args.receiver.now in
    let vs = vals_of c.args.args.now in
    let verb = c.args.verb.now in
    let a = at c.args.w.now in
    let on = c.in-Ejector.ensures ∙ ap (λ w. callee_of w v) c.here.ensures in
    let Q : Target → At → Type 0 = λ t b. (t ≡ callee_target (callee_of a.vat v) v verb vs a) × (b ≡ callee_read (callee_of a.vat v) v verb vs a) in
    led_to_end Q (ejector_end c.in-Ejector.id a.opened verb vs) _ a _ (ap (λ m. callee_target m v verb vs a) on, ap (λ m. callee_read m v verb vs a) on) c.in_ok-call_ejector-in-Ejector.ensures

pub returns-in_err-call_ejector-in-Ejector : goal.returns-in_err-call_ejector-in-Ejector
returns-in_err-call_ejector-in-Ejector c =
    let v = val_of c.args.receiver.now in
    let vs = vals_of c.args.args.now in
    let verb = c.args.verb.now in
    let a = at c.args.w.now in
    let on = c.in-Ejector.ensures ∙ ap (λ w. callee_of w v) c.here.ensures in
    let Q : Target → At → Type 0 = λ t b. (t ≡ callee_target (callee_of a.vat v) v verb vs a) × (b ≡ callee_read (callee_of a.vat v) v verb vs a) in
    handed_on c.from_residual.result c.in_err-call_ejector-in-Ejector.field-0.0 c.call_ejector.new.w _ _ _ c.from_residual.ensures.1 c.in_err-call_ejector-in-Ejector.ensures
    (λ h b p. led_to_end Q (ejector_end c.in-Ejector.id a.opened verb vs) (halt h) a b (ap (λ m. callee_target m v verb vs a) on, ap (λ m. callee_read m v verb vs a) on) p)

pub returns-in-Far : goal.returns-in-Far
returns-in-Far c =
    let v = val_of c.args.receiver.now in
    let vs = vals_of c.args.args.now in
    let verb = c.args.verb.now in
    let a = at c.args.w.now in
    let on = c.in-Far.ensures ∙ ap (λ w. callee_of w v) c.here.ensures in
    let Q : Target → At → Type 0 = λ t b. (t ≡ callee_target (callee_of a.vat v) v verb vs a) × (b ≡ callee_read (callee_of a.vat v) v verb vs a) in
    stop_weaker c.not_near.result c.not_near.new.w _ _
    (λ h b p. led_to_end Q (halt (thrown (codes "not near"))) (halt h) a b (ap (λ m. callee_target m v verb vs a) on, ap (λ m. callee_read m v verb vs a) on) p) c.not_near.ensures
