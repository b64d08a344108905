use Rattle.std.proofs.Common.{◌≡◌, refl, sym, ap, ◌∙◌, subst}
use Rattle.values.specs.Data.{Val}
use Rattle.values.specs.View.{val_of, vals_of}
use Rattle.eval_rules.specs.At.{At}
use Rattle.eval_rules.specs.Outcomes.{value, values}
use Rattle.eval_rules.specs.Rules.{Target, target_of, called, callee_of, callee_read, callee_target, receiver_read}
use Rattle.eval_rules.specs.View.{at}
use Rattle.eval_objects.specs.View.{OnTarget}
use Rattle.eval_objects.proofs.Leading.{led_to_end}
use Rattle.eval_objects.proofs.OnData.{datum_target, datum_called}
use Rattle.eval_objects.proofs.calls.call_target.Goals as goal

pub returns : goal.returns
returns c =
    let vs = vals_of c.args.args.now in
    let verb = c.args.verb.now in
    subst (λ (u : Val). OnTarget c.call_end.result c.call_end.new.into c.call_end.new.w (λ t b. (t ≡ callee_target (callee_of (at c.args.w.now).vat u) u verb vs (receiver_read (val_of c.args.receiver.now) (at c.args.w.now))) × (b ≡ callee_read (callee_of (at c.args.w.now).vat u) u verb vs (receiver_read (val_of c.args.receiver.now) (at c.args.w.now))))) c.in_ok-take_end.ensures.end
    (subst (λ (z : At). OnTarget c.call_end.result c.call_end.new.into c.call_end.new.w (λ t b. (t ≡ callee_target (callee_of z.vat (val_of c.take_end.new.value)) (val_of c.take_end.new.value) verb vs z) × (b ≡ callee_read (callee_of z.vat (val_of c.take_end.new.value)) (val_of c.take_end.new.value) verb vs z))) c.in_ok-take_end.ensures.place c.call_end.ensures)

pub returns-in-Some : goal.returns-in-Some
returns-in-Some c =
    let u = val_of c.args.receiver.now in
    let verb = c.args.verb.now in
    let a = at c.args.w.now in
    let v = val_of c.in-Some.given in
    let h = c.in-Some.ensures in
    let Q : Target → At → Type 0 = λ t b. (t ≡ target_of u verb (values (vals_of c.args.args.now)) a) × (b ≡ called u verb (values (vals_of c.args.args.now)) a) in
    led_to_end Q (value v) (value v) a a (
      sym (ap (λ us. target_of u verb (values us) a) h.1 ∙ datum_target u verb h.0 v a h.2),
      sym (ap (λ us. called u verb (values us) a) h.1 ∙ datum_called u verb h.0 v a h.2),
    ) (refl, refl)
