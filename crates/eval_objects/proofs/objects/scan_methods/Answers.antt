use Rattle.std.proofs.Common.{◌≡◌, rules, length, refl, sym, ◌∙◌}
use Rattle.eval_rules.proofs.Fitting.{first_fits, others_fit}
use Rattle.eval_rules.proofs.Captures.{method_here, method_not}
use Rattle.eval_objects.proofs.Methods.{method_many, none_left}
use Rattle.eval_objects.proofs.objects.scan_methods.Goals as goal
use Rattle.eval_objects.proofs.objects.scan_methods.Goals.{else-count-len-via-then-count-len+else-eq, else-count-len-via-else-count-len}

pub returns-then-eq : goal.returns-then-eq
returns-then-eq c = λ vs e. record {
  method = method_here _ _ _ _ vs c.in-Some.ensures.cases.0 (search rules) (e ∙ search rules) ∙ c.loop-method.invariant.0 vs e;
  count = e ∙ search rules;
  fits = λ frame h. first_fits frame _ _ _ c.in-Some.ensures.cases.0 (c.loop-method.invariant.1 frame h);
}

pub loop-method-preserved : goal.loop-method-preserved
loop-method-preserved c =
    let many : c.len.result ≡ length c.in-Some.method.now.parameters.value.items = search rules in
    elim c.else-count-len.branch [
      | else-count-len-via-then-count-len+else-eq w ↦ (λ vs e. method_not _ _ _ _ vs c.in-Some.ensures.cases.0 (search rules) ∙ c.loop-method.invariant.0 vs e, λ frame h. others_fit frame _ _ _ c.in-Some.ensures.cases.0 (c.loop-method.invariant.1 frame h))
      | else-count-len-via-else-count-len w ↦ (λ vs e. method_many _ _ _ _ vs c.in-Some.ensures.cases.0 (λ same. w.if-count-len.false (sym e ∙ same ∙ sym many)) _ refl ∙ c.loop-method.invariant.0 vs e, λ frame h. others_fit frame _ _ _ c.in-Some.ensures.cases.0 (c.loop-method.invariant.1 frame h))
    ]

pub returns : goal.returns
returns c = λ vs e. none_left _ c.args.methods.now c.args.verb.now vs c.in_default.ensures.cases (c.loop-method.invariant.0 vs e)
