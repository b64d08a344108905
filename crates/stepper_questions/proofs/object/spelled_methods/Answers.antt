use Rattle.std.proofs.Common.{◌≡◌, ◌∷◌, ◌++◌, ◌+◌, ap, sym, drop, append-nil, ◌∙◌, arith}
use Rattle.std.proofs.lemmas.Grind.{common_steps}
use Rattle.std.proofs.lemmas.List.{drop_all}
use Rattle.code.specs.View.{methods_of_codes}
use Rattle.stepper_questions.specs.Objects.{method_lines}
use Rattle.stepper_questions.specs.ObjectView.{told_method_lines}
use Rattle.stepper_questions.proofs.Telling.{methods_more}
use Rattle.stepper_questions.proofs.object.spelled_methods.Goals as goal

pub loop-method-init : goal.loop-method-init
loop-method-init c = ap (λ ms. told_method_lines ms ++ method_lines (methods_of_codes c.args.methods.now)) c.new-told.ensures.items

pub loop-method-preserved : goal.loop-method-preserved
loop-method-preserved c =
    let i = c.loop-method.method-index in
    let xs = c.args.methods.now in
    let x = c.method-item.result in
    let dropped : drop i xs ≡ x ∷ drop (i + 1) xs = grind (arith, common_steps) in
    methods_more c.loop-method.told.items _ _ (drop (i + 1) xs) c.in_ok-push.ensures.items c.in_ok-body.ensures
    ∙ ap (λ ms. told_method_lines c.loop-method.told.items ++ method_lines (methods_of_codes ms)) (sym dropped) ∙ c.loop-method.invariant

pub returns : goal.returns
returns c =
    sym (append-nil (told_method_lines c.loop-method.told.items))
    ∙ sym (ap (λ ms. told_method_lines c.loop-method.told.items ++ method_lines (methods_of_codes ms)) (drop_all c.loop-method.method-index c.args.methods.now c.loop-method-test.false)) ∙ c.loop-method.invariant
