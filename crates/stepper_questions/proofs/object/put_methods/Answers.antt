use Rattle.std.proofs.Common.{◌≡◌, ◌∷◌, ◌+◌, ap, refl, drop, arith}
use Rattle.std.proofs.lemmas.Grind.{common_steps}
use Rattle.std.proofs.lemmas.List.{drop_all}
use Rattle.stepper_streams.proofs.Giving.{leads_first, leads_more, leads_all}
use Rattle.stepper_questions.specs.ObjectView.{told_method_lines}
use Rattle.stepper_questions.proofs.object.put_methods.Goals as goal

pub loop-method-init : goal.loop-method-init
loop-method-init g c = leads_first g.W.Write.contents c.args.out.now refl

pub loop-method-preserved : goal.loop-method-preserved
loop-method-preserved g c =
    let i = c.loop-method.method-index in
    let xs = c.args.methods.now in
    let x = c.method-item.result in
    let dropped : drop i xs ≡ x ∷ drop (i + 1) xs = grind (arith, common_steps) in
    leads_more g.W.Write.contents _ _ c.loop-method.invariant c.put_method.ensures (ap (λ es. told_method_lines es) dropped)

pub returns : goal.returns
returns g c = leads_all g.W.Write.contents c.loop-method.invariant (ap (λ es. told_method_lines es) (drop_all c.loop-method.method-index c.args.methods.now c.loop-method-test.false))
