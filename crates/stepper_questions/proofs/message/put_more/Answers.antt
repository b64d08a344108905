use Rattle.std.proofs.Common.{◌≡◌, ◌∷◌, ◌+◌, ap, refl, drop, arith}
use Rattle.std.proofs.lemmas.Grind.{common_steps}
use Rattle.std.proofs.lemmas.List.{drop_all}
use Rattle.stepper_streams.proofs.Giving.{tells_both, leads_first, leads_more, leads_all}
use Rattle.values.specs.Shown.{shown_more}
use Rattle.values.specs.View.{vals_of}
use Rattle.stepper_questions.proofs.message.put_more.Goals as goal

pub loop-value-init : goal.loop-value-init
loop-value-init g c = leads_first g.W.Write.contents c.args.out.now refl

pub loop-value-preserved : goal.loop-value-preserved
loop-value-preserved g c =
    let i = c.loop-value.value-index in
    let xs = c.args.values.now in
    let x = c.value-item.result in
    let dropped : drop i xs ≡ x ∷ drop (i + 1) xs = grind (arith, common_steps) in
    leads_more g.W.Write.contents _ _ c.loop-value.invariant (tells_both g.W.Write.contents c.put.ensures c.put_value.ensures) (ap (λ es. shown_more (vals_of es)) dropped)

pub returns : goal.returns
returns g c = leads_all g.W.Write.contents c.loop-value.invariant (ap (λ es. shown_more (vals_of es)) (drop_all c.loop-value.value-index c.args.values.now c.loop-value-test.false))
