use Rattle.std.proofs.Common.{◌≡◌, ◌∷◌, ◌+◌, ap, refl, drop, arith}
use Rattle.std.proofs.lemmas.Grind.{common_steps}
use Rattle.std.proofs.lemmas.List.{drop_all}
use Rattle.stepper_streams.proofs.Giving.{tells_both, leads_first, leads_more, leads_all}
use Rattle.std.specs.Prelude.{codes, map}
use Rattle.kernele.specs.Spelling.{led_by, bound_name}
use Rattle.stepper_questions.proofs.object.put_more.Goals as goal

pub loop-parameter-init : goal.loop-parameter-init
loop-parameter-init g c = leads_first g.W.Write.contents c.args.out.now refl

pub loop-parameter-preserved : goal.loop-parameter-preserved
loop-parameter-preserved g c =
    let i = c.loop-parameter.parameter-index in
    let xs = c.args.parameters.now in
    let x = c.parameter-item.result in
    let dropped : drop i xs ≡ x ∷ drop (i + 1) xs = grind (arith, common_steps) in
    leads_more g.W.Write.contents _ _ c.loop-parameter.invariant (tells_both g.W.Write.contents c.put.ensures c.put_pattern.ensures) (ap (λ es. led_by (codes ", ") (map bound_name es)) dropped)

pub returns : goal.returns
returns g c = leads_all g.W.Write.contents c.loop-parameter.invariant (ap (λ es. led_by (codes ", ") (map bound_name es)) (drop_all c.loop-parameter.parameter-index c.args.parameters.now c.loop-parameter-test.false))
