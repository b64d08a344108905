use Rattle.std.proofs.Common.{◌≡◌, ◌∷◌, ◌+◌, ap, refl, drop, arith}
use Rattle.std.proofs.lemmas.Grind.{common_steps}
use Rattle.std.proofs.lemmas.List.{drop_all}
use Rattle.stepper_streams.proofs.Giving.{tells_as, leads_first, leads_more, leads_all}
use Rattle.stepper_questions.proofs.Telling.{nouns_lines, all_captured}
use Rattle.stepper_questions.proofs.named.put_captured.Goals as goal

pub loop-noun-init : goal.loop-noun-init
loop-noun-init g c = leads_first g.W.Write.contents c.args.out.now refl

pub loop-noun-preserved : goal.loop-noun-preserved
loop-noun-preserved g c =
    let i = c.loop-noun.noun-index in
    let xs = c.args.nouns.now in
    let x = c.noun-item.result in
    let dropped : drop i xs ≡ x ∷ drop (i + 1) xs = grind (arith, common_steps) in
    leads_more g.W.Write.contents _ _ c.loop-noun.invariant c.put_noun.ensures (ap (λ es. nouns_lines es) dropped)

pub returns : goal.returns
returns g c =
    let all = leads_all g.W.Write.contents c.loop-noun.invariant (ap (λ es. nouns_lines es) (drop_all c.loop-noun.noun-index c.args.nouns.now c.loop-noun-test.false)) in
    tells_as g.W.Write.contents (all_captured c.args.nouns.now) all
