use Rattle.std.proofs.Common.{◌≡◌, ◌∷◌, ◌+◌, ap, refl, drop, arith}
use Rattle.std.proofs.lemmas.Grind.{common_steps}
use Rattle.std.proofs.lemmas.List.{drop_all}
use Rattle.stepper_streams.proofs.Giving.{leads_first, leads_more, leads_all}
use Rattle.stepper_questions.specs.WhyView.{links_text}
use Rattle.stepper_questions.proofs.reason.put_links.Goals as goal

pub loop-link-init : goal.loop-link-init
loop-link-init g c = leads_first g.W.Write.contents c.args.out.now refl

pub loop-link-preserved : goal.loop-link-preserved
loop-link-preserved g c =
    let i = c.loop-link.link-index in
    let xs = c.args.links.now in
    let x = c.link-item.result in
    let dropped : drop i xs ≡ x ∷ drop (i + 1) xs = grind (arith, common_steps) in
    leads_more g.W.Write.contents _ _ c.loop-link.invariant c.put_link.ensures (ap (λ es. links_text es) dropped)

pub returns : goal.returns
returns g c = leads_all g.W.Write.contents c.loop-link.invariant (ap (λ es. links_text es) (drop_all c.loop-link.link-index c.args.links.now c.loop-link-test.false))
