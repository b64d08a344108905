use Rattle.std.proofs.Common.{◌≡◌, ◌∷◌, ◌+◌, ap, refl, drop, arith}
use Rattle.std.proofs.lemmas.Grind.{common_steps}
use Rattle.std.proofs.lemmas.List.{drop_all}
use Rattle.stepper_streams.proofs.Giving.{leads_first, leads_more, leads_all}
use Rattle.stepper_printing.specs.PictureView.{homes_text}
use Rattle.stepper_printing.proofs.show.put_homes.Goals as goal

pub loop-home-init : goal.loop-home-init
loop-home-init g c = leads_first g.W.Write.contents c.args.out.now refl

pub loop-home-preserved : goal.loop-home-preserved
loop-home-preserved g c =
    let i = c.loop-home.home-index in
    let xs = c.args.homes.now in
    let x = c.home-item.result in
    let dropped : drop i xs ≡ x ∷ drop (i + 1) xs = grind (arith, common_steps) in
    leads_more g.W.Write.contents _ _ c.loop-home.invariant c.put_home.ensures (ap (λ es. homes_text es) dropped)

pub returns : goal.returns
returns g c = leads_all g.W.Write.contents c.loop-home.invariant (ap (λ es. homes_text es) (drop_all c.loop-home.home-index c.args.homes.now c.loop-home-test.false))
