use Rattle.std.proofs.Common.{◌≡◌, ◌∙◌, sym, refl, length, arith}
use Rattle.eorder.proofs.CarriedFences.{equal_by_place}
use Rattle.eorder.proofs.carried.Carried.is_same.Goals as goal

pub returns : goal.returns
returns c =
    let same : length c.args.self.now ≡ length c.args.other.now = sym c.len.ensures.count ∙ c.if-len.false ∙ c.len-2.ensures.count in
    (λ t. equal_by_place c.args.self.now c.args.other.now same (λ k h. c.loop-place.invariant k (omega (arith, c.loop-place-test.false, c.len-place-end.ensures.count))), λ e. refl)
