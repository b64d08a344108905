use Rattle.std.proofs.Common.{◌≡◌, ◌<◌, sym, ap, ◌∙◌, arith, length, get_or, Some}
use Rattle.std.specs.List.{slice_get}
use Rattle.std.proofs.lemmas.Str.{IsCharBoundary-after_ascii}
use Rattle.etoken.proofs.Fronts.{first_is}
use Rattle.etoken.proofs.bytes.split_ascii.Goals as goal

pub range_from-requires : goal.range_from-requires
range_from-requires c = λ _.
    let got : slice_get c.args.text.now 0 ≡ Some c.in_ok-first.first = ap (λ a. slice_get a 0) (sym c.as_bytes.ensures.value) ∙ sym c.first.ensures.value ∙ sym c.copied.ensures ∙ c.in_ok-first.was in
    let whole = first_is c.args.text.now c.in_ok-first.first got in
    let some : 0 < length c.args.text.now = omega (arith, ap length whole) in
    let ascii : get_or c.args.text.now 0 0 < 128 = omega (arith, ap (λ a. get_or a 0 0) whole, c.if-first-lt128.true) in
    IsCharBoundary-after_ascii c.args.text.now 0 c.utf8.text some ascii
