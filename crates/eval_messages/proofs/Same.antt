-- Both sides of a comparison are settled.
use Rattle.std.proofs.Common.{◌≡◌, Option, Some, None, ap, ◌∙◌}
use Rattle.cells.specs.Doing.{over, play, and_then}
use Rattle.values.specs.Data.{Val}
use Rattle.heap.specs.State.{same_cell}
use Rattle.heap.specs.Drafted.{Drafted}
use Rattle.sends.specs.Vats.{Vat, settled}
use Rattle.sends.specs.Making.{Making, refused, makes, value_too_large, of_settled}
use Rattle.sends.specs.Playing.{under, Did}
use Rattle.sends.proofs.Playing.{did_then}
use Rattle.eval_rules.specs.Doings.{both_settled}

abbrev right_of : Val → Val → Vat (Making (Val × Val))
right_of w x = and_then (settled w) (of_settled (λ y. over (makes (x, y))))

-- the left one passes a limit
pub left_too_large : (v w : Val) (o : Option Val) (d e : Drafted) → Did (settled v) d o e → o ≡ None → Did (both_settled v w) d (refused value_too_large) e
left_too_large v w o d e h is = did_then (settled v) (of_settled (right_of w)) d e e o (refused value_too_large) h (ap (λ o. play same_cell (of_settled (right_of w) o) (under e)) is)

-- the right one does
pub right_too_large : (v w x : Val) (o p : Option Val) (d e k : Drafted) → Did (settled v) d o e → o ≡ Some x → Did (settled w) e p k → p ≡ None → Did (both_settled v w) d (refused value_too_large) k
right_too_large v w x o p d e k h is g none =
    did_then (settled v) (of_settled (right_of w)) d e k o (refused value_too_large) h
    (ap (λ o. play same_cell (of_settled (right_of w) o) (under e)) is
    ∙ did_then (settled w) (of_settled (λ y. over (makes (x, y)))) e k k p (refused value_too_large) g (ap (λ p. play same_cell (of_settled (λ y. over (makes (x, y))) p) (under k)) none))

-- neither does
pub both_there : (v w x y : Val) (o p : Option Val) (d e k : Drafted) → Did (settled v) d o e → o ≡ Some x → Did (settled w) e p k → p ≡ Some y → Did (both_settled v w) d (makes (x, y)) k
both_there v w x y o p d e k h is g there =
    did_then (settled v) (of_settled (right_of w)) d e k o (makes (x, y)) h
    (ap (λ o. play same_cell (of_settled (right_of w) o) (under e)) is
    ∙ did_then (settled w) (of_settled (λ y. over (makes (x, y)))) e k k p (makes (x, y)) g (ap (λ p. play same_cell (of_settled (λ y. over (makes (x, y))) p) (under k)) there))
