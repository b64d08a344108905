-- What reading a number and a tag gives.
use Rattle.std.proofs.Common.{◌≡◌, ℕ, ◌<◌, ◌^◌, List, [], ◌∷◌, length, Bool, true, false, cond, Option, Some, None, Result, Ok, Err, refl, sym, ap, ◌∙◌, arith, ◌==◌, not, ◌&&◌}
use Rattle.std.specs.Prelude.{◌≢◌}
use Rattle.std.specs.Borrow.{Bor}
use Rattle.std.specs.Option.{option_map, MatchOption}
use Rattle.std.specs.Result.{OkIff, result_ok}
use Rattle.std.specs.List.{list_all}
use Rattle.std.specs.Char.{is_ascii_digit}
use Rattle.stepper_commands.specs.Numbers.{numeral_from, within, number_of, is_numeral, behind_tag}

within_is : (n : ℕ) (E : Type 0) (r : Result ℕ E) (bs : List ℕ) → OkIff r ((0 < length bs) × (n < 2 ^ 32)) n → 0 < length bs → result_ok r ≡ within n
within_is n E (Ok x) bs h l = let a : n < 2 ^ 32 = h.0.1 in let e : x ≡ n = h.1 in grind (arith, a, e)
within_is n E (Err e) bs h l = let a : (n < 2 ^ 32) → ⊥ = λ k. h (l, k) in grind (arith, a)

long_enough : (bs : List ℕ) → is_numeral bs ≡ true → 0 < length bs
long_enough [] h = cc
long_enough (b ∷ bs) h = omega arith

pub number_is : (E : Type 0) (r : Result ℕ E) (bs : List ℕ) → OkIff r ((0 < length bs) × (numeral_from 0 bs < 2 ^ 32)) (numeral_from 0 bs) → is_numeral bs ≡ true → result_ok r ≡ number_of bs
number_is E r bs h k = within_is (numeral_from 0 bs) E r bs h (long_enough bs k) ∙ sym (ap (λ b. cond b (within (numeral_from 0 bs)) None) k)

same_byte : (b tag : ℕ) (bs : List ℕ) (xs : List ℕ) → b ∷ bs ≡ tag ∷ xs → Some xs ≡ cond (b == tag) (Some bs) None
same_byte b tag bs xs h = let e : b ≡ tag = cc in let f : xs ≡ bs = cc in grind (arith, e, f)

pub tag_is : (tag : ℕ) (bs : List ℕ) (r : Option (Bor (List ℕ))) → MatchOption r ((rest : List ℕ) → bs ≢ tag ∷ rest) (λ x. bs ≡ tag ∷ x.now) → option_map (λ x. x.now) r ≡ behind_tag tag bs
tag_is tag [] None h = refl
tag_is tag [] (Some x) h = cc
tag_is tag (b ∷ bs) (Some x) h = same_byte b tag bs x.now h
tag_is tag (b ∷ bs) None h = let k : (b ≡ tag) → ⊥ = λ e. h bs (ap (λ c. c ∷ bs) e) in grind (arith, k)

both_true : (a b : Bool) → a && b ≡ true → b ≡ true
both_true true b h = h
both_true false b h = cc

pub all_digits_of : (bs : List ℕ) → is_numeral bs ≡ true → list_all is_ascii_digit bs ≡ true
all_digits_of bs h = both_true (not (length bs == 0)) (list_all is_ascii_digit bs) h
