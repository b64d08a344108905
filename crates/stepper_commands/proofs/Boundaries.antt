-- A line may be cut where blanks begin and where they end.
use Rattle.std.proofs.Common.{◌≡◌, ℕ, ◌+◌, ◌-◌, ◌<◌, ◌≤◌, List, length, Bool, true, false, not, refl, subst, sym, arith, ◌⊎◌, inl, inr, get_or}
use Rattle.std.specs.Str.{IsUtf8, IsCharBoundary}
use Rattle.std.specs.List.{position_or_len}
use Rattle.std.proofs.lemmas.List.Sums.{prefix_len-le-length, prefix_len_stops, prefix_len_passes}
use Rattle.std.proofs.lemmas.Str.{IsCharBoundary-end, IsCharBoundary-start, IsCharBoundary-before_ascii, IsCharBoundary-after_ascii}
use Rattle.stepper_commands.specs.Words.{is_blank}

blank_is_ascii : (b : ℕ) → is_blank b ≡ true → b < 128
blank_is_ascii b h = grind (arith, h)

not_false : (b : Bool) → not b ≡ false → b ≡ true
not_false true h = refl
not_false false h = cc

not_not : (b : Bool) → not (not b) ≡ true → b ≡ true
not_not true h = refl
not_not false h = cc

less_or_equal : (m n : ℕ) → m ≤ n → (m < n) ⊎ (m ≡ n)
less_or_equal m n h = search arith

before_blank : (bs : List ℕ) (n : ℕ) → n ≡ position_or_len is_blank bs → (n < length bs) ⊎ (n ≡ length bs) → IsCharBoundary bs n
before_blank bs n e (inl h) = IsCharBoundary-before_ascii bs n h (blank_is_ascii _ (not_false _ (subst (λ m. not (is_blank (get_or bs m 0)) ≡ false) (sym e) (prefix_len_stops (λ b. not (is_blank b)) bs 0 (subst (λ m. m < length bs) e h)))))
before_blank bs n e (inr h) = subst (IsCharBoundary bs) (sym h) (IsCharBoundary-end bs)

pub word_boundary : (bs : List ℕ) → IsCharBoundary bs (position_or_len is_blank bs)
word_boundary bs = before_blank bs _ refl (less_or_equal _ _ (prefix_len-le-length (λ b. not (is_blank b)) bs))

after_blanks : (bs : List ℕ) (n : ℕ) → IsUtf8 bs → n ≡ position_or_len (λ b. not (is_blank b)) bs → (0 < n) ⊎ (0 ≡ n) → IsCharBoundary bs n
after_blanks bs n u e (inl h) =
    let k : n - 1 < position_or_len (λ b. not (is_blank b)) bs = omega (arith, e) in
    let l : n - 1 < length bs = omega (arith, prefix_len-le-length (λ b. not (not (is_blank b))) bs) in
    let one : (n - 1) + 1 ≡ n = omega arith in
    subst (IsCharBoundary bs) one (IsCharBoundary-after_ascii bs (n - 1) u l (blank_is_ascii _ (not_not _ (prefix_len_passes (λ b. not (not (is_blank b))) bs (n - 1) 0 k))))
after_blanks bs n u e (inr h) = subst (IsCharBoundary bs) h (IsCharBoundary-start bs u)

pub blanks_boundary : (bs : List ℕ) → IsUtf8 bs → IsCharBoundary bs (position_or_len (λ b. not (is_blank b)) bs)
blanks_boundary bs u = after_blanks bs _ u refl (less_or_equal _ _ (omega arith))
