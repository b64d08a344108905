-- The longest front whose bytes pass.
use Rattle.std.proofs.Common.{◌≡◌, ◌≤◌, ◌<◌, ◌+◌, ◌-◌, ℕ, suc, Bool, true, false, cond, List, [], ◌∷◌, ◌++◌, take, drop, IsUtf8, sym, refl, ap, ◌∙◌, subst, ⊎_elim, arith, take-append-drop, get_or-take, Some, leb, eqb}
use Rattle.std.specs.List.{prefix_len, AllPass, slice_get}
use Rattle.std.specs.Str.{IsCharBoundary}
use Rattle.std.proofs.lemmas.Bool.{cases_lt, cases_Bool, leb-true, and_parts, or_cases, eqb-true}
use Rattle.std.proofs.lemmas.List.Sums.{prefix_len-le-length, prefix_len_passes}
use Rattle.std.proofs.lemmas.List.Folds.{length-prefix_len}
use Rattle.std.proofs.lemmas.Str.{IsCharBoundary-start, IsCharBoundary-after_ascii}
use Rattle.std.specs.Char.{is_ascii_digit, is_ascii_alphabetic}
use Rattle.std.specs.Int.{is_in_range}
use Rattle.etoken.specs.Bytes.{Longest, begins_with, is_word_byte, is_letter}

-- the first byte, as a list that begins with it
pub first_is : (a : List ℕ) (b : ℕ) → slice_get a 0 ≡ Some b → a ≡ b ∷ drop 1 a
first_is [] b e = absurd (cc)
first_is (x ∷ a) b e = ap (λ y. y ∷ a) (let s : x ≡ b = cc in s)

-- a text may be cut behind bytes that are all ASCII
pub ascii_front : (test : ℕ → Bool) → ((b : ℕ) → test b ≡ true → b < 128) → (a : List ℕ) → IsUtf8 a → IsCharBoundary a (prefix_len test a)
ascii_front test ascii a utf8 =
    let bound = prefix_len-le-length test a in
    ⊎_elim
    (λ (some : 0 < prefix_len test a).
    let last : prefix_len test a - 1 < prefix_len test a = omega arith in
    let same : prefix_len test a - 1 + 1 ≡ prefix_len test a = omega arith in
    subst (IsCharBoundary a) same (IsCharBoundary-after_ascii a (prefix_len test a - 1) utf8 (omega arith) (ascii _ (prefix_len_passes test a (prefix_len test a - 1) 0 last))))
    (λ (none : prefix_len test a ≤ 0). let zero : 0 ≡ prefix_len test a = omega arith in subst (IsCharBoundary a) zero (IsCharBoundary-start a utf8))
    (cases_lt 0 (prefix_len test a))

-- a digit is an ASCII byte
pub digit_ascii : (b : ℕ) → is_ascii_digit b ≡ true → b < 128
digit_ascii b e = omega (arith, leb-true b 57 (and_parts (leb 48 b) (leb b 57) e).1)

-- a letter of the alphabet is an ASCII byte
alphabetic_ascii : (b : ℕ) → is_ascii_alphabetic b ≡ true → b < 128
alphabetic_ascii b e =
    ⊎_elim (λ (h : is_in_range 65 90 b ≡ true). omega (arith, leb-true b 90 (and_parts (leb 65 b) (leb b 90) h).1))
    (λ (h : is_in_range 97 122 b ≡ true). omega (arith, leb-true b 122 (and_parts (leb 97 b) (leb b 122) h).1)) (or_cases (is_in_range 65 90 b) (is_in_range 97 122 b) e)

-- a letter or `_` is an ASCII byte
letter_ascii : (b : ℕ) → is_letter b ≡ true → b < 128
letter_ascii b e = ⊎_elim (λ (h : is_ascii_alphabetic b ≡ true). alphabetic_ascii b h) (λ (h : eqb b 95 ≡ true). omega (arith, eqb-true b 95 h)) (or_cases (is_ascii_alphabetic b) (eqb b 95) e)

-- a byte of a word is an ASCII byte
pub word_ascii : (b : ℕ) → is_word_byte b ≡ true → b < 128
word_ascii b e = ⊎_elim (λ (h : is_letter b ≡ true). letter_ascii b h) (λ (h : is_ascii_digit b ≡ true). digit_ascii b h) (or_cases (is_letter b) (is_ascii_digit b) e)

-- the byte behind the longest front does not pass
stops_at : (test : ℕ → Bool) (a : List ℕ) → begins_with test (drop (prefix_len test a) a) ≡ false
stops_at test [] = refl
stops_at test (x ∷ a) = ⊎_elim
    (λ (h : test x ≡ true).
    let first : prefix_len test (x ∷ a) ≡ 1 + prefix_len test a = ap (λ t. cond t (1 + prefix_len test a) 0) h in
    let more : prefix_len test (x ∷ a) ≡ suc (prefix_len test a) = omega (arith, first) in
    subst (λ (n : ℕ). begins_with test (drop n (x ∷ a)) ≡ false) (sym more) (stops_at test a))
    (λ (h : test x ≡ false).
    let none : prefix_len test (x ∷ a) ≡ 0 = ap (λ t. cond t (1 + prefix_len test a) 0) h in
    subst (λ (n : ℕ). begins_with test (drop n (x ∷ a)) ≡ false) (sym none) h)
    (cases_Bool (test x))

-- each byte of the longest front passes
passes_below : (test : ℕ → Bool) (a : List ℕ) → AllPass test (take (prefix_len test a) a)
passes_below test a = λ k d h.
    let lt : k < prefix_len test a = omega (arith, h, length-prefix_len test a) in
    ap test (get_or-take (prefix_len test a) a k d lt) ∙ prefix_len_passes test a k d lt

-- cut at the length of the longest front
pub longest_cut : (test : ℕ → Bool) (a w r : List ℕ) → w ≡ take (prefix_len test a) a → r ≡ drop (prefix_len test a) a → Longest test a w r
longest_cut test a w r front back = record {
  whole = sym (take-append-drop (prefix_len test a) a) ∙ (λ i. sym front i ++ sym back i);
  passes = subst (AllPass test) (sym front) (passes_below test a);
  stops = ap (begins_with test) back ∙ stops_at test a;
}
