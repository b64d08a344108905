-- How integers, words and texts are spelled.
use Rattle.std.proofs.Common.{◌≡◌, ◌≢◌, ◌≤◌, ◌<◌, ◌^◌, ℤ, pos, ℕ, true, false, cond, List, [], ◌∷◌, ◌++◌, length, get_or, sym, refl, ap, ◌∙◌, subst, ⊎_elim, inl, inr, arith, None, Result, Ok, Err, leb, eqb, not, w64}
use Rattle.std.specs.List.{AllPass}
use Rattle.std.specs.Int.{IsInRange}
use Rattle.std.specs.Prelude.{FitsSigned}
use Rattle.std.specs.Char.{is_ascii_digit}
use Rattle.std.specs.Str.Parse.{ParsesSigned}
use Rattle.std.proofs.Common.{rules}
use Rattle.std.proofs.lemmas.Str.Parse.{IsNumeralModel, numerals_by_fold, tells_by_index, parse_signed_digits}
use Rattle.std.proofs.lemmas.Bool.{and_parts, and_cases, ltb-false, leb-true, eqb-true, false≢true, not-false, ne_eqb, cases_lt}
use Rattle.etoken.specs.declared.token.Token.TheVariants as token
use Rattle.etoken.specs.declared.fault.TokenFault.TheVariants as fault
use Rattle.etoken.specs.declared.fault.TokenFault.{TokenFault}
use Rattle.etoken.specs.Bytes.{begins_with, is_ascii_byte, is_plain, Longest}
use Rattle.etoken.specs.Table.{escape_of}
use Rattle.etoken.specs.Spelling.{number, number_from, Digits, Quoted, Spells, spells_int, spells_text, Spoils, unclosed, bad_escape, too_large, offset_of, Blames}
use Rattle.etoken.proofs.Runs.{QuotedSoFar, quoted_end}

-- each byte of the list is a digit
abbrev pub AreDigits : List ℕ → Type 0
AreDigits ds = (i : ℕ) → i < length ds → IsInRange 48 57 (get_or ds i 0)

-- `number` is what decimal digits stand for
pub number_model : IsNumeralModel AreDigits number
number_model = numerals_by_fold AreDigits tells_by_index number_from (search rules)

-- bytes that pass the test are digits
are_digits : (ds : List ℕ) → AllPass is_ascii_digit ds → AreDigits ds
are_digits ds passes i lt =
    let parts = and_parts (leb 48 (get_or ds i 0)) (leb (get_or ds i 0) 57) (passes i 0 lt) in
    (leb-true 48 (get_or ds i 0) parts.0, leb-true (get_or ds i 0) 57 parts.1)

-- the digits in front of a text that begins with one
digits_in_front : {a ds r : List ℕ} → begins_with is_ascii_digit a ≡ true → Longest is_ascii_digit a ds r → Digits a ds r
digits_in_front {a} {ds} {r} begins run = record { some = some ds run.whole; longest = run }
  where
    some : (ds : List ℕ) → a ≡ ds ++ r → 0 < length ds
    some [] e = absurd (false≢true (sym run.stops ∙ sym (ap (begins_with is_ascii_digit) e) ∙ begins))
    some (d ∷ ds) e = omega arith

-- what `parse` gives for digits whose number fits
pub parsed_ok : {a ds r : List ℕ} {z : ℤ} → Longest is_ascii_digit a ds r → ParsesSigned {E = ℕ} w64 10 ds (Ok z) → ((0 < length ds) × (number ds < 2 ^ 63)) × (z ≡ pos (number ds))
parsed_ok {ds = ds} {z = z} run h = let result : Result ℤ ℕ = Ok z in parse_signed_digits number_model w64 ds result h (are_digits ds run.passes)

-- a number below the limit is an integer
pub number_fits : {z : ℤ} (n : ℕ) → n < 2 ^ 63 → z ≡ pos n → FitsSigned w64 z
number_fits {z} n small e = subst (FitsSigned w64) (sym e) (record { sfits = small })

-- it gives an error only for the others
pub parsed_err : {a ds r : List ℕ} → Longest is_ascii_digit a ds r → ParsesSigned {E = ℕ} w64 10 ds (Err 0) → ((0 < length ds) × (number ds < 2 ^ 63)) → ⊥
parsed_err {ds = ds} run h = let result : Result ℤ ℕ = Err 0 in parse_signed_digits number_model w64 ds result h (are_digits ds run.passes)

-- an integer is read as `parse` reads it
pub int_spelled : {a ds r : List ℕ} {z : ℤ} → begins_with is_ascii_digit a ≡ true → Longest is_ascii_digit a ds r → ((0 < length ds) × (number ds < 2 ^ 63)) × (z ≡ pos (number ds)) → Spells a (token.Int z) r
int_spelled {a} {ds} {r} begins run h = subst (λ z. Spells a (token.Int z) r) (sym h.1) (spells_int (digits_in_front begins run) h.0.1)

-- an integer that `parse` refuses is too large
pub int_spoiled : {n : ℕ} {a ds r : List ℕ} → begins_with is_ascii_digit a ≡ true → Longest is_ascii_digit a ds r → (((0 < length ds) × (number ds < 2 ^ 63)) → ⊥) → Spoils n a (fault.IntegerTooLarge (offset_of n a))
int_spoiled {n} {a} {ds} {r} begins run h =
    let digits = digits_in_front begins run in
    too_large digits (⊎_elim (λ (small : number ds < 2 ^ 63). absurd (h (digits.some, small))) (λ (large : 2 ^ 63 ≤ number ds). large) (cases_lt (number ds) (2 ^ 63)))

-- the content ends at a quotation mark
pub text_spelled : {rest behind content stop after : List ℕ} → rest ≡ 34 ∷ behind → QuotedSoFar behind content stop → stop ≡ 34 ∷ after → Spells rest (token.Text content) after
text_spelled {rest} {behind} {content} {stop} {after} e so_far f =
    subst (λ l. Spells l (token.Text content) after) (sym e) (spells_text (subst (λ l. Quoted behind content l) f (quoted_end so_far)))

-- behind a run of plain bytes the text ends, or goes on with an ASCII byte
stop_ends : (stop : List ℕ) → begins_with is_plain stop ≡ false → begins_with is_ascii_byte stop ≡ false → stop ≡ []
stop_ends [] h g = refl
stop_ends (x ∷ a) h g = absurd (⊎_elim (λ (p : not (eqb x 34) ≡ false). quote p) (λ (p : not (eqb x 92) ≡ false). slash p) (and_cases (not (eqb x 34)) (not (eqb x 92)) h))
  where
    quote : not (eqb x 34) ≡ false → ⊥
    quote p = omega (arith, ltb-false x 128 g, eqb-true x 34 (not-false (eqb x 34) p))

    slash : not (eqb x 92) ≡ false → ⊥
    slash p = omega (arith, ltb-false x 128 g, eqb-true x 92 (not-false (eqb x 92) p))

-- the content goes on to the end
pub text_unclosed : {n : ℕ} {rest behind content stop : List ℕ} → rest ≡ 34 ∷ behind → QuotedSoFar behind content stop → begins_with is_plain stop ≡ false → begins_with is_ascii_byte stop ≡ false → Spoils n rest (fault.UnclosedText (offset_of n rest))
text_unclosed {n} {rest} {behind} {content} {stop} e so_far plain ascii =
    subst (λ l. Spoils n l (fault.UnclosedText (offset_of n l))) (sym e) (unclosed (quoted_end so_far) (inl (stop_ends stop plain ascii)))

-- a byte that is not plain is `\` where it is not `"`
pub is_backslash : (x : ℕ) → is_plain x ≡ false → x ≢ 34 → x ≡ 92
is_backslash x h other = ⊎_elim
    (λ (p : not (eqb x 34) ≡ false). absurd (other (eqb-true x 34 (not-false (eqb x 34) p))))
    (λ (p : not (eqb x 92) ≡ false). eqb-true x 92 (not-false (eqb x 92) p))
    (and_cases (not (eqb x 34)) (not (eqb x 92)) h)

-- a `\` that begins no escape
pub escape_spoiled : (n : ℕ) {rest opened content stop behind : List ℕ} (f : TokenFault) → rest ≡ 34 ∷ opened → QuotedSoFar opened content stop → stop ≡ 92 ∷ behind
    → ((e : ℕ) (a : List ℕ) → behind ≡ e ∷ a → escape_of e ≡ None) → f ≡ cond (eqb (length behind) 0) (fault.UnclosedText (offset_of n rest)) (fault.BadEscape (offset_of n stop)) → Blames n rest f
escape_spoiled n {rest} {opened} {content} {stop} {behind} f e so_far g none is = subst (Blames n rest) (sym is) (blames behind g none)
  where
    blames : (behind : List ℕ) → stop ≡ 92 ∷ behind → ((e : ℕ) (a : List ℕ) → behind ≡ e ∷ a → escape_of e ≡ None) → Blames n rest (cond (eqb (length behind) 0) (fault.UnclosedText (offset_of n rest)) (fault.BadEscape (offset_of n stop)))
    blames [] g none = subst (λ l. Spoils n l (fault.UnclosedText (offset_of n l))) (sym e) (unclosed (quoted_end so_far) (inr g))
    blames (x ∷ a) g none = subst (λ b. Blames n rest (cond b (fault.UnclosedText (offset_of n rest)) (fault.BadEscape (offset_of n stop)))) (sym (ne_eqb (length (x ∷ a)) 0 (λ z. omega (arith, z))))
        (subst (λ l. Spoils n l (fault.BadEscape (offset_of n stop))) (sym e)
        (subst (λ l. Spoils n (34 ∷ opened) (fault.BadEscape (offset_of n l))) (sym g) (bad_escape (subst (λ l. Quoted opened content l) g (quoted_end so_far)) (none x a refl))))
