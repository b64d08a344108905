-- What is written for a token is read as that token again.
use Rattle.std.proofs.Common.{◌≡◌, ◌<◌, ◌^◌, pos, ℕ, Bool, true, false, not, cond, List, [], ◌∷◌, ◌++◌, length, get_or, sym, refl, ap, ◌∙◌, subst, ⊎_elim, arith, append_assoc, eqb, leb, ◌&&◌}
use Rattle.std.specs.List.{AllPass, flat_map}
use Rattle.std.specs.Char.{is_ascii_digit}
use Rattle.std.specs.Fmt.{decimal}
use Rattle.std.proofs.lemmas.Bool.{cases_Bool, false≢true, eqb-true, and_from, not_from_false, le-leb, cond-false}
use Rattle.std.proofs.lemmas.List.{get_or_default}
use Rattle.std.proofs.lemmas.Fmt.{digits_decimal, digits_value-decimal, decimal_nonempty}
use Rattle.ids.specs.Quoted.{quoted_byte, quoted}
use Rattle.etoken.specs.declared.token.Placed.{Placed}
use Rattle.etoken.specs.declared.token.Token.TheVariants as token
use Rattle.etoken.specs.declared.breaks.Bracket.{Bracket}
use Rattle.etoken.specs.Bytes.{begins_with, is_letter, is_word_byte, is_plain}
use Rattle.etoken.specs.Spelling.{number, Digits, IsWord, Quoted, quoted_none, quoted_plain, quoted_escape, Spells, spells_int, spells_text}
use Rattle.etoken.specs.Cutting.{Piece, Cuts, cuts_none, cuts_more}
use Rattle.etoken.specs.Breaks.{semicolon_at, in_items, may_begin, with_breaks_in, behind, may_end}
use Rattle.etoken.proofs.Spelled.{AreDigits, number_model}

-- a byte as it is written between quotation marks stands for itself
quoted_one : (b : ℕ) {rest c stop : List ℕ} → Quoted rest c stop → Quoted (quoted_byte b ++ rest) (b ∷ c) stop
quoted_one b {rest} {c} {stop} q =
    at (λ x. Quoted (quoted_byte x ++ rest) (x ∷ c) stop) 34 (quoted_escape refl q) (λ quote.
    at (λ x. Quoted (quoted_byte x ++ rest) (x ∷ c) stop) 92 (quoted_escape refl q) (λ slash.
    at (λ x. Quoted (quoted_byte x ++ rest) (x ∷ c) stop) 10 (quoted_escape refl q) (λ line.
    at (λ x. Quoted (quoted_byte x ++ rest) (x ∷ c) stop) 9 (quoted_escape refl q) (λ tab.
    at (λ x. Quoted (quoted_byte x ++ rest) (x ∷ c) stop) 13 (quoted_escape refl q) (λ return.
    let plain : is_plain b ≡ true = and_from (not (eqb b 34)) (not (eqb b 92)) (not_from_false (eqb b 34) quote) (not_from_false (eqb b 92) slash) in
    let same : quoted_byte b ≡ b ∷ [] =
    cond-false (eqb b 34) _ _ quote ∙ cond-false (eqb b 92) _ _ slash ∙ cond-false (eqb b 10) _ _ line ∙ cond-false (eqb b 9) _ _ tab ∙ cond-false (eqb b 13) _ _ return in
    subst (λ l. Quoted (l ++ rest) (b ∷ c) stop) (sym same) (quoted_plain plain q))))))
  where
    at : (P : ℕ → Type 0) (n : ℕ) → P n → (eqb b n ≡ false → P b) → P b
    at P n here other = ⊎_elim (λ (h : eqb b n ≡ true). subst P (sym (eqb-true b n h)) here) other (cases_Bool (eqb b n))

-- so does a whole text
quoted_bytes : (s stop : List ℕ) → Quoted (flat_map quoted_byte s ++ stop) s stop
quoted_bytes [] stop = quoted_none
quoted_bytes (b ∷ s) stop = subst (λ l. Quoted l (b ∷ s) stop) (sym (append_assoc (quoted_byte b) (flat_map quoted_byte s) stop)) (quoted_one b (quoted_bytes s stop))

-- a text between quotation marks
pub spells_quoted : (s r : List ℕ) → Spells (quoted s ++ r) (token.Text s) r
spells_quoted s r = spells_text (subst (λ l. Quoted l s (34 ∷ r)) (sym (append_assoc (flat_map quoted_byte s) (34 ∷ []) r)) (quoted_bytes s (34 ∷ r)))

-- an integer in decimal, where no digit follows
pub spells_decimal : (n : ℕ) (r : List ℕ) → n < 2 ^ 63 → begins_with is_ascii_digit r ≡ false → Spells (decimal n ++ r) (token.Int (pos n)) r
spells_decimal n r small stops =
    let fits : n < 2 ^ 64 = omega (arith, small) in
    let value : number (decimal n) ≡ n = digits_value-decimal number_model n fits in
    let passes : AllPass is_ascii_digit (decimal n) = λ k d lt. digit (decimal n) (digits_decimal number_model n fits) k d lt in
    let digits : Digits (decimal n ++ r) (decimal n) r = record { some = decimal_nonempty n fits; longest = record { whole = refl; passes = passes; stops = stops } } in
    subst (λ m. Spells (decimal n ++ r) (token.Int (pos m)) r) value (spells_int digits (omega (arith, value, small)))
  where
    digit : (ds : List ℕ) → AreDigits ds → (k d : ℕ) → k < length ds → is_ascii_digit (get_or ds k d) ≡ true
    digit ds are k d lt =
        let range = are k lt in
        ap is_ascii_digit (get_or_default ds k d 0 lt) ∙ and_from (leb 48 (get_or ds k 0)) (leb (get_or ds k 0) 57) (le-leb 48 (get_or ds k 0) range.0) (le-leb (get_or ds k 0) 57 range.1)

-- a word, where no word goes on
pub word_written : (w r : List ℕ) → begins_with is_letter w ≡ true → AllPass is_word_byte w → begins_with is_word_byte r ≡ false → IsWord (w ++ r) w r
word_written w r letter passes stops = record { letter = begins w letter; longest = record { whole = refl; passes = passes; stops = stops } }
  where
    begins : (w : List ℕ) → begins_with is_letter w ≡ true → begins_with is_letter (w ++ r) ≡ true
    begins [] h = absurd (false≢true h)
    begins (x ∷ w) h = h

-- what is cut further
pub cuts_append : {n : ℕ} {a b c : List ℕ} {ps qs : List Piece} → Cuts n a ps b → Cuts n b qs c → Cuts n a (ps ++ qs) c
cuts_append cuts_none q = q
cuts_append (cuts_more blanks spells p) q = cuts_more blanks spells (cuts_append p q)

-- no line break stands before any of the tokens
abbrev pub AreUnbroken : List Piece → Type 0
AreUnbroken [] = Unit {0}
AreUnbroken (p ∷ ps) = (p.broken ≡ false) × AreUnbroken ps

-- the tokens with their places
abbrev pub placed_of : List Piece → List Placed
placed_of [] = []
placed_of (p ∷ ps) = p.placed ∷ placed_of ps

-- without line breaks there are no semicolons but those of the text
pub unbroken : (brackets : List Bracket) (ended : Bool) (ps : List Piece) → AreUnbroken ps → with_breaks_in brackets ended ps ≡ placed_of ps
unbroken brackets ended [] h = refl
unbroken brackets ended (p ∷ ps) h =
    let rest = with_breaks_in (behind p.placed.token brackets) (may_end p.placed.token) ps in
    ap (λ b. (cond (b && in_items brackets && ended && may_begin p.placed.token) (semicolon_at p.placed ∷ []) [] ++ p.placed ∷ []) ++ rest) h.0
    ∙ ap (λ l. p.placed ∷ l) (unbroken (behind p.placed.token brackets) (may_end p.placed.token) ps h.1)
