-- Texts whose tokens stand in one line.
use Rattle.std.proofs.Common.{◌≡◌, ◌<◌, ◌≤◌, ◌^◌, ℕ, ℤ, pos, negsuc, Bool, true, false, not, List, [], ◌∷◌, ◌++◌, length, sym, refl, ap, ◌∙◌, subst, arith, Option, Some, None, is_none, codes, leb, eqb, ⊎_elim}
use Rattle.std.specs.Prelude.{◌&&◌}
use Rattle.std.specs.List.{list_all}
use Rattle.std.specs.Char.{is_ascii_digit, is_ascii_alphabetic}
use Rattle.std.specs.Int.{is_in_range}
use Rattle.std.proofs.lemmas.Bool.Decides.{nat_tests}
use Rattle.std.specs.Fmt.{decimal, signed_decimal}
use Rattle.std.specs.Str.{bytes_eq}
use Rattle.std.proofs.lemmas.Bool.{and_parts, or_parts, not-true, false≢true, eqb-true, leb-true, or_cases}
use Rattle.std.proofs.lemmas.List.Sums.{AllPass-from_list_all}
use Rattle.std.proofs.lemmas.Slice.Eq.{bytes_eq-Decides}
use Rattle.std.proofs.lemmas.Fmt.{digits_decimal, decimal_nonempty}
use Rattle.ids.specs.Quoted.{quoted}
use Rattle.etoken.specs.declared.token.Token.{Token}
use Rattle.etoken.specs.declared.token.Token.TheVariants as token
use Rattle.etoken.specs.declared.token.Reserved.{Reserved}
use Rattle.etoken.specs.declared.token.Sign.TheVariants as sign
use Rattle.etoken.specs.declared.breaks.Bracket.{Bracket}
use Rattle.etoken.specs.Bytes.{is_letter, is_word_byte, is_blank, begins_with}
use Rattle.etoken.specs.Table.{reserved_of}
use Rattle.etoken.specs.Spelling.{Spells, spells_reserved, spells_underscore, spells_name}
use Rattle.etoken.specs.Cutting.{Blanks, blanks_none, blanks_space, Piece, piece_at, Cuts, cuts_none, cuts_more}
use Rattle.etoken.specs.Breaks.{with_breaks_in, behind, may_end}
use Rattle.etoken.proofs.Signs.{short_spelled, long_spelled}
use Rattle.etoken.proofs.Spelled.{AreDigits, number_model}
use Rattle.etoken.proofs.Spellings.{spells_quoted, spells_decimal, word_written}
use Rattle.ereader_grammar.specs.View.{plain}
use Rattle.ereader_grammar.specs.Spelled.{CutInto, cut_into, IsName, HasLiteral}

-- the bytes are cut to their end into these tokens, and no line break stands between them
pub data InLine : List ℕ → List Token → Type 0 where
  in_line_end : {a : List ℕ} → Blanks a false [] → InLine a []
  in_line_more : {a b c : List ℕ} {t : Token} {ts : List Token} → Blanks a false b → Spells b t c → InLine c ts → InLine a (t ∷ ts)

-- such bytes are cut, and no semicolon is added
record LineCut (n : ℕ) (a : List ℕ) (ts : List Token) : Type 0 where
  pieces : List Piece
  rest : List ℕ
  cuts : Cuts n a pieces rest
  ended : Blanks rest false []
  same : (open_ones : List Bracket) (ended : Bool) → plain (with_breaks_in open_ones ended pieces) ≡ ts

-- its pieces
line_cut : (n : ℕ) {a : List ℕ} {ts : List Token} → InLine a ts → LineCut n a ts
line_cut n (in_line_end {a = a} blanks) = record { pieces = []; rest = a; cuts = cuts_none; ended = blanks; same = λ open_ones ended. refl }
line_cut n (in_line_more {b = b} {t = t} blanks spells rest) =
    let more = line_cut n rest in
    record {
      pieces = piece_at n false t b ∷ more.pieces;
      rest = more.rest;
      cuts = cuts_more blanks spells more.cuts;
      ended = more.ended;
      same = λ open_ones ended. ap (λ l. t ∷ l) (more.same (behind t open_ones) (may_end t));
    }

-- so they are the tokens of the text
pub cut_in_line : {text : List ℕ} {ts : List Token} → InLine text ts → CutInto text ts
cut_in_line {text} line =
    let cut = line_cut (length text) line in
    subst (CutInto text) (cut.same [] false) (cut_into cut.cuts cut.ended)

-- a token in front, with no space before it
here : {a c : List ℕ} {t : Token} {ts : List Token} → begins_with is_blank a ≡ false → Spells a t c → InLine c ts → InLine a (t ∷ ts)
here h s rest = in_line_more (blanks_none h) s rest

-- behind a space
pub spaced : {a : List ℕ} {ts : List Token} → InLine a ts → InLine (32 ∷ a) ts
spaced (in_line_end blanks) = in_line_end (blanks_space refl blanks)
spaced (in_line_more blanks spells rest) = in_line_more (blanks_space refl blanks) spells rest

-- `(`
pub open_round_at : {a : List ℕ} {ts : List Token} → InLine a ts → InLine (40 ∷ a) (token.Sign sign.OpenRound ∷ ts)
open_round_at = here refl (short_spelled refl (λ y a e. refl) refl)

-- `)`
pub close_round_at : {a : List ℕ} {ts : List Token} → InLine a ts → InLine (41 ∷ a) (token.Sign sign.CloseRound ∷ ts)
close_round_at = here refl (short_spelled refl (λ y a e. refl) refl)

-- `[`
pub open_square_at : {a : List ℕ} {ts : List Token} → InLine a ts → InLine (91 ∷ a) (token.Sign sign.OpenSquare ∷ ts)
open_square_at = here refl (short_spelled refl (λ y a e. refl) refl)

-- `]`
pub close_square_at : {a : List ℕ} {ts : List Token} → InLine a ts → InLine (93 ∷ a) (token.Sign sign.CloseSquare ∷ ts)
close_square_at = here refl (short_spelled refl (λ y a e. refl) refl)

-- `{`
pub open_curly_at : {a : List ℕ} {ts : List Token} → InLine a ts → InLine (123 ∷ a) (token.Sign sign.OpenCurly ∷ ts)
open_curly_at = here refl (short_spelled refl (λ y a e. refl) refl)

-- `}`
pub close_curly_at : {a : List ℕ} {ts : List Token} → InLine a ts → InLine (125 ∷ a) (token.Sign sign.CloseCurly ∷ ts)
close_curly_at = here refl (short_spelled refl (λ y a e. refl) refl)

-- `,`
pub comma_at : {a : List ℕ} {ts : List Token} → InLine a ts → InLine (44 ∷ a) (token.Sign sign.Comma ∷ ts)
comma_at = here refl (short_spelled refl (λ y a e. refl) refl)

-- `;`
pub semicolon_at : {a : List ℕ} {ts : List Token} → InLine a ts → InLine (59 ∷ a) (token.Sign sign.Semicolon ∷ ts)
semicolon_at = here refl (short_spelled refl (λ y a e. refl) refl)

-- `.`
pub dot_at : {a : List ℕ} {ts : List Token} → InLine a ts → InLine (46 ∷ a) (token.Sign sign.Dot ∷ ts)
dot_at = here refl (short_spelled refl (λ y a e. refl) refl)

-- `:=`
pub becomes_at : {a : List ℕ} {ts : List Token} → InLine a ts → InLine (58 ∷ 61 ∷ a) (token.Sign sign.Becomes ∷ ts)
becomes_at = here refl (long_spelled refl refl refl)

-- `==`
pub equal_at : {a : List ℕ} {ts : List Token} → InLine a ts → InLine (61 ∷ 61 ∷ a) (token.Sign sign.Equal ∷ ts)
equal_at = here refl (long_spelled refl refl refl)

-- `<-`
pub send_to_at : {a : List ℕ} {ts : List Token} → InLine a ts → InLine (60 ∷ 45 ∷ a) (token.Sign sign.SendTo ∷ ts)
send_to_at = here refl (long_spelled refl refl refl)

-- `->`
pub arrow_at : {a : List ℕ} {ts : List Token} → InLine a ts → InLine (45 ∷ 62 ∷ a) (token.Sign sign.Arrow ∷ ts)
arrow_at = here refl (long_spelled refl refl refl)

-- no byte of a word is first: the bytes do not lengthen a word or a number before them
abbrev pub Ends : List ℕ → Type 0
Ends r = begins_with is_word_byte r ≡ false

-- blanks come early in ASCII
no_blank : (x : ℕ) → 36 ≤ x → is_blank x ≡ false
no_blank x h = grind (arith, nat_tests)

-- a letter is no blank
letter_no_blank : (x : ℕ) → is_letter x ≡ true → is_blank x ≡ false
letter_no_blank x h = no_blank x (⊎_elim
    (λ (l : is_ascii_alphabetic x ≡ true). ⊎_elim
    (λ (u : is_in_range 65 90 x ≡ true). omega (arith, leb-true 65 x (and_parts (leb 65 x) (leb x 90) u).0))
    (λ (u : is_in_range 97 122 x ≡ true). omega (arith, leb-true 97 x (and_parts (leb 97 x) (leb x 122) u).0))
    (or_cases (is_in_range 65 90 x) (is_in_range 97 122 x) l))
    (λ (l : eqb x 95 ≡ true). omega (arith, eqb-true x 95 l))
    (or_cases (is_ascii_alphabetic x) (eqb x 95) h))

-- a word begins with no blank
word_no_blank : (w r : List ℕ) → begins_with is_letter w ≡ true → begins_with is_blank (w ++ r) ≡ false
word_no_blank [] r h = absurd (false≢true h)
word_no_blank (x ∷ w) r h = letter_no_blank x h

-- a reserved word
pub reserved_at : (w : List ℕ) (word : Reserved) → begins_with is_letter w ≡ true → list_all is_word_byte w ≡ true → reserved_of w ≡ Some word
    → {r : List ℕ} {ts : List Token} → Ends r → InLine r ts → InLine (w ++ r) (token.Word word ∷ ts)
reserved_at w word h all known {r} ends rest = here (word_no_blank w r h) (spells_reserved (word_written w r h (AllPass-from_list_all is_word_byte w all) ends) known) rest

-- `_`
pub underscore_at : {r : List ℕ} {ts : List Token} → Ends r → InLine r ts → InLine (95 ∷ r) (token.Sign sign.Underscore ∷ ts)
underscore_at {r} ends rest = here refl (spells_underscore (word_written (codes "_") r refl (AllPass-from_list_all is_word_byte (codes "_") refl) ends)) rest

-- what is none
is_none-None : {A : Type 0} (o : Option A) → is_none o ≡ true → o ≡ None
is_none-None None h = refl
is_none-None (Some x) h = absurd (false≢true h)

-- a name
pub name_at : (x : List ℕ) → IsName x → {r : List ℕ} {ts : List Token} → Ends r → InLine r ts → InLine (x ++ r) (token.Name x ∷ ts)
name_at x h {r} ends rest =
    let outer = and_parts (begins_with is_letter x && list_all is_word_byte x && not (bytes_eq x (codes "_"))) (is_none (reserved_of x)) h in
    let inner = and_parts (begins_with is_letter x && list_all is_word_byte x) (not (bytes_eq x (codes "_"))) outer.0 in
    let first = and_parts (begins_with is_letter x) (list_all is_word_byte x) inner.0 in
    let other : bytes_eq x (codes "_") ≡ false = not-true (bytes_eq x (codes "_")) inner.1 in
    here (word_no_blank x r first.0)
    (spells_name (word_written x r first.0 (AllPass-from_list_all is_word_byte x first.1) ends) (is_none-None (reserved_of x) outer.1) (λ e. false≢true (sym other ∙ (bytes_eq-Decides x (codes "_")).1 e)))
    rest

-- digits begin with no blank
digits_no_blank : (ds r : List ℕ) → 0 < length ds → AreDigits ds → begins_with is_blank (ds ++ r) ≡ false
digits_no_blank [] r some are = absurd (omega (arith, some))
digits_no_blank (d ∷ ds) r some are = let range = are 0 some in no_blank d (omega (arith, range.0))

-- what lengthens no word lengthens no number
ends_digits : (r : List ℕ) → Ends r → begins_with is_ascii_digit r ≡ false
ends_digits [] h = refl
ends_digits (x ∷ r) h = (or_parts (is_letter x) (is_ascii_digit x) h).1

-- a literal of an integer
pub int_at : (z : ℤ) → HasLiteral z → {r : List ℕ} {ts : List Token} → Ends r → InLine r ts → InLine (signed_decimal z ++ r) (token.Int z ∷ ts)
int_at (negsuc n) small ends rest = absurd small
int_at (pos n) small {r} ends rest =
    let fits : n < 2 ^ 64 = omega (arith, small) in
    here (digits_no_blank (decimal n) r (decimal_nonempty n fits) (digits_decimal number_model n fits)) (spells_decimal n r small (ends_digits r ends)) rest

-- a literal of a text
pub text_at : (s : List ℕ) {r : List ℕ} {ts : List Token} → InLine r ts → InLine (quoted s ++ r) (token.Text s ∷ ts)
text_at s {r} rest = here refl (spells_quoted s r) rest
