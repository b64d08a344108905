-- Each part of a text is read in one way.
use Rattle.std.proofs.Common.{◌≡◌, ◌<◌, ◌≤◌, ◌^◌, pos, ℕ, suc, Bool, true, false, not, cond, List, [], ◌∷◌, ◌++◌, length, append-nil, sym, refl, ap, ◌∙◌, subst, ⊎_elim, arith, Option, Some, None, Result, Ok, Err, eqb, ltb, leb, codes}
use Rattle.std.specs.Prelude.{◌||◌, ◌&&◌}
use Rattle.std.specs.List.{AllPass}
use Rattle.std.specs.Str.{bytes_eq}
use Rattle.std.specs.Int.{is_in_range}
use Rattle.std.specs.Char.{is_ascii_digit, is_ascii_alphabetic}
use Rattle.std.proofs.lemmas.Bool.{cases_Bool, not-true, false_from_ne_true, or_parts, and_parts, not-false, eqb-true, eqb-false, ne_eqb, false≢true, lt-ltb, le-ltb, leb-true, or_cases, cond-true, cond-false}
use Rattle.etoken.specs.declared.token.Token.{Token}
use Rattle.etoken.specs.declared.token.Token.TheVariants as token
use Rattle.etoken.specs.declared.token.Reserved.{Reserved}
use Rattle.etoken.specs.declared.token.Sign.{Sign}
use Rattle.etoken.specs.declared.token.Sign.TheVariants as sign
use Rattle.etoken.specs.declared.fault.TokenFault.{TokenFault}
use Rattle.etoken.specs.declared.fault.TokenFault.TheVariants as fault
use Rattle.etoken.specs.Bytes.{is_letter, is_word_byte, is_plain, is_in_line, is_space, is_blank, begins_with, Longest}
use Rattle.std.proofs.lemmas.Slice.Eq.{bytes_eq-Decides}
use Rattle.etoken.specs.Table.{signs, sign_of, reserved_of, escape_of}
use Rattle.etoken.specs.Spelling.{number, offset_of, Digits, IsWord, LongestSign, Spells, spells_int, spells_text, spells_reserved, spells_underscore, spells_name, spells_sign, Spoils, bad_character, unclosed, bad_escape, too_large, Quoted, quoted_none, quoted_plain, quoted_escape}
use Rattle.etoken.proofs.Runs.{or_true, or_false}
use Rattle.etoken.proofs.Signs.{entry_passes, none_of, not_both}
use Rattle.etoken.specs.Cutting.{Blanks, blanks_none, blanks_space, blanks_line, blanks_comment}

-- the longest front of a list
abbrev pub front : (ℕ → Bool) → List ℕ → List ℕ
front test [] = []
front test (x ∷ a) = cond (test x) (x ∷ front test a) []

-- what is behind it
abbrev pub past : (ℕ → Bool) → List ℕ → List ℕ
past test [] = []
past test (x ∷ a) = cond (test x) (past test a) (x ∷ a)

-- the longest front of a list that is put together
front_of : (test : ℕ → Bool) (w r : List ℕ) → AllPass test w → begins_with test r ≡ false → (front test (w ++ r) ≡ w) × (past test (w ++ r) ≡ r)
front_of test [] [] passes stops = (refl, refl)
front_of test [] (x ∷ r) passes stops = (ap (λ b. cond b (x ∷ front test r) []) stops, ap (λ b. cond b (past test r) (x ∷ r)) stops)
front_of test (x ∷ w) r passes stops =
    let first : test x ≡ true = passes 0 x (omega arith) in
    let more = front_of test w r (λ k d lt. passes (suc k) d (omega (arith, lt))) stops in
    (ap (λ b. cond b (x ∷ front test (w ++ r)) []) first ∙ ap (λ l. x ∷ l) more.0, ap (λ b. cond b (past test (w ++ r)) (x ∷ (w ++ r))) first ∙ more.1)

-- a longest front is the one that is computed
pub longest_is : {test : ℕ → Bool} {a w r : List ℕ} → Longest test a w r → (w ≡ front test a) × (r ≡ past test a)
longest_is {test} {a} {w} {r} run =
    let parts = front_of test w r run.passes run.stops in
    (sym (ap (front test) run.whole ∙ parts.0), sym (ap (past test) run.whole ∙ parts.1))

-- past blanks; within: within a comment; broken: behind a line break
abbrev pub skip : Bool → Bool → List ℕ → Bool × List ℕ
skip within broken [] = (broken, [])
skip true broken (x ∷ a) = cond (is_in_line x) (skip true broken a) (skip false true a)
skip false broken (x ∷ a) = cond (is_space x) (skip false broken a) (cond (eqb x 10) (skip false true a) (cond (eqb x 35) (skip true broken a) (broken, x ∷ a)))

-- a comment ends at a line feed, which is not part of it
at_line : (broken : Bool) (x : ℕ) (d : List ℕ) → is_in_line x ≡ false → skip true broken (x ∷ d) ≡ skip false broken (x ∷ d)
at_line broken x d h =
    let line : x ≡ 10 = eqb-true x 10 (not-false (eqb x 10) h) in
    ap (λ b. cond b (skip true broken d) (skip false true d)) h ∙ sym (ap (λ y. cond (is_space y) (skip false broken d) (cond (eqb y 10) (skip false true d) (cond (eqb y 35) (skip true broken d) (broken, y ∷ d)))) line)

-- past a comment
past_comment : (broken : Bool) (w d : List ℕ) → AllPass is_in_line w → begins_with is_in_line d ≡ false → skip true broken (w ++ d) ≡ skip false broken d
past_comment broken [] [] passes stops = refl
past_comment broken [] (x ∷ d) passes stops = at_line broken x d stops
past_comment broken (x ∷ w) d passes stops =
    let first : is_in_line x ≡ true = passes 0 x (omega arith) in
    ap (λ b. cond b (skip true broken (w ++ d)) (skip false true (w ++ d))) first ∙ past_comment broken w d (λ k e lt. passes (suc k) e (omega (arith, lt))) stops

-- where no blank stands nothing is skipped
not_blank : (broken : Bool) (a : List ℕ) → begins_with is_blank a ≡ false → skip false broken a ≡ (broken, a)
not_blank broken [] h = refl
not_blank broken (x ∷ a) h =
    let outer = or_parts (is_space x || eqb x 10) (eqb x 35) h in
    let inner = or_parts (is_space x) (eqb x 10) outer.0 in
    ap (λ b. cond b (skip false broken a) (cond (eqb x 10) (skip false true a) (cond (eqb x 35) (skip true broken a) (broken, x ∷ a)))) inner.0
    ∙ ap (λ b. cond b (skip false true a) (cond (eqb x 35) (skip true broken a) (broken, x ∷ a))) inner.1
    ∙ ap (λ b. cond b (skip true broken a) (broken, x ∷ a)) outer.1

-- blanks end where they are computed to end
pub blanks_is : {a c : List ℕ} {b : Bool} (broken : Bool) → Blanks a b c → skip false broken a ≡ (broken || b, c)
blanks_is broken (blanks_none {a = a} h) = not_blank broken a h ∙ ap (λ t. (t, a)) (sym (or_false broken))
blanks_is broken (blanks_space {b = x} {a = a} h rest) = ap (λ t. cond t (skip false broken a) (cond (eqb x 10) (skip false true a) (cond (eqb x 35) (skip true broken a) (broken, x ∷ a)))) h ∙ blanks_is broken rest
blanks_is broken (blanks_line {c = c} rest) = blanks_is true rest ∙ ap (λ t. (t, c)) (sym (or_true broken))
blanks_is broken (blanks_comment {w = w} {d = d} line rest) = ap (skip true broken) line.whole ∙ past_comment broken w d line.passes line.stops ∙ blanks_is broken rest

-- what is read behind a `\`: the byte that the escape gives, or the stop before it
abbrev after_escape : Option ℕ → List ℕ → List ℕ × List ℕ → List ℕ × List ℕ
after_escape (Some b) stop rest = (b ∷ rest.0, rest.1)
after_escape None stop rest = ([], stop)

-- the content between quotation marks, and where it stops; slash: behind a `\`
abbrev pub between : Bool → List ℕ → List ℕ × List ℕ
between false [] = ([], [])
between true [] = ([], 92 ∷ [])
between false (x ∷ a) = cond (is_plain x) (x ∷ (between false a).0, (between false a).1) (cond (eqb x 92) (between true a) ([], x ∷ a))
between true (e ∷ a) = after_escape (escape_of e) (92 ∷ e ∷ a) (between false a)

-- a content is the front of the one that is computed
quoted_is : {a c r : List ℕ} → Quoted a c r → between false a ≡ (c ++ (between false r).0, (between false r).1)
quoted_is quoted_none = refl
quoted_is (quoted_plain {b = x} {a = a} h rest) =
    ap (λ t. cond t (x ∷ (between false a).0, (between false a).1) (cond (eqb x 92) (between true a) ([], x ∷ a))) h ∙ ap (λ p. (x ∷ p.0, p.1)) (quoted_is rest)
quoted_is (quoted_escape {e = e} {b = b} {a = a} known rest) = ap (λ o. after_escape o (92 ∷ e ∷ a) (between false a)) known ∙ ap (λ p. (b ∷ p.0, p.1)) (quoted_is rest)

-- the content where it stops
quoted_stops : {a c r : List ℕ} → Quoted a c r → between false r ≡ ([], r) → between false a ≡ (c, r)
quoted_stops {a} {c} {r} quoted stop = quoted_is quoted ∙ ap (λ p. (c ++ p.0, p.1)) stop ∙ ap (λ l. (l, r)) (append-nil c)

abbrev pub Read : Type 0
Read = Result (Token × List ℕ) TokenFault

-- a text whose content is read, from where it stops; a: from its quotation mark on
abbrev text_at : ℕ → List ℕ → List ℕ × List ℕ → Read
text_at n a (c, []) = Err (fault.UnclosedText (offset_of n a))
text_at n a (c, x ∷ r) = cond (eqb x 34) (Ok (token.Text c, r)) (cond (eqb (length r) 0) (Err (fault.UnclosedText (offset_of n a))) (Err (fault.BadEscape (offset_of n (x ∷ r)))))

-- a sign, or else something else
abbrev or_sign : Option Sign → List ℕ → Read → Read
or_sign (Some s) r other = Ok (token.Sign s, r)
or_sign None r other = other

-- a sign of one character, or none
abbrev short_at : ℕ → ℕ → List ℕ → Read
short_at n x r = or_sign (sign_of (x ∷ [])) r (Err (fault.BadCharacter (offset_of n (x ∷ r))))

-- a sign of two characters, or else of one
abbrev sign_at : ℕ → ℕ → List ℕ → Read
sign_at n x [] = short_at n x []
sign_at n x (y ∷ r) = or_sign (sign_of (x ∷ y ∷ [])) r (short_at n x (y ∷ r))

-- a word as a token
abbrev named : Option Reserved → List ℕ → Token
named (Some word) w = token.Word word
named None w = token.Name w

-- a word or `_` as a token
abbrev word_at : List ℕ → Token
word_at w = cond (bytes_eq w (codes "_")) (token.Sign sign.Underscore) (named (reserved_of w) w)

-- an integer, or its fault
abbrev int_at : ℕ → List ℕ → List ℕ → List ℕ → Read
int_at n a ds r = cond (ltb (number ds) (2 ^ 63)) (Ok (token.Int (pos (number ds)), r)) (Err (fault.IntegerTooLarge (offset_of n a)))

-- the token in front of the bytes a, the last of a text of n bytes, and what is behind it, or its fault
abbrev pub front_at : ℕ → List ℕ → Read
front_at n [] = Err (fault.BadCharacter n)
front_at n (x ∷ a) =
    cond (is_ascii_digit x) (int_at n (x ∷ a) (front is_ascii_digit (x ∷ a)) (past is_ascii_digit (x ∷ a)))
    (cond (is_letter x) (Ok (word_at (front is_word_byte (x ∷ a)), past is_word_byte (x ∷ a)))
    (cond (eqb x 34) (text_at n (x ∷ a) (between false a)) (sign_at n x a)))

-- with a digit an integer begins
at_digit : (n : ℕ) (a : List ℕ) → begins_with is_ascii_digit a ≡ true → front_at n a ≡ int_at n a (front is_ascii_digit a) (past is_ascii_digit a)
at_digit n [] h = absurd (false≢true h)
at_digit n (x ∷ a) h = cond-true (is_ascii_digit x) _ _ h

-- no digit is a letter
letter_no_digit : (x : ℕ) → is_letter x ≡ true → is_ascii_digit x ≡ false
letter_no_digit x h = ⊎_elim
    (λ (d : is_ascii_digit x ≡ true).
    let low = leb-true 48 x (and_parts (leb 48 x) (leb x 57) d).0 in
    let high = leb-true x 57 (and_parts (leb 48 x) (leb x 57) d).1 in
    absurd (⊎_elim
    (λ (l : is_ascii_alphabetic x ≡ true). ⊎_elim
    (λ (u : is_in_range 65 90 x ≡ true). let above = leb-true 65 x (and_parts (leb 65 x) (leb x 90) u).0 in omega (arith, above, high))
    (λ (u : is_in_range 97 122 x ≡ true). let above = leb-true 97 x (and_parts (leb 97 x) (leb x 122) u).0 in omega (arith, above, high))
    (or_cases (is_in_range 65 90 x) (is_in_range 97 122 x) l))
    (λ (l : eqb x 95 ≡ true). omega (arith, eqb-true x 95 l, high))
    (or_cases (is_ascii_alphabetic x) (eqb x 95) h)))
    (λ (d : is_ascii_digit x ≡ false). d)
    (cases_Bool (is_ascii_digit x))

-- with a letter a word begins
at_letter : (n : ℕ) (a : List ℕ) → begins_with is_letter a ≡ true → front_at n a ≡ Ok (word_at (front is_word_byte a), past is_word_byte a)
at_letter n [] h = absurd (false≢true h)
at_letter n (x ∷ a) h = cond-false (is_ascii_digit x) _ _ (letter_no_digit x h) ∙ cond-true (is_letter x) _ _ h

-- with any other byte a sign begins
at_other : (n x : ℕ) (a : List ℕ) → is_word_byte x ≡ false → (x ≡ 34 → ⊥) → front_at n (x ∷ a) ≡ sign_at n x a
at_other n x a h other =
    let parts = or_parts (is_letter x) (is_ascii_digit x) h in
    cond-false (is_ascii_digit x) _ _ parts.1 ∙ cond-false (is_letter x) _ _ parts.0 ∙ cond-false (eqb x 34) _ _ (ne_eqb x 34 other)

-- digits begin with a digit
digits_begin : {a ds r : List ℕ} → Digits a ds r → begins_with is_ascii_digit a ≡ true
digits_begin {a} {ds} {r} digits = begin ds digits.some digits.longest.passes digits.longest.whole
  where
    begin : (ds : List ℕ) → 0 < length ds → AllPass is_ascii_digit ds → a ≡ ds ++ r → begins_with is_ascii_digit a ≡ true
    begin [] some passes e = absurd (omega (arith, some))
    begin (d ∷ ds) some passes e = ap (begins_with is_ascii_digit) e ∙ passes 0 d (omega arith)

-- an integer is read as its digits say
int_is : (n : ℕ) {a ds r : List ℕ} → Digits a ds r → front_at n a ≡ int_at n a ds r
int_is n {a} digits = let parts = longest_is digits.longest in at_digit n a (digits_begin digits) ∙ sym (λ i. int_at n a (parts.0 i) (parts.1 i))

-- a word is read as it stands
word_is : (n : ℕ) {a w r : List ℕ} → IsWord a w r → front_at n a ≡ Ok (word_at w, r)
word_is n {a} {w} {r} word =
    let parts = longest_is word.longest in
    let whole : front_at n a ≡ Ok (word_at (front is_word_byte a), past is_word_byte a) = at_letter n a word.letter in
    let same : Ok (word_at w, r) ≡ Ok (word_at (front is_word_byte a), past is_word_byte a) = λ i. Ok (word_at (parts.0 i), parts.1 i) in
    whole ∙ sym same

-- a word is read as the token that it is
word_token : (n : ℕ) {a w r : List ℕ} (t : Token) → IsWord a w r → word_at w ≡ t → front_at n a ≡ Ok (t, r)
word_token n {r = r} t word e = word_is n word ∙ ap (λ u. Ok (u, r)) e

-- a word that is no `_` is named by its table
no_underscore : (w : List ℕ) → (w ≡ codes "_" → ⊥) → bytes_eq w (codes "_") ≡ false
no_underscore w other = false_from_ne_true (bytes_eq w (codes "_")) (λ h. other ((bytes_eq-Decides w (codes "_")).0 h))

-- a spelling of one or two characters, of which the first begins no word and no text
abbrev is_sign : List ℕ → Bool
is_sign [] = false
is_sign (x ∷ []) = not (is_word_byte x) && not (eqb x 34)
is_sign (x ∷ y ∷ []) = not (is_word_byte x) && not (eqb x 34)
is_sign (x ∷ y ∷ z ∷ w) = false

-- no sign begins as a word or a text does
sign_like : (w : List ℕ) (s : Sign) → sign_of w ≡ Some s → is_sign w ≡ true
sign_like w s e = entry_passes is_sign signs w s refl e

-- a sign is read as a sign
at_sign : (n x : ℕ) (a : List ℕ) → (not (is_word_byte x) && not (eqb x 34)) ≡ true → front_at n (x ∷ a) ≡ sign_at n x a
at_sign n x a h =
    let parts = and_parts (not (is_word_byte x)) (not (eqb x 34)) h in
    at_other n x a (not-true (is_word_byte x) parts.0) (eqb-false x 34 (not-true (eqb x 34) parts.1))

-- where no sign of two characters stands, one of one does
short_is : (n x : ℕ) (r : List ℕ) (s : Sign) → sign_of (x ∷ []) ≡ Some s → ((y : ℕ) (q : List ℕ) → r ≡ y ∷ q → sign_of (x ∷ y ∷ []) ≡ None) → sign_at n x r ≡ Ok (token.Sign s, r)
short_is n x [] s known none = ap (λ o. or_sign o [] (Err (fault.BadCharacter (offset_of n (x ∷ []))))) known
short_is n x (y ∷ r) s known none =
    ap (λ o. or_sign o r (short_at n x (y ∷ r))) (none y r refl) ∙ ap (λ o. or_sign o (y ∷ r) (Err (fault.BadCharacter (offset_of n (x ∷ y ∷ r))))) known

-- the longest sign is read
sign_is : (n : ℕ) {a r : List ℕ} {s : Sign} → LongestSign a s r → front_at n a ≡ Ok (token.Sign s, r)
sign_is n {a} {r} {s} found = of found.spelling found.listed found.whole found.longest (sign_like found.spelling s found.listed)
  where
    of : (w : List ℕ) → sign_of w ≡ Some s → a ≡ w ++ r → ((v q : List ℕ) (u : Sign) → sign_of v ≡ Some u → a ≡ v ++ q → length v ≤ length w) → is_sign w ≡ true → front_at n a ≡ Ok (token.Sign s, r)
    of [] known whole longest h = absurd (false≢true h)
    of (x ∷ []) known whole longest h =
        ap (front_at n) whole ∙ at_sign n x r h
        ∙ short_is n x r s known (λ y q e. none_of (sign_of (x ∷ y ∷ [])) (λ u is. let long = longest (x ∷ y ∷ []) q u is (whole ∙ ap (λ l. x ∷ l) e) in omega (arith, long)))
    of (x ∷ y ∷ []) known whole longest h = ap (front_at n) whole ∙ at_sign n x (y ∷ r) h ∙ ap (λ o. or_sign o r (short_at n x (y ∷ r))) known
    of (x ∷ y ∷ z ∷ w) known whole longest h = absurd (false≢true h)

-- without a sign there is a fault
no_sign_is : (n x : ℕ) (a : List ℕ) → ((w q : List ℕ) (u : Sign) → sign_of w ≡ Some u → x ∷ a ≡ w ++ q → ⊥) → sign_at n x a ≡ Err (fault.BadCharacter (offset_of n (x ∷ a)))
no_sign_is n x [] none = ap (λ o. or_sign o [] (Err (fault.BadCharacter (offset_of n (x ∷ []))))) (none_of (sign_of (x ∷ [])) (λ u is. none (x ∷ []) [] u is refl))
no_sign_is n x (y ∷ r) none =
    ap (λ o. or_sign o r (short_at n x (y ∷ r))) (none_of (sign_of (x ∷ y ∷ [])) (λ u is. none (x ∷ y ∷ []) r u is refl))
    ∙ ap (λ o. or_sign o (y ∷ r) (Err (fault.BadCharacter (offset_of n (x ∷ y ∷ r))))) (none_of (sign_of (x ∷ [])) (λ u is. none (x ∷ []) (y ∷ r) u is refl))

-- a text begins with the one token that it is read as
pub spells_is : (n : ℕ) {a r : List ℕ} {t : Token} → Spells a t r → front_at n a ≡ Ok (t, r)
spells_is n (spells_int {a = a} {ds = ds} {r = r} digits small) =
    int_is n digits ∙ ap (λ b. cond b (Ok (token.Int (pos (number ds)), r)) (Err (fault.IntegerTooLarge (offset_of n a)))) (lt-ltb (number ds) (2 ^ 63) small)
spells_is n (spells_text {a = a} {c = c} {r = r} quoted) = ap (text_at n (34 ∷ a)) (quoted_stops quoted refl)
spells_is n (spells_reserved {w = w} {word = word} is known) =
    word_token n (token.Word word) is (cond-false (bytes_eq w (codes "_")) _ _ (no_underscore w (λ e. not_both refl (sym (ap reserved_of e) ∙ known))) ∙ ap (λ o. named o w) known)
spells_is n (spells_underscore is) = word_token n (token.Sign sign.Underscore) is refl
spells_is n (spells_name {w = w} is free other) = word_token n (token.Name w) is (cond-false (bytes_eq w (codes "_")) _ _ (no_underscore w other) ∙ ap (λ o. named o w) free)
spells_is n (spells_sign found) = sign_is n found

-- or has the one fault that it is read as
pub spoils_is : {n : ℕ} {a : List ℕ} {f : TokenFault} → Spoils n a f → front_at n a ≡ Err f
spoils_is (bad_character {n = n} {b = b} {a = a} nothing none) = at_other n b a nothing.0 nothing.1 ∙ no_sign_is n b a none
spoils_is (unclosed {n = n} {a = a} {c = c} {r = r} quoted stop) = ⊎_elim
    (λ (e : r ≡ []). let q = subst (Quoted a c) e quoted in ap (text_at n (34 ∷ a)) (quoted_stops q refl))
    (λ (e : r ≡ 92 ∷ []). let q = subst (Quoted a c) e quoted in ap (text_at n (34 ∷ a)) (quoted_stops q refl))
    stop
spoils_is (bad_escape {n = n} {e = e} {a = a} {c = c} {r = r} quoted unknown) =
    ap (text_at n (34 ∷ a)) (quoted_stops quoted (ap (λ o. after_escape o (92 ∷ e ∷ r) (between false r)) unknown))
    ∙ cond-false (eqb (length (e ∷ r)) 0) (Err (fault.UnclosedText (offset_of n (34 ∷ a)))) (Err (fault.BadEscape (offset_of n (92 ∷ e ∷ r)))) (ne_eqb (length (e ∷ r)) 0 (λ z. omega (arith, z)))
spoils_is (too_large {n = n} {a = a} {ds = ds} {r = r} digits large) =
    int_is n digits ∙ ap (λ b. cond b (Ok (token.Int (pos (number ds)), r)) (Err (fault.IntegerTooLarge (offset_of n a)))) (le-ltb (number ds) (2 ^ 63) large)
