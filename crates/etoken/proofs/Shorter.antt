-- Reading uses bytes up.
use Rattle.std.proofs.Common.{◌≡◌, sym, ap, ◌∙◌, ℕ, ◌<◌, ◌≤◌, ◌+◌, Bool, true, List, [], ◌∷◌, ◌++◌, length, length-append, arith}
use Rattle.std.proofs.lemmas.Bool.{false≢true, or_left}
use Rattle.std.specs.Char.{is_ascii_digit}
use Rattle.etoken.specs.declared.token.Token.{Token}
use Rattle.etoken.specs.Bytes.{is_letter, is_word_byte, begins_with, Longest}
use Rattle.etoken.specs.Spelling.{IsWord, Quoted, quoted_none, quoted_plain, quoted_escape, Spells, spells_int, spells_text, spells_reserved, spells_underscore, spells_name, spells_sign}
use Rattle.etoken.specs.Cutting.{Blanks, blanks_none, blanks_space, blanks_line, blanks_comment}
use Rattle.etoken.proofs.Signs.{sign_some}

-- a front and what is behind it are the whole
longest_le : {test : ℕ → Bool} {a w r : List ℕ} → Longest test a w r → length w + length r ≡ length a
longest_le {w = w} {r = r} run = sym (ap length run.whole ∙ length-append w r)

-- behind blanks there is no more
pub blanks_le : {a c : List ℕ} {broken : Bool} → Blanks a broken c → length c ≤ length a
blanks_le (blanks_none h) = omega arith
blanks_le (blanks_space h rest) = omega (arith, blanks_le rest)
blanks_le (blanks_line rest) = omega (arith, blanks_le rest)
blanks_le (blanks_comment line rest) = omega (arith, blanks_le rest, longest_le line)

-- behind a content there is no more
quoted_le : {a c r : List ℕ} → Quoted a c r → length r ≤ length a
quoted_le quoted_none = omega arith
quoted_le (quoted_plain h rest) = omega (arith, quoted_le rest)
quoted_le (quoted_escape h rest) = omega (arith, quoted_le rest)

-- a word has a letter
pub word_some : {a w r : List ℕ} → IsWord a w r → 0 < length w
word_some {a} {w} {r} word = some w word.longest.whole
  where
    letter : (a : List ℕ) → begins_with is_letter a ≡ true → begins_with is_word_byte a ≡ true
    letter [] h = absurd (false≢true h)
    letter (x ∷ a) h = or_left (is_letter x) (is_ascii_digit x) h

    some : (w : List ℕ) → a ≡ w ++ r → 0 < length w
    some [] e = absurd (false≢true (sym word.longest.stops ∙ sym (ap (begins_with is_word_byte) e) ∙ letter a word.letter))
    some (x ∷ w) e = omega arith

-- behind a word there is less
word_less : {a w r : List ℕ} → IsWord a w r → length r < length a
word_less word = omega (arith, longest_le word.longest, word_some word)

-- behind a token there is less
pub spells_less : {a r : List ℕ} {t : Token} → Spells a t r → length r < length a
spells_less (spells_int digits small) = omega (arith, longest_le digits.longest, digits.some)
spells_less (spells_text quoted) = omega (arith, quoted_le quoted)
spells_less (spells_reserved word known) = word_less word
spells_less (spells_underscore word) = word_less word
spells_less (spells_name word free other) = word_less word
spells_less {r = r} (spells_sign {s = s} sign) = omega (arith, ap length sign.whole, length-append sign.spelling r, sign_some sign.spelling s sign.listed)
