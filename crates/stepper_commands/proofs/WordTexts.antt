-- The words that are cut off a text are its words, and no others.
use Rattle.std.proofs.Common.{◌≡◌, ℕ, ◌<◌, List, [], ◌∷◌, length, filter, Bool, true, false, cond, refl, sym, ap, subst, ◌∙◌, arith}
use Rattle.std.specs.List.{slice_split, onto_first}
use Rattle.std.proofs.lemmas.List.Elements.{All-cons, All-nil}
use Rattle.std.proofs.lemmas.List.Splits.{slice_split_at, slice_split_none}
use Rattle.stepper_commands.specs.Words.{is_blank, is_word, words_in}
use Rattle.stepper_commands.specs.Inputs.{IsWord, HasWords, no_word, behind_blank, before_blank, last_word, WordsAreTold}

-- it has a byte
has_byte : (word : List ℕ) → 0 < length word → is_word word ≡ true
has_byte word h = grind arith

no_blank : (b : ℕ) → is_blank b ≡ true → (text : List ℕ) → words_in (b ∷ text) ≡ words_in text
no_blank b h text = ap (λ t. filter is_word (cond t ([] ∷ slice_split is_blank text) (onto_first b (slice_split is_blank text)))) h

kept : (word : List ℕ) (parts : List (List ℕ)) → is_word word ≡ true → filter is_word (word ∷ parts) ≡ word ∷ filter is_word parts
kept word parts h = ap (λ t. cond t (word ∷ filter is_word parts) (filter is_word parts)) h

-- its words are those that are cut off
told : (text : List ℕ) (words : List (List ℕ)) → HasWords text words → words ≡ words_in text
told text words no_word = refl
told text words (behind_blank {b = b} {text = rest} {words = next} h later) = told rest next later ∙ sym (no_blank b h rest)
told text words (before_blank {word = word} {words = next} b rest is h later) =
    ap (λ ws. word ∷ ws) (told rest next later)
    ∙ sym (ap (filter is_word) (slice_split_at is_blank word b rest is.1 h) ∙ kept word (slice_split is_blank rest) (has_byte word is.0))
told text words (last_word {word = word} is) = sym (ap (filter is_word) (slice_split_none is_blank word is.1) ∙ kept word [] (has_byte word is.0))

abbrev IsNoBlank : ℕ → Type 0
IsNoBlank b = is_blank b ≡ false

-- a byte that is no blank begins a word, or is a word's first
one : (b : ℕ) → is_blank b ≡ false → IsWord (b ∷ [])
one b h = (omega arith, All-cons IsNoBlank b [] h (All-nil IsNoBlank))

longer : (b : ℕ) (word : List ℕ) → is_blank b ≡ false → IsWord word → IsWord (b ∷ word)
longer b word h is = (omega arith, All-cons IsNoBlank b word h is.1)

in_front : (b : ℕ) (text : List ℕ) (words : List (List ℕ)) → is_blank b ≡ false → HasWords text words → (more : List (List ℕ)) × HasWords (b ∷ text) more
in_front b text words h no_word = ((b ∷ []) ∷ [], last_word (one b h))
in_front b text words h (behind_blank {b = c} {text = rest} {words = next} g later) = ((b ∷ []) ∷ next, before_blank c rest (one b h) g later)
in_front b text words h (before_blank {word = word} {words = next} c rest is g later) = ((b ∷ word) ∷ next, before_blank c rest (longer b word h is) g later)
in_front b text words h (last_word {word = word} is) = ((b ∷ word) ∷ [], last_word (longer b word h is))

by_first : (b : ℕ) (text : List ℕ) (blank : Bool) → is_blank b ≡ blank → (words : List (List ℕ)) → HasWords text words → (more : List (List ℕ)) × HasWords (b ∷ text) more
by_first b text true h words has = (words, behind_blank h has)
by_first b text false h words has = in_front b text words h has

-- each text has words
words_of : (text : List ℕ) → (words : List (List ℕ)) × HasWords text words
words_of [] = ([], no_word)
words_of (b ∷ text) = let rest = words_of text in by_first b text (is_blank b) refl rest.0 rest.1

pub words_are_told : WordsAreTold
words_are_told text words =
    (told text words, λ e. let has = words_of text in subst (HasWords text) (told text has.0 has.1 ∙ sym e) has.1)
