-- The options of a run.
use Rattle.std.specs.Prelude.{◌≡◌, ◌≢◌, ◌<◌, ◌^◌, ℕ, List, Option, Some, None, codes}
use Rattle.std.specs.Str.Parse.{IsNumeral, digits_value, without_leading_plus}

-- a text spells this number of 32 bits, in decimal digits
pub record Spells (text : List ℕ) (n : ℕ) : Type 0 where
  pub numeral : IsNumeral 10 (without_leading_plus text)
  pub small : digits_value 10 (without_leading_plus text) < 2 ^ 32
  pub value : n ≡ digits_value 10 (without_leading_plus text)

-- the number of an option: the one that its text spells; another one where it has no text, or one that spells none
pub data IsNumber (otherwise : ℕ) : Option (List ℕ) → ℕ → Type 0 where
  spelled : {text : List ℕ} {n : ℕ} → Spells text n → IsNumber otherwise (Some text) n
  none_given : IsNumber otherwise None otherwise
  none_spelled : {text : List ℕ} → ((n : ℕ) → ¬ Spells text n) → IsNumber otherwise (Some text) otherwise

-- the file that a word names; `-` is standard input, as is no word
pub data IsFileOf : Option (List ℕ) → Option (List ℕ) → Type 0 where
  no_word : IsFileOf None None
  standard_input : IsFileOf (Some (codes "-")) None
  path : {word : List ℕ} → word ≢ codes "-" → IsFileOf (Some word) (Some word)
