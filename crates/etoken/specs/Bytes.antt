-- Kinds of bytes, and runs of one kind.
use Rattle.std.specs.Prelude.{◌≡◌, ℕ, Bool, false, not, List, [], ◌∷◌, ◌++◌, ◌==◌, ◌||◌, ◌&&◌, nat_lt}
use Rattle.std.specs.List.{AllPass}
use Rattle.std.specs.Char.{is_ascii_digit, is_ascii_alphabetic}

-- a letter or `_`: a word begins with it
abbrev pub is_letter : ℕ → Bool
is_letter b = is_ascii_alphabetic b || (b == 95)

-- a letter, `_` or a digit: a word goes on with it
abbrev pub is_word_byte : ℕ → Bool
is_word_byte b = is_letter b || is_ascii_digit b

-- a byte that stands for itself between quotation marks: not `"`, not `\`
abbrev pub is_plain : ℕ → Bool
is_plain b = not (b == 34) && not (b == 92)

-- any byte but a line feed
abbrev pub is_in_line : ℕ → Bool
is_in_line b = not (b == 10)

-- space, tab or carriage return
abbrev pub is_space : ℕ → Bool
is_space b = (b == 32) || (b == 9) || (b == 13)

-- a byte that stands between tokens, or begins a comment there
abbrev pub is_blank : ℕ → Bool
is_blank b = is_space b || (b == 10) || (b == 35)

-- the first byte passes
abbrev pub begins_with : (ℕ → Bool) → List ℕ → Bool
begins_with test [] = false
begins_with test (b ∷ a) = test b

-- w is the longest front of a whose bytes all pass, and r is behind it
pub record Longest (test : ℕ → Bool) (a w r : List ℕ) : Type 0 where
  pub whole : a ≡ w ++ r
  pub passes : AllPass test w
  pub stops : begins_with test r ≡ false

-- a byte that is a character by itself
abbrev pub is_ascii_byte : ℕ → Bool
is_ascii_byte b = nat_lt b 128
