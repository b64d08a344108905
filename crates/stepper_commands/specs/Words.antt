-- How a line is cut into words: they stand between spaces and tabs.
use Rattle.std.specs.Prelude.{ℕ, List, [], ◌∷◌, drop, length, filter, slice_index, Bool, true, not, ◌==◌, ◌||◌, ◌-◌}
use Rattle.std.specs.List.{position_or_len, before_first, slice_split}

abbrev pub is_blank : ℕ → Bool
is_blank b = b == 32 || b == 9

-- no blank stands in front
abbrev pub is_bare : List ℕ → Bool
is_bare [] = true
is_bare (b ∷ bs) = not (is_blank b)

-- what begins with the first character that is no blank
abbrev pub without_blanks : List ℕ → List ℕ
without_blanks line = drop (position_or_len (λ b. not (is_blank b)) line) line

-- the word that a text without blanks in front begins with
abbrev pub first_word : List ℕ → List ℕ
first_word text = before_first is_blank text

-- what stands behind that word and the blanks after it
abbrev pub behind_word : List ℕ → List ℕ
behind_word text = without_blanks (drop (position_or_len is_blank text) text)

abbrev pub is_word : List ℕ → Bool
is_word w = not (length w == 0)

-- all words of a text
abbrev pub words_in : List ℕ → List (List ℕ)
words_in text = filter is_word (slice_split is_blank text)

-- the last byte is a blank
abbrev pub ends_blank : List ℕ → Bool
ends_blank text = is_blank (slice_index text (length text - 1))
