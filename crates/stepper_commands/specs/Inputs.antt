-- Lines and words as texts: an input is its lines one after another, each with what ends it; a line is its words, with blanks before,
-- between and behind them.
use Rattle.std.specs.Prelude.{◌≡◌, ◌≢◌, ◌↔◌, ℕ, ◌<◌, List, [], ◌∷◌, ◌++◌, map, length, true, false, All}
use Rattle.stepper_commands.specs.Lines.{line_of}
use Rattle.stepper_commands.specs.Scripts.{starts, behind_lines}
use Rattle.stepper_commands.specs.Words.{is_blank, words_in}

-- no line feed is among these bytes
abbrev pub HasNoLineFeed : List ℕ → Type 0
HasNoLineFeed line = All (λ b. b ≢ 10) line

-- a carriage return stands at their end
abbrev pub EndsReturned : List ℕ → Type 0
EndsReturned line = (head : List ℕ) × (line ≡ head ++ 13 ∷ [])

-- an input begins with a line, and has the rest behind it
pub data BeginsWithLine (input line rest : List ℕ) : Type 0 where
  -- a line feed ends the line
  fed : HasNoLineFeed line → ¬ EndsReturned line → input ≡ line ++ 10 ∷ rest → BeginsWithLine input line rest
  -- a carriage return and a line feed end it; neither is a part of it
  returned : HasNoLineFeed line → input ≡ line ++ 13 ∷ 10 ∷ rest → BeginsWithLine input line rest
  -- the input ends it, and a carriage return at its end is a part of it
  unended : HasNoLineFeed line → input ≡ line → rest ≡ [] → BeginsWithLine input line rest

-- an input is these lines, one after another; an empty input has none
pub data HasLines : List ℕ → List (List ℕ) → Type 0 where
  no_line : HasLines [] []
  one_more : {input line rest : List ℕ} {lines : List (List ℕ)}
      → 0 < length input → BeginsWithLine input line rest → HasLines rest lines → HasLines input (line ∷ lines)

-- each input is lines, one after another: so many are cut off it, and nothing is left behind the last
abbrev pub InputsAreLines : Type 0
InputsAreLines = (input : List ℕ) → (n : ℕ) × HasLines input (map line_of (starts n input)) × (behind_lines n input ≡ [])

-- no input is lines in two ways
abbrev pub LinesAreTold : Type 0
LinesAreTold = (input : List ℕ) (lines others : List (List ℕ)) → HasLines input lines → HasLines input others → lines ≡ others

-- a word has a byte at least, and no blank
abbrev pub IsWord : List ℕ → Type 0
IsWord word = (0 < length word) × All (λ b. is_blank b ≡ false) word

-- a text has these words, from the left
pub data HasWords : List ℕ → List (List ℕ) → Type 0 where
  no_word : HasWords [] []
  -- a blank in front is no part of a word
  behind_blank : {b : ℕ} {text : List ℕ} {words : List (List ℕ)} → is_blank b ≡ true → HasWords text words → HasWords (b ∷ text) words
  -- a word ends before a blank, or where the text ends
  before_blank : {word : List ℕ} {words : List (List ℕ)} (b : ℕ) (text : List ℕ)
      → IsWord word → is_blank b ≡ true → HasWords text words → HasWords (word ++ b ∷ text) (word ∷ words)
  last_word : {word : List ℕ} → IsWord word → HasWords word (word ∷ [])

-- the words that are cut off a text one after another are its words, and no others
abbrev pub WordsAreTold : Type 0
WordsAreTold = (text : List ℕ) (words : List (List ℕ)) → HasWords text words ↔ (words ≡ words_in text)
