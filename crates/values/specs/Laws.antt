-- Laws of sameness, and of the verbs of data.
use Rattle.std.specs.Prelude.{◌≡◌, ℕ, List, Some, None, true}
use Rattle.values.specs.Data.{Val, broken, Vals, throws}
use Rattle.values.specs.Same.{same_as}
use Rattle.values.specs.Replies.{Table, no_method, data_reply}
use Rattle.values.specs.Verbs.{text_of, word_of}
use Rattle.values.specs.declared.verb.Word.{Word}
use Rattle.values.specs.declared.limits.TheConstants.{MOST_WEIGHT, MOST_DEPTH}

-- each value is the same as itself
abbrev pub SameAsItself : Type 0
SameAsItself = (v : Val) → same_as v v ≡ true

-- both ways alike
abbrev pub SameBothWays : Type 0
SameBothWays = (v w : Val) → same_as v w ≡ same_as w v

-- two that are the same as a third are the same
abbrev pub SameAsAThird : Type 0
SameAsAThird = (u v w : Val) → same_as u v ≡ true → same_as v w ≡ true → same_as u w ≡ true

-- values that are the same are equal
abbrev pub SameIsEqual : Type 0
SameIsEqual = (v w : Val) → same_as v w ≡ true → v ≡ w

-- each verb of data is found by its text
abbrev pub EachVerbIsFound : Type 0
EachVerbIsFound = (w : Word) → word_of (text_of w) ≡ Some w

-- what is found for a text is spelled so
abbrev pub OnlyItsTextSpells : Type 0
OnlyItsTextSpells = (s : List ℕ) (w : Word) → word_of s ≡ Some w → s ≡ text_of w

-- a verb that the receiver does not have, whatever it is; a broken one throws its own problem
abbrev pub lacking : Val → Table
lacking (broken problem) = λ verb vs. throws problem
lacking _ = no_method

-- another text is a verb in no table
abbrev pub NoOtherVerbs : Type 0
NoOtherVerbs = (v : Val) (s : List ℕ) (vs : Vals) → word_of s ≡ None → data_reply v s vs ≡ lacking v s vs

-- the limits of values, as numbers
abbrev pub LimitsAreNumbers : Type 0
LimitsAreNumbers = (MOST_WEIGHT ≡ 65536) × (MOST_DEPTH ≡ 64)
