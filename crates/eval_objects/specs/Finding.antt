-- How a method is found by how many arguments there are, and a name at hand.
use Rattle.std.specs.Prelude.{◌≡◌, ℕ, Option, Some, List, length}
use Rattle.kernele.specs.Tree.{Name}
use Rattle.code.specs.declared.code.MethodCode.{MethodCode}
use Rattle.values.specs.declared.value.Value.{Value}
use Rattle.heap.specs.State.{Bind}
use Rattle.eval_rules.specs.At.{At}
use Rattle.eval_rules.specs.Fits.{FindsMethod}
use Rattle.eval_rules.specs.Rules.{sought, seeking}

-- among methods this is found for a verb and whatever arguments there are so many of
abbrev pub FindsForCount : List MethodCode → Name → ℕ → Option MethodCode → Type 0
FindsForCount ms verb count found = (vs : List Value) → length vs ≡ count → FindsMethod ms verb vs found

-- a name stands for this, and to seek it touches no cell that was not touched before
abbrev pub StandsAtHand : Name → Bind → At → Type 0
StandsAtHand x b a = (sought x a ≡ Some b) × (seeking x a ≡ a)
