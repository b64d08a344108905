use Rattle.std.proofs.Common.{◌≡◌, ℕ, length}
use Rattle.std.specs.Option.{option_or}
use Rattle.std.specs.HashMap.{get}
use Rattle.kernele.specs.Tree.{Name}
use Rattle.code.specs.View.{methods_of_codes}
use Rattle.code.specs.Index.{position_in, same_key, key_of}
use Rattle.code.proofs.index.index_all.Given as goal

-- the first of the methods that are left, or else what the index has, is the first of all
abbrev pub invariant-loop-method : goal.invariant-loop-method
invariant-loop-method l =
    (verb : Name) (count : ℕ) → option_or (position_in (methods_of_codes l.rest) verb count) (get same_key l.positions (key_of verb count)) ≡ position_in (methods_of_codes l.fn.methods) verb count

abbrev pub decreases-loop-method : goal.decreases-loop-method
decreases-loop-method l = length l.rest
