use Rattle.std.proofs.Common.{◌≡◌, ◌++◌}
use Rattle.causality.proofs.selection.in_order.Given as goal

-- the places so far and those that are left
abbrev pub invariant-loop-place : goal.invariant-loop-place
invariant-loop-place l = l.all.items ++ l.place-iterator ≡ l.places.keys
