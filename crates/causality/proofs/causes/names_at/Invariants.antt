use Rattle.std.proofs.Common.{◌≡◌, ◌++◌, ◌<◌, length, map}
use Rattle.std.specs.List.{AllByRecursion}
use Rattle.journal.specs.Journals.{items_of}
use Rattle.causality.specs.Selections.{numbers}
use Rattle.causality.specs.Causes.{number_at}
use Rattle.causality.proofs.causes.names_at.Given as goal

-- the names so far, and those of the places that are left
abbrev pub invariant-loop-place : goal.invariant-loop-place
invariant-loop-place l = record {
  named : numbers l.names.items ++ map (number_at (items_of l.journal)) l.place-iterator ≡ map (number_at (items_of l.journal)) l.places.keys;
  within : AllByRecursion (λ p. p < length (items_of l.journal)) l.place-iterator;
}
