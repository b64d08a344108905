use Rattle.std.proofs.Common.{◌≡◌, filter, drop}
use Rattle.std.specs.Prelude.{not}
use Rattle.journal.specs.Journals.{items_of}
use Rattle.journal.specs.Lines.{lines_of}
use Rattle.causality.specs.Selections.{is_entered, least}
use Rattle.causality.proofs.Least.{least_with}
use Rattle.causality.proofs.selection.least_missing.Given as goal

-- the least so far and the least of those that are left
abbrev pub invariant-loop-name : goal.invariant-loop-name
invariant-loop-name l =
    least_with l.missing (least (filter (λ e. not (is_entered (lines_of (items_of l.journal)) e)) (drop l.name-index l.given)))
    ≡ least (filter (λ e. not (is_entered (lines_of (items_of l.journal)) e)) l.given)
