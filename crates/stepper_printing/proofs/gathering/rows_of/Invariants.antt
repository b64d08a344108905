use Rattle.std.proofs.Common.{◌≡◌, ◌++◌, drop, map}
use Rattle.journal.specs.Items.{item_of}
use Rattle.journal.specs.Journals.{items_of}
use Rattle.journal.specs.Lines.{line_of}
use Rattle.stepper_printing.specs.ListingView.{row_line}
use Rattle.stepper_printing.proofs.gathering.rows_of.Given as goal

-- the lines so far, and those of the entries that are left
abbrev pub invariant-loop-place : goal.invariant-loop-place
invariant-loop-place l =
    map row_line l.rows.items ++ map (line_of (items_of l.journal)) (map item_of (drop l.place l.journal.entries.now)) ≡ map (line_of (items_of l.journal)) (map item_of l.journal.entries.now)
