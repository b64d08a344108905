use Rattle.std.proofs.Common.{◌≡◌, ◌++◌, drop, map}
use Rattle.ids.specs.declared.names.VatNo.{VatNo}
use Rattle.journal.specs.Items.{item_of}
use Rattle.journal.specs.Journals.{items_of, settled_item}
use Rattle.journal.specs.Lines.{line_of, lines_of}
use Rattle.stepper_printing.specs.Listing.{born_among, born}
use Rattle.stepper_printing.specs.Show.{name_of}
use Rattle.stepper_printing.proofs.gathering.vats_born.Given as goal

-- the names so far, and the settled entries that are left
abbrev pub invariant-loop-settled : goal.invariant-loop-settled
invariant-loop-settled l = (v : VatNo) →
    born_among (map (line_of (items_of l.journal)) (map settled_item (drop l.settled-index l.journal.settled.now) ++ map item_of l.journal.entries.now)) v (name_of l.vats.entries v) ≡ born (lines_of (items_of l.journal)) v

-- and the others that are left
abbrev pub invariant-loop-entry : goal.invariant-loop-entry
invariant-loop-entry l = (v : VatNo) →
    born_among (map (line_of (items_of l.journal)) (map item_of (drop l.entry-index l.journal.entries.now))) v (name_of l.vats.entries v) ≡ born (lines_of (items_of l.journal)) v
