use Rattle.std.proofs.Common.{◌+◌, drop}
use Rattle.stepper_streams.proofs.Giving.{LeadsTo}
use Rattle.stepper_printing.specs.Show.{name_of}
use Rattle.stepper_printing.specs.ListingView.{rows_text}
use Rattle.stepper_printing.proofs.listing.put_rows.Given as goal

-- what may be put of those that are left leads to all
abbrev pub invariant-loop-place : goal.invariant-loop-place
invariant-loop-place g l = LeadsTo g.W.Write.contents l.fn.out l.out (rows_text (name_of l.vats.entries) (l.first + l.place) (drop l.place l.rows)) (rows_text (name_of l.vats.entries) l.first l.rows)
