use Rattle.std.proofs.Common.{drop}
use Rattle.stepper_streams.proofs.Giving.{LeadsTo}
use Rattle.stepper_printing.specs.Listing.{names_text}
use Rattle.stepper_printing.proofs.listing.put_names.Given as goal

-- what may be put of those that are left leads to all
abbrev pub invariant-loop-name : goal.invariant-loop-name
invariant-loop-name g l = LeadsTo g.W.Write.contents l.fn.out l.out (names_text (drop l.name-index l.names)) (names_text l.names)
