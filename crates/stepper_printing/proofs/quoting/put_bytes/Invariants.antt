use Rattle.std.proofs.Common.{length}
use Rattle.std.specs.List.{flat_map}
use Rattle.ids.specs.Quoted.{quoted_byte}
use Rattle.stepper_streams.proofs.Giving.{LeadsTo}
use Rattle.stepper_printing.proofs.quoting.put_bytes.Given as goal

-- what may be put of the rest leads to all
abbrev pub invariant-runs : goal.invariant-runs
invariant-runs g l = LeadsTo g.W.Write.contents l.fn.out l.out (flat_map quoted_byte l.rest) (flat_map quoted_byte l.fn.bytes)

abbrev pub decreases-runs : goal.decreases-runs
decreases-runs g l = length l.rest
