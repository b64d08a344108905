use Rattle.std.proofs.Common.{◌≡◌, drop}
use Rattle.history.specs.Subject.{found}
use Rattle.journal.specs.Items.{lasts_of}
use Rattle.journal.specs.Lines.{plain}
use Rattle.journal.proofs.entry.writer_among.Given as goal

-- what is found further on is what is found
abbrev pub invariant-loop-cell : goal.invariant-loop-cell
invariant-loop-cell l = found plain (lasts_of (drop l.cell-index l.touched)) l.key ≡ found plain (lasts_of l.touched) l.key
