use Rattle.std.proofs.Common.{◌≡◌, None, drop}
use Rattle.journal.specs.Items.{lasts_of}
use Rattle.stepper_questions.specs.ChainView.{near_of, best_of}
use Rattle.stepper_questions.proofs.chain.nearest_writer.Given as goal

-- the nearest so far, and the cells that are left
abbrev pub invariant-loop-cell : goal.invariant-loop-cell
invariant-loop-cell l = best_of (near_of l.known.entries) l.best (lasts_of (drop l.cell-index l.touched)) ≡ best_of (near_of l.known.entries) None (lasts_of l.touched)
