-- Nothing is held, and a line is being taken that is not counted yet.
use Rattle.std.proofs.Common.{◌≡◌, []}
use Rattle.stepper_streams.specs.Lines.{held, lines_taken, lines_refused}
use Rattle.stepper_streams.proofs.Taking.{Within}
use Rattle.stepper_streams.proofs.lines.Lines.gather.Given as goal

abbrev pub invariant-parts : goal.invariant-parts
invariant-parts g l = Within g.R.Read.remaining l.fn.self l.self l.line × (held l.self ≡ []) × (lines_taken l.self ≡ lines_taken l.fn.self) × (lines_refused l.self ≡ lines_refused l.fn.self)
