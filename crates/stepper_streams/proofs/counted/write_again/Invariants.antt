-- A failed write appends nothing.
use Rattle.std.specs.Io.KnownBytes.{Keeps}
use Rattle.stepper_streams.proofs.counted.write_again.Given as goal

abbrev pub invariant-tries : goal.invariant-tries
invariant-tries g l = Keeps (g.W.Write.contents l.initial.writer) (g.W.Write.contents l.writer)
