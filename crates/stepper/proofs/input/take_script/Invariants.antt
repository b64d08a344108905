-- So many lines of the script were taken.
use Rattle.stepper.proofs.Scripting.{Holding}
use Rattle.stepper.proofs.input.take_script.Given as goal

abbrev pub invariant-lines : goal.invariant-lines
invariant-lines g l = Holding g.R.Read.remaining g.W.Write.contents l.lines l.initial.source l.source l.initial.sink l.sink l.taken l.joined.fault l.joined.text
