use Rattle.std.proofs.Common.{drop}
use Rattle.stepper_streams.proofs.Giving.{LeadsTo}
use Rattle.stepper_questions.specs.ObjectView.{told_method_lines}
use Rattle.stepper_questions.proofs.object.put_methods.Given as goal

-- what may be put of those that are left leads to all
abbrev pub invariant-loop-method : goal.invariant-loop-method
invariant-loop-method g l = LeadsTo g.W.Write.contents l.fn.out l.out (told_method_lines (drop l.method-index l.methods)) (told_method_lines l.methods)
