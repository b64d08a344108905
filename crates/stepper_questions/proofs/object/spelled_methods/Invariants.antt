use Rattle.std.proofs.Common.{◌≡◌, ◌++◌, drop}
use Rattle.code.specs.View.{methods_of_codes}
use Rattle.stepper_questions.specs.Objects.{method_lines}
use Rattle.stepper_questions.specs.ObjectView.{told_method_lines}
use Rattle.stepper_questions.proofs.object.spelled_methods.Given as goal

-- the lines of the methods so far, and of those that are left
abbrev pub invariant-loop-method : goal.invariant-loop-method
invariant-loop-method l = told_method_lines l.told.items ++ method_lines (methods_of_codes (drop l.method-index l.methods)) ≡ method_lines (methods_of_codes l.methods)
