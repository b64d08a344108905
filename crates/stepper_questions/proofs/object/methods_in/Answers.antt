use Rattle.std.proofs.Common.{◌≡◌, ◌++◌}
use Rattle.std.proofs.lemmas.Result.{IfOk-weaker}
use Rattle.code.specs.View.{methods_of_codes}
use Rattle.heap.specs.View.{object_of}
use Rattle.stepper_questions.specs.Objects.{inside_lines, method_lines}
use Rattle.stepper_questions.specs.ObjectView.{captured_in, told_method_lines}
use Rattle.stepper_questions.proofs.Telling.{read_items, inside_plain, inside_resolver}
use Rattle.stepper_questions.proofs.object.methods_in.Goals as goal

pub returns-in-Plain : goal.returns-in-Plain
returns-in-Plain c =
    let o = object_of c.args.object.now in
    IfOk-weaker c.spelled_methods.result (λ told. told_method_lines told.items ≡ method_lines (methods_of_codes c.as_slice.result.now)) (λ told. captured_in o ++ told_method_lines told.items ≡ inside_lines o)
    (λ told is. inside_plain c.args.object.now _ c.in-Plain.is c.as_slice.result.now (read_items _ _ _ c.as_slice.ensures.value c.deref.ensures) (told_method_lines told.items) is) c.spelled_methods.ensures

pub returns-in-Resolver : goal.returns-in-Resolver
returns-in-Resolver c = inside_resolver c.args.object.now _ c.in-Resolver.is _ c.new.ensures.items
