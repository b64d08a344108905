use Rattle.std.proofs.Common.{sym, ap}
use Rattle.values.specs.Shown.{shown_items}
use Rattle.values.specs.View.{vals_of}
use Rattle.stepper_streams.proofs.Giving.{tells_as}
use Rattle.stepper_questions.proofs.Telling.{none_left}
use Rattle.stepper_questions.proofs.message.put_values.Goals as goal

pub returns-in-Some : goal.returns-in-Some
returns-in-Some g c = tells_as g.W.Write.contents (ap (λ xs. shown_items (vals_of xs)) (sym c.in-Some.ensures.cases.0)) c.put_first_and.ensures

pub returns-in-None : goal.returns-in-None
returns-in-None g c = tells_as g.W.Write.contents (ap (λ xs. shown_items (vals_of xs)) (sym (none_left c.args.values.now c.in-None.ensures.cases))) c.put.ensures
