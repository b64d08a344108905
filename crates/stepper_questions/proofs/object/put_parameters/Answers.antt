use Rattle.std.proofs.Common.{sym, ap}
use Rattle.std.specs.Prelude.{codes, map}
use Rattle.kernele.specs.Spelling.{joined, bound_name}
use Rattle.stepper_streams.proofs.Giving.{tells_as}
use Rattle.stepper_questions.proofs.Telling.{none_left}
use Rattle.stepper_questions.proofs.object.put_parameters.Goals as goal

pub returns-in-Some : goal.returns-in-Some
returns-in-Some g c = tells_as g.W.Write.contents (ap (λ xs. joined (codes ", ") (map bound_name xs)) (sym c.in-Some.ensures.cases.0)) c.put_first_and.ensures

pub returns-in-None : goal.returns-in-None
returns-in-None g c = tells_as g.W.Write.contents (ap (λ xs. joined (codes ", ") (map bound_name xs)) (sym (none_left c.args.parameters.now c.in-None.ensures.cases))) c.put.ensures
