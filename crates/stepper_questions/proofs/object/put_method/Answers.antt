use Rattle.std.proofs.Common.{ap}
use Rattle.std.specs.Prelude.{codes, map}
use Rattle.kernele.specs.Spelling.{joined, bound_name}
use Rattle.stepper_streams.proofs.Giving.{tells_both, tells_as}
use Rattle.stepper_questions.proofs.Telling.{read_items}
use Rattle.stepper_questions.proofs.object.put_method.Goals as goal

pub returns : goal.returns
returns g c =
    let verb = tells_as g.W.Write.contents c.as_str.ensures c.put-2.ensures in
    let parameters = tells_as g.W.Write.contents (ap (λ xs. joined (codes ", ") (map bound_name xs)) (read_items _ _ _ c.as_slice.ensures.value c.deref.ensures)) c.put_parameters.ensures in
    let message = tells_both g.W.Write.contents (tells_both g.W.Write.contents (tells_both g.W.Write.contents verb c.put-3.ensures) parameters) c.put-4.ensures in
    tells_both g.W.Write.contents c.put.ensures (tells_both g.W.Write.contents (tells_both g.W.Write.contents (tells_both g.W.Write.contents message c.put-5.ensures) c.put_block.ensures) c.put-6.ensures)
