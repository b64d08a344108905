use Rattle.std.proofs.Common.{ap}
use Rattle.stepper_questions.specs.ObjectView.{told_method_lines}
use Rattle.stepper_streams.proofs.Giving.{tells_both, tells_as}
use Rattle.stepper_questions.proofs.object.put_told_object.Goals as goal

pub returns : goal.returns
returns g c =
    let methods = tells_as g.W.Write.contents (ap told_method_lines c.deref.ensures.value) c.put_methods.ensures in
    tells_both g.W.Write.contents c.put.ensures (tells_both g.W.Write.contents c.put_object.ensures (tells_both g.W.Write.contents c.put-2.ensures (tells_both g.W.Write.contents c.put_made.ensures (tells_both g.W.Write.contents c.put-3.ensures (tells_both g.W.Write.contents (tells_as g.W.Write.contents c.as_str.ensures c.put-4.ensures) (tells_both g.W.Write.contents c.put-5.ensures (tells_both g.W.Write.contents c.put_captured_in.ensures methods)))))))
