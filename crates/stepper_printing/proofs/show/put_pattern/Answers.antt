use Rattle.std.proofs.Common.{sym, ap, ◌∙◌}
use Rattle.kernele.specs.Spelling.{bound_name}
use Rattle.stepper_streams.proofs.Giving.{tells_as}
use Rattle.stepper_printing.proofs.show.put_pattern.Goals as goal

pub returns-in-Name : goal.returns-in-Name
returns-in-Name g c = tells_as g.W.Write.contents (c.as_str.ensures ∙ sym (ap bound_name c.in-Name.is)) c.put.ensures
