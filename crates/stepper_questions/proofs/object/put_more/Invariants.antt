use Rattle.std.proofs.Common.{drop}
use Rattle.stepper_streams.proofs.Giving.{LeadsTo}
use Rattle.std.specs.Prelude.{codes, map}
use Rattle.kernele.specs.Spelling.{led_by, bound_name}
use Rattle.stepper_questions.proofs.object.put_more.Given as goal

-- what may be put of those that are left leads to all
abbrev pub invariant-loop-parameter : goal.invariant-loop-parameter
invariant-loop-parameter g l = LeadsTo g.W.Write.contents l.fn.out l.out (led_by (codes ", ") (map bound_name (drop l.parameter-index l.parameters))) (led_by (codes ", ") (map bound_name l.parameters))
