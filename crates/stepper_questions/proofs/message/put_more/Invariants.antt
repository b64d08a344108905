use Rattle.std.proofs.Common.{drop}
use Rattle.stepper_streams.proofs.Giving.{LeadsTo}
use Rattle.values.specs.Shown.{shown_more}
use Rattle.values.specs.View.{vals_of}
use Rattle.stepper_questions.proofs.message.put_more.Given as goal

-- what may be put of those that are left leads to all
abbrev pub invariant-loop-value : goal.invariant-loop-value
invariant-loop-value g l = LeadsTo g.W.Write.contents l.fn.out l.out (shown_more (vals_of (drop l.value-index l.values))) (shown_more (vals_of l.values))
