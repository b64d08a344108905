use Rattle.std.proofs.Common.{drop}
use Rattle.stepper_streams.proofs.Giving.{LeadsTo}
use Rattle.stepper_questions.proofs.Telling.{nouns_lines}
use Rattle.stepper_questions.proofs.named.put_captured.Given as goal

-- what may be put of those that are left leads to all
abbrev pub invariant-loop-noun : goal.invariant-loop-noun
invariant-loop-noun g l = LeadsTo g.W.Write.contents l.fn.out l.out (nouns_lines (drop l.noun-index l.nouns)) (nouns_lines l.nouns)
