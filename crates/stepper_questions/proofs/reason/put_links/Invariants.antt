use Rattle.std.proofs.Common.{drop}
use Rattle.stepper_streams.proofs.Giving.{LeadsTo}
use Rattle.stepper_questions.specs.WhyView.{links_text}
use Rattle.stepper_questions.proofs.reason.put_links.Given as goal

-- what may be put of those that are left leads to all
abbrev pub invariant-loop-link : goal.invariant-loop-link
invariant-loop-link g l = LeadsTo g.W.Write.contents l.fn.out l.out (links_text (drop l.link-index l.links)) (links_text l.links)
