use Rattle.std.proofs.Common.{ap, ◌∙◌}
use Rattle.std.specs.Map.Iter.{deref_pair}
use Rattle.std.proofs.lemmas.Map.Iter.{rest_more, rest_all}
use Rattle.stepper_streams.proofs.Giving.{leads_first, leads_more, leads_all}
use Rattle.stepper_questions.specs.Events.{told_lines}
use Rattle.stepper_questions.specs.TouchedView.{told_entries}
use Rattle.stepper_questions.proofs.events.put_cells.Goals as goal

pub loop-cell-init : goal.loop-cell-init
loop-cell-init g c = leads_first g.W.Write.contents c.args.out.now (ap (λ es. told_lines (told_entries es)) (c.into_iter-cell-iterator.ensures.into_iter_gives ∙ c.iter-cell-items.ensures.rest))

pub loop-cell-preserved : goal.loop-cell-preserved
loop-cell-preserved g c = leads_more g.W.Write.contents _ _ c.loop-cell.invariant c.put_seen.ensures (ap (λ es. told_lines (told_entries es)) (rest_more deref_pair _ _ _ _ c.in-Some.is c.next.ensures.steps))

pub returns : goal.returns
returns g c = leads_all g.W.Write.contents c.loop-cell.invariant (ap (λ es. told_lines (told_entries es)) (rest_all deref_pair _ _ _ c.in-None.is c.next.ensures.steps))
