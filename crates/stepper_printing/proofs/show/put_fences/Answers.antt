use Rattle.std.proofs.Common.{ap, ◌∙◌}
use Rattle.std.specs.Map.Iter.{deref_pair}
use Rattle.std.proofs.lemmas.Map.Iter.{rest_more, rest_all}
use Rattle.stepper_streams.proofs.Giving.{leads_first, leads_more, leads_all}
use Rattle.stepper_printing.specs.Show.{fence_lines}
use Rattle.stepper_printing.specs.ShowView.{fence_entries}
use Rattle.stepper_printing.proofs.show.put_fences.Goals as goal

pub loop-reference-init : goal.loop-reference-init
loop-reference-init g c = leads_first g.W.Write.contents c.args.out.now (ap (λ es. fence_lines (fence_entries es)) (c.into_iter-reference-iterator.ensures.into_iter_gives ∙ c.iter-reference-items.ensures.rest))

pub loop-reference-preserved : goal.loop-reference-preserved
loop-reference-preserved g c = leads_more g.W.Write.contents _ _ c.loop-reference.invariant c.put_fence_line.ensures (ap (λ es. fence_lines (fence_entries es)) (rest_more deref_pair _ _ _ _ c.in-Some.is c.next.ensures.steps))

pub returns : goal.returns
returns g c = leads_all g.W.Write.contents c.loop-reference.invariant (ap (λ es. fence_lines (fence_entries es)) (rest_all deref_pair _ _ _ c.in-None.is c.next.ensures.steps))
