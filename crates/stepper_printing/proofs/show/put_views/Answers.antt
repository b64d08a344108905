use Rattle.std.proofs.Common.{ap, ◌∙◌}
use Rattle.std.specs.Map.Iter.{deref_pair}
use Rattle.std.proofs.lemmas.Map.Iter.{rest_more, rest_all}
use Rattle.stepper_streams.proofs.Giving.{leads_first, leads_more, leads_all}
use Rattle.stepper_printing.specs.Show.{view_lines}
use Rattle.stepper_printing.specs.ShowView.{view_entries}
use Rattle.stepper_printing.proofs.show.put_views.Goals as goal

pub loop-promise-init : goal.loop-promise-init
loop-promise-init g c = leads_first g.W.Write.contents c.args.out.now (ap (λ es. view_lines (view_entries es)) (c.into_iter-promise-iterator.ensures.into_iter_gives ∙ c.iter-promise-items.ensures.rest))

pub loop-promise-preserved : goal.loop-promise-preserved
loop-promise-preserved g c = leads_more g.W.Write.contents _ _ c.loop-promise.invariant c.put_view_line.ensures (ap (λ es. view_lines (view_entries es)) (rest_more deref_pair _ _ _ _ c.in-Some.is c.next.ensures.steps))

pub returns : goal.returns
returns g c = leads_all g.W.Write.contents c.loop-promise.invariant (ap (λ es. view_lines (view_entries es)) (rest_all deref_pair _ _ _ c.in-None.is c.next.ensures.steps))
