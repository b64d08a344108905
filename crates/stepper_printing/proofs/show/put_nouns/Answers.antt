use Rattle.std.proofs.Common.{ap, ◌∙◌}
use Rattle.std.specs.Map.Iter.{deref_pair}
use Rattle.std.proofs.lemmas.Map.Iter.{rest_more, rest_all}
use Rattle.stepper_streams.proofs.Giving.{leads_first, leads_more, leads_all}
use Rattle.stepper_printing.specs.Show.{noun_lines}
use Rattle.stepper_printing.specs.ShowView.{noun_entries}
use Rattle.stepper_printing.proofs.show.put_nouns.Goals as goal

pub loop-name-init : goal.loop-name-init
loop-name-init g c = leads_first g.W.Write.contents c.args.out.now (ap (λ es. noun_lines (noun_entries es)) (c.into_iter-name-iterator.ensures.into_iter_gives ∙ c.iter-name-items.ensures.rest))

pub loop-name-preserved : goal.loop-name-preserved
loop-name-preserved g c = leads_more g.W.Write.contents _ _ c.loop-name.invariant c.put_noun_line.ensures (ap (λ es. noun_lines (noun_entries es)) (rest_more deref_pair _ _ _ _ c.in-Some.is c.next.ensures.steps))

pub returns : goal.returns
returns g c = leads_all g.W.Write.contents c.loop-name.invariant (ap (λ es. noun_lines (noun_entries es)) (rest_all deref_pair _ _ _ c.in-None.is c.next.ensures.steps))
