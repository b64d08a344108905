use Rattle.std.proofs.Common.{ap, ◌∙◌}
use Rattle.std.specs.Map.Iter.{deref_pair}
use Rattle.std.proofs.lemmas.Map.Iter.{rest_more, rest_all}
use Rattle.stepper_streams.proofs.Giving.{leads_first, leads_more, leads_all}
use Rattle.stepper_printing.specs.Show.{slot_lines}
use Rattle.stepper_printing.specs.ShowView.{slot_entries}
use Rattle.stepper_printing.proofs.show.put_slots.Goals as goal

pub loop-slot-init : goal.loop-slot-init
loop-slot-init g c = leads_first g.W.Write.contents c.args.out.now (ap (λ es. slot_lines (slot_entries es)) (c.into_iter-slot-iterator.ensures.into_iter_gives ∙ c.iter-slot-items.ensures.rest))

pub loop-slot-preserved : goal.loop-slot-preserved
loop-slot-preserved g c = leads_more g.W.Write.contents _ _ c.loop-slot.invariant c.put_slot_line.ensures (ap (λ es. slot_lines (slot_entries es)) (rest_more deref_pair _ _ _ _ c.in-Some.is c.next.ensures.steps))

pub returns : goal.returns
returns g c = leads_all g.W.Write.contents c.loop-slot.invariant (ap (λ es. slot_lines (slot_entries es)) (rest_all deref_pair _ _ _ c.in-None.is c.next.ensures.steps))
