use Rattle.std.proofs.Common.{subst}
use Rattle.heap.specs.View.{bind_of}
use Rattle.heap.specs.declared.state.Binding.{Binding}
use Rattle.eval_rules.specs.View.{at}
use Rattle.eval_objects.specs.Finding.{StandsAtHand}
use Rattle.eval_quick.proofs.Leaves.{fixed_at_hand}
use Rattle.eval_quick.proofs.Lengthened.{slot_gives}
use Rattle.eval_quick.proofs.quick.value_at_hand.Goals as goal

pub returns-in-Some-Fixed : goal.returns-in-Some-Fixed
returns-in-Some-Fixed c = fixed_at_hand c.args.name.now _ (at c.args.w.now) (subst (λ (b : Binding). StandsAtHand c.args.name.now (bind_of b) (at c.args.w.now)) c.in-Some-Fixed.field-0-is c.in-Some-Fixed.ensures)

pub returns-in-Some-Slot : goal.returns-in-Some-Slot
returns-in-Some-Slot c =
    slot_gives c.peek_slot.result c.args.name.now _ (at c.args.w.now) (subst (λ (b : Binding). StandsAtHand c.args.name.now (bind_of b) (at c.args.w.now)) c.in-Some-Slot.field-0-is c.in-Some-Slot.ensures)
    c.peek_slot.ensures.touched c.peek_slot.ensures.content
