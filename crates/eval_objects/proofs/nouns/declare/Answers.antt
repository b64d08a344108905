use Rattle.std.proofs.Common.{arith, sym, ap}
use Rattle.heap.specs.Drafts.{draft_of, counts_of, began_with, touched_of, written_of}
use Rattle.eval_rules.specs.Rules.{variable_end, variable_made}
use Rattle.eval_rules.specs.View.{at}
use Rattle.values.specs.View.{val_of}
use Rattle.eval_objects.proofs.Drafted.{drafted_slot}
use Rattle.eval_rules.proofs.Answering.{halt_to}
use Rattle.eval_rules.proofs.Scopes.{declared_there, room, no_room}
use Rattle.eval_objects.proofs.nouns.declare.Goals as goal

pub returns-then-slot_count-ge-MAX_SLOTS : goal.returns-then-slot_count-ge-MAX_SLOTS
returns-then-slot_count-ge-MAX_SLOTS c =
    let full = no_room _ (omega (arith, c.if-slot_count-ge-MAX_SLOTS.true)) in
    halt_to c.abandon.result c.abandon.new.w _ _ _ _ (ap (λ r. variable_end r (val_of c.args.value.now)) (sym full)) (ap (λ r. variable_made r c.args.name.now (val_of c.args.value.now) (at c.args.w.now)) (sym full)) c.abandon.ensures.end

pub returns : goal.returns
returns c =
    let d = c.new_slot.new.self in
    let e = c.in_ok-slot.ensures in
    let made = drafted_slot (at c.args.w.now) (draft_of d) (counts_of d) (began_with d) (touched_of d) (written_of d) _ _ e.named e.made e.counts e.began e.touched e.written in (
      ap (λ r. variable_end r (val_of c.args.value.now)) (sym (room _ (omega arith))),
      declared_there c.args.name.now (val_of c.args.value.now) _ _ (at c.args.w.now) _ _ (omega arith) c.in_ok-share.ensures e.named made c.in_ok-bind.ensures,
    )
