use Rattle.std.proofs.Common.{arith}
use Rattle.values.specs.View.{val_of}
use Rattle.heap.specs.State.{slot_cell, held, made}
use Rattle.heap.specs.Found.{touched_in, writes_in}
use Rattle.heap.specs.Reaches.{state_in}
use Rattle.heap.specs.DraftView.{drafted}
use Rattle.heap.specs.Drafts.{writes_of}
use Rattle.heap.proofs.Overlaid.{slot_made, slot_touched, written_also}
use Rattle.heap.proofs.draft.Draft.new_slot.Goals as goal

pub returns-clause-made : goal.returns-clause-made
returns-clause-made c =
    let d = c.self.inside in rw (← c.self.view_is) (
    slot_made d.event d.vat d.slots.items c.push.new.self.items d.objects.items (state_in d.base) c.args.value c.len.result (omega (arith, c.len.ensures, d.slots.ok)) c.in_ok-push.ensures.items)

pub returns-clause-touched : goal.returns-clause-touched
returns-clause-touched c =
    let d = c.self.inside in rw (← c.self.view_is) (
    slot_touched d.event d.vat d.slots.items c.push.new.self.items d.objects.items (touched_in d.base.footprint) c.args.value c.len.result (omega (arith, c.len.ensures, d.slots.ok)) c.in_ok-push.ensures.items)

pub returns-clause-written : goal.returns-clause-written
returns-clause-written c =
    let d = c.self.inside in rw (← c.self.view_is) (
    written_also (slot_cell (record { event = d.event; index = c.len.result; vat = d.vat })) (held (val_of c.args.value)) (writes_of (drafted d)) _ (slot_made d.event d.vat d.slots.items c.push.new.self.items d.objects.items (writes_in d.base.footprint) c.args.value c.len.result (omega (arith, c.len.ensures, d.slots.ok)) c.in_ok-push.ensures.items))
