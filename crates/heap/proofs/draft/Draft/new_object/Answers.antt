use Rattle.std.proofs.Common.{arith}
use Rattle.heap.specs.State.{object_cell, made}
use Rattle.heap.specs.View.{object_of}
use Rattle.heap.specs.Found.{touched_in, writes_in}
use Rattle.heap.specs.Reaches.{state_in}
use Rattle.heap.specs.DraftView.{drafted}
use Rattle.heap.specs.Drafts.{with_slots, and_slots, writes_of}
use Rattle.heap.proofs.Overlaid.{object_made, object_touched, written_also}
use Rattle.heap.proofs.draft.Draft.new_object.Goals as goal

pub returns-clause-made : goal.returns-clause-made
returns-clause-made c =
    let d = c.self.inside in rw (← c.self.view_is) (
    object_made d.event d.vat d.objects.items c.push.new.self.items (with_slots d.event d.vat d.slots.items (state_in d.base)) c.args.object c.len.result (omega (arith, c.len.ensures, d.objects.ok)) c.in_ok-push.ensures.items)

pub returns-clause-touched : goal.returns-clause-touched
returns-clause-touched c =
    let d = c.self.inside in rw (← c.self.view_is) (
    object_touched d.event d.vat d.objects.items c.push.new.self.items (and_slots d.event d.vat d.slots.items (touched_in d.base.footprint)) c.args.object c.len.result (omega (arith, c.len.ensures, d.objects.ok)) c.in_ok-push.ensures.items)

pub returns-clause-written : goal.returns-clause-written
returns-clause-written c =
    let d = c.self.inside in rw (← c.self.view_is) (
    written_also (object_cell (record { event = d.event; index = c.len.result; vat = d.vat })) (made (object_of c.args.object)) (writes_of (drafted d)) _ (object_made d.event d.vat d.objects.items c.push.new.self.items (with_slots d.event d.vat d.slots.items (writes_in d.base.footprint)) c.args.object c.len.result (omega (arith, c.len.ensures, d.objects.ok)) c.in_ok-push.ensures.items))
