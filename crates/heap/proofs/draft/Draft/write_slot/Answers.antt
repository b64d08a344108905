use Rattle.std.proofs.Common.{arith}
use Rattle.std.proofs.lemmas.Result.{on_ok_weaker, on_err_weaker}
use Rattle.values.specs.View.{val_of}
use Rattle.heap.specs.State.{slot_cell, held}
use Rattle.heap.specs.Found.{touched_in, writes_in}
use Rattle.heap.specs.Reaches.{state_in}
use Rattle.heap.specs.DraftView.{drafted}
use Rattle.heap.specs.Drafts.{writes_of}
use Rattle.heap.proofs.Drafting.{unwritten}
use Rattle.heap.proofs.Overlaid.{own_written, own_touched, beneath_written, touched_beneath, written_also}
use Rattle.heap.proofs.draft.Draft.write_slot.Goals as goal

pub returns-then-is_own-clause-ok : goal.returns-then-is_own-clause-ok
returns-then-is_own-clause-ok c =
    let d = c.self.inside in rw (← c.self.view_is) (
    own_written d.event d.vat d.slots.items d.objects.items (state_in d.base) c.args.slot c.args.value c.len.result c.is_own.result (omega (arith, c.len.ensures, d.slots.ok)) (rw (← c.self.view_is) at c.is_own.ensures) c.if-is_own.true)

pub returns-then-is_own-clause-touched : goal.returns-then-is_own-clause-touched
returns-then-is_own-clause-touched c =
    let d = c.self.inside in rw (← c.self.view_is) (
    own_touched d.event d.vat d.slots.items d.objects.items (touched_in d.base.footprint) c.args.slot c.args.value c.len.result c.is_own.result (omega (arith, c.len.ensures, d.slots.ok)) (rw (← c.self.view_is) at c.is_own.ensures) c.if-is_own.true)

pub returns-then-is_own-clause-written : goal.returns-then-is_own-clause-written
returns-then-is_own-clause-written c =
    let d = c.self.inside in rw (← c.self.view_is) (
    written_also (slot_cell c.args.slot) (held (val_of c.args.value)) (writes_of (drafted d)) _ (own_written d.event d.vat d.slots.items d.objects.items (writes_in d.base.footprint) c.args.slot c.args.value c.len.result c.is_own.result (omega (arith, c.len.ensures, d.slots.ok)) (rw (← c.self.view_is) at c.is_own.ensures) c.if-is_own.true))

pub returns-else-is_own-clause-ok : goal.returns-else-is_own-clause-ok
returns-else-is_own-clause-ok c =
    let d = c.self.inside in rw (← c.self.view_is) (
    on_ok_weaker c.write_slot.result (λ w.
    beneath_written d.event d.vat d.slots.items d.objects.items (state_in d.base) (state_in c.write_slot.new.self) c.args.slot c.args.value c.len.result c.is_own.result (omega (arith, c.len.ensures, d.slots.ok)) (rw (← c.self.view_is) at c.is_own.ensures) c.if-is_own.false w
    ) c.write_slot.ensures.state)

pub returns-else-is_own-clause-touched : goal.returns-else-is_own-clause-touched
returns-else-is_own-clause-touched c =
    let d = c.self.inside in rw (← c.self.view_is) (
    on_ok_weaker c.write_slot.result (λ e. touched_beneath d.event d.vat d.slots.items d.objects.items (touched_in d.base.footprint) (touched_in c.write_slot.new.self.footprint) (slot_cell c.args.slot) e) c.write_slot.ensures.touched)

pub returns-else-is_own-clause-written : goal.returns-else-is_own-clause-written
returns-else-is_own-clause-written c =
    let d = c.self.inside in rw (← c.self.view_is) (
    on_ok_weaker c.write_slot.result (λ w. written_also (slot_cell c.args.slot) (held (val_of c.args.value)) (writes_of (drafted d)) _ (
    beneath_written d.event d.vat d.slots.items d.objects.items (writes_in d.base.footprint) (writes_in c.write_slot.new.self.footprint) c.args.slot c.args.value c.len.result c.is_own.result (omega (arith, c.len.ensures, d.slots.ok)) (rw (← c.self.view_is) at c.is_own.ensures) c.if-is_own.false w
    )) c.write_slot.ensures.written)

pub returns-else-is_own-clause-err : goal.returns-else-is_own-clause-err
returns-else-is_own-clause-err c =
    let d = c.self.inside in rw (← c.self.view_is) (
    on_err_weaker c.write_slot.result (λ e. unwritten d c.write_slot.new.self e c.write_slot.ensures.beneath) c.write_slot.ensures.err)
