use Rattle.std.proofs.Common.{arith}
use Rattle.std.proofs.lemmas.Result.{on_ok_weaker, on_err_weaker}
use Rattle.heap.specs.State.{slot_cell}
use Rattle.heap.specs.Found.{touched_in}
use Rattle.heap.proofs.Drafting.{state_kept, writes_kept, touches_kept, one_touched, slot_reached}
use Rattle.heap.proofs.draft.Draft.reach_slot.Goals as goal

pub returns-else-is_own-clause-state : goal.returns-else-is_own-clause-state
returns-else-is_own-clause-state c =
    let d = c.self.inside in rw (← c.self.view_is) (
    state_kept d c.reach_slot.new.self c.reach_slot.ensures.state)

pub returns-else-is_own-clause-touched : goal.returns-else-is_own-clause-touched
returns-else-is_own-clause-touched c =
    let d = c.self.inside in rw (← c.self.view_is) (
    on_ok_weaker c.reach_slot.result (one_touched d c.reach_slot.new.self (slot_cell c.args.slot)) c.reach_slot.ensures.touched)

pub returns-else-is_own-clause-written : goal.returns-else-is_own-clause-written
returns-else-is_own-clause-written c =
    let d = c.self.inside in rw (← c.self.view_is) (
    writes_kept d c.reach_slot.new.self c.reach_slot.ensures.written)

pub returns-else-is_own-clause-err : goal.returns-else-is_own-clause-err
returns-else-is_own-clause-err c =
    let d = c.self.inside in rw (← c.self.view_is) (
    on_err_weaker c.reach_slot.result (touches_kept d c.reach_slot.new.self) c.reach_slot.ensures.err)

pub returns-then-is_own-clause-touched : goal.returns-then-is_own-clause-touched
returns-then-is_own-clause-touched c =
    let d = c.self.inside in rw (← c.self.view_is) (
    slot_reached d.event d.vat d.slots.items d.objects.items (touched_in d.base.footprint) c.len.result c.is_own.result c.args.slot (omega (arith, c.len.ensures, d.slots.ok)) (rw (← c.self.view_is) at c.is_own.ensures) c.if-is_own.true)
