-- The cells that a turn reads and writes.
use Rattle.std.specs.Prelude.{ℕ}
use Rattle.ids.specs.declared.names.EventName.{EventName}
use Rattle.ids.specs.declared.names.VatNo.{VatNo}
use Rattle.heap.specs.State.{State, Cells}
use Rattle.post.specs.Messages.{Message}
use Rattle.turn_deliveries.specs.Turn.{Found, Outcome, Delivers, delivers, finish}

-- of a turn: all that was touched where it ended
abbrev pub delivery_touched : {g : Message} {f : Found} {e : EventName} {v : VatNo} {s : State} {n : ℕ} {o : Outcome} → Delivers g f e v s n o → Cells
delivery_touched (delivers {g = g} {o = o} {b = b} r) = (finish g.result o b).touched

-- and what it writes, also where that is not kept
abbrev pub delivery_written : {g : Message} {f : Found} {e : EventName} {v : VatNo} {s : State} {n : ℕ} {o : Outcome} → Delivers g f e v s n o → Cells
delivery_written (delivers {g = g} {o = o} {b = b} r) = (finish g.result o b).written
