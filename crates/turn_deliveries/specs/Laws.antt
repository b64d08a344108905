-- The laws of deliveries.
use Rattle.std.specs.Prelude.{◌≡◌, ℕ, ◌+◌, ◌≤◌, false}
use Rattle.ids.specs.declared.names.EventName.{EventName}
use Rattle.ids.specs.declared.names.VatNo.{VatNo}
use Rattle.ids.specs.declared.names.EjId.{EjId}
use Rattle.values.specs.Data.{Val}
use Rattle.heap.specs.State.{Cell, State}
use Rattle.post.specs.Delivery.{Delivery}
use Rattle.post.specs.Messages.{Message}
use Rattle.eval_rules.specs.At.{At}
use Rattle.eval_rules.specs.Laws.{IsWithin, AgreeOn, with_cells, IsWithinRoom}
use Rattle.eval_rules.specs.Outcomes.{ejected, halt}
use Rattle.sends.specs.Table.{among}
use Rattle.turn_deliveries.specs.Spent.{delivery_nodes, delivery_deepest, delivery_place}
use Rattle.turn_deliveries.specs.Table.{delivery_foot}
use Rattle.turn_deliveries.specs.Touched.{delivery_touched, delivery_written}
use Rattle.turn_deliveries.specs.Turn.{Found, Outcome, Delivers, Begins}
use Rattle.eval_rules.specs.declared.working.TheConstants.{DEEPEST}

-- a delivery has at most one outcome
abbrev pub AtMostOneDelivery : Type 0
AtMostOneDelivery = (g : Message) (f : Found) (e : EventName) (v : VatNo) (s : State) (n : ℕ) (o p : Outcome) → Delivers g f e v s n o → Delivers g f e v s n p → o ≡ p

-- and it has one
abbrev pub EachDeliveryHasAnOutcome : Type 0
EachDeliveryHasAnOutcome = (g : Message) (f : Found) (e : EventName) (v : VatNo) (s : State) (n : ℕ) → (o : Outcome) × Delivers g f e v s n o

-- what a delivery writes it touches
abbrev pub WritesAreTouched : Type 0
WritesAreTouched = (g : Message) (f : Found) (e : EventName) (v : VatNo) (s : State) (n : ℕ) (o : Outcome) (r : Delivers g f e v s n o) → IsWithin (delivery_written r) (delivery_touched r)

-- in a state that agrees on the cells touched, a delivery has the same result, the same end and the same steps left, and touches
-- and writes the same cells; it leaves those that are written as it leaves them here, and the others as they were
abbrev pub DeliveryFrame : Type 0
DeliveryFrame = (g : Message) (f : Found) (e : EventName) (v : VatNo) (s : State) (n : ℕ) (o : Outcome) (r : Delivers g f e v s n o) (u : State) → AgreeOn (delivery_touched r) u s
    → (q : Delivers g f e v u n (record o { state = with_cells (delivery_written r) o.state u })) × (delivery_touched q ≡ delivery_touched r) × (delivery_written q ≡ delivery_written r)

-- a cell that a delivery did not write is as it was
abbrev pub OthersStayInTurns : Type 0
OthersStayInTurns = (g : Message) (f : Found) (e : EventName) (v : VatNo) (s : State) (n : ℕ) (o : Outcome) (r : Delivers g f e v s n o) (c : Cell) → delivery_written r c ≡ false → o.state c ≡ s c

-- a delivery leaves no more steps than its budget
abbrev pub WithinBudget : Type 0
WithinBudget = (g : Message) (f : Found) (e : EventName) (v : VatNo) (s : State) (n : ℕ) (o : Outcome) → Delivers g f e v s n o → o.left ≤ n

-- it takes a step of its budget for each node that begins
abbrev pub BudgetIsNodes : Type 0
BudgetIsNodes = (g : Message) (f : Found) (e : EventName) (v : VatNo) (s : State) (n : ℕ) (o : Outcome) (r : Delivers g f e v s n o) → delivery_nodes r + o.left ≡ n

-- no node of it runs past the deepest level
abbrev pub NoDeliveryRunsTooDeep : Type 0
NoDeliveryRunsTooDeep = (g : Message) (f : Found) (e : EventName) (v : VatNo) (s : State) (n : ℕ) (o : Outcome) (r : Delivers g f e v s n o) → delivery_deepest r ≤ DEEPEST

-- it makes no more slots, objects and messages than a turn may
abbrev pub DeliveriesStayInRoom : Type 0
DeliveriesStayInRoom = (g : Message) (f : Found) (e : EventName) (v : VatNo) (s : State) (n : ℕ) (o : Outcome) (r : Delivers g f e v s n o) → IsWithinRoom (delivery_place r)

-- a value on its way to an Escape leaves an evaluation only inside that Escape: so none leaves what a delivery runs
abbrev pub NoEjectionLeavesATurn : Type 0
NoEjectionLeavesATurn = (d : Delivery) (f : Found) (e : EventName) (w : VatNo) (s : State) (n : ℕ) (b : At) (j : EjId) (v : Val) → Begins d f e w s n (halt (ejected j v)) b → ⊥

-- a delivery touches and writes just the cells that the table has for it
abbrev pub TurnsTouchByTheTable : Type 0
TurnsTouchByTheTable = (g : Message) (f : Found) (e : EventName) (v : VatNo) (s : State) (n : ℕ) (o : Outcome) (r : Delivers g f e v s n o) (c : Cell)
    → (delivery_touched r c ≡ among (delivery_foot r).touched c) × (delivery_written r c ≡ among (delivery_foot r).written c)
