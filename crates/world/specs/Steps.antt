-- What a step finds and leaves.
use Rattle.std.specs.Prelude.{◌≡◌, ℕ, true, List, Some, None}
use Rattle.history.specs.Subject.{after}
use Rattle.ids.specs.declared.names.EventName.{EventName}
use Rattle.ids.specs.declared.names.VatNo.{VatNo}
use Rattle.ids.specs.declared.names.MsgId.{MsgId}
use Rattle.ids.specs.declared.names.PromId.{PromId}
use Rattle.ids.specs.declared.cells.CellKey.TheVariants as key
use Rattle.kernele.specs.Tree.{Name}
use Rattle.heap.specs.Found.{Found}
use Rattle.heap.specs.State.{viewed, pending, view_cell}
use Rattle.world_cells.specs.Events.{Event}
use Rattle.post.specs.Messages.{Vat, Message, Published, at_vat}
use Rattle.world_cells.specs.World.{World, message, published_as, vat_state}
use Rattle.post.specs.declared.message.Message as code-message
use Rattle.turn_deliveries.specs.Outcomes.{found_of}
use Rattle.turn_deliveries.specs.Turn as turns
use Rattle.event.specs.Events.{Foot, AreNamed, Does, events}
use Rattle.event.specs.Ready.{leads_there, first_undone}
use Rattle.event.specs.Walks.{awaited}
use Rattle.turn.specs.declared.ticket.Ran.{Ran}
use Rattle.world.specs.declared.step.StepFault.{StepFault}
use Rattle.world.specs.declared.step.StepFault.TheVariants as fault

-- the event is possible in the first world, and the second is the one after it
pub record StepsTo (e : Event) (w v : World) : Type 0 where
  pub foot : Foot
  pub does : ∥ Does e w foot ∥₁
  pub step : v ≡ after events foot w

-- an event that is impossible has no footprint; want of memory tells nothing
abbrev pub TellsStep : Event → World → StepFault → Type 0
TellsStep e w fault.Impossible = (f : Foot) → Does e w f → ⊥
TellsStep e w fault.Memory = Unit {0}

-- one of these names is of no vat; want of memory tells nothing
abbrev pub Unnamed : World → List Name → StepFault → Type 0
Unnamed w names fault.Impossible = (vats : List Vat) → AreNamed w names vats → ⊥
Unnamed w names fault.Memory = Unit {0}

-- a promise is open in a vat's view, and was published as this
pub record Learnable (w : World) (v : VatNo) (p : PromId) (b : Published) : Type 0 where
  pub unresolved : vat_state w v (view_cell p) ≡ Some (viewed pending)
  pub resolved : published_as w p ≡ Some b

-- there is nothing that a vat can learn of a promise; want of memory tells nothing
abbrev pub Unlearnable : World → VatNo → PromId → StepFault → Type 0
Unlearnable w v p fault.Impossible = (b : Published) → Learnable w v p b → ⊥
Unlearnable w v p fault.Memory = Unit {0}

-- a message is at this vat, leads there, and what it waits for is done
pub record Ready (w : World) (m : MsgId) (g : Message) (v : VatNo) : Type 0 where
  pub waiting : w (key.Msg m) ≡ Some (message g)
  pub there : g.place ≡ at_vat v
  pub leads : leads_there w v g ≡ true
  pub in_order : first_undone w (awaited w g) ≡ None

-- a message that may not be delivered to a vat is not ready there; want of memory tells nothing
abbrev pub Unready : World → MsgId → VatNo → StepFault → Type 0
Unready w m v fault.Impossible = (g : Message) → Ready w m g v → ⊥
Unready w m v fault.Memory = Unit {0}

-- this was run: the turn of a message at a vat, whose target leads there, which found what the world has
pub record RunsAt (w : World) (e : EventName) (m : MsgId) (budget : ℕ) (g : code-message.Message) (lead : turns.Found) (v : VatNo) (r : Ran) : Type 0 where
  pub event : r.carried.event ≡ e
  pub name : r.carried.name ≡ m
  pub same_budget : r.carried.budget ≡ budget
  pub same : r.carried.message ≡ g
  pub same_lead : found_of r.carried.lead ≡ lead
  pub vat : r.carried.vat ≡ v
  pub found : Found r.outcome.footprint (vat_state w v)
