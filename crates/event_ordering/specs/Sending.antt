-- What turns send is new in the world of a run.
use Rattle.std.specs.Prelude.{◌≡◌, ◌↔◌, ℕ, List}
use Rattle.std.specs.List.{AllByRecursion}
use Rattle.history.specs.Subject.{Run}
use Rattle.ids.specs.declared.names.EventName.{EventName}
use Rattle.ids.specs.declared.names.VatNo.{VatNo}
use Rattle.ids.specs.declared.names.MsgId.{MsgId}
use Rattle.post.specs.Messages.{Message}
use Rattle.world_cells.specs.Events.{turn, Event}
use Rattle.world_cells.specs.World.{World, empty}
use Rattle.event.specs.Events.{events, letters_from, AreNew}
use Rattle.event.specs.Laws.{CanHappen, HasNoMessage}
use Rattle.event.specs.Ready.{IsReady}

-- none of these events has this name
abbrev pub IsNewName : EventName → List Event → Type 0
IsNewName e es = AllByRecursion (λ d. d.name ≡ e → ⊥) es

-- from the empty world these events ran to this one, the newest first, and none of them has this name
abbrev pub RanWithout : EventName → List Event → World → Type 0
RanWithout e es w = ∥ Run events empty es w ∥₁ × IsNewName e es

-- then no message there has this name
abbrev pub OthersSendNothingOfIt : Type 0
OthersSendNothingOfIt = (e : EventName) (es : List Event) (w : World) → RanWithout e es w → HasNoMessage e w

-- so whatever a turn of this name sends is new
abbrev pub SendsAreNew : Type 0
SendsAreNew = (e : EventName) (es : List Event) (w : World) → RanWithout e es w → (letters : List (MsgId × Message)) → AreNew w (letters_from e 0 letters)

-- and such a turn can happen at some vat exactly where its message is ready
abbrev pub NewTurnsWantReadyMessages : Type 0
NewTurnsWantReadyMessages = (e : EventName) (es : List Event) (w : World) → RanWithout e es w → (m : MsgId) (budget : ℕ)
    → ((v : VatNo) × CanHappen (record { name = e; act = turn v m budget }) w) ↔ IsReady w m
