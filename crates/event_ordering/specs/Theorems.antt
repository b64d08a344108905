-- That turns keep the order of messages.
use Rattle.std.specs.Prelude.{◌≡◌, ◌⊎◌, ℕ, List, [], ◌∷◌, map, filter}
use Rattle.std.specs.List.{AllByRecursion}
use Rattle.history.specs.Subject.{Run}
use Rattle.history.specs.Journal.{live_set}
use Rattle.history.specs.Records.{Row, State, contents, entries_of}
use Rattle.history.specs.Stands.{Stands}
use Rattle.ids.specs.declared.names.MsgId.{MsgId}
use Rattle.eorder.specs.Deeds.{Deed}
use Rattle.eorder.specs.Journals.{worlds_of}
use Rattle.eorder.specs.Order.{Before}
use Rattle.eorder.specs.Worlds.{Worlds, seen, Ran, history}
use Rattle.world_cells.specs.Events.{Act, turn, Event, event_in}
use Rattle.world_cells.specs.World.{World, empty}
use Rattle.event.specs.Events.{events, noted_events}
use Rattle.event_ordering.specs.Deeds.{doing}

-- no two events have one name
abbrev pub HaveOwnNames : List Event → Type 0
HaveOwnNames [] = Unit {0}
HaveOwnNames (e ∷ es) = AllByRecursion (λ d. d.name ≡ e.name → ⊥) es × HaveOwnNames es

-- the worlds of a book, as the theory of the order of messages sees them
abbrev pub book : Worlds
book = worlds_of events doing

-- from the empty world these events ran to this one, the newest first, each by its deed
pub record RanFromNothing (es : List Event) (w : World) (ps : List (Event × Deed)) : Type 0 where
  pub events : map (λ p. p.0) ps ≡ es
  pub ran : Ran book empty ps w

-- the event is a turn of the message
abbrev pub IsTurnOf : MsgId → Act → Type 0
IsTurnOf m (turn v b budget) = b ≡ m
IsTurnOf m _ = ⊥

-- the message had its turn among these events; and so had b, with a's turn before it
abbrev pub HasTurn : List Event → MsgId → Type 0
HasTurn [] m = ⊥
HasTurn (e ∷ es) m = IsTurnOf m e.act ⊎ HasTurn es m

abbrev pub HasTurnBefore : List Event → MsgId → MsgId → Type 0
HasTurnBefore [] a b = ⊥
HasTurnBefore (e ∷ es) a b = (IsTurnOf b e.act × HasTurn es a) ⊎ HasTurnBefore es a b

-- by what these events did, a message is before another one in the partial order
abbrev pub IsBefore : List (Event × Deed) → MsgId → MsgId → Type 0
IsBefore ps a b = Before (seen book empty) (history book ps) a b

-- where b has its turn, each message that is before it has its turn before
abbrev pub KeepOrder : List (Event × Deed) → Type 0
KeepOrder ps = (a b : MsgId) → IsBefore ps a b → HasTurn (map (λ p. p.0) ps) b → HasTurnBefore (map (λ p. p.0) ps) a b

-- each run of events from the empty world is one of deeds
abbrev pub RunsAreDeeds : Type 0
RunsAreDeeds = (es : List Event) (w : World) → Run events empty es w → (ps : List (Event × Deed)) × RanFromNothing es w ps

-- and the turns of events with names of their own keep the order of messages
abbrev pub RunsKeepOrder : Type 0
RunsKeepOrder = (es : List Event) (w : World) (ps : List (Event × Deed)) → RanFromNothing es w ps → HaveOwnNames es → KeepOrder ps

-- the events of the live entries of a journal
abbrev pub live_events : List (Row noted_events) → List Event
live_events rows = map (λ e. event_in e.event) (filter (live_set noted_events) (entries_of rows))

-- so do those of a journal that stands, also after an undo, a redo or an exchange
abbrev pub JournalsKeepOrder : Type 0
JournalsKeepOrder = (next : ℕ) (rows : List (Row noted_events)) (state : State noted_events) → Stands noted_events empty next rows state
    → (ps : List (Event × Deed)) × RanFromNothing (live_events rows) (contents noted_events state) ps × KeepOrder ps

-- these events ran from nothing to this world, the newest first, and whatever deeds they ran by, their turns keep the order of messages
pub record InOrder (es : List Event) (w : World) : Type 0 where
  pub ran : ∥ ((ps : List (Event × Deed)) × RanFromNothing es w ps) ∥₁
  pub kept : (ps : List (Event × Deed)) → RanFromNothing es w ps → KeepOrder ps

-- each run of events with names of their own from the empty world is in order
abbrev pub RunsAreInOrder : Type 0
RunsAreInOrder = (es : List Event) (w : World) → ∥ Run events empty es w ∥₁ → HaveOwnNames es → InOrder es w
