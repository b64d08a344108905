-- The laws of events.
use Rattle.std.specs.Prelude.{◌≡◌, ◌⊎◌, ℕ, ◌↔◌, ◌&&◌, not, None, List, map}
use Rattle.std.specs.List.{list_any, AllByRecursion}
use Rattle.ids.specs.declared.names.EventName.{EventName}
use Rattle.ids.specs.declared.names.VatNo.{VatNo}
use Rattle.ids.specs.declared.names.MsgId.{MsgId}
use Rattle.ids.specs.declared.names.PromId.{PromId}
use Rattle.ids.specs.declared.cells.CellKey.{CellKey}
use Rattle.ids.specs.declared.cells.CellKey.TheVariants as key
use Rattle.heap.specs.State as heap
use Rattle.heap.specs.State.{Cell, same_cell}
use Rattle.post.specs.Messages.{Published}
use Rattle.sends.specs.Table.{among}
use Rattle.eval_rules.specs.Outcomes.{Cause}
use Rattle.turn_deliveries.specs.Table.{delivery_foot}
use Rattle.turn_deliveries.specs.Turn.{lost}
use Rattle.world_cells.specs.Events.{turn, Event}
use Rattle.world_cells.specs.World.{Content, World, vat_state}
use Rattle.event.specs.Events.{Foot, Does, notes_of, Leaves, learnt, is_lost, Turn, Turns, TurnLeaves, turn_foot}
use Rattle.event.specs.Ready.{IsReady}
use Rattle.event.specs.Table.{learn_touches}

-- an event can happen in a world
abbrev pub CanHappen : Event → World → Type 0
CanHappen e w = (f : Foot) × Does e w f

-- an event makes the same notes in one world, in whatever order its footprint lists its cells
abbrev pub NotesAreOnce : Type 0
NotesAreOnce = (e : Event) (w : World) (f g : Foot) (d : Does e w f) (c : Does e w g) → notes_of d ≡ notes_of c

-- there is no message of an event in a world
abbrev pub HasNoMessage : EventName → World → Type 0
HasNoMessage e w = (i : ℕ) → w (key.Msg (record { event = e; index = i })) ≡ None

-- a turn can happen at some vat exactly where its message is ready, at whatever event that has sent nothing yet, and with whatever budget
abbrev pub ReadyMessagesHaveTurns : Type 0
ReadyMessagesHaveTurns = (e : EventName) (w : World) (m : MsgId) (budget : ℕ) → HasNoMessage e w → ((v : VatNo) × CanHappen (record { name = e; act = turn v m budget }) w) ↔ IsReady w m

-- of the cells of its vat, a turn touches just those that the table has for its delivery, and writes just those, if it is not abandoned
abbrev pub TurnsTouchByTheTable : Type 0
TurnsTouchByTheTable = (e : EventName) (w : World) (m : MsgId) (budget : ℕ) (t : Turn) (cells : List Cell) (left : List (Cell × heap.Content)) (h : Turns e w m budget t) → TurnLeaves t cells left
    → (c : Cell) → (list_any (same_cell c) cells ≡ among (delivery_foot h.delivers.0).touched c)
    × (list_any (same_cell c) (map (λ p. p.0) left) ≡ (not (is_lost t.outcome.told) && among (delivery_foot h.delivers.0).written c))

-- so does a vat that learns what a promise was published as
abbrev pub VatsLearnByTheTable : Type 0
VatsLearnByTheTable = (w : World) (v : VatNo) (p : PromId) (b : Published) (cells : List Cell) (left : List (Cell × heap.Content)) → Leaves (learnt w v p b).touched (learnt w v p b).written (learnt w v p b).state cells left
    → (c : Cell) → (list_any (same_cell c) cells ≡ among (learn_touches (vat_state w v) p b).touched c) × (list_any (same_cell c) (map (λ p. p.0) left) ≡ among (learn_touches (vat_state w v) p b).written c)

-- a cell is that of a message, or the place of a promise on the board
abbrev pub IsMessageOrBoard : MsgId → PromId → CellKey → Type 0
IsMessageOrBoard m p k = (k ≡ key.Msg m) ⊎ (k ≡ key.Board p)

-- an abandoned turn writes nothing but its message and the board of its result
abbrev pub AbandonedTurnsWriteTwoCells : Type 0
AbandonedTurnsWriteTwoCells = (e : EventName) (w : World) (m : MsgId) (budget : ℕ) (t : Turn) (cells : List Cell) (left : List (Cell × heap.Content)) → Turns e w m budget t → TurnLeaves t cells left
    → (why : Cause) → t.outcome.told ≡ lost why → AllByRecursion (λ (p : CellKey × Content). IsMessageOrBoard m t.message.result p.0) (turn_foot e w m t cells left).writes
