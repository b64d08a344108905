-- What the program works out of an event before it is entered.
use Rattle.std.specs.Prelude.{◌≡◌, List, [], ◌∷◌, ◌++◌, map, Some}
use Rattle.std.specs.List.{list_any}
use Rattle.history.specs.Subject.{touches}
use Rattle.history.specs.Records.{Record, Writes}
use Rattle.ids.specs.CellKeys.{same_key}
use Rattle.ids.specs.declared.names.EventName.{EventName}
use Rattle.ids.specs.declared.names.VatNo.{VatNo}
use Rattle.ids.specs.declared.names.MsgId.{MsgId}
use Rattle.ids.specs.declared.names.PromId.{PromId}
use Rattle.ids.specs.declared.cells.CellKey.{CellKey}
use Rattle.ids.specs.declared.cells.CellKey.TheVariants as key
use Rattle.kernele.specs.Tree.{Name}
use Rattle.heap.specs.State as heap
use Rattle.heap.specs.State.{Cell}
use Rattle.heap.specs.Found.{touched_in}
use Rattle.eval_rules.specs.OutboxView.{letter_of, note_of}
use Rattle.eval_rules.specs.PublicationsView.{publications_of}
use Rattle.world_cells.specs.Events.{Event, with_notes}
use Rattle.post.specs.Messages.{Message, Published}
use Rattle.post.specs.declared.earlier.Earlier.{Earlier}
use Rattle.world_cells.specs.World.{World, message}
use Rattle.world_cells.specs.Theory.{cells, kepts_of}
use Rattle.event.specs.Entries.{entries_of, keys_in}
use Rattle.event.specs.Events.{AreNew, letters_from, Foot, DoesNoted, noted_events, Turn, TurnLeaves, Leaves, first_promise, turn_foot, learnt, learn_foot}
use Rattle.turn_deliveries.specs.Outcomes.{outcome_on, written_by}
use Rattle.turn_deliveries.specs.declared.outcome.Outcome as code
use Rattle.event.specs.ReadyView.{IsWay}
use Rattle.event.specs.declared.effects.Effects.{Effects}
use Rattle.event.specs.declared.ready.Way.{Way}

-- these are the cells that an event of this name and footprint touches, and a record of what it writes
pub record Brings (e : EventName) (f : Foot) (touched : List CellKey) (kept : Record cells) : Type 0 where
  pub touch : (k : CellKey) → list_any (same_key k) touched ≡ touches noted_events f k
  pub write : Writes noted_events e.0 f kept

-- what was worked out of an event that is possible: its footprint, as cells that it touches and records of what it writes, and the notes
-- that it makes
pub record Happens (e : Event) (f : Foot) (w : World) (it : Effects) : Type 0 where
  pub does : ∥ DoesNoted (with_notes e (map note_of it.notes.items)) w f ∥₁
  pub brings : Brings e.name f it.touched.items (kepts_of it.records.items)

-- the turn of a message at a vat in this state, which had this outcome
abbrev pub turn_of : Message → VatNo → code.Outcome → heap.State → Turn
turn_of g v o u = record { message = g; vat = v; outcome = outcome_on o u; touched = touched_in o.footprint; written = written_by o }

-- earlier vats by their names and numbers, each with the promise for the result of its opening
abbrev pub known_by : List Name → List VatNo → List Earlier
known_by (x ∷ xs) (v ∷ vs) = record { name = x; opening = first_promise v.0 v } ∷ known_by xs vs
known_by _ _ = []

-- these are the cells that a turn touches, what it writes, and its notes
pub record BringsTurn (e : EventName) (w : World) (m : MsgId) (t : Turn) (it : Effects) : Type 0 where
  pub cells : List Cell
  pub left : List (Cell × heap.Content)
  pub leaves : TurnLeaves t cells left
  pub brings : Brings e (turn_foot e w m t cells left) it.touched.items (kepts_of it.records.items)
  pub noted : map note_of it.notes.items ≡ t.outcome.out.notes

-- these are the cells that a vat touches which learns what a promise was published as, and what it writes; it makes no notes
pub record BringsLearnt (e : EventName) (w : World) (v : VatNo) (p : PromId) (b : Published) (it : Effects) : Type 0 where
  pub cells : List Cell
  pub left : List (Cell × heap.Content)
  pub leaves : Leaves (learnt w v p b).touched (learnt w v p b).written (learnt w v p b).state cells left
  pub brings : Brings e (learn_foot v p cells left) it.touched.items (kepts_of it.records.items)
  pub quiet : it.notes.items ≡ []

-- the cells that a turn touches: what was looked at to know that it is ready and what it published, then those of its vat, then the messages
-- that it made and its own
abbrev pub turn_keys : EventName → MsgId → Way → VatNo → code.Outcome → List CellKey
turn_keys e m way v o =
    (map key.Board way.through.items ++ (map key.Msg way.awaited ++ map (λ b. key.Board b.0) (publications_of o.out.publications)))
    ++ (keys_in v (entries_of o.footprint) ++ (map (λ p. p.0) (letters_from e 0 (map letter_of o.out.letters.items)) ++ key.Msg m ∷ []))

-- where the message is there, what its turn sends is new, and this is the way of its target, these are the effects of the turn, whatever its
-- vat's state was
abbrev pub AreTurnEffects : EventName → World → MsgId → Message → Way → VatNo → code.Outcome → Effects → Type 0
AreTurnEffects e w m g way v o it =
    w (key.Msg m) ≡ Some (message g) → AreNew w (letters_from e 0 (map letter_of o.out.letters.items)) → IsWay w v g way
    → (u : heap.State) → BringsTurn e w m (turn_of g v o u) it
