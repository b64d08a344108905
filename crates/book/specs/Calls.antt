-- What the accepted calls of a book do.
use Rattle.std.specs.Prelude.{◌≡◌, ℕ, ◌+◌, ◌≤◌, true, ◌&&◌, ◌||◌, not, List, [], ◌∷◌, ◌++◌, map, filter, reverse, drop, is_some, Some, None, Contains}
use Rattle.std.specs.List.{AllByRecursion}
use Rattle.std.specs.Arc.{arc_value}
use Rattle.history.specs.Subject.{after, new, touches}
use Rattle.history.specs.Journal.{causes_of}
use Rattle.ids.specs.declared.names.EventName.{EventName}
use Rattle.ids.specs.declared.names.MsgId.{MsgId}
use Rattle.ids.specs.declared.names.PromId.{PromId}
use Rattle.ids.specs.declared.names.VatNo.{VatNo}
use Rattle.ids.specs.declared.cells.CellKey.{CellKey}
use Rattle.ids.specs.declared.cells.CellKey.TheVariants as key
use Rattle.heap.specs.State as heap
use Rattle.heap.specs.State.{Cell, pending, view_cell}
use Rattle.heap.specs.View.{state_of}
use Rattle.heap.specs.Found.{Found}
use Rattle.world_cells.specs.Events.{Act, Event, birth, ask, arrive, forward, learn, turn, Noted, event_in, with_notes}
use Rattle.post.specs.MessageView.{message_of}
use Rattle.post.specs.declared.message.Message as code-message
use Rattle.world_cells.specs.World as world
use Rattle.post.specs.Messages.{Vat, Message, Published, at_vat, flying, waits_at, arrived}
use Rattle.world_cells.specs.World.{message, published_as, vat_named, vat_state}
use Rattle.kernele.specs.Tree.{Name, Trees}
use Rattle.event.specs.Events.{Foot, DoesNoted, events, birth_foot, ask_foot, Turn, Turns, TurnLeaves, turn_foot}
use Rattle.event.specs.Forwarding.{onward_of}
use Rattle.event.specs.Naming.{Numbers}
use Rattle.event.specs.Ready.{leads_there, first_undone}
use Rattle.event.specs.Walks.{awaited, found_by}
use Rattle.book_agenda.specs.declared.agenda.Move.{Move}
use Rattle.book_agenda.specs.declared.agenda.Move.TheVariants as move
use Rattle.turn_deliveries.specs.Outcomes.{found_of}
use Rattle.turn_deliveries.specs.declared.lead.Lead.{Lead}
use Rattle.event.specs.Runs.{RunFrom, PlainRun}
use Rattle.event.specs.Effects.{turn_of}
use Rattle.turn.specs.declared.ticket.Out.{Out}
use Rattle.turn.specs.declared.ticket.Task.{Task}
use Rattle.turn.specs.declared.ticket.Ran.{Ran}
use Rattle.journal.specs.Lines.{plain, Line, entries_in, in_order}
use Rattle.journal.specs.Items.{exchanged}
use Rattle.causality.specs.Selections.{is_live, chosen}
use Rattle.desk.specs.Desks.{Lent, without}
use Rattle.book_refusals.specs.Refusals.{Refusal, no_ticket, stale, full}
use Rattle.book_refusals.specs.Checks.{undo_refusal}
use Rattle.book.specs.Books.{Book, settled_lines, open_lines}
use Rattle.book.specs.Refusals.{journal_full, birth_refusal, ask_refusal, arrival_refusal, forward_refusal, learn_refusal, learning_refusal, move_refusal, checkout_refusal}
use Rattle.book.specs.declared.book.TheConstants.{LAST_NAME}

-- the line of a new event from a seat: it has the event's notes, it is live, it has the cells that its footprint touches and writes, and as
-- its causes the live events before it that wrote a cell that it touches, the oldest first
pub record Tells (e : Noted) (f : Foot) (seat : ℕ) (lines : List Line) (l : Line) : Type 0 where
  pub event : l.entry.event ≡ e
  pub same_seat : l.seat ≡ seat
  pub live : l.entry.live ≡ true
  pub touched : (k : CellKey) → touches plain l.entry.foot k ≡ touches events f k
  pub written : (k : CellKey) → is_some (new plain l.entry.foot k) ≡ is_some (new events f k)
  pub causes : l.entry.causes ≡ reverse (causes_of plain l.entry.foot (entries_in lines))

-- an event that is possible, and makes these notes, is entered: the world goes one step, and the journal has one more line at its end
pub record Enters (e : Noted) (f : Foot) (seat : ℕ) (old now : Book) : Type 0 where
  pub does : ∥ DoesNoted e old.world f ∥₁
  pub step : now.world ≡ after events f old.world
  pub line : Line
  pub tells : Tells e f seat old.journal line
  pub entered : now.journal ≡ old.journal ++ line ∷ []

-- the same with the name that comes next, and without notes
pub record EntersNext (e : Event) (f : Foot) (seat : ℕ) (old now : Book) : Type 0 where
  pub named : e.name.0 ≡ old.next
  pub drawn : now.next ≡ old.next + 1
  pub same_settled : now.settled ≡ old.settled
  pub same_out : now.out ≡ old.out
  pub enters : Enters (with_notes e []) f seat old now

-- what the book notes of a ticket
abbrev pub lent_of : Task → Lent
lent_of t = record { number = t.event; message = t.name; vat = t.vat; budget = t.budget; seat = t.seat }

-- a vat of this name, which knows earlier ones, may be born with this script under the name that comes next; these are their numbers
abbrev pub AdmitsBirth : Book → Name → List Name → Trees → EventName → List VatNo → Type 0
AdmitsBirth b x earlier script e vats =
    (e.0 ≡ b.next) × (b.next ≤ LAST_NAME) × (b.world (key.Name x) ≡ None) × Numbers b.world earlier vats × (birth_refusal b x earlier script ≡ None)

-- it is born, from a seat
abbrev pub Births : Name → List Name → Trees → ℕ → EventName → Book → Book → Type 0
Births x earlier script seat e old now =
    (birth_refusal old x earlier script ≡ None)
    × ((vats : List Vat) × EntersNext (record { name = e; act = birth x earlier script }) (birth_foot e x earlier vats script) seat old now)

-- a program may be asked of the vat of this name under the name that comes next; this is the vat's number
abbrev pub AdmitsAsk : Book → Name → Trees → EventName → VatNo → Type 0
AdmitsAsk b x program e number =
    (e.0 ≡ b.next) × (b.next ≤ LAST_NAME) × ((v : Vat) × (vat_named b.world x ≡ Some v) × (v.number ≡ number)) × (ask_refusal b x program ≡ None)

-- it is asked, from a seat
abbrev pub Asks : Name → Trees → ℕ → EventName → Book → Book → Type 0
Asks x program seat e old now =
    (ask_refusal old x program ≡ None) × ((v : VatNo) × EntersNext (record { name = e; act = ask x program }) (ask_foot e x v program) seat old now)

-- the act of a move
abbrev pub act_of : Move → Act
act_of (move.Arrive m) = arrive m
act_of (move.Forward m) = forward m
act_of (move.Learn v p) = learn v p

-- a move is made, from a seat: a message arrives or goes on, or a vat learns what a promise was published as
abbrev pub Makes : Move → ℕ → EventName → Book → Book → Type 0
Makes m seat e old now = (move_refusal old m ≡ None) × ((f : Foot) × EntersNext (record { name = e; act = act_of m }) f seat old now)

-- the vat of this name learns what a promise was published as, from a seat
abbrev pub Learns : Name → PromId → ℕ → EventName → Book → Book → Type 0
Learns x p seat e old now =
    (learn_refusal old x p ≡ None)
    × ((v : Vat) × (f : Foot) × (vat_named old.world x ≡ Some v) × EntersNext (record { name = e; act = learn v.number p }) f seat old now)

-- a ticket carries a message of the world that is at its vat, where it leads, and the vat's state
pub record Carries (w : world.World) (t : Out) : Type 0 where
  pub waiting : w (key.Msg t.carried.name) ≡ Some (message (message_of t.carried.message))
  pub there : (message_of t.carried.message).place ≡ at_vat t.carried.vat
  pub lead : found_of t.carried.lead ≡ found_by w (message_of t.carried.message).delivery
  pub state : state_of (arc_value t.state) ≡ vat_state w t.carried.vat

-- a message may arrive under the name that comes next, and is this one then
pub record AdmitsArrival (b : Book) (m : MsgId) (e : EventName) (h : Message) : Type 0 where
  pub named : e.0 ≡ b.next
  pub refusal : arrival_refusal b m ≡ None
  pub message : Message
  pub there : world.message_of b.world m ≡ Some message
  pub arrives : arrived message ≡ Some h

-- a message may go on under the name that comes next, and is this one then; these are the promises on the way of its target
pub record AdmitsForward (b : Book) (m : MsgId) (e : EventName) (h : Message) (through : List PromId) : Type 0 where
  pub named : e.0 ≡ b.next
  pub refusal : forward_refusal b m ≡ None
  pub message : Message
  pub there : world.message_of b.world m ≡ Some message
  pub here : VatNo
  pub waits : waits_at message.place ≡ Some here
  pub to : VatNo
  pub onward : onward_of b.world here message ≡ Some (to, through)
  pub forwards : h ≡ record message { place = flying to }

-- a promise is open in a vat's view, and was published as this
pub record CanLearn (w : world.World) (v : VatNo) (p : PromId) (q : Published) : Type 0 where
  pub unresolved : vat_state w v (view_cell p) ≡ Some (heap.viewed pending)
  pub resolved : published_as w p ≡ Some q

-- a vat may learn what a promise was published as under the name that comes next
pub record AdmitsLearning (b : Book) (v : VatNo) (p : PromId) (e : EventName) (q : Published) : Type 0 where
  pub named : e.0 ≡ b.next
  pub refusal : learning_refusal b v p ≡ None
  pub can : CanLearn b.world v p q

-- a message at a vat may be delivered there
pub record IsReadyAt (w : world.World) (g : Message) (v : VatNo) : Type 0 where
  pub leads : leads_there w v g ≡ true
  pub in_order : first_undone w (awaited w g) ≡ None

-- a message may be delivered with this budget, as the turn of the name that comes next, and this is where it leads
pub record Admitted (b : Book) (m : MsgId) (budget : ℕ) (g : code-message.Message) (l : Lead) (v : VatNo) (e : EventName) : Type 0 where
  pub named : e.0 ≡ b.next
  pub refusal : checkout_refusal b m budget ≡ None
  pub waiting : b.world (key.Msg m) ≡ Some (message (message_of g))
  pub there : (message_of g).place ≡ at_vat v
  pub ready : IsReadyAt b.world (message_of g) v
  pub lead : found_of l ≡ found_by b.world (message_of g).delivery

-- a ticket for a message is lent to a seat: it has the name that comes next
pub record Lends (m : MsgId) (budget seat : ℕ) (t : Out) (old now : Book) : Type 0 where
  pub named : t.carried.event.0 ≡ old.next
  pub of_message : t.carried.name ≡ m
  pub same_budget : t.carried.budget ≡ budget
  pub same_seat : t.carried.seat ≡ seat
  pub carries : Carries old.world t
  pub ready : IsReadyAt old.world (message_of t.carried.message) t.carried.vat
  pub lent : now ≡ record old { next = old.next + 1; out = old.out ++ lent_of t.carried ∷ [] }

-- a ticket is out, and of a message that the world has it carries a copy, their places aside
pub record IsKnown (b : Book) (t : Task) : Type 0 where
  pub out : Contains b.out (lent_of t)
  pub copy : (g : Message) → b.world (key.Msg t.name) ≡ Some (message g) → record g { place = (message_of t.message).place } ≡ message_of t.message

-- the message of a ticket is ready at its vat, and leads where it led
pub record LeadsAsBefore (w : world.World) (t : Task) : Type 0 where
  pub ready : IsReadyAt w (message_of t.message) t.vat
  pub lead : found_of t.lead ≡ found_by w (message_of t.message).delivery

-- the message is still ready at its vat and leads where it led, and each cell that the turn touched holds what was found there
pub record IsFresh (b : Book) (r : Ran) : Type 0 where
  pub waiting : b.world (key.Msg r.carried.name) ≡ Some (message (message_of r.carried.message))
  pub there : (message_of r.carried.message).place ≡ at_vat r.carried.vat
  pub leads : LeadsAsBefore b.world r.carried
  pub found : Found r.outcome.footprint (vat_state b.world r.carried.vat)

-- why a turn that was run is refused
pub data RefusesCommit (b : Book) (r : Ran) : Refusal → Type 0 where
  strange : (IsKnown b r.carried → ⊥) → RefusesCommit b r no_ticket
  changed : IsKnown b r.carried → (IsFresh b r → ⊥) → RefusesCommit b r stale
  no_room : IsKnown b r.carried → IsFresh b r → journal_full b ≡ Some full → RefusesCommit b r full

-- an event is the turn of a message: this is the turn, with its notes, the cells that it touched and what it left
pub record EntersTurn (e : EventName) (m : MsgId) (budget seat : ℕ) (t : Turn) (old now : Book) : Type 0 where
  pub turns : ∥ Turns e old.world m budget t ∥₁
  pub cells : List Cell
  pub left : List (Cell × heap.Content)
  pub leaves : TurnLeaves t cells left
  pub enters : Enters (record { name = e; act = turn t.vat m budget; notes = t.outcome.out.notes }) (turn_foot e old.world m t cells left) seat old now

-- the turn that a ticket was run for
abbrev pub turn_in : world.World → Ran → Turn
turn_in w r = turn_of (message_of r.carried.message) r.carried.vat r.outcome (vat_state w r.carried.vat)

-- a turn that was run is entered, and its ticket is no longer out
pub record Commits (r : Ran) (old now : Book) : Type 0 where
  pub known : IsKnown old r.carried
  pub fresh : IsFresh old r
  pub room : journal_full old ≡ None
  pub enters : EntersTurn r.carried.event r.carried.name r.carried.budget r.carried.seat (turn_in old.world r) old now
  pub same_settled : now.settled ≡ old.settled
  pub same_next : now.next ≡ old.next
  pub out : now.out ≡ without r.carried.event old.out

-- a message is delivered under the name that comes next, and this is its turn
pub record TurnsNext (e : EventName) (m : MsgId) (budget : ℕ) (t : Turn) (old now : Book) : Type 0 where
  pub named : e.0 ≡ old.next
  pub drawn : now.next ≡ old.next + 1
  pub same_settled : now.settled ≡ old.settled
  pub same_out : now.out ≡ old.out
  pub enters : EntersTurn e m budget 0 t old now

-- a line is undone where it is chosen, or live again
abbrev pub undone : List EventName → Line → Line
undone names l = record l { entry = record (l.entry) { live = is_live l && not (chosen names l) } }

abbrev pub redone : List EventName → Line → Line
redone names l = record l { entry = record (l.entry) { live = is_live l || chosen names l } }

-- the lines with the chosen ones undone, or live again
abbrev pub undone_in : List EventName → List Line → List Line
undone_in names lines = map (undone names) lines

abbrev pub redone_in : List EventName → List Line → List Line
redone_in names lines = map (redone names) lines

-- the events of the live lines
abbrev pub live_events : List Line → List Event
live_events lines = map (λ l. event_in l.entry.event) (filter is_live lines)

-- the events of the live lines outside a set
abbrev pub rest_of : List EventName → List Line → List Event
rest_of names lines = map (λ l. event_in l.entry.event) (filter (λ l. is_live l && not (chosen names l)) lines)

-- an undo leaves the plain run of the rest
pub record Undoes (names : List EventName) (old now : Book) : Type 0 where
  pub rest : PlainRun (rest_of names old.journal) now.world
  pub marked : now.journal ≡ undone_in names old.journal
  pub same_settled : now.settled ≡ old.settled
  pub same_next : now.next ≡ old.next
  pub same_out : now.out ≡ old.out

-- a redo makes the events live again where they stand
pub record Redoes (names : List EventName) (old now : Book) : Type 0 where
  pub run : PlainRun (live_events (redone_in names old.journal)) now.world
  pub marked : now.journal ≡ redone_in names old.journal
  pub same_settled : now.settled ≡ old.settled
  pub same_next : now.next ≡ old.next
  pub same_out : now.out ≡ old.out

-- the line at a position, counted from 1, and the one behind it change places, and causes are named in the new order; the world is the same
pub record Exchanges (position : ℕ) (old now : Book) : Type 0 where
  pub places : (n : ℕ) → position ≡ n + 1 → now.journal ≡ map (in_order (exchanged n old.journal)) (exchanged n old.journal)
  pub same_world : now.world ≡ old.world
  pub same_settled : now.settled ≡ old.settled
  pub same_next : now.next ≡ old.next
  pub same_out : now.out ≡ old.out

-- two lists name the same events of a journal, in any order and however often
abbrev pub SameSet : List EventName → List EventName → List Line → Type 0
SameSet names others lines = AllByRecursion (λ l. chosen names l ≡ chosen others l) lines

-- where a book's world is the plain run of its live events: a redo of what was just undone gives back the former journal and world
abbrev pub RedoNextGivesBack : Type 0
RedoNextGivesBack = (names others : List EventName) (before between now : Book) → PlainRun (live_events before.journal) before.world →
    undo_refusal before.settled before.journal names ≡ None → Undoes names before between → SameSet names others before.journal → Redoes others between now →
    (now.world ≡ before.world) × (now.journal ≡ before.journal)

-- a world is the base of a book: the plain run of its settled events
abbrev pub IsBase : Book → world.World → Type 0
IsBase b w = PlainRun (live_events (settled_lines b)) w

-- there is a base from which the live events behind the settled ones lead to the world
abbrev pub RunsFromBase : Book → Type 0
RunsFromBase b = ∥ ((v : world.World) × IsBase b v × RunFrom v (live_events (open_lines b)) b.world) ∥₁

-- all lines up to a position are settled, and nothing else of the book changes
abbrev pub Settles : ℕ → Book → Book → Type 0
Settles position old now = now ≡ record old { settled = position }

-- the settled events of the first book lead to its base, and those that the second has more lead from there to the base of the second
abbrev pub BaseGoesOn : Book → Book → Type 0
BaseGoesOn old now = (v : world.World) → IsBase old v → ∥ ((w : world.World) × IsBase now w × RunFrom v (live_events (drop old.settled (settled_lines now))) w) ∥₁
