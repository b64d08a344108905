-- What lies under the lock, and how the lists of the seats stand to it.
use Rattle.std.specs.Prelude.{◌≡◌, ℕ, ◌+◌, ◌==◌, nat_lt, ◌&&◌, Bool, true, false, List, [], ◌∷◌, ◌++◌, map, length, slice_index_or, IsPermutation, refl}
use Rattle.std.specs.Coded.{Coded, code_by, coded×, coded_ℕ}
use Rattle.std.specs.List.{AllByRecursion, list_any}
use Rattle.ids.specs.declared.names.EventName.{EventName}
use Rattle.world_cells.specs.Events.{Event}
use Rattle.world_cells.specs.EventView.{event_of}
use Rattle.world_cells.specs.declared.event.Event as code
use Rattle.desk.specs.Desks.{Lent, without}
use Rattle.book_refusals.specs.declared.fault.BookFault.{BookFault}
use Rattle.book_refusals.specs.declared.fault.BookFault.TheVariants as fault
use Rattle.book.specs.Books.{Book}
use Rattle.bench_pact.specs.declared.TokenView.{TokenView}
use Rattle.bench_pact.specs.contracts.Deeds as deeds
use Rattle.bench_pact.specs.declared.Deeds.{Deeds}
use Rattle.bench_pact.specs.declared.Act.{Act}
use Rattle.bench_pact.specs.declared.Act.TheVariants.{Nothing, Enters, Gives, Opens, Closes}
use Rattle.bench_pact.specs.Agree.{blank, after, IsKeeper, IsHolder, strike}
use Rattle.book.specs.Entered.{Entered, entered_in, IsAmong}
use Rattle.book_crew.specs.Work.{is_turn}
use Rattle.bench.specs.Seats.{events_by, turns_in}
use Rattle.bench.specs.declared.under_lock.TheConstants.{LAST_SEAT}

-- a seat, as contracts see it: its number, its place among the seats of its Bench, and what it has done
pub record Held : Type 0 where
  pub number : ℕ
  pub place : ℕ
  pub deeds : Deeds

-- which is stored as the pairs of its fields
abbrev pub held_code : Coded Held
held_code = code_by (ℕ × (ℕ × Deeds)) (coded× coded_ℕ (coded× coded_ℕ deeds.the_row.coded)) (λ h. (h.number, (h.place, h.deeds))) (λ p. record { number = p.0; place = p.1.0; deeds = p.1.1 }) (λ _. refl)

-- the events of deeds
abbrev pub events_of : Deeds → List Event
events_of d = map event_of d.events

-- a number is among these
abbrev pub is_among : EventName → List EventName → Bool
is_among n ns = list_any (λ k. k.0 == n.0) ns

-- each ticket of the seat that is out is among these
abbrev pub AreOpen : ℕ → List Lent → List EventName → Type 0
AreOpen seat out numbers = AllByRecursion (λ t. t.seat ≡ seat → is_among t.number numbers ≡ true) out

-- WHAT HOLDS OF A SEAT: the entries with its number are just its list, each once, in whatever order they stand, and each ticket of it
-- that is out is open with it
pub record Answers (number : ℕ) (deeds : Deeds) (b : Book) : Type 0 where
  pub list : IsPermutation (events_by number (entered_in b.journal)) (events_of deeds)
  pub tickets : AreOpen number b.out deeds.tickets

-- that holds of each place, whose number is its own, at a book; who has no place has no entry and no ticket
abbrev pub Agrees : ℕ → Book → List Deeds → Type 0
Agrees first b all = (place : ℕ) → Answers (first + place) (slice_index_or all place blank) b

-- THE INVARIANT of a shared book, which has made so many seats, of which the first has this number: the keeper knows what each seat has done,
-- that holds of all, and what was entered before is there still
pub record IsSharedBook (first made : ℕ) (began : List Entered) (keeper : TokenView) (b : Book) : Type 0 where
  pub keeps : IsKeeper keeper
  pub count : made ≡ length keeper.all
  pub agrees : Agrees first b keeper.all
  pub still : IsAmong began (entered_in b.journal)

-- the invariant of a seat of this number, which counts its events and the turns among them
pub record IsSeat (first number tally turns : ℕ) (v : TokenView) : Type 0 where
  pub holds : IsHolder v
  pub named : number ≡ first + v.place
  pub counted : tally ≡ length v.deeds.events
  pub turned : turns ≡ turns_in (events_of v.deeds)

-- the seat after an act
abbrev pub held : Held → Act → Held
held h act = record { number = h.number; place = h.place; deeds = after act h.deeds }

-- turns are given, and other events entered
abbrev pub IsFit : Act → Type 0
IsFit Nothing = Unit {0}
IsFit (Enters e) = is_turn (event_of e.value).act ≡ false
IsFit (Gives e) = is_turn (event_of e.value).act ≡ true
IsFit (Opens n) = Unit {0}
IsFit (Closes n) = Unit {0}

-- an event is added to a seat's list, and nothing else changes
pub record Adds (e : Event) (old now : Held) : Type 0 where
  pub added : code.Event
  pub event : event_of added ≡ e
  pub seat : now ≡ record { number = old.number; place = old.place; deeds = record { events = old.deeds.events ++ added ∷ []; tickets = old.deeds.tickets } }

-- the same of the event of a ticket, which is no longer open
pub record Returns (e : Event) (old now : Held) : Type 0 where
  pub added : code.Event
  pub event : event_of added ≡ e
  pub seat : now ≡ record { number = old.number; place = old.place; deeds = record { events = old.deeds.events ++ added ∷ []; tickets = strike e.name old.deeds.tickets } }

-- a stale ticket is no longer open with the seat that gave it; another refusal changes nothing
abbrev pub refused : BookFault → EventName → Held → Held
refused fault.Stale n h = held h (Closes n)
refused _ n h = h

-- what a refused ticket leaves of the book: a stale one is let go, and nothing else changes
abbrev pub left_by : BookFault → EventName → Book → Book
left_by fault.Stale n b = record b { out = without n b.out }
left_by _ n b = b

-- there is one more seat: the ledger has a part for it, and a number is left, above the greatest one from before
abbrev pub has_seat : (before made seats : ℕ) → Bool
has_seat before made seats = nat_lt made seats && nat_lt (before + made) LAST_SEAT
