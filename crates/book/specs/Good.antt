-- What holds of every book, for those who read its journal.
use Rattle.std.specs.Prelude.{◌≡◌, ◌<◌, ◌≤◌, true, List, [], ◌∷◌, map, filter, None, Some, is_some, length}
use Rattle.std.specs.List.{AllByRecursion}
use Rattle.history.specs.Subject.{after, new, touches}
use Rattle.history.specs.Journal.{Entry, name_of, is_in, live_set, Distinct, Sound}
use Rattle.ids.specs.declared.names.EventName.{EventName}
use Rattle.ids.specs.declared.cells.CellKey.{CellKey}
use Rattle.kernele.specs.Tree.{Name}
use Rattle.post.specs.Messages.{Vat}
use Rattle.world_cells.specs.Events.{Event, event_in}
use Rattle.world_cells.specs.World.{World, empty, vat_named}
use Rattle.event.specs.Events.{Foot, DoesNoted, events}
use Rattle.journal.specs.Lines.{plain, entries_in}
use Rattle.book_refusals.specs.Checks.{missing_refusal, redo_refusal, undo_refusal}
use Rattle.book.specs.Books.{Book, open_count, settled_lines}
use Rattle.book.specs.Calls.{SameSet, Undoes}
use Rattle.book.specs.declared.book.TheConstants.{MOST_ENTRIES}

-- each cause of an entry is the event of an older one, the newest first
abbrev pub CausesAreOlder : List (Entry plain) → Type 0
CausesAreOlder [] = Unit {0}
CausesAreOlder (e ∷ es) = AllByRecursion (λ n. is_in (map (name_of plain) es) n ≡ true) e.causes × CausesAreOlder es

-- an entry has the cells that a footprint touches, and those that it writes
pub record HasFoot (e : Entry plain) (f : Foot) : Type 0 where
  pub touched : (k : CellKey) → touches plain e.foot k ≡ touches events f k
  pub written : (k : CellKey) → is_some (new plain e.foot k) ≡ is_some (new events f k)

-- entries, the newest first, are those of a run from the empty world to this one: each event is possible where it comes, and its entry has the
-- notes that it makes there, and the cells that it touches and writes
pub data RunsWithCells : List (Entry plain) → World → Type 0 where
  runs_none : RunsWithCells [] empty
  runs_more : {e : Entry plain} {es : List (Entry plain)} {w : World} {f : Foot} → RunsWithCells es w → DoesNoted e.event w f → HasFoot e f → RunsWithCells (e ∷ es) (after events f w)

-- names are apart and were drawn, causes are older entries, the live ones have their causes among the live ones, and no others, the live ones are
-- a run to the world, each with the notes that it made there and the cells that it touched and wrote, what is settled is live, and behind it
-- there is no more than a journal may have
pub record IsGood (b : Book) : Type 0 where
  pub distinct : Distinct plain (entries_in b.journal)
  pub drawn : AllByRecursion (λ e. name_of plain e < b.next) (entries_in b.journal)
  pub older : CausesAreOlder (entries_in b.journal)
  pub sound : Sound plain (live_set plain) (entries_in b.journal)
  pub footprints : ∥ RunsWithCells (filter (live_set plain) (entries_in b.journal)) b.world ∥₁
  pub base : b.settled ≤ length b.journal
  pub settled : AllByRecursion (λ l. l.entry.live ≡ true) (settled_lines b)
  pub within : open_count b ≤ MOST_ENTRIES

-- the live events, the newest first
abbrev pub live_events : Book → List Event
live_events b = map (λ e. event_in e.event) (filter (live_set plain) (entries_in b.journal))

-- a redo of what was just undone, in whatever order and however often its events are named, is refused for want of memory alone
abbrev pub RedoNextIsAllowed : Book → Type 0
RedoNextIsAllowed b = (names others : List EventName) (between : Book) → undo_refusal b.settled b.journal names ≡ None → Undoes names b between →
    SameSet names others b.journal → missing_refusal others b.journal ≡ None → redo_refusal between.settled between.journal others ≡ None

-- no two names stand for one vat
abbrev pub NamesVatsOnce : World → Type 0
NamesVatsOnce w = (x y : Name) (u v : Vat) → vat_named w x ≡ Some u → vat_named w y ≡ Some v → v.number ≡ u.number → y ≡ x
