-- What it means that a set lacks nothing, in the words of the theory of undo.
use Rattle.std.specs.Prelude.{◌≡◌, ◌↔◌, true, List, None, map, filter}
use Rattle.std.specs.List.{AllByRecursion}
use Rattle.history.specs.Journal.{live_set, both, Sound, Closed}
use Rattle.ids.specs.declared.names.EventName.{EventName}
use Rattle.journal.specs.Items.{Item}
use Rattle.journal.specs.Lines.{plain, Line, entries_in, lines_of}
use Rattle.journal.specs.declared.entry.Mark.TheVariants as mark
use Rattle.causality.specs.Journals.{IsJournal}
use Rattle.causality.specs.Selections.{name_of, among, chosen, first_marked, first_gap, first_missing_cause, first_crossing}

-- a set of lines that is closed: it has each live line that has one of its members as a cause
abbrev pub ClosedIn : List EventName → List Line → Type 0
ClosedIn names lines = Closed plain (live_set plain) (among names) (entries_in lines)

-- the cone of a live event: the least closed set that has it, in the order of the journal
pub record Cone (lines : List Line) (root : EventName) (names : List EventName) : Type 0 where
  pub in_order : names ≡ map name_of (filter (chosen names) lines)
  pub has_root : AllByRecursion (λ l. (name_of l).0 ≡ root.0 → chosen names l ≡ true) lines
  pub live : AllByRecursion (λ l. chosen names l ≡ true → l.entry.live ≡ true) lines
  pub closed : ClosedIn names lines
  pub least : (others : List EventName) → ClosedIn others lines → AllByRecursion (λ l. (name_of l).0 ≡ root.0 → chosen others l ≡ true) lines → AllByRecursion (λ l. chosen names l ≡ true → chosen others l ≡ true) lines

-- a set of live events has no gap exactly where it is closed
abbrev pub GapsAreExact : Type 0
GapsAreExact = (items : List Item) (names : List EventName) → IsJournal items → (first_gap names (lines_of items) ≡ None) ↔ ClosedIn names (lines_of items)

-- what is live is sound together with a set exactly where no cause of a member is missing and no member crosses
abbrev pub CrossingsAreExact : Type 0
CrossingsAreExact = (items : List Item) (names : List EventName) → IsJournal items →
    ((first_missing_cause names (lines_of items) ≡ None) × (first_crossing names (lines_of items) ≡ None))
    ↔ Sound plain (both (live_set plain) (among names)) (entries_in (lines_of items))

-- a cone may be undone
abbrev pub ConesMayBeUndone : Type 0
ConesMayBeUndone = (items : List Item) (root : EventName) (names : List EventName) → IsJournal items → Cone (lines_of items) root names →
    (first_marked mark.Undone names (lines_of items) ≡ None) × (first_gap names (lines_of items) ≡ None)
