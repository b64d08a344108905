-- Where the entry of a writer stands, and the places that a set of places has.
use Rattle.std.specs.Prelude.{◌≡◌, ℕ, Bool, true, false, ◌==◌, List, Option, Some, slice_get, option_and_then}
use Rattle.std.specs.List.{list_any, AllByRecursion}
use Rattle.std.specs.Option.{option_map_or}
use Rattle.history.specs.Journal.{is_in}
use Rattle.ids.specs.declared.names.EventName.{EventName}
use Rattle.ids.specs.declared.cells.CellKey.{CellKey}
use Rattle.journal.specs.Items.{Item}
use Rattle.journal.specs.Lines.{wrote_cell, reached}
use Rattle.journal_links.specs.Places.{place_of}
use Rattle.journal_links.specs.declared.places.Places.{Places}

-- where the entry of a writer stands
abbrev pub writer_place : Places → Option EventName → Option ℕ
writer_place places writer = option_and_then (place_of places) writer

-- a place is among these
abbrev pub has_place : List ℕ → ℕ → Bool
has_place places q = list_any (λ p. p == q) places

-- the item at a place passes a test
abbrev pub passes_at : (Item → Bool) → List Item → ℕ → Bool
passes_at test items q = option_map_or test (slice_get items q) false

-- whoever of these items it names wrote the cell
abbrev pub IsWriter : List Item → CellKey → Option ℕ → Type 0
IsWriter items k writer = AllByRecursion (λ a. writer ≡ Some (a.event.name.0) → wrote_cell a k ≡ true) items

-- the item at a place is reached from a writer of a cell
abbrev pub reached_at : List Item → CellKey → Option ℕ → ℕ → Bool
reached_at items k writer q = passes_at (λ i. is_in (reached items k writer) i.event.name.0) items q

-- the number of the event at a place
abbrev pub number_at : List Item → ℕ → ℕ
number_at items q = option_map_or (λ i. i.event.name.0) (slice_get items q) 0
