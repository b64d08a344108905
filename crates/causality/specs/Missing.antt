-- The first cause that a set misses for a redo, as it is found by the places that a journal keeps.
use Rattle.std.specs.Prelude.{ℕ, Bool, cond, not, List, [], ◌∷◌, map, length, reverse, Option, Some, None}
use Rattle.std.specs.List.{fold}
use Rattle.std.specs.Option.{option_map, option_and_then, option_or}
use Rattle.history.specs.Chains.{is_name}
use Rattle.ids.specs.declared.cells.CellKey.{CellKey}
use Rattle.ids.specs.declared.names.EventName.{EventName}
use Rattle.journal_links.specs.declared.places.Places.{Places}
use Rattle.journal.specs.Items.{Item}
use Rattle.journal.specs.Lines.{writer_of}
use Rattle.journal.specs.Links.{open_at}
use Rattle.causality.specs.Causes.{passes_at}
use Rattle.causality.specs.Placed.{lesser_place, place_if, name_there}
use Rattle.causality.specs.Selections.{gap}
use Rattle.causality.specs.Walks.{stays}
use Rattle.causality.specs.declared.selection.Gap.{Gap}

-- where a writer stands, if it is neither live nor of the set
abbrev pub absent_place : Places → List EventName → List Item → Option EventName → Option ℕ
absent_place places names items None = None
absent_place places names items (Some e) = place_if places (λ p. not (passes_at (stays names) items p)) e

-- the oldest place that is met on the way back from a writer of a cell, along its last writers, until one passes a test; the newest item
-- comes first
abbrev pub met_back : (Item → Bool) → CellKey → Option ℕ → List Item → Option ℕ
met_back passes k o [] = None
met_back passes k o (a ∷ older) =
    cond (is_name o a.event.name.0) (cond (passes a) None (option_or (met_back passes k (writer_of a k) older) (Some (length older)))) (met_back passes k o older)

-- the oldest place that is met so from the last writers of the cells that an item touched, until one is live or of the set
abbrev pub missed_place : List EventName → List Item → Item → Option ℕ
missed_place names items i = fold lesser_place None (map (λ c. met_back (stays names) c.0 c.1 (reverse items)) i.lasts)

-- the entry at a place, if it is not settled, and the first that it misses
abbrev pub missing_at : List EventName → List Item → ℕ → List Item → ℕ → Option Gap
missing_at names opens settled items p = option_and_then (λ i. option_map (gap i.event.name) (name_there items (missed_place names items i))) (open_at opens settled (Some p))
