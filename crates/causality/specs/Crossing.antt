-- The first crossing of a set that is to be redone, as it is found by the places and the lists that a journal keeps.
use Rattle.std.specs.Prelude.{ℕ, Bool, false, cond, ◌&&◌, ◌||◌, List, map, Option, Some, None, is_some, nat_lt}
use Rattle.std.specs.List.{fold, list_any}
use Rattle.std.specs.Option.{option_map, option_map_or, option_and_then}
use Rattle.history_consequences.specs.Versions.{is_one}
use Rattle.ids.specs.CellKeys.{same_key}
use Rattle.ids.specs.declared.cells.CellKey.{CellKey}
use Rattle.ids.specs.declared.names.EventName.{EventName}
use Rattle.journal_links.specs.Places.{place_of}
use Rattle.journal_links.specs.Followers.{followers_of}
use Rattle.journal_links.specs.Heirs.{heirs_of}
use Rattle.journal_links.specs.declared.places.Places.{Places}
use Rattle.journal_links.specs.declared.followers.Followers.{Followers}
use Rattle.journal_links.specs.declared.heirs.Heirs.{Heirs}
use Rattle.journal.specs.Items.{Item}
use Rattle.journal.specs.Lines.{writer_of}
use Rattle.journal.specs.Links.{lister, names_of, open_at}
use Rattle.causality.specs.Causes.{passes_at}
use Rattle.causality.specs.Placed.{kept_if, lesser_place, least_place, name_there}
use Rattle.causality.specs.Selections.{gap}
use Rattle.causality.specs.Walks.{is_of, stays}
use Rattle.causality.specs.declared.selection.Gap.{Gap}

-- an item has a record of a cell
abbrev pub wrote_key : CellKey → Item → Bool
wrote_key k i = list_any (λ r. same_key r.0 k) i.kept

-- an item wrote a cell that had this last writer
abbrev pub wrote_over : CellKey × Option ℕ → Item → Bool
wrote_over p f = is_one (writer_of f p.0) p.1 && wrote_key p.0 f

-- these are one version of a cell
abbrev pub is_version : CellKey × Option ℕ → CellKey × Option ℕ → Bool
is_version p q = same_key q.0 p.0 && is_one q.1 p.1

-- an item found a cell with this last writer
abbrev pub found_so : CellKey × Option ℕ → Item → Bool
found_so p i = list_any (is_version p) i.lasts

-- an item is in the way of another: it is live or of the set, it or the other is of the set, and it wrote a cell that had this last writer
abbrev pub hinders : List EventName → Item → CellKey × Option ℕ → Item → Bool
hinders names i cell f = (stays names f && (is_of names i || is_of names f)) && wrote_over cell f

-- what stands at a place is so, and stands before an item
abbrev pub hinders_at : List EventName → List Item → ℕ → Item → CellKey × Option ℕ → ℕ → Bool
hinders_at names items p i cell q = nat_lt q p && passes_at (hinders names i cell) items q

-- the first place of one that is so, among those that are listed, for one cell, and for all that the item touched
abbrev pub heir_place : Places → Heirs → List EventName → List Item → ℕ → Item → CellKey × Option ℕ → Option ℕ
heir_place places heirs names items p i cell = least_place places (hinders_at names items p i cell) (heirs_of heirs (lister cell.0 cell.1))

abbrev pub crossed_place : Places → Heirs → List EventName → List Item → ℕ → Item → Option ℕ
crossed_place places heirs names items p i = fold lesser_place None (map (heir_place places heirs names items p i) i.lasts)

-- the entry at a place, if it is not settled, and the first that is in its way
abbrev pub crossing_at : Places → Heirs → List EventName → List Item → ℕ → List Item → ℕ → Option Gap
crossing_at places heirs names opens settled items p =
    option_and_then (λ i. option_map (gap i.event.name) (name_there items (crossed_place places heirs names items p i))) (open_at opens settled (Some p))

-- what stands at a place behind another is live or of the set, not settled, and found a cell with this last writer
abbrev pub finds_at : List EventName → List Item → ℕ → ℕ → CellKey × Option ℕ → ℕ → Bool
finds_at names opens settled p cell q = nat_lt p q && option_map_or (λ i. stays names i && found_so cell i) (open_at opens settled (Some q)) false

-- the first place of one that does so, among those that are listed, or where no list is kept, among all
abbrev pub listed_place : Places → List EventName → List Item → ℕ → ℕ → CellKey × Option ℕ → Option (List EventName) → Option ℕ
listed_place places names opens settled p cell None = least_place places (finds_at names opens settled p cell) (names_of opens)
listed_place places names opens settled p cell (Some es) = least_place places (finds_at names opens settled p cell) es

-- so for the cells that an item wrote
abbrev pub finder_place : Places → Followers → List EventName → List Item → ℕ → ℕ → Item → Option ℕ
finder_place places followers names opens settled p i =
    fold lesser_place None (map (λ cell. cond (wrote_key cell.0 i) (listed_place places names opens settled p cell (followers_of followers (lister cell.0 cell.1))) None) i.lasts)

-- the first place where somebody crosses on account of an event: its own, or that of one behind it
abbrev pub crossing_place : Places → Followers → Heirs → List EventName → List Item → ℕ → List Item → EventName → Option ℕ
crossing_place places followers heirs names opens settled items e =
    option_and_then (λ p. option_and_then (λ i. lesser_place (kept_if (λ q. is_some (crossing_at places heirs names opens settled items q)) (Some p)) (finder_place places followers names opens settled p i)) (open_at opens settled (Some p))) (place_of places e)
