-- Who from outside a set came of a member.
use Rattle.std.specs.Prelude.{ℕ, Bool, false, not, ◌&&◌, List, Option, Some, nat_lt}
use Rattle.std.specs.Option.{option_map, option_map_or, option_and_then}
use Rattle.ids.specs.declared.names.EventName.{EventName}
use Rattle.journal_links.specs.declared.places.Places.{Places}
use Rattle.journal.specs.Items.{Item, wrote_one_of}
use Rattle.journal.specs.Links.{open_at}
use Rattle.causality.specs.Placed.{least_place, name_there}
use Rattle.causality.specs.Selections.{gap}
use Rattle.causality.specs.Walks.{is_of}
use Rattle.causality.specs.declared.selection.Gap.{Gap}

-- an item is live and outside a set, and touched what another wrote
abbrev pub parts_from : List EventName → Item → Item → Bool
parts_from names i j = j.live && (not (is_of names j) && wrote_one_of i j)

-- what stands at a place behind that of an item does so
abbrev pub parts_at : List EventName → List Item → ℕ → Item → ℕ → ℕ → Bool
parts_at names opens settled i p q = nat_lt p q && option_map_or (parts_from names i) (open_at opens settled (Some q)) false

-- the first of some events that does so
abbrev pub parting : Places → List EventName → List EventName → List Item → ℕ → List Item → Item → ℕ → Option EventName
parting places listed names opens settled items i p = name_there items (least_place places (parts_at names opens settled i p) listed)

-- the entry at a place, if it is not settled, and the first that does so behind it
abbrev pub gap_at : Places → List EventName → List EventName → List Item → ℕ → List Item → ℕ → Option Gap
gap_at places listed names opens settled items p = option_and_then (λ i. option_map (gap i.event.name) (parting places listed names opens settled items i p)) (open_at opens settled (Some p))
