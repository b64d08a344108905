-- What the program finds by the places that a journal keeps of names.
use Rattle.std.specs.Prelude.{ℕ, Bool, false, cond, not, ◌&&◌, List, map, Option, Some, None, min, nat_lt, slice_get}
use Rattle.std.specs.Option.{option_map_or, option_and_then}
use Rattle.std.specs.List.{fold, list_any}
use Rattle.history.specs.Chains.{is_name}
use Rattle.ids.specs.declared.names.EventName.{EventName}
use Rattle.journal_links.specs.Places.{place_of}
use Rattle.journal_links.specs.declared.places.Places.{Places}
use Rattle.journal.specs.Items.{Item}
use Rattle.journal.specs.Links.{names_of, open_at}
use Rattle.journal.specs.declared.entry.Mark.{Mark}
use Rattle.journal.specs.declared.entry.Mark.TheVariants as mark
use Rattle.causality.specs.Causes.{passes_at}
use Rattle.causality.specs.Walks.{is_of}
use Rattle.causality.specs.declared.selection.Asked.{Asked}
use Rattle.causality.specs.declared.selection.Asked.TheVariants as asked

-- an item has this mark
abbrev pub is_marked : Mark → Item → Bool
is_marked mark.Live i = i.live
is_marked mark.Undone i = not i.live

-- the item at a place is as asked, where so many are settled
abbrev pub is_as : Asked → ℕ → List Item → ℕ → Bool
is_as asked.Settled base items p = nat_lt p base
is_as (asked.Marked m) base items p = passes_at (is_marked m) items p

-- a place, if there is one and it passes a test
abbrev pub kept_if : (ℕ → Bool) → Option ℕ → Option ℕ
kept_if test None = None
kept_if test (Some p) = cond (test p) (Some p) None

-- the lesser of two places, where there are two
abbrev pub lesser_place : Option ℕ → Option ℕ → Option ℕ
lesser_place None o = o
lesser_place (Some p) None = Some p
lesser_place (Some p) (Some q) = Some (min p q)

-- where an event stands, if it is as asked there
abbrev pub place_if : Places → (ℕ → Bool) → EventName → Option ℕ
place_if places test e = kept_if test (place_of places e)

-- the least place where one of these stands and is as asked
abbrev pub least_place : Places → (ℕ → Bool) → List EventName → Option ℕ
least_place places test names = fold lesser_place None (map (place_if places test) names)

-- the name at a place
abbrev pub name_there : List Item → Option ℕ → Option EventName
name_there items place = option_and_then (λ p. slice_get (names_of items) p) place

-- an event is live, not settled and outside a set
abbrev pub is_outsider : List EventName → List Item → ℕ → Places → EventName → Bool
is_outsider names opens settled places e = option_map_or (λ i. i.live && not (is_of names i)) (open_at opens settled (place_of places e)) false

-- an item follows an event, which was the last writer of a cell that it touched
abbrev pub follows : ℕ → Item → Bool
follows n i = list_any (λ p. is_name p.1 n) i.lasts

-- what stands at a place is live, not settled, and follows an event
abbrev pub is_follower : ℕ → List Item → ℕ → ℕ → Bool
is_follower n opens settled p = option_map_or (λ i. i.live && follows n i) (open_at opens settled (Some p)) false
