-- What the program finds as it goes over items, of which it knows no causes.
use Rattle.std.specs.Prelude.{◌&&◌, ◌||◌, ◌==◌, not, ℕ, Bool, cond, List, [], ◌∷◌, ◌++◌, Option, Some, None}
use Rattle.std.specs.Option.{option_map, option_or}
use Rattle.history.specs.Journal.{is_in}
use Rattle.ids.specs.declared.names.EventName.{EventName}
use Rattle.journal.specs.Items.{Item, wrote_one_of}
use Rattle.causality.specs.Selections.{numbers, first_some, gap}
use Rattle.causality.specs.Names.{wrote_last}
use Rattle.causality.specs.declared.selection.Gap.{Gap}

-- the item is of the set
abbrev pub is_of : List EventName → Item → Bool
is_of names i = is_in (numbers names) i.event.name.0

-- the name of the first item that passes a test
abbrev pub first_item : (Item → Bool) → List Item → Option EventName
first_item test items = first_some (λ i. cond (test i) (Some i.event.name) None) items

-- the first of these that is live, outside the set, and touched what an item wrote
abbrev pub follower : List EventName → Item → List Item → Option EventName
follower names a later = first_item (λ i. i.live && (not (is_of names i) && wrote_one_of a i)) later

-- the first of the set that is followed so by a later one, and that one
abbrev pub first_followed : List EventName → List Item → Option Gap
first_followed names [] = None
first_followed names (i ∷ later) = option_or (cond (is_of names i) (option_map (gap i.event.name) (follower names i later)) None) (first_followed names later)

-- an item joins: it is the root, or it is live and one of those that have joined was the last writer of a cell that it touched
abbrev pub joins : EventName → List ℕ → Item → Bool
joins root joined i = (i.event.name.0 == root.0) || (i.live && wrote_last joined i)

-- the names of those that have joined, with one more if it joins
abbrev pub joined_with : Bool → List EventName → Item → List EventName
joined_with b joined i = cond b (joined ++ i.event.name ∷ []) joined

-- the names of those that have joined at the end
abbrev pub gathered : EventName → List EventName → List Item → List EventName
gathered root joined [] = joined
gathered root joined (i ∷ items) = gathered root (joined_with (joins root (numbers joined) i) joined i) items

-- the first answer along a list, where those before are known
abbrev pub first_along : {A B : Type 0} → (List A → A → Option B) → List A → List A → Option B
first_along one before [] = None
first_along one before (x ∷ xs) = option_or (one before x) (first_along one (before ++ x ∷ []) xs)

-- live, or of the set
abbrev pub stays : List EventName → Item → Bool
stays names i = i.live || is_of names i
