-- What is kept of entries by their names: where each stands, who found what it left, and who wrote over that.
use Rattle.std.specs.Prelude.{◌≡◌, ℕ, ◌-◌, Bool, true, cond, List, map, Option, Some, None, slice_get, nat_lt}
use Rattle.std.specs.List.{AllByRecursion}
use Rattle.ids.specs.declared.cells.CellKey.{CellKey}
use Rattle.ids.specs.declared.cells.CellKey.TheVariants as key
use Rattle.ids.specs.declared.names.EventName.{EventName}
use Rattle.ids.specs.declared.reference.Reference.{Reference}
use Rattle.ids.specs.declared.reference.Reference.TheVariants as reference
use Rattle.journal_links.specs.Followers.{may_follow}
use Rattle.journal_links.specs.Heirs.{is_heir}
use Rattle.journal_links.specs.declared.followers.Followers.{Followers}
use Rattle.journal_links.specs.declared.heirs.Heirs.{Heirs}
use Rattle.journal.specs.Items.{Item}
use Rattle.journal.specs.Settled.{written_by}

-- the names of items
abbrev pub names_of : List Item → List EventName
names_of items = map (λ i. i.event.name) items

-- the event that made what a message can be sent on
abbrev pub event_in : Reference → EventName
event_in (reference.Promise p) = p.event
event_in (reference.Object o) = o.event
event_in (reference.Ejector j) = j.event

-- the event in the key of a cell, or else what is no event's name
abbrev pub anchor : CellKey → EventName
anchor (key.Name x) = record { 0 = 0 }
anchor (key.Slot s) = s.event
anchor (key.Object o) = o.event
anchor (key.Top v x) = v.0
anchor (key.View v p) = p.event
anchor (key.Fence v r) = event_in r
anchor (key.Msg m) = m.event
anchor (key.Board p) = p.event

-- the event that lists those who found a cell with this last writer: the writer, or where nobody wrote it the event in the cell's key
abbrev pub lister : CellKey → Option ℕ → EventName
lister k (Some n) = record { 0 = n }
lister k None = anchor k

-- an event is listed for each of these cells with their last writers
abbrev pub IsListed : (EventName → EventName → Bool) → EventName → List (CellKey × Option ℕ) → Type 0
IsListed on_list e lasts = AllByRecursion (λ p. on_list (lister p.0 p.1) e ≡ true) lasts

-- so each of these items is, for such cells
abbrev pub AreListed : (EventName → EventName → Bool) → (Item → List (CellKey × Option ℕ)) → List Item → Type 0
AreListed on_list lasts items = AllByRecursion (λ i. IsListed on_list i.event.name (lasts i)) items

-- THE INVARIANT OF FOLLOWERS: each item is listed for each cell that it touched, where the list is kept
abbrev pub AreFollowers : Followers → List Item → Type 0
AreFollowers followers items = AreListed (may_follow followers) (λ i. i.lasts) items

-- THE INVARIANT OF HEIRS: each item is listed for each cell that it wrote
abbrev pub AreHeirs : Heirs → List Item → Type 0
AreHeirs heirs items = AreListed (is_heir heirs) written_by items

-- the item at a place, if it is behind the settled ones
abbrev pub open_at : List Item → ℕ → Option ℕ → Option Item
open_at opens settled None = None
open_at opens settled (Some p) = cond (nat_lt p settled) None (slice_get opens (p - settled))
