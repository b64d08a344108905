-- Where the entries of events stand.
use Rattle.std.specs.Prelude.{◌≡◌, ℕ, ◌<◌, true, List, Option, Some, None, is_some, length, get_or, slice_get}
use Rattle.ids.specs.declared.names.EventName.{EventName}
use Rattle.journal_links.specs.declared.places.Places.{Places}

-- where the entry of an event stands, if there is one
abbrev pub place_of : Places → EventName → Option ℕ
place_of places e = get_or places.by_name.items e.0 None

-- the place of an event can be put with no memory
abbrev pub HasRoom : Places → EventName → Type 0
HasRoom places e = e.0 < length places.by_name.items

-- a place is one where the name stands, and there is one if the name stands anywhere
pub record Finds (names : List EventName) (e : EventName) (place : Option ℕ) : Type 0 where
  pub right : (p : ℕ) → place ≡ Some p → slice_get names p ≡ Some e
  pub all : (p : ℕ) → slice_get names p ≡ Some e → is_some place ≡ true

-- THE INVARIANT OF PLACES: a place is kept of each name that stands among these, and it is one where the name stands
abbrev pub ArePlaces : Places → List EventName → Type 0
ArePlaces places names = (e : EventName) → Finds names e (place_of places e)
