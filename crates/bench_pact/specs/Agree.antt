-- One keeper knows what every holder has done; a holder knows what it has done itself.
use Rattle.std.specs.Prelude.{◌≡◌, ℕ, List, [], ◌∷◌, ◌++◌, length, Some, slice_get, slice_set, true, false, not, ◌==◌, filter}
use mathlib.Core.Option.{some}
use lib.ListN.{get_elem?}
use Rattle.atomic_table.specs.Seated.{TableId}
use Rattle.ids.specs.declared.names.EventName.{EventName}
use Rattle.bench_pact.specs.declared.TokenView.{TokenView}
use Rattle.bench_pact.specs.declared.Deeds.{Deeds}
use Rattle.bench_pact.specs.declared.Act.{Act}
use Rattle.bench_pact.specs.declared.Act.TheVariants.{Nothing, Enters, Gives, Opens, Closes}

-- the name of no cell
abbrev pub no_table : TableId
no_table = record { words = 0; slots = 0; views_name = 0; atom = 0; block = 0; offset = 0; slot_names = [] }

-- who has done nothing yet
abbrev pub blank : Deeds
blank = record { events = []; tickets = [] }

-- the numbers but one
abbrev pub strike : EventName → List EventName → List EventName
strike n ns = filter (λ k. not (k.0 == n.0)) ns

-- the deeds after an act: a ticket that is given has its event entered, and is closed
abbrev pub after : Act → Deeds → Deeds
after Nothing d = d
after (Enters e) d = record { events = d.events ++ e.value ∷ []; tickets = d.tickets }
after (Gives e) d = record { events = d.events ++ e.value ∷ []; tickets = strike e.value.name d.tickets }
after (Opens n) d = record { events = d.events; tickets = d.tickets ++ n ∷ [] }
after (Closes n) d = record { events = d.events; tickets = strike n d.tickets }

-- how many events an act enters
abbrev pub entered_by : Act → ℕ
entered_by Nothing = 0
entered_by (Enters e) = 1
entered_by (Gives e) = 1
entered_by (Opens n) = 0
entered_by (Closes n) = 0

-- the keeper: what each holder has, by its place
abbrev pub knower : List Deeds → TokenView
knower all = record { keeps = true; all = all; holds = false; place = 0; deeds = blank }

-- a holder: what it has done, at its place
abbrev pub holder : ℕ → Deeds → TokenView
holder place deeds = record { keeps = false; all = []; holds = true; place = place; deeds = deeds }

-- who knows nothing
abbrev pub nobody : TokenView
nobody = record { keeps = false; all = []; holds = false; place = 0; deeds = blank }

-- the keeper, with a holder's part in hand
abbrev pub joined : TokenView → TokenView → TokenView
joined v w = record { keeps = v.keeps; all = v.all; holds = w.holds; place = w.place; deeds = w.deeds }

-- the keeper without what it has in hand, and what it has in hand
abbrev pub keeper_of : TokenView → TokenView
keeper_of v = record { keeps = v.keeps; all = v.all; holds = false; place = 0; deeds = blank }

abbrev pub holder_of : TokenView → TokenView
holder_of v = record { keeps = false; all = []; holds = v.holds; place = v.place; deeds = v.deeds }

abbrev pub IsKeeper : TokenView → Type 0
IsKeeper v = v ≡ knower v.all

abbrev pub IsHolder : TokenView → Type 0
IsHolder v = v ≡ holder v.place v.deeds

-- what the rule says of one pass: a keeper is the one keeper and knows all; a holder is the owner of its place, with what all say
abbrev pub Fits : ℕ → List Deeds → (ℕ → ℕ) → ℕ → TokenView → Type 0
Fits seat log owner by v = (v.keeps ≡ true → (by ≡ seat) × (v.all ≡ log)) × (v.holds ≡ true → (slice_get log v.place ≡ Some v.deeds) × (by ≡ owner v.place))

-- there is one keeper and one account of all deeds, and each token fits them
abbrev pub Kept : List ℕ → List TokenView → Type 0
Kept words views =
    (seat : ℕ) × (log : List Deeds) × (owner : ℕ → ℕ)
    × ((by : ℕ) (v : TokenView) → get_elem? views by ≡ some v → Fits seat log owner by v)

-- the keeper adds a place, and has it in hand
abbrev pub Adds : TokenView → List ℕ → List ℕ → TokenView → Type 0
Adds v before after w = w ≡ joined (knower (v.all ++ blank ∷ [])) (holder (length v.all) blank)

-- the keeper finds at the place in hand what it has in hand, and writes it anew
abbrev pub Writes : Deeds → TokenView → List ℕ → List ℕ → TokenView → Type 0
Writes d v before after w = (w ≡ joined (knower (slice_set v.all v.place d)) (holder v.place d)) × (slice_get v.all v.place ≡ Some v.deeds)
