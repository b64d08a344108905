-- What the journal shows of an entry.
use Rattle.std.specs.Prelude.{ℕ, zero, suc, ◌+◌, Bool, true, false, ◌&&◌, not, List, [], ◌∷◌, ◌++◌, map, length, Option, Some, None, option_map, slice_get}
use Rattle.std.specs.List.{list_all, list_any}
use Rattle.history.specs.Records.{State, Record, swap_state, swap_record}
use Rattle.ids.specs.CellKeys.{same_key}
use Rattle.ids.specs.declared.names.EventName.{EventName}
use Rattle.ids.specs.declared.cells.CellKey.{CellKey}
use Rattle.eval_rules.specs.OutboxView.{note_of}
use Rattle.world_cells.specs.Events.{Noted, with_notes}
use Rattle.world_cells.specs.EventView.{event_of}
use Rattle.world_cells.specs.Theory.{cells, kepts_of}
use Rattle.journal.specs.declared.entry.Mark.{Mark}
use Rattle.journal.specs.declared.entry.Mark.TheVariants as mark
use Rattle.journal.specs.declared.entry.Touched.{Touched}
use Rattle.journal.specs.declared.entry.Entry.{Entry}

-- an event with its notes, its seat, whether it is live, the cells that it touched with their last writers of then, and a record of those
-- that it wrote
pub record Item : Type 0 where
  pub event : Noted
  pub seat : ℕ
  pub live : Bool
  pub lasts : List (CellKey × Option ℕ)
  pub kept : Record cells

abbrev pub is_live : Mark → Bool
is_live mark.Live = true
is_live mark.Undone = false

-- the number of a writer
abbrev pub number_of : Option EventName → Option ℕ
number_of writer = option_map (λ e. e.0) writer

abbrev pub last_of : Touched → CellKey × Option ℕ
last_of t = (t.key, number_of t.writer)

abbrev pub lasts_of : List Touched → List (CellKey × Option ℕ)
lasts_of touched = map last_of touched

abbrev pub item_of : Entry → Item
item_of e = record { event = with_notes (event_of e.event) (map note_of e.notes.items); seat = e.seat; live = is_live e.mark; lasts = lasts_of e.touched.items; kept = kepts_of e.records.items }

-- the item with its record exchanged with the state and marked so, and the state
abbrev pub swap_item : Bool → Item → State cells → Item × State cells
swap_item live i w = (record { event = i.event; seat = i.seat; live = live; lasts = i.lasts; kept = swap_record cells i.kept w }, swap_state cells i.kept w)

-- the items and the state after an event in this seat, which touched these cells, wrote what its record has
abbrev pub entered : Noted → ℕ → List CellKey → Record cells → List Item × State cells → List Item × State cells
entered e seat touched kept j =
    let r = swap_item true (record { event = e; seat = seat; live = true; lasts = map (λ k. (k, (j.1 k).1)) touched; kept = kept }) j.1 in
    (j.0 ++ r.0 ∷ [], r.1)

-- the cells of which the item at a position has records
abbrev pub keys_at : List Item → ℕ → Option (List CellKey)
keys_at items p = option_map (λ i. map (λ r. r.0) i.kept) (slice_get items p)

-- there are cells, and each passes the test
abbrev pub pass : (CellKey → Bool) → Option (List CellKey) → Bool
pass test None = false
pass test (Some ks) = list_all test ks

-- the item at each of these positions is there, and its cells pass the test
abbrev pub all_ready : (CellKey → Bool) → List Item → List ℕ → Bool
all_ready test items ps = list_all (λ p. pass test (keys_at items p)) ps

-- how many cells there are
abbrev pub key_count : Option (List CellKey) → ℕ
key_count None = 0
key_count (Some ks) = length ks

-- how many records the items at these positions have
abbrev pub records_at : List Item → List ℕ → ℕ
records_at items [] = 0
records_at items (p ∷ ps) = key_count (keys_at items p) + records_at items ps

-- the first item wrote a cell that the second touched
abbrev pub wrote_one_of : Item → Item → Bool
wrote_one_of a b = list_any (λ r. list_any (λ q. same_key r.0 q.0) b.lasts) a.kept

-- an item and the one behind it may change places
abbrev pub may_exchange : Item → Item → Bool
may_exchange b a = not (wrote_one_of b a) && not (wrote_one_of a b)

-- the item at a position and the one behind it pass a test of neighbours
abbrev pub neighbours : {A : Type 0} → (A → A → Bool) → ℕ → List A → Bool
neighbours test n [] = false
neighbours test n (b ∷ []) = false
neighbours test zero (b ∷ a ∷ items) = test b a
neighbours test (suc n) (b ∷ a ∷ items) = neighbours test n (a ∷ items)

-- the items with that one and the one behind it in each other's places
abbrev pub exchanged : {A : Type 0} → ℕ → List A → List A
exchanged n [] = []
exchanged n (b ∷ []) = b ∷ []
exchanged zero (b ∷ a ∷ items) = a ∷ b ∷ items
exchanged (suc n) (b ∷ a ∷ items) = b ∷ exchanged n (a ∷ items)
