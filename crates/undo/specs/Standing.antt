-- When a core stands, and what keeps it standing.
use Rattle.std.specs.Prelude.{◌≡◌, ℕ, ◌<◌, ◌≤◌, Bool, true, false, List, [], ◌∷◌, ◌++◌, None, length, map, reverse}
use Rattle.std.specs.List.{AllByRecursion}
use Rattle.history.specs.Subject.{Foot, empty, after}
use Rattle.history.specs.Journal.{Entry, live_set, without, both, Part, Sound, Closed, Free, is_in, NamesCauses, new_entry, over}
use Rattle.history.specs.Records.{Record, Row, contents, entries_of, swap_record, Writes, undo_rows, redo_rows}
use Rattle.history.specs.Chains.{HasCells}
use Rattle.history.specs.Walks.{spots, walk}
use Rattle.ids.specs.declared.cells.CellKey.{CellKey}
use Rattle.world_cells.specs.Events.{Noted}
use Rattle.world_cells.specs.World.{World}
use Rattle.world_cells.specs.Theory.{Rule, subject, cells}
use Rattle.journal.specs.Standing.{ItemsStand}
use Rattle.journal.specs.Items.{swap_item, entered, may_exchange, neighbours, exchanged}
use Rattle.undo.specs.CoreView.{items_of, state_of, shown}
use Rattle.undo.specs.declared.undoing.Core.{Core}

-- THE INVARIANT: these rows, the newest first, stand with what the core shows
abbrev pub CoreStands : (does : Rule) → World → ℕ → List (Row (subject does)) → Core → Type 0
CoreStands does start next rows core = ItemsStand does start next rows (items_of core) (state_of core)

-- the positions, ascending, of the rows whose entries are in a set
abbrev pub places : (does : Rule) → (Entry (subject does) → Bool) → List (Row (subject does)) → List ℕ
places does c rows = reverse (spots (λ p. c p.0) rows)

-- a core of which nothing is shown stands in the empty world
abbrev pub Begins : Rule → Type 0
Begins does = (next : ℕ) (core : Core) → items_of core ≡ [] → ((k : CellKey) → state_of core k ≡ (None, None)) → CoreStands does (empty (subject does)) next [] core

-- an event that is possible and whose name is free is entered with the cells that it touches and a record of what it writes, and has its causes
abbrev pub Enters : Rule → Type 0
Enters does = (start : World) (next later : ℕ) (rows : List (Row (subject does))) (old new : Core) (e : Noted) (seat : ℕ) (touched : List CellKey) (kept : Record cells) (f : Foot (subject does)) (ns : List ℕ) →
    CoreStands does start next rows old → does e (contents cells (state_of old)) f → Free (subject does) e.name.0 (entries_of rows) → next ≤ later → e.name.0 < later →
    NamesCauses (subject does) ns f (entries_of rows) → AllByRecursion (λ n. n < later) ns → is_in ns e.name.0 ≡ false →
    HasCells (subject does) f (map (λ k. (k, (state_of old k).1)) touched) → Writes (subject does) e.name.0 f kept →
    shown new ≡ entered e seat touched kept (shown old) →
    CoreStands does start later ((new_entry (subject does) e f ns (map (λ k. (k, (state_of old k).1)) touched), swap_record (subject does) kept (state_of old)) ∷ rows) new ×
    (contents cells (state_of new) ≡ after (subject does) f (contents cells (state_of old)))

-- a closed part of the live entries is undone, and the world is what the others leave
abbrev pub Undoes : Rule → Type 0
Undoes does = (start : World) (next : ℕ) (c : Entry (subject does) → Bool) (rows : List (Row (subject does))) (old new : Core) (positions : List ℕ) →
    CoreStands does start next rows old → positions ≡ places does c rows →
    Closed (subject does) (live_set (subject does)) c (entries_of rows) → Part c (live_set (subject does)) (entries_of rows) →
    shown new ≡ walk (swap_item false) (reverse positions) (shown old) →
    CoreStands does start next (undo_rows (subject does) c rows (state_of old)) new ×
    (contents cells (state_of new) ≡ over (subject does) start (without (live_set (subject does)) c) (entries_of rows))

-- undone entries are redone where they are sound together with what is live, and the world is what all these leave
abbrev pub Redoes : Rule → Type 0
Redoes does = (start : World) (next : ℕ) (c : Entry (subject does) → Bool) (rows : List (Row (subject does))) (old new : Core) (positions : List ℕ) →
    CoreStands does start next rows old → positions ≡ places does c rows →
    AllByRecursion (λ a. c a ≡ true → a.live ≡ false) (entries_of rows) → Sound (subject does) (both (live_set (subject does)) c) (entries_of rows) →
    shown new ≡ walk (swap_item true) positions (shown old) →
    CoreStands does start next (redo_rows (subject does) c rows (state_of old)) new ×
    (contents cells (state_of new) ≡ over (subject does) start (both (live_set (subject does)) c) (entries_of rows))

-- neighbours of which neither wrote a cell that the other touched change places
abbrev pub Exchanges : Rule → Type 0
Exchanges does = (start : World) (next : ℕ) (xs ys : List (Row (subject does))) (a b : Row (subject does)) (old new : Core) (position : ℕ) →
    CoreStands does start next (xs ++ a ∷ b ∷ ys) old → length ys ≡ position → neighbours may_exchange position (items_of old) ≡ true →
    shown new ≡ (exchanged position (items_of old), state_of old) →
    CoreStands does start next (xs ++ b ∷ a ∷ ys) new
