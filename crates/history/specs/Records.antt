-- Undo by records: each entry has a record of cells, which are exchanged with the state, one after another.
use Rattle.std.specs.Prelude.{◌≡◌, ℕ, Bool, true, false, cond, List, [], ◌∷◌, Option, Some, None, map, unwrap_or, option_map, is_some}
use Rattle.std.specs.List.{AllByRecursion}
use Rattle.history.specs.Subject.{Subject, World, Foot, found, new}
use Rattle.history.specs.Journal.{Entry, name_of}

-- what is seen in a cell: its content, and the name of its last writer
abbrev pub Seen : Subject → Type 0
Seen s = Option s.Content × Option ℕ

-- what is seen in all cells
abbrev pub State : Subject → Type 0
State s = s.Key → Seen s

-- the world that a state shows
abbrev pub contents : (s : Subject) → State s → World s
contents s state k = (state k).0

-- a world that nobody wrote
abbrev pub untouched : (s : Subject) → World s → State s
untouched s w k = (w k, None)

-- cells with what is kept of each
abbrev pub Record : Subject → Type 0
Record s = List (s.Key × Seen s)

-- an entry with its record
abbrev pub Row : Subject → Type 0
Row s = Entry s × Record s

-- the entries of rows
abbrev pub entries_of : {A B : Type 0} → List (A × B) → List A
entries_of rows = map (λ p. p.0) rows

-- a state with this in one cell
abbrev pub hold : (s : Subject) → State s → s.Key → Seen s → State s
hold s state k x = λ q. cond (s.same k q) x (state q)

-- the state after a record is exchanged with it
abbrev pub swap_state : (s : Subject) → Record s → State s → State s
swap_state s [] state = state
swap_state s (p ∷ ps) state = swap_state s ps (hold s state p.0 p.1)

-- the record after it is exchanged with a state
abbrev pub swap_record : (s : Subject) → Record s → State s → Record s
swap_record s [] state = []
swap_record s (p ∷ ps) state = (p.0, state p.0) ∷ swap_record s ps (hold s state p.0 p.1)

-- a row after it is exchanged with a state: its entry is live from then on, or undone
abbrev pub swap_row : (s : Subject) → Bool → Row s → State s → Row s
swap_row s live p state = (record (p.0) { live = live }, swap_record s p.1 state)

-- no cell stands twice
abbrev pub Apart : (s : Subject) → Record s → Type 0
Apart s [] = Unit {0}
Apart s (p ∷ ps) = (found s ps p.0 ≡ None) × Apart s ps

-- a record has the cells that the footprint writes, each once
pub record Fits (s : Subject) (f : Foot s) (p : Record s) : Type 0 where
  pub cells : (k : s.Key) → is_some (found s p k) ≡ is_some (new s f k)
  pub apart : Apart s p

-- what an event of this name and footprint leaves in a cell, if it writes it
abbrev pub leaves : (s : Subject) → ℕ → Foot s → s.Key → Option (Seen s)
leaves s n f k = option_map (λ v. (Some v, Some n)) (new s f k)

-- a record has what an event of this name and footprint writes, each cell once
pub record Writes (s : Subject) (n : ℕ) (f : Foot s) (p : Record s) : Type 0 where
  pub cells : (k : s.Key) → found s p k ≡ leaves s n f k
  pub apart : Apart s p

-- these writes, with this name as the last writer of each
abbrev pub record_of : (s : Subject) → ℕ → List (s.Key × s.Content) → Record s
record_of s n ps = map (λ q. (q.0, (Some q.1, Some n))) ps

-- what stands in one cell after the entries of a set, each of which may write it
abbrev pub cell : {A V : Type 0} → (A → Option V) → V → (A → Bool) → List A → V
cell new v t [] = v
cell new v t (e ∷ es) = cond (t e) (unwrap_or (new e) (cell new v t es)) (cell new v t es)

-- the state that the entries of a set leave
abbrev pub left_by : (s : Subject) → World s → (Entry s → Bool) → List (Entry s) → State s
left_by s start t es k = cell (λ e. leaves s (name_of s e) e.foot k) (start k, None) t es

-- what a record has of a cell
abbrev pub held : (s : Subject) → Record s → State s
held s p k = unwrap_or (found s p k) (None, None)

-- of each cell that an entry writes, the record of a member of the set has what was there before it, that of another what it writes
abbrev pub Kept : (s : Subject) → World s → (Entry s → Bool) → List (Row s) → Type 0
Kept s start t [] = Unit {0}
Kept s start t (p ∷ ps) =
    ((k : s.Key) (x : Seen s) → leaves s (name_of s p.0) p.0.foot k ≡ Some x → held s p.1 k ≡ cond (t p.0) (left_by s start t (entries_of ps) k) x)
    × Kept s start t ps

-- the state is what the members of the set leave, and the records are as they should be
pub record Follows (s : Subject) (start : World s) (t : Entry s → Bool) (rows : List (Row s)) (state : State s) : Type 0 where
  pub seen : (k : s.Key) → state k ≡ left_by s start t (entries_of rows) k
  pub records : Kept s start t rows
  pub fit : AllByRecursion (λ p. Fits s p.0.foot p.1) rows

-- the rows after those of a set are exchanged with the state and undone, from the newest to the oldest
abbrev pub undo_rows : (s : Subject) → (Entry s → Bool) → List (Row s) → State s → List (Row s)
undo_rows s c [] state = []
undo_rows s c (p ∷ ps) state = cond (c p.0) (swap_row s false p state) p ∷ undo_rows s c ps (cond (c p.0) (swap_state s p.1 state) state)

-- the state after it
abbrev pub undo_state : (s : Subject) → (Entry s → Bool) → List (Row s) → State s → State s
undo_state s c [] state = state
undo_state s c (p ∷ ps) state = undo_state s c ps (cond (c p.0) (swap_state s p.1 state) state)

-- the state after those of a set are exchanged with it and live again, from the oldest to the newest
abbrev pub redo_state : (s : Subject) → (Entry s → Bool) → List (Row s) → State s → State s
redo_state s c [] state = state
redo_state s c (p ∷ ps) state = cond (c p.0) (swap_state s p.1 (redo_state s c ps state)) (redo_state s c ps state)

-- the rows after it
abbrev pub redo_rows : (s : Subject) → (Entry s → Bool) → List (Row s) → State s → List (Row s)
redo_rows s c [] state = []
redo_rows s c (p ∷ ps) state = cond (c p.0) (swap_row s true p (redo_state s c ps state)) p ∷ redo_rows s c ps state
