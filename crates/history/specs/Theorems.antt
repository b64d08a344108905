-- The laws of undo.
use Rattle.std.specs.Prelude.{◌≡◌, ℕ, ◌+◌, ◌<◌, ◌≤◌, ◌==◌, Bool, true, false, List, [], ◌∷◌, ◌++◌, Option, Some, None, map, filter, reverse}
use Rattle.std.specs.List.{list_any, AllByRecursion}
use Rattle.history.specs.Subject.{Subject, World, Foot, new, after, meets, Run}
use Rattle.history.specs.Journal.{Entry, name_of, named, caused, live_set, without, both, Part, mark, marked, over, Runs, Sound, Ordered, Good, Named, Free, is_in, causes_of, NamesCauses, new_entry, Closed, HasNoneOutside}
use Rattle.history.specs.Records.{State, contents, untouched, Record, Row, entries_of, swap_state, swap_record, Apart, Writes, record_of, undo_rows, undo_state, redo_rows, redo_state}
use Rattle.history.specs.Chains.{last_writer, last_of, chain, HasCells}
use Rattle.history.specs.Stands.{Stands}
use Rattle.history.specs.Walks.{spots, walk, exchange}
use Rattle.history.specs.Cone.{in_cone}

-- events lead from a world to at most one world
abbrev pub RunsAreOne : Subject → Type 0
RunsAreOne s = (start : World s) (es : List s.Event) (w v : World s) → Run s start es w → Run s start es v → w ≡ v

-- the entries of a good set run to its world, each with its footprint
abbrev pub GoodRuns : Subject → Type 0
GoodRuns s = (start : World s) (t : Entry s → Bool) (es : List (Entry s)) (w : World s) → Good s start t es w → Runs s start (filter t es) w

-- so do their events
abbrev pub GoodRun : Subject → Type 0
GoodRun s = (start : World s) (t : Entry s → Bool) (es : List (Entry s)) (w : World s) → Good s start t es w → Run s start (map (λ e. e.event) (filter t es)) w

-- where a journal stands, the events of its live entries lead from the start to the contents of the state
abbrev pub StandingRun : Subject → Type 0
StandingRun s = (start : World s) (next : ℕ) (rows : List (Row s)) (state : State s) → Stands s start next rows state →
    Run s start (map (λ e. e.event) (filter (live_set s) (entries_of rows))) (contents s state)

-- the empty journal stands in a world that nobody wrote
abbrev pub Begun : Subject → Type 0
Begun s = (start : World s) (next : ℕ) → Stands s start next [] (untouched s start)

-- an event that is possible, and whose name is free, is appended, with its footprint, its causes and the last writers of the cells that it touches: a record of what it writes is exchanged with the state
abbrev pub Appended : Subject → Type 0
Appended s = (start : World s) (next later : ℕ) (rows : List (Row s)) (state : State s) (e : s.Event) (f : Foot s) (ns : List ℕ) (ls : List (s.Key × Option ℕ)) (p : Record s) →
    Stands s start next rows state → s.Does e (contents s state) f → Free s (s.name e) (entries_of rows) → next ≤ later → s.name e < later →
    NamesCauses s ns f (entries_of rows) → AllByRecursion (λ n. n < later) ns → is_in ns (s.name e) ≡ false →
    HasCells s f ls → AllByRecursion (λ l. l.1 ≡ (state l.0).1) ls → Writes s (s.name e) f p →
    Stands s start later ((new_entry s e f ns ls, swap_record s p state) ∷ rows) (swap_state s p state) ×
    (contents s (swap_state s p state) ≡ after s f (contents s state))

-- the causes that are computed are the causes, also the oldest first
abbrev pub CausesAreNamed : Subject → Type 0
CausesAreNamed s = (next : ℕ) (es : List (Entry s)) (f : Foot s) → Named s next es →
    NamesCauses s (causes_of s f es) f es × AllByRecursion (λ n. n < next) (causes_of s f es) ×
    NamesCauses s (reverse (causes_of s f es)) f es × AllByRecursion (λ n. n < next) (reverse (causes_of s f es))

-- a name that no entry has and none names stays free among the same entries, however they are marked, and when neighbours change places;
-- names from the next one on are free, and no computed cause is
abbrev pub NamesAreFree : Subject → Type 0
NamesAreFree s = (n : ℕ) (es : List (Entry s)) →
    ((next : ℕ) → Named s next es → next ≤ n → Free s n es) ×
    (Free s n es →
    ((t : Entry s → Bool) → Free s n (marked s t es)) ×
    ((f : Foot s) → (is_in (causes_of s f es) n ≡ false) × (is_in (reverse (causes_of s f es)) n ≡ false)) ×
    ((xs ys : List (Entry s)) (a b : Entry s) → es ≡ xs ++ a ∷ b ∷ ys → Free s n (xs ++ b ∷ a ∷ ys)))

-- the writes of a footprint are a record of what it writes, if no cell stands there twice
abbrev pub WritesAreRecorded : Subject → Type 0
WritesAreRecorded s = (n : ℕ) (f : Foot s) → Apart s (record_of s n f.writes) → Writes s n f (record_of s n f.writes)

-- a record that is exchanged twice is as it was, and so is the state
abbrev pub ExchangedTwice : Subject → Type 0
ExchangedTwice s = (p : Record s) (state : State s) → Apart s p →
    (swap_record s (swap_record s p state) (swap_state s p state) ≡ p) × (swap_state s (swap_record s p state) (swap_state s p state) ≡ state)

-- a closed part of the live entries is undone, and what is left is the world that the others leave
abbrev pub Undone : Subject → Type 0
Undone s = (start : World s) (next : ℕ) (c : Entry s → Bool) (rows : List (Row s)) (state : State s) → Stands s start next rows state →
    Closed s (live_set s) c (entries_of rows) → Part c (live_set s) (entries_of rows) →
    Stands s start next (undo_rows s c rows state) (undo_state s c rows state) ×
    (contents s (undo_state s c rows state) ≡ over s start (without (live_set s) c) (entries_of rows))

-- the entries of a set are undone, or live again, and nothing else of any entry changes
abbrev pub EntriesAreMarked : Subject → Type 0
EntriesAreMarked s = (c : Entry s → Bool) (rows : List (Row s)) (state : State s) →
    (entries_of (undo_rows s c rows state) ≡ marked s (without (live_set s) c) (entries_of rows)) ×
    (entries_of (redo_rows s c rows state) ≡ marked s (both (live_set s) c) (entries_of rows))

-- a cell that no member of the set writes keeps its content and its last writer
abbrev pub UndoneElsewhere : Subject → Type 0
UndoneElsewhere s = (start : World s) (next : ℕ) (c : Entry s → Bool) (rows : List (Row s)) (state : State s) → Stands s start next rows state →
    (k : s.Key) → AllByRecursion (λ a. c a ≡ true → new s a.foot k ≡ None) (entries_of rows) → undo_state s c rows state k ≡ state k

-- what lies between two sound sets is closed in the greater
abbrev pub ClosedOfSound : Subject → Type 0
ClosedOfSound s = (t c : Entry s → Bool) (es : List (Entry s)) → Sound s t es → Sound s (without t c) es → Closed s t c es

-- undone entries are redone where they are sound together with what is live
abbrev pub Redone : Subject → Type 0
Redone s = (start : World s) (next : ℕ) (c : Entry s → Bool) (rows : List (Row s)) (state : State s) → Stands s start next rows state →
    AllByRecursion (λ a. c a ≡ true → a.live ≡ false) (entries_of rows) → Sound s (both (live_set s) c) (entries_of rows) →
    Stands s start next (redo_rows s c rows state) (redo_state s c rows state) ×
    (contents s (redo_state s c rows state) ≡ over s start (both (live_set s) c) (entries_of rows))

-- what was just undone, told by any test of the same entries, may be redone, which gives back the rows and the state
abbrev pub RedoneNext : Subject → Type 0
RedoneNext s = (start : World s) (next : ℕ) (c d : Entry s → Bool) (rows : List (Row s)) (state : State s) → Stands s start next rows state →
    Part c (live_set s) (entries_of rows) → AllByRecursion (λ a. d (mark s (without (live_set s) c) a) ≡ c a) (entries_of rows) →
    AllByRecursion (λ a. d a ≡ true → a.live ≡ false) (entries_of (undo_rows s c rows state)) ×
    Sound s (both (live_set s) d) (entries_of (undo_rows s c rows state)) ×
    (redo_rows s d (undo_rows s c rows state) (undo_state s c rows state) ≡ rows) ×
    (redo_state s d (undo_rows s c rows state) (undo_state s c rows state) ≡ state)

-- neighbours of which neither wrote a cell that the other touches change places, whether they are live or undone
abbrev pub Exchanged : Subject → Type 0
Exchanged s = (start : World s) (next : ℕ) (xs ys : List (Row s)) (a b : Row s) (state : State s) → Stands s start next (xs ++ a ∷ b ∷ ys) state →
    meets s a.0.foot b.0.foot ≡ false → meets s b.0.foot a.0.foot ≡ false → Stands s start next (xs ++ b ∷ a ∷ ys) state

-- the last writer that a state shows is the newest live entry that wrote the cell
abbrev pub LastWriter : Subject → Type 0
LastWriter s = (start : World s) (next : ℕ) (rows : List (Row s)) (state : State s) → Stands s start next rows state →
    (k : s.Key) → (state k).1 ≡ last_writer s k (live_set s) (entries_of rows)

-- the causes of an entry are those on the chains from the last writers that it has
abbrev pub CausesAreChains : Subject → Type 0
CausesAreChains s = (start : World s) (next : ℕ) (rows : List (Row s)) (state : State s) → Stands s start next rows state →
    AllByRecursion (λ e. AllByRecursion (λ a. caused s e a ≡ list_any (λ p. named s (chain s p.0 p.1 (entries_of rows)) a) e.lasts) (entries_of rows)) (entries_of rows)

-- a chain ends where nobody wrote the cell
abbrev pub ChainEnds : Subject → Type 0
ChainEnds s = (k : s.Key) (es : List (Entry s)) → chain s k None es ≡ []

-- a chain goes from an entry to the last writer that it has of the cell, which is nobody or an older entry
abbrev pub ChainIsFollowed : Subject → Type 0
ChainIsFollowed s = (start : World s) (next : ℕ) (rows : List (Row s)) (state : State s) → Stands s start next rows state →
    (k : s.Key) (xs ys : List (Entry s)) (a : Entry s) → entries_of rows ≡ xs ++ a ∷ ys →
    (chain s k (Some (name_of s a)) (entries_of rows) ≡ name_of s a ∷ chain s k (last_of s a k) (entries_of rows)) ×
    ((n : ℕ) → last_of s a k ≡ Some n → list_any (λ b. name_of s b == n) ys ≡ true) ×
    AllByRecursion (λ p. last_of s a p.0 ≡ p.1) a.lasts

-- the cone of an entry is closed
abbrev pub ConeIsClosed : Subject → Type 0
ConeIsClosed s = (next : ℕ) (t : Entry s → Bool) (root : ℕ) (es : List (Entry s)) → Named s next es → Closed s t (in_cone s t root es) es

-- it has the entry
abbrev pub ConeHasRoot : Subject → Type 0
ConeHasRoot s = (t : Entry s → Bool) (root : ℕ) (es : List (Entry s)) → AllByRecursion (λ a. name_of s a ≡ root → in_cone s t root es a ≡ true) es

-- it is a part of each closed set that has the entry
abbrev pub ConeIsLeast : Subject → Type 0
ConeIsLeast s = (next : ℕ) (t c : Entry s → Bool) (root : ℕ) (es : List (Entry s)) → Named s next es → Closed s t c es → AllByRecursion (λ a. name_of s a ≡ root → c a ≡ true) es →
    Part (in_cone s t root es) c es

-- where the entry is a member, its cone has members alone
abbrev pub ConeIsPart : Subject → Type 0
ConeIsPart s = (next : ℕ) (t : Entry s → Bool) (root : ℕ) (es : List (Entry s)) → Named s next es → AllByRecursion (λ a. name_of s a ≡ root → t a ≡ true) es →
    Part (in_cone s t root es) t es

-- where no entry names itself or a newer one, just those sets are closed
abbrev pub ClosedIsNoneOutside : Subject → Type 0
ClosedIsNoneOutside s = (next : ℕ) (t c : Entry s → Bool) (es : List (Entry s)) → Named s next es → Ordered s es →
    (Closed s t c es → HasNoneOutside s t c es) × (HasNoneOutside s t c es → Closed s t c es)

-- items of a vector that are exchanged at the positions of a set, from the last to the first, are the rows after it is undone
abbrev pub WalkUndo : Subject → Type 0
WalkUndo s = (c : Entry s → Bool) (items : List (Row s)) (state : State s) →
    walk (exchange s false) (spots (λ p. c p.0) (reverse items)) (items, state) ≡ (reverse (undo_rows s c (reverse items) state), undo_state s c (reverse items) state)

-- from the first to the last, they are the rows after it is redone
abbrev pub WalkRedo : Subject → Type 0
WalkRedo s = (c : Entry s → Bool) (items : List (Row s)) (state : State s) →
    walk (exchange s true) (reverse (spots (λ p. c p.0) (reverse items))) (items, state) ≡ (reverse (redo_rows s c (reverse items) state), redo_state s c (reverse items) state)
