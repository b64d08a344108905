-- An entry of the journal is exchanged with the state.
use Rattle.std.proofs.Common.{◌≡◌, ℕ, zero, suc, ◌<◌, Bool, true, ◌&&◌, List, [], ◌∷◌, Some, length, set, get_or, map, refl, sym, ap, ◌∙◌, arith}
use Rattle.std.proofs.lemmas.Bool.{false≢true}
use Rattle.std.proofs.lemmas.List.{length-map}
use Rattle.std.specs.List.{list_all, slice_get}
use Rattle.history.specs.Walks.{step_at}
use Rattle.history.specs.Records.{State, Record, hold, swap_record}
use Rattle.ids.specs.declared.cells.CellKey.{CellKey}
use Rattle.world_cells.specs.Theory.{cells, all_pass}
use Rattle.journal.specs.Items.{Item, item_of, keys_at, all_ready, records_at}
use Rattle.journal.specs.declared.entry.Entry.{Entry}
use Rattle.undo.proofs.Looping.{and_first}

pub get-map : {A B : Type 0} (f : A → B) (xs : List A) (i : ℕ) (d : A) → i < length xs → slice_get (map f xs) i ≡ Some (f (get_or xs i d))
get-map f [] i d h = absurd (omega arith)
get-map f (x ∷ xs) zero d h = refl
get-map f (x ∷ xs) (suc i) d h = get-map f xs i d (omega arith)

pub map-set : {A B : Type 0} (f : A → B) (xs : List A) (i : ℕ) (y : A) → map f (set xs i y) ≡ set (map f xs) i (f y)
map-set f [] i y = refl
map-set f (x ∷ xs) zero y = refl
map-set f (x ∷ xs) (suc i) y = ap (λ l. f x ∷ l) (map-set f xs i y)

-- one step of a walk, as the code makes it
pub stepped : {A B S : Type 0} (f : A → B) (one : B → S → B × S) (xs : List A) (i : ℕ) (d y : A) (w v : S) → i < length xs → ◌≡◌ {A = B × S} (f y, v) (one (f (get_or xs i d)) w)
    → ◌≡◌ {A = List B × S} (map f (set xs i y), v) (step_at one i (map f xs, w))
stepped {B = B} {S = S} f one xs i d y w v h is =
    rw (get-map f xs i d h, map-set f xs i y) (ap (λ (r : B × S). (set (map f xs) i r.0, r.1)) is)

-- the cells of a record
abbrev keys_of : Item → List CellKey
keys_of i = map (λ r. r.0) i.kept

-- an exchange keeps a record's keys
keys-swap : (r : Record cells) (w : State cells) → map (λ (p : CellKey × _). p.0) (swap_record cells r w) ≡ map (λ (p : CellKey × _). p.0) r
keys-swap [] w = refl
keys-swap (p ∷ ps) w = ap (λ l. p.0 ∷ l) (keys-swap ps (hold cells w p.0 p.1))

pub all_keys : (test : CellKey → Bool) (r : Record cells) → list_all test (map (λ (p : CellKey × _). p.0) r) ≡ all_pass test r
all_keys test [] = refl
all_keys test (p ∷ ps) = ap (λ b. test p.0 && b) (all_keys test ps)

-- an item that is ready is there
pub ready_within : (test : CellKey → Bool) (xs : List Entry) (i : ℕ) → all_ready test (map item_of xs) (i ∷ []) ≡ true → i < length xs
ready_within test [] i h = absurd (false≢true h)
ready_within test (x ∷ xs) zero h = omega arith
ready_within test (x ∷ xs) (suc i) h = let g : i < length xs = ready_within test xs i h in omega arith

-- and its cells pass the test
pub ready_at : (test : CellKey → Bool) (xs : List Entry) (i : ℕ) (d : Entry) → all_ready test (map item_of xs) (i ∷ []) ≡ true → all_pass test (item_of (get_or xs i d)).kept ≡ true
ready_at test [] i d h = absurd (false≢true h)
ready_at test (x ∷ xs) zero d h = sym (all_keys test (item_of x).kept) ∙ and_first _ _ h
ready_at test (x ∷ xs) (suc i) d h = ready_at test xs i d h

pub count_at : (xs : List Entry) (i : ℕ) (d : Entry) → i < length xs → records_at (map item_of xs) (i ∷ []) ≡ length (item_of (get_or xs i d)).kept
count_at [] i d h = absurd (omega arith)
count_at (x ∷ xs) zero d h = let n : length (keys_of (item_of x)) ≡ length (item_of x).kept = length-map (item_of x).kept (λ (p : CellKey × _). p.0) in omega arith
count_at (x ∷ xs) (suc i) d h = count_at xs i d (omega arith)

-- an item with the same keys in its place changes no keys
pub keys_stay : (xs : List Entry) (i : ℕ) (d y : Entry) → i < length xs → keys_of (item_of y) ≡ keys_of (item_of (get_or xs i d)) → (p : ℕ) → keys_at (map item_of (set xs i y)) p ≡ keys_at (map item_of xs) p
keys_stay [] i d y h e p = refl
keys_stay (x ∷ xs) zero d y h e zero = ap Some e
keys_stay (x ∷ xs) zero d y h e (suc p) = refl
keys_stay (x ∷ xs) (suc i) d y h e zero = refl
keys_stay (x ∷ xs) (suc i) d y h e (suc p) = keys_stay xs i d y (omega arith) e p

pub keys_after : (y x : Item) (w : State cells) → y.kept ≡ swap_record cells x.kept w → keys_of y ≡ keys_of x
keys_after y x w h = ap (λ (r : Record cells). map (λ (p : CellKey × _). p.0) r) h ∙ keys-swap x.kept w

-- an entry that is there, whatever is read where there is none
pub get_there : {A : Type 0} (xs : List A) (i : ℕ) (d x : A) → i < length xs → get_or xs i d ≡ get_or xs i x
get_there [] i d x h = absurd (omega arith)
get_there (y ∷ ys) zero d x h = refl
get_there (y ∷ ys) (suc i) d x h = get_there ys i d x (omega arith)
