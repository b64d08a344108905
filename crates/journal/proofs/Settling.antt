-- What is kept of a settled entry tells what it wrote.
use Rattle.std.proofs.Common.{◌≡◌, ℕ, zero, suc, ◌+◌, ◌<◌, ◌++◌, length, get_or, slice_get, arith, Bool, true, false, cond, List, [], ◌∷◌, Option, Some, None, is_some, unwrap_or, map, refl, sym, ap, ◌∙◌}
use Rattle.std.proofs.Math.Bool.{Bool-set}
use Rattle.std.proofs.Math.Logic.{∥∥₁_elim}
use Rattle.std.proofs.Props.{props}
use Rattle.std.proofs.lemmas.Bool.{false≢true}
use Rattle.std.specs.List.{list_any, AllByRecursion}
use Rattle.history.specs.Subject.{found}
use Rattle.ids.specs.CellKeys.{same_key}
use Rattle.ids.specs.declared.cells.CellKey.{CellKey}
use Rattle.ids.proofs.CellKeys.{same_exact}
use Rattle.world_cells.specs.Theory.{cells}
use Rattle.world_cells.specs.World.{Content}
use Rattle.history.specs.Records.{Record}
use Rattle.journal.specs.Items.{Item, item_of, lasts_of, wrote_one_of}
use Rattle.journal.specs.Journals.{settled_item}
use Rattle.journal.specs.Lines.{plain, last_among, writer_of, wrote_cell}
use Rattle.journal.specs.declared.entry.Entry.{Entry}
use Rattle.journal.specs.declared.settled.Settled.{Settled}
use Rattle.journal.proofs.Touching.{any-map}

-- it wrote a cell that another touched where one of those that are kept is one
pub settled_wrote : (s : Settled) (i : Item) → list_any (λ r. list_any (λ q. same_key r.0 q.0) i.lasts) (lasts_of s.written.items) ≡ wrote_one_of (settled_item s) i
settled_wrote s i = ∥∥₁_elim s.keeps (Bool-set _ _) (λ k.
    ap (list_any (λ r. list_any (λ q. same_key r.0 q.0) i.lasts)) k.cells
    ∙ any-map (λ r. (r.0, writer_of (settled_item s) r.0)) (λ r. list_any (λ q. same_key r.0 q.0) i.lasts) (settled_item s).kept)

-- a cell without what is kept of it
abbrev bare_cell : CellKey × (Option Content × Option ℕ) → CellKey × Unit {0}
bare_cell r = (r.0, tt)

-- of a cell that was written the last writer is found
kept_writer : (i : Item) (k : CellKey) (kept : Record cells) → is_some (found plain (map bare_cell kept) k) ≡ true → found plain (map (λ r. (r.0, writer_of i r.0)) kept) k ≡ Some (writer_of i k)
kept_writer i k [] h = absurd (false≢true h)
kept_writer i k (r ∷ kept) h = by (same_key r.0 k) refl h (kept_writer i k kept)
  where
    by : (b : Bool) → same_key r.0 k ≡ b → is_some (cond b (Some (bare_cell r).1) (found plain (map bare_cell kept) k)) ≡ true
        → (is_some (found plain (map bare_cell kept) k) ≡ true → found plain (map (λ r. (r.0, writer_of i r.0)) kept) k ≡ Some (writer_of i k))
        → cond b (Some (writer_of i r.0)) (found plain (map (λ r. (r.0, writer_of i r.0)) kept) k) ≡ Some (writer_of i k)
    by true e g ih = ap (λ q. Some (writer_of i q)) (same_exact r.0 k e)
    by false e g ih = ih g

writers : (x y : Option ℕ) → IsProp (x ≡ y)
writers = hlevel props

pub settled_writer : (s : Settled) (k : CellKey) → wrote_cell (settled_item s) k ≡ true → last_among (lasts_of s.written.items) k ≡ writer_of (settled_item s) k
settled_writer s k h = ∥∥₁_elim s.keeps (writers _ _) (λ keeps.
    ap (λ ls. last_among ls k) keeps.cells ∙ ap (λ (o : Option (Option ℕ)). unwrap_or o None) (kept_writer (settled_item s) k (settled_item s).kept h))

-- each of live entries is live
pub live_at : (xs : List Entry) (i : ℕ) (x : Entry) → i < length xs → x ≡ get_or xs i x → AllByRecursion (λ j. j.live ≡ true) (map item_of xs) → (item_of x).live ≡ true
live_at [] i x h is all = absurd (omega arith)
live_at (y ∷ xs) zero x h is all = ap (λ z. (item_of z).live) is ∙ all.0
live_at (y ∷ xs) (suc i) x h is all = live_at xs i x (omega arith) is all.1

-- a name at a place
pub name_before : (ss : List Settled) (ys : List Item) (p : ℕ) (d : Settled) → p < length ss → slice_get (map (λ (i : Item). i.event.name) (map settled_item ss ++ ys)) p ≡ Some (get_or ss p d).name
name_before [] ys p d h = absurd (omega arith)
name_before (s ∷ ss) ys zero d h = refl
name_before (s ∷ ss) ys (suc p) d h = name_before ss ys p d (omega arith)

pub name_behind : (ss : List Settled) (xs : List Entry) (p i : ℕ) (d : Entry) → p ≡ length ss + i → i < length xs → slice_get (map (λ (i : Item). i.event.name) (map settled_item ss ++ map item_of xs)) p ≡ Some (get_or xs i d).event.name
name_behind [] [] p i d is h = absurd (omega arith)
name_behind [] (x ∷ xs) zero zero d is h = refl
name_behind [] (x ∷ xs) zero (suc i) d is h = absurd (omega (arith, is))
name_behind [] (x ∷ xs) (suc p) zero d is h = absurd (omega (arith, is))
name_behind [] (x ∷ xs) (suc p) (suc i) d is h = name_behind [] xs p i d (omega (arith, is)) (omega arith)
name_behind (s ∷ ss) xs zero i d is h = absurd (omega (arith, is))
name_behind (s ∷ ss) xs (suc p) i d is h = name_behind ss xs p i d (omega (arith, is)) h

-- an item at a place
pub item_before : (ss : List Settled) (ys : List Item) (p : ℕ) (d : Settled) → p < length ss → slice_get (map settled_item ss ++ ys) p ≡ Some (settled_item (get_or ss p d))
item_before [] ys p d h = absurd (omega arith)
item_before (s ∷ ss) ys zero d h = refl
item_before (s ∷ ss) ys (suc p) d h = item_before ss ys p d (omega arith)

pub item_there : (ss : List Settled) (p : ℕ) (d : Settled) → p < length ss → slice_get (map settled_item ss) p ≡ Some (settled_item (get_or ss p d))
item_there [] p d h = absurd (omega arith)
item_there (s ∷ ss) zero d h = refl
item_there (s ∷ ss) (suc p) d h = item_there ss p d (omega arith)

pub item_behind : (ss : List Settled) (xs : List Entry) (p i : ℕ) (d : Entry) → p ≡ length ss + i → i < length xs → slice_get (map settled_item ss ++ map item_of xs) p ≡ Some (item_of (get_or xs i d))
item_behind [] [] p i d is h = absurd (omega arith)
item_behind [] (x ∷ xs) zero zero d is h = refl
item_behind [] (x ∷ xs) zero (suc i) d is h = absurd (omega (arith, is))
item_behind [] (x ∷ xs) (suc p) zero d is h = absurd (omega (arith, is))
item_behind [] (x ∷ xs) (suc p) (suc i) d is h = item_behind [] xs p i d (omega (arith, is)) (omega arith)
item_behind (s ∷ ss) xs zero i d is h = absurd (omega (arith, is))
item_behind (s ∷ ss) xs (suc p) i d is h = item_behind ss xs p i d (omega (arith, is)) h

-- one item stands at a place
pub one_there : {A : Type 0} (xs : List A) (p : ℕ) (x y : A) → slice_get xs p ≡ Some x → slice_get xs p ≡ Some y → x ≡ y
one_there xs p x y at there = let both : Some x ≡ Some y = sym at ∙ there in cc
