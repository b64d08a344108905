-- Versions of cells: who wrote over one, and where that is listed.
use Rattle.std.proofs.Common.{◌≡◌, ◌∙◌, ℕ, zero, suc, ◌<◌, Bool, true, false, cond, ◌&&◌, ◌||◌, List, [], ◌∷◌, ◌++◌, Option, Some, is_some, length, map, inl, inr, refl, sym, ap, ap₂, arith, true≢false}
use Rattle.std.specs.List.{list_any, AllByRecursion}
use Rattle.std.proofs.Math.Bool.{Bool-set}
use Rattle.std.proofs.Math.Logic.{∥∥₁_elim}
use Rattle.std.proofs.lemmas.Bool.{or_cases}
use Rattle.history.specs.Subject.{found}
use Rattle.history_consequences.specs.Versions.{is_one}
use Rattle.ids.specs.CellKeys.{same_key}
use Rattle.ids.specs.declared.names.EventName.{EventName}
use Rattle.ids.specs.declared.cells.CellKey.{CellKey}
use Rattle.ids.proofs.CellKeys.{same_exact}
use Rattle.world_cells.specs.World.{Content}
use Rattle.journal.specs.Items.{Item, lasts_of}
use Rattle.journal.specs.Lines.{plain, writer_of}
use Rattle.journal.specs.Settled.{written_by}
use Rattle.journal.specs.Links.{lister}
use Rattle.journal.specs.SettledView.{settled_item}
use Rattle.journal.specs.declared.settled.Settled.{Settled}
use Rattle.causality.specs.Causes.{passes_at}
use Rattle.causality.specs.Crossing.{wrote_over, is_version}
use Rattle.causality.specs.Walks.{stays}

-- who has a record of a cell wrote it
pub wrote_is : (k : CellKey) (rs : List (CellKey × (Option Content × Option ℕ))) → list_any (λ (r : CellKey × (Option Content × Option ℕ)). same_key r.0 k) rs ≡ is_some (found plain (map {B = CellKey × Unit {0}} (λ (r : CellKey × (Option Content × Option ℕ)). (r.0, tt)) rs) k)
wrote_is k [] = refl
wrote_is k (r ∷ rs) = by (same_key r.0 k) (wrote_is k rs)
  where
    by : (b : Bool) → list_any (λ (r : CellKey × (Option Content × Option ℕ)). same_key r.0 k) rs ≡ is_some (found plain (map {B = CellKey × Unit {0}} (λ (r : CellKey × (Option Content × Option ℕ)). (r.0, tt)) rs) k)
        → (b || list_any (λ (r : CellKey × (Option Content × Option ℕ)). same_key r.0 k) rs) ≡ is_some (cond b (Some tt) (found plain (map {B = CellKey × Unit {0}} (λ (r : CellKey × (Option Content × Option ℕ)). (r.0, tt)) rs) k))
    by true ih = refl
    by false ih = ih

-- an item that wrote a cell is listed where those are listed that had its last writer
pub listed_at : (on_list : EventName → EventName → Bool) (e : EventName) (w : CellKey → Option ℕ) (k : CellKey) (rs : List (CellKey × (Option Content × Option ℕ)))
    → AllByRecursion (λ (p : CellKey × Option ℕ). on_list (lister p.0 p.1) e ≡ true) (map {B = CellKey × Option ℕ} (λ (r : CellKey × (Option Content × Option ℕ)). (r.0, w r.0)) rs)
    → list_any (λ (r : CellKey × (Option Content × Option ℕ)). same_key r.0 k) rs ≡ true → on_list (lister k (w k)) e ≡ true
listed_at on_list e w k [] h some = absurd (true≢false (sym some))
listed_at on_list e w k (r ∷ rs) (h, hs) some = elim (or_cases (same_key r.0 k) (list_any (λ (q : CellKey × (Option Content × Option ℕ)). same_key q.0 k) rs) some) [
  | inl same ↦ ap (λ c. on_list (lister c (w c)) e) (sym (same_exact r.0 k same)) ∙ h
  | inr there ↦ listed_at on_list e w k rs hs there
]

-- what an item wrote over is found among what it wrote, with the last writers before it
pub over_written : (p : CellKey × Option ℕ) (f : Item) → list_any (is_version p) (written_by f) ≡ wrote_over p f
over_written p f = each f.kept
  where
    never : (b : Bool) → false ≡ (b && false)
    never true = refl
    never false = refl

    joined : (b c : Bool) → (b || (b && c)) ≡ (b && true)
    joined true c = refl
    joined false c = refl

    each : (rs : List (CellKey × (Option Content × Option ℕ))) → list_any (is_version p) (map {B = CellKey × Option ℕ} (λ (r : CellKey × (Option Content × Option ℕ)). (r.0, writer_of f r.0)) rs) ≡ (is_one (writer_of f p.0) p.1 && list_any (λ r. same_key r.0 p.0) rs)
    each [] = never (is_one (writer_of f p.0) p.1)
    each (r ∷ rs) = by (same_key r.0 p.0) refl (each rs)
      where
        by : (b : Bool) → same_key r.0 p.0 ≡ b → list_any (is_version p) (map {B = CellKey × Option ℕ} (λ (r : CellKey × (Option Content × Option ℕ)). (r.0, writer_of f r.0)) rs) ≡ (is_one (writer_of f p.0) p.1 && list_any (λ r. same_key r.0 p.0) rs)
            → ((b && is_one (writer_of f r.0) p.1) || list_any (is_version p) (map {B = CellKey × Option ℕ} (λ (r : CellKey × (Option Content × Option ℕ)). (r.0, writer_of f r.0)) rs)) ≡ (is_one (writer_of f p.0) p.1 && (b || list_any (λ r. same_key r.0 p.0) rs))
        by true same ih = ap₂ (λ x y. x || y) (ap (λ k. is_one (writer_of f k) p.1) (same_exact r.0 p.0 same)) ih ∙ joined (is_one (writer_of f p.0) p.1) (list_any (λ r. same_key r.0 p.0) rs)
        by false other ih = ih

-- so a settled entry keeps it
pub settled_over : (s : Settled) (p : CellKey × Option ℕ) → list_any (is_version p) (lasts_of s.written.items) ≡ wrote_over p (settled_item s)
settled_over s p = ∥∥₁_elim s.keeps (Bool-set _ _) (λ keeps. ap (list_any (is_version p)) keeps.cells ∙ over_written p (settled_item s))

-- and it is live
pub settled_stays : (names : List EventName) (ss : List Settled) (ys : List Item) (p : ℕ) → p < length ss → true ≡ passes_at (stays names) (map settled_item ss ++ ys) p
settled_stays names [] ys p h = absurd (omega arith)
settled_stays names (s ∷ ss) ys zero h = refl
settled_stays names (s ∷ ss) ys (suc p) h = settled_stays names ss ys p (omega arith)
