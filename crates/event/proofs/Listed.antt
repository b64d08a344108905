-- Cells that are listed once, with what was written there.
use Rattle.std.proofs.Common.{◌≡◌, Bool, true, false, cond, ◌||◌, List, [], ◌∷◌, ◌++◌, map, Option, Some, None, is_some, inl, inr, refl, sym, ap, ◌∙◌}
use Rattle.std.specs.List.{list_any, AllByRecursion}
use Rattle.std.specs.Map.{lookup}
use Rattle.std.proofs.lemmas.Bool.{false≢true, or_left, or_right, or_cases}
use Rattle.history.specs.Records.{Record, Apart}
use Rattle.history.specs.Subject.{found}
use Rattle.history.proofs.Lists.{all_map}
use Rattle.ids.specs.CellKeys.{same_key}
use Rattle.ids.specs.declared.names.EventName.{EventName}
use Rattle.ids.specs.declared.names.VatNo.{VatNo}
use Rattle.ids.specs.declared.cells.CellKey.{CellKey}
use Rattle.ids.proofs.Keys.{equal_self}
use Rattle.heap.specs.State as heap
use Rattle.heap.specs.State.{Cell, top, slot_cell, object_cell, view_cell, fence_cell, same_cell}
use Rattle.heap.proofs.Cells.{cell_exact, cell_self}
use Rattle.world_cells.specs.World.{cell_key, content_of}
use Rattle.world_cells.specs.Theory.{cells}
use Rattle.event.specs.Events.{in_world}
use Rattle.event.specs.Entries.{Entry, cells_in, keys_in, left_at, left_in, kept_left}

-- ---- cells that are the same

-- which of two stands first makes no difference
cell_turned : (c d : Cell) → same_cell c d ≡ false → same_cell d c ≡ false
cell_turned c d h = by (same_cell d c) refl
  where
    by : (b : Bool) → same_cell d c ≡ b → b ≡ false
    by true e = absurd (false≢true (sym h ∙ ap (same_cell c) (cell_exact d c e) ∙ cell_self c))
    by false e = refl

-- the keys of a vat's cells are the same where the cells are
keys_agree : (v : VatNo) (c d : Cell) → same_key (cell_key v c) (cell_key v d) ≡ same_cell c d
keys_agree v (top x) (top y) = rw (equal_self v.0.0) refl
keys_agree v (view_cell p) (view_cell q) = rw (equal_self v.0.0) refl
keys_agree v (fence_cell r) (fence_cell t) = rw (equal_self v.0.0) refl
keys_agree v (top x) (slot_cell y) = refl
keys_agree v (top x) (object_cell y) = refl
keys_agree v (top x) (view_cell y) = refl
keys_agree v (top x) (fence_cell y) = refl
keys_agree v (slot_cell x) (top y) = refl
keys_agree v (slot_cell x) (slot_cell y) = refl
keys_agree v (slot_cell x) (object_cell y) = refl
keys_agree v (slot_cell x) (view_cell y) = refl
keys_agree v (slot_cell x) (fence_cell y) = refl
keys_agree v (object_cell x) (top y) = refl
keys_agree v (object_cell x) (slot_cell y) = refl
keys_agree v (object_cell x) (object_cell y) = refl
keys_agree v (object_cell x) (view_cell y) = refl
keys_agree v (object_cell x) (fence_cell y) = refl
keys_agree v (view_cell x) (top y) = refl
keys_agree v (view_cell x) (slot_cell y) = refl
keys_agree v (view_cell x) (object_cell y) = refl
keys_agree v (view_cell x) (fence_cell y) = refl
keys_agree v (fence_cell x) (top y) = refl
keys_agree v (fence_cell x) (slot_cell y) = refl
keys_agree v (fence_cell x) (object_cell y) = refl
keys_agree v (fence_cell x) (view_cell y) = refl

-- ---- what is looked up

-- what was written, if anything is known
abbrev pub known : {X : Type 0} → Option (Option X) → Option X
known None = None
known (Some o) = o

-- a cell is listed if something is looked up there
pub any_listed : (c : Cell) (es : List Entry) → list_any (same_cell c) (cells_in es) ≡ is_some (lookup (same_cell c) es)
any_listed c [] = refl
any_listed c (e ∷ es) = first (same_cell c e.0) (any_listed c es)
  where
    first : (b : Bool) → list_any (same_cell c) (cells_in es) ≡ is_some (lookup (same_cell c) es) → (b || list_any (same_cell c) (cells_in es)) ≡ is_some (cond b (Some e.1) (lookup (same_cell c) es))
    first true ih = refl
    first false ih = ih

-- no cell stands twice
abbrev pub Once : List Entry → Type 0
Once [] = Unit {0}
Once (e ∷ es) = (list_any (same_cell e.0) (cells_in es) ≡ false) × Once es

-- nothing is known where nothing is looked up
none_known : (o : Option (Option heap.Content)) → is_some o ≡ false → known o ≡ None
none_known None h = refl
none_known (Some x) h = absurd (false≢true (sym h))

-- of a cell that is not listed nothing is known
absent : (c : Cell) (es : List Entry) → list_any (same_cell c) (cells_in es) ≡ false → known (lookup (same_cell c) es) ≡ None
absent c es h = none_known (lookup (same_cell c) es) (sym (any_listed c es) ∙ h)

-- a cell is among those that were written if something is known to be written there
pub any_left : (c : Cell) (es : List Entry) → Once es → list_any (same_cell c) (map (λ p. p.0) (left_in es)) ≡ is_some (known (lookup (same_cell c) es))
any_left c [] h = refl
any_left c (e ∷ es) h = first e.1 (same_cell c e.0) refl (any_left c es h.1)
  where
    first : (o : Option heap.Content) (b : Bool) → same_cell c e.0 ≡ b → list_any (same_cell c) (map (λ p. p.0) (left_in es)) ≡ is_some (known (lookup (same_cell c) es))
        → list_any (same_cell c) (map (λ p. p.0) (left_at e.0 o ++ left_in es)) ≡ is_some (known (cond b (Some o) (lookup (same_cell c) es)))
    first None true m ih = ih ∙ ap is_some (absent c es (ap (λ d. list_any (same_cell d) (cells_in es)) (cell_exact c e.0 m) ∙ h.0))
    first None false m ih = ih
    first (Some x) true m ih = ap (λ b. b || list_any (same_cell c) (map (λ p. p.0) (left_in es))) m
    first (Some x) false m ih = ap (λ b. b || list_any (same_cell c) (map (λ p. p.0) (left_in es))) m ∙ ih

-- what is known of another cell is not changed by one that stands in front
known_behind : (e : Entry) (es : List Entry) → list_any (same_cell e.0) (cells_in es) ≡ false → (c : Cell) (x : heap.Content) → known (lookup (same_cell c) es) ≡ Some x → known (lookup (same_cell c) (e ∷ es)) ≡ Some x
known_behind e es apart c x k = by (same_cell c e.0) refl
  where
    by : (b : Bool) → same_cell c e.0 ≡ b → known (cond b (Some e.1) (lookup (same_cell c) es)) ≡ Some x
    by true m = let n : known (lookup (same_cell c) es) ≡ None = absent c es (ap (λ d. list_any (same_cell d) (cells_in es)) (cell_exact c e.0 m) ∙ apart) in cc
    by false m = k

-- of each cell that was written it is known what
pub left_known : (es : List Entry) → Once es → AllByRecursion (λ p. known (lookup (same_cell p.0) es) ≡ Some p.1) (left_in es)
left_known [] h = tt
left_known (e ∷ es) h = first e.1 refl (all_map (λ p. known (lookup (same_cell p.0) es) ≡ Some p.1) (λ p. known (lookup (same_cell p.0) (e ∷ es)) ≡ Some p.1) (left_in es) (λ p k. known_behind e es h.0 p.0 p.1 k) (left_known es h.1))
  where
    first : (o : Option heap.Content) → e.1 ≡ o → AllByRecursion (λ p. known (lookup (same_cell p.0) (e ∷ es)) ≡ Some p.1) (left_in es) → AllByRecursion (λ p. known (lookup (same_cell p.0) (e ∷ es)) ≡ Some p.1) (left_at e.0 o ++ left_in es)
    first None is later = later
    first (Some x) is later = (ap (λ b. known (cond b (Some e.1) (lookup (same_cell e.0) es))) (cell_self e.0) ∙ is, later)

-- ---- keys in the world

-- what was written was touched
pub left_within : (v : VatNo) (test : CellKey → Bool) (es : List Entry) → list_any test (map (λ p. p.0) (in_world v (left_in es))) ≡ true → list_any test (keys_in v es) ≡ true
left_within v test [] h = h
left_within v test (e ∷ es) h = first e.1 h (left_within v test es)
  where
    first : (o : Option heap.Content) → list_any test (map (λ p. p.0) (in_world v (left_at e.0 o ++ left_in es))) ≡ true
        → (list_any test (map (λ p. p.0) (in_world v (left_in es))) ≡ true → list_any test (keys_in v es) ≡ true) → list_any test (keys_in v (e ∷ es)) ≡ true
    first None g ih = or_right (test (cell_key v e.0)) _ (ih g)
    first (Some x) g ih = elim (or_cases (test (cell_key v e.0)) _ g) [ inl q ↦ or_left _ _ q | inr q ↦ or_right (test (cell_key v e.0)) _ (ih q) ]

-- neither of two where not one of them
neither : (a b : Bool) → (a || b) ≡ false → (a ≡ false) × (b ≡ false)
neither true b h = absurd (false≢true (sym h))
neither false b h = (refl, h)

-- a record of cells that are listed once has each once
module _ (n : EventName) (v : VatNo) (rest : Record cells) (apart : (c : Cell) → found cells rest (cell_key v c) ≡ None) (fits : Apart cells rest) where
  -- a cell that is not listed is not in the record
  not_found : (c : Cell) (es : List Entry) → list_any (same_cell c) (cells_in es) ≡ false → found cells (kept_left n v (left_in es) ++ rest) (cell_key v c) ≡ None
  not_found c [] h = apart c
  not_found c (e ∷ es) h = let p = neither (same_cell c e.0) (list_any (same_cell c) (cells_in es)) h in first e.1 p.0 (not_found c es p.1)
    where
      first : (o : Option heap.Content) → same_cell c e.0 ≡ false → found cells (kept_left n v (left_in es) ++ rest) (cell_key v c) ≡ None → found cells (kept_left n v (left_at e.0 o ++ left_in es) ++ rest) (cell_key v c) ≡ None
      first None m ih = ih
      first (Some x) m ih = ap (λ b. cond b (Some (Some (content_of x), Some n.0)) (found cells (kept_left n v (left_in es) ++ rest) (cell_key v c))) (keys_agree v e.0 c ∙ cell_turned c e.0 m) ∙ ih

  -- so no cell of the record stands twice
  pub kept_apart : (es : List Entry) → Once es → Apart cells (kept_left n v (left_in es) ++ rest)
  kept_apart [] h = fits
  kept_apart (e ∷ es) h = first e.1 (kept_apart es h.1)
    where
      first : (o : Option heap.Content) → Apart cells (kept_left n v (left_in es) ++ rest) → Apart cells (kept_left n v (left_at e.0 o ++ left_in es) ++ rest)
      first None ih = ih
      first (Some x) ih = (not_found e.0 es h.0, ih)
