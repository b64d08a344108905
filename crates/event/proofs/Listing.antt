-- Lists of cells that list one set of a vat's cells, and what is found among contents that one state holds.
use Rattle.std.proofs.Common.{◌≡◌, Bool, true, false, cond, ◌||◌, List, [], ◌∷◌, ◌++◌, map, Option, Some, None, unwrap_or, option_map, inl, inr, refl, sym, ap, subst, ◌∙◌}
use Rattle.std.specs.List.{list_any, AllByRecursion}
use Rattle.std.proofs.lemmas.Bool.{or_left, or_right, or_cases, false≢true}
use Rattle.ids.specs.CellKeys.{same_key}
use Rattle.ids.specs.declared.names.VatNo.{VatNo}
use Rattle.ids.specs.declared.cells.CellKey.{CellKey}
use Rattle.ids.proofs.CellKeys.{same_exact as key_exact, same_self as key_self}
use Rattle.history.specs.Subject.{found}
use Rattle.heap.specs.State as heap
use Rattle.heap.specs.State.{Cell, top, slot_cell, object_cell, view_cell, fence_cell, same_cell, State}
use Rattle.heap.proofs.Cells.{cell_exact, cell_self}
use Rattle.world_cells.specs.World.{Content, content_of, cell_key}
use Rattle.event.specs.Events.{events}

-- one key names one cell of a vat
pub one_cell : (v : VatNo) (c d : Cell) → cell_key v c ≡ cell_key v d → c ≡ d
one_cell v (top x) (top y) h = cc
one_cell v (slot_cell s) (slot_cell t) h = cc
one_cell v (object_cell i) (object_cell j) h = cc
one_cell v (view_cell p) (view_cell q) h = cc
one_cell v (fence_cell r) (fence_cell t) h = cc
one_cell v _ _ h = cc

-- tests that lead to one another agree
pub tests_agree : (p q : Bool) → (p ≡ true → q ≡ true) → (q ≡ true → p ≡ true) → p ≡ q
tests_agree true q h g = sym (h refl)
tests_agree false true h g = g refl
tests_agree false false h g = refl

-- what holds of a list holds of its front and of its rest
pub all_front : {A : Type 0} (P : A → Type 0) (xs ys : List A) → AllByRecursion P (xs ++ ys) → AllByRecursion P xs
all_front P [] ys h = tt
all_front P (x ∷ xs) ys (p, h) = (p, all_front P xs ys h)

pub all_rest : {A : Type 0} (P : A → Type 0) (xs ys : List A) → AllByRecursion P (xs ++ ys) → AllByRecursion P ys
all_rest P [] ys h = h
all_rest P (x ∷ xs) ys (p, h) = all_rest P xs ys h

-- what is found first
abbrev first_of : Option Content → Option Content → Option Content
first_of o p = unwrap_or (option_map (λ x. Some x) o) p

module _ (v : VatNo) where
  -- a key among those of cells is the key of a cell among them
  key_of_some : (k : CellKey) (cs : List Cell) → list_any (same_key k) (map (cell_key v) cs) ≡ true → (c : Cell) × (k ≡ cell_key v c) × (list_any (same_cell c) cs ≡ true)
  key_of_some k [] h = absurd (false≢true h)
  key_of_some k (c ∷ cs) h = elim (or_cases (same_key k (cell_key v c)) _ h) [
    | inl e ↦ (c, key_exact k (cell_key v c) e, or_left _ _ (cell_self c))
    | inr e ↦ let d = key_of_some k cs e in (d.0, d.1, or_right (same_cell d.0 c) _ d.2)
  ]

  -- the key of a cell of a list is among the keys of the list
  key_is_some : (c : Cell) (cs : List Cell) → list_any (same_cell c) cs ≡ true → list_any (same_key (cell_key v c)) (map (cell_key v) cs) ≡ true
  key_is_some c [] h = absurd (false≢true h)
  key_is_some c (d ∷ cs) h = elim (or_cases (same_cell c d) _ h) [
    | inl e ↦ or_left _ _ (subst (λ x. same_key (cell_key v c) (cell_key v x) ≡ true) (cell_exact c d e) (key_self (cell_key v c)))
    | inr e ↦ or_right (same_key (cell_key v c) (cell_key v d)) _ (key_is_some c cs e)
  ]

  -- lists of one set of cells have the same keys
  pub keys_alike : (cs ds : List Cell) → ((c : Cell) → list_any (same_cell c) cs ≡ list_any (same_cell c) ds) → (k : CellKey)
      → list_any (same_key k) (map (cell_key v) cs) ≡ list_any (same_key k) (map (cell_key v) ds)
  keys_alike cs ds h k = tests_agree _ _ (leads cs ds h) (leads ds cs (λ c. sym (h c)))
    where
      leads : (cs ds : List Cell) → ((c : Cell) → list_any (same_cell c) cs ≡ list_any (same_cell c) ds) → list_any (same_key k) (map (cell_key v) cs) ≡ true → list_any (same_key k) (map (cell_key v) ds) ≡ true
      leads cs ds h g =
          let c = key_of_some k cs g in
          subst (λ x. list_any (same_key x) (map (cell_key v) ds) ≡ true) (sym c.1) (key_is_some c.0 ds (sym (h c.0) ∙ c.2))

  -- what holds of the keys of a list holds of the key of each cell in it
  pub at_cell : (P : CellKey → Type 0) (cs : List Cell) → AllByRecursion P (map (cell_key v) cs) → (c : Cell) → list_any (same_cell c) cs ≡ true → P (cell_key v c)
  at_cell P [] h c g = absurd (false≢true g)
  at_cell P (d ∷ cs) (p, h) c g = elim (or_cases (same_cell c d) _ g) [
    | inl e ↦ subst (λ x. P (cell_key v x)) (sym (cell_exact c d e)) p
    | inr e ↦ at_cell P cs h c e
  ]

  -- what is written of a vat's cells
  abbrev pub writes_of : List (Cell × heap.Content) → List (CellKey × Content)
  writes_of left = map (λ p. (cell_key v p.0, content_of p.1)) left

  -- what passes a test among the keys written is a cell of the vat's or comes behind them
  pub any_write : (test : CellKey → Bool) (left : List (Cell × heap.Content)) (more : List (CellKey × Content))
      → list_any test (map (λ p. p.0) (writes_of left ++ more)) ≡ (list_any test (map (cell_key v) (map (λ p. p.0) left)) || list_any test (map (λ p. p.0) more))
  any_write test [] more = refl
  any_write test (p ∷ left) more = ap (λ b. test (cell_key v p.0) || b) (any_write test left more) ∙ or_or (test (cell_key v p.0)) _ _
    where
      or_or : (a b c : Bool) → (a || (b || c)) ≡ ((a || b) || c)
      or_or true b c = refl
      or_or false b c = refl

  -- what holds of all that is written holds of what is written behind the vat's cells
  pub behind_writes : (P : CellKey → Type 0) (left : List (Cell × heap.Content)) (more : List (CellKey × Content))
      → AllByRecursion P (map (λ p. p.0) (writes_of left ++ more)) → AllByRecursion P (map (λ p. p.0) more)
  behind_writes P [] more h = h
  behind_writes P (p ∷ left) more (q, h) = behind_writes P left more h

  -- a content that is found is that of a cell of the list, as the state has it
  abbrev Finds : State → List (Cell × heap.Content) → CellKey → Content → Type 0
  Finds s left k x = (c : Cell) × (y : heap.Content) × (cell_key v c ≡ k) × (list_any (same_cell c) (map (λ p. p.0) left) ≡ true) × (s c ≡ Some y) × (x ≡ content_of y)

  -- each content that is found is so
  finds : (s : State) (left : List (Cell × heap.Content)) → AllByRecursion (λ p. s p.0 ≡ Some p.1) left → (k : CellKey) (x : Content) → found events (writes_of left) k ≡ Some x → Finds s left k x
  finds s [] h k x e = cc
  finds s (p ∷ left) (q, h) k x e = first (same_key (cell_key v p.0) k) refl e (finds s left h k x)
    where
      first : (b : Bool) → same_key (cell_key v p.0) k ≡ b → cond b (Some (content_of p.1)) (found events (writes_of left) k) ≡ Some x
          → (found events (writes_of left) k ≡ Some x → Finds s left k x) → Finds s (p ∷ left) k x
      first true g is ih = (p.0, p.1, key_exact (cell_key v p.0) k g, or_left _ _ (cell_self p.0), q, only is)
        where
          only : Some (content_of p.1) ≡ Some x → x ≡ content_of p.1
          only is = cc
      first false g is ih = let f = ih is in (f.0, f.1, f.2, or_right (same_cell f.0 p.0) _ f.3, f.4, f.5)

  -- what is found of a cell of the list is not nothing
  found_there : (left : List (Cell × heap.Content)) (c : Cell) → list_any (same_cell c) (map (λ p. p.0) left) ≡ true → found events (writes_of left) (cell_key v c) ≡ None → ⊥
  found_there [] c h e = false≢true h
  found_there (p ∷ left) c h e = first (same_key (cell_key v p.0) (cell_key v c)) refl e (found_there left c)
    where
      first : (b : Bool) → same_key (cell_key v p.0) (cell_key v c) ≡ b → cond b (Some (content_of p.1)) (found events (writes_of left) (cell_key v c)) ≡ None
          → (list_any (same_cell c) (map (λ q. q.0) left) ≡ true → found events (writes_of left) (cell_key v c) ≡ None → ⊥) → ⊥
      first true g is ih = cc
      first false g is ih = elim (or_cases (same_cell c p.0) _ h) [
        | inl m ↦ false≢true (sym g ∙ subst (λ x. same_key (cell_key v x) (cell_key v c) ≡ true) (cell_exact c p.0 m) (key_self (cell_key v c)))
        | inr m ↦ ih m is
      ]

  -- lists of one set of cells, with contents that one state holds, write the same
  pub found_alike : (s : State) (left more : List (Cell × heap.Content)) → AllByRecursion (λ p. s p.0 ≡ Some p.1) left → AllByRecursion (λ p. s p.0 ≡ Some p.1) more
      → ((c : Cell) → list_any (same_cell c) (map (λ p. p.0) left) ≡ list_any (same_cell c) (map (λ p. p.0) more)) → (k : CellKey)
      → found events (writes_of left) k ≡ found events (writes_of more) k
  found_alike s left more h g same k = by (found events (writes_of left) k) (found events (writes_of more) k) refl refl
    where
      one_content : (c d : Cell) (y z : heap.Content) → c ≡ d → s c ≡ Some y → s d ≡ Some z → y ≡ z
      one_content c d y z e p q = cc

      by : (o p : Option Content) → found events (writes_of left) k ≡ o → found events (writes_of more) k ≡ p → o ≡ p
      by None None e f = refl
      by (Some x) None e f =
          let a = finds s left h k x e in
          absurd (found_there more a.0 (sym (same a.0) ∙ a.3) (subst (λ q. found events (writes_of more) q ≡ None) (sym a.2) f))
      by None (Some y) e f =
          let a = finds s more g k y f in
          absurd (found_there left a.0 (same a.0 ∙ a.3) (subst (λ q. found events (writes_of left) q ≡ None) (sym a.2) e))
      by (Some x) (Some y) e f =
          let a = finds s left h k x e in
          let b = finds s more g k y f in
          ap Some (a.5 ∙ ap content_of (one_content a.0 b.0 a.1 b.1 (one_cell v a.0 b.0 (a.2 ∙ sym b.2)) a.4 b.4) ∙ sym b.5)

  -- and so they do before the same further writes
  pub found_before : (left more : List (Cell × heap.Content)) (rest : List (CellKey × Content)) (k : CellKey) → found events (writes_of left) k ≡ found events (writes_of more) k
      → found events (writes_of left ++ rest) k ≡ found events (writes_of more ++ rest) k
  found_before left more rest k h = splits (writes_of left) ∙ ap (λ o. first_of o (found events rest k)) h ∙ sym (splits (writes_of more))
    where
      chosen : (b : Bool) (x : Content) (o p q : Option Content) → p ≡ first_of q o → cond b (Some x) p ≡ first_of (cond b (Some x) q) o
      chosen true x o p q e = refl
      chosen false x o p q e = e

      splits : (ps : List (CellKey × Content)) → found events (ps ++ rest) k ≡ first_of (found events ps k) (found events rest k)
      splits [] = refl
      splits (p ∷ ps) = chosen (same_key p.0 k) p.1 (found events rest k) _ _ (splits ps)
