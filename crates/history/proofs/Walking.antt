-- A walk along the chosen positions of a vector exchanges the chosen rows.
use Rattle.std.proofs.Common.{◌≡◌, ℕ, suc, ◌+◌, Bool, true, false, cond, List, [], ◌∷◌, ◌++◌, length, map, reverse, refl, sym, ap, ◌∙◌, arith}
use mathlib.Core.List.{reverse_aux}
use Rattle.std.specs.Prelude.{slice_get, slice_set}
use Rattle.std.proofs.lemmas.List.{reverse-append, length-map, map-id, reverse-reverse}
use Rattle.history.specs.Subject.{Subject}
use Rattle.history.specs.Journal.{Entry}
use Rattle.history.specs.Records.{State, Row, swap_state, swap_row, undo_state, undo_rows, redo_state, redo_rows}
use Rattle.history.specs.Walks.{spots, step_at, walk, exchange}

module _ {A : Type 0} where
  get_onto : (xs ys : List A) (k : ℕ) → slice_get (reverse_aux xs ys) (length xs + k) ≡ slice_get ys k
  get_onto [] ys k = let e : 0 + k ≡ k = omega arith in ap (slice_get ys) e
  get_onto (x ∷ xs) ys k = let e : length (x ∷ xs) + k ≡ length xs + suc k = omega arith in ap (slice_get (reverse_aux xs (x ∷ ys))) e ∙ get_onto xs (x ∷ ys) (suc k)

  set_onto : (xs ys : List A) (k : ℕ) (a : A) → slice_set (reverse_aux xs ys) (length xs + k) a ≡ reverse_aux xs (slice_set ys k a)
  set_onto [] ys k a = let e : 0 + k ≡ k = omega arith in ap (λ i. slice_set ys i a) e
  set_onto (x ∷ xs) ys k a = let e : length (x ∷ xs) + k ≡ length xs + suc k = omega arith in ap (λ i. slice_set (reverse_aux xs (x ∷ ys)) i a) e ∙ set_onto xs (x ∷ ys) (suc k) a

  module _ {S : Type 0} (one : A → S → A × S) where
    -- one step at the item that stands behind all of xs
    step_seam : (xs ys : List A) (x : A) (w : S) (p : ℕ) → p ≡ length xs → step_at one p (reverse_aux xs (x ∷ ys), w) ≡ (reverse_aux xs ((one x w).0 ∷ ys), (one x w).1)
    step_seam xs ys x w p at =
        let e : p ≡ length xs + 0 = omega arith in
        rw (e, get_onto xs (x ∷ ys) 0, set_onto xs (x ∷ ys) 0 (one x w).0)

    pub walk_append : (ps qs : List ℕ) (j : List A × S) → walk one (ps ++ qs) j ≡ walk one qs (walk one ps j)
    walk_append [] qs j = refl
    walk_append (p ∷ ps) qs j = walk_append ps qs (step_at one p j)

-- f tells of a row what the vector has of it
module _ (s : Subject) {A : Type 0} (f : Row s → A) (c : Entry s → Bool) where
  abbrev pub chosen : List (Row s) → List ℕ
  chosen rows = spots (λ p. c p.0) rows

  pub walk_undo : (one : A → State s → A × State s) → ((p : Row s) (w : State s) → one (f p) w ≡ (f (swap_row s false p w), swap_state s p.1 w))
      → (rows : List (Row s)) (ys : List A) (w : State s) → walk one (chosen rows) (reverse_aux (map f rows) ys, w) ≡ (reverse_aux (map f (undo_rows s c rows w)) ys, undo_state s c rows w)
  walk_undo one hit [] ys w = refl
  walk_undo one hit (p ∷ ps) ys w = go (c p.0) (λ zs v. walk_undo one hit ps zs v)
    where
      go : (b : Bool) → ((zs : List A) (v : State s) → walk one (chosen ps) (reverse_aux (map f ps) zs, v) ≡ (reverse_aux (map f (undo_rows s c ps v)) zs, undo_state s c ps v))
          → walk one (cond b (length ps ∷ chosen ps) (chosen ps)) (reverse_aux (map f ps) (f p ∷ ys), w)
          ≡ (reverse_aux (map f (undo_rows s c ps (cond b (swap_state s p.1 w) w))) (f (cond b (swap_row s false p w) p) ∷ ys), undo_state s c ps (cond b (swap_state s p.1 w) w))
      go true ih =
          ap (walk one (chosen ps)) (step_seam one (map f ps) ys (f p) w (length ps) (sym (length-map ps f)) ∙ ap (λ (r : A × State s). (reverse_aux (map f ps) (r.0 ∷ ys), r.1)) (hit p w))
          ∙ ih _ _
      go false ih = ih _ w

  length_redo : (rows : List (Row s)) (w : State s) → length (redo_rows s c rows w) ≡ length rows
  length_redo [] w = refl
  length_redo (p ∷ ps) w = ap suc (length_redo ps w)

  pub walk_redo : (one : A → State s → A × State s) → ((p : Row s) (w : State s) → one (f p) w ≡ (f (swap_row s true p w), swap_state s p.1 w))
      → (rows : List (Row s)) (ys : List A) (w : State s) → walk one (reverse (chosen rows)) (reverse_aux (map f rows) ys, w) ≡ (reverse_aux (map f (redo_rows s c rows w)) ys, redo_state s c rows w)
  walk_redo one hit [] ys w = refl
  walk_redo one hit (p ∷ ps) ys w = go (c p.0) (λ zs. walk_redo one hit ps zs w)
    where
      go : (b : Bool) → ((zs : List A) → walk one (reverse (chosen ps)) (reverse_aux (map f ps) zs, w) ≡ (reverse_aux (map f (redo_rows s c ps w)) zs, redo_state s c ps w))
          → walk one (reverse (cond b (length ps ∷ chosen ps) (chosen ps))) (reverse_aux (map f ps) (f p ∷ ys), w)
          ≡ (reverse_aux (map f (redo_rows s c ps w)) (f (cond b (swap_row s true p (redo_state s c ps w)) p) ∷ ys), cond b (swap_state s p.1 (redo_state s c ps w)) (redo_state s c ps w))
      go true ih =
          ap (λ qs. walk one qs (reverse_aux (map f ps) (f p ∷ ys), w)) (reverse-append (length ps ∷ []) (chosen ps))
          ∙ walk_append one (reverse (chosen ps)) (length ps ∷ []) _
          ∙ ap (step_at one (length ps)) (ih (f p ∷ ys))
          ∙ step_seam one (map f (redo_rows s c ps w)) ys (f p) _ (length ps) (sym (length-map (redo_rows s c ps w) f ∙ length_redo ps w))
          ∙ ap (λ (r : A × State s). (reverse_aux (map f (redo_rows s c ps w)) (r.0 ∷ ys), r.1)) (hit p _)
      go false ih = ih _

-- where the items are the rows
module _ (s : Subject) (c : Entry s → Bool) (items : List (Row s)) (w : State s) where
  back_again : (rows : List (Row s)) → reverse (map (λ (p : Row s). p) rows) ≡ reverse rows
  back_again rows = ap reverse (map-id rows)

  itself : reverse (map (λ (p : Row s). p) (reverse items)) ≡ items
  itself = back_again (reverse items) ∙ reverse-reverse items

  pub undo_walked : walk (exchange s false) (spots (λ p. c p.0) (reverse items)) (items, w) ≡ (reverse (undo_rows s c (reverse items) w), undo_state s c (reverse items) w)
  undo_walked =
      let rows : List (Row s) = reverse items in
      ap (λ (js : List (Row s)). walk (exchange s false) (spots (λ p. c p.0) rows) (js, w)) (sym itself)
      ∙ walk_undo s (λ p. p) c (exchange s false) (λ p v. refl) rows [] w
      ∙ ap (λ (js : List (Row s)). (js, undo_state s c rows w)) (back_again (undo_rows s c rows w))

  pub redo_walked : walk (exchange s true) (reverse (spots (λ p. c p.0) (reverse items))) (items, w) ≡ (reverse (redo_rows s c (reverse items) w), redo_state s c (reverse items) w)
  redo_walked =
      let rows : List (Row s) = reverse items in
      ap (λ (js : List (Row s)). walk (exchange s true) (reverse (spots (λ p. c p.0) rows)) (js, w)) (sym itself)
      ∙ walk_redo s (λ p. p) c (exchange s true) (λ p v. refl) rows [] w
      ∙ ap (λ (js : List (Row s)). (js, redo_state s c rows w)) (back_again (redo_rows s c rows w))
