-- On what is known of the cells that a turn touched.
use Rattle.std.proofs.Common.{◌≡◌, Result, Ok, Err, OnOk, OnErr, Option, Some, None, Bool, true, false, cond, is_some, ◌||◌, refl, sym, ap, ◌∙◌, subst}
use Rattle.std.specs.Option.{option_map}
use Rattle.cells.specs.Touches.{standing}
use Rattle.cells.specs.declared.touches.Touch.{Touch}
use Rattle.cells.specs.Clones.{ContentClones, AreClones}
use Rattle.cells.specs.Seen.{Seen}
use Rattle.heap.specs.State.{Content, Cell, State, Cells, also, write, same_cell}
use Rattle.heap.specs.View.{told}
use Rattle.heap.specs.Found.{written_part, standing_over}
use Rattle.heap.proofs.Cells.{cell_exact}

-- ---- what follows of a cell of which it is known

also_one : (b : Bool) (t : Touch Content) (o : Option (Touch Content)) → is_some (cond b (Some t) o) ≡ (b || is_some o)
also_one true t o = refl
also_one false t o = refl

stands_one : (b : Bool) (t : Touch Content) (o : Option (Touch Content)) (c : Option Content) → standing_over (cond b (Some t) o) c ≡ cond b (standing t.found t.written) (standing_over o c)
stands_one true t o c = refl
stands_one false t o c = refl

writes_one : (b : Bool) (t : Touch Content) (o : Option (Touch Content)) → written_part (cond b (Some t) o) ≡ cond b t.written (written_part o)
writes_one true t o = refl
writes_one false t o = refl

-- ---- cells that are the same

by_cases : {X : Type 0} (b : Bool) (x y z : X) → (b ≡ true → x ≡ z) → (b ≡ false → y ≡ z) → cond b x y ≡ z
by_cases true x y z h g = h refl
by_cases false x y z h g = g refl

-- a cell that was touched before makes the set no larger
pub also_there : (k : Cell) (q : Cells) → q k ≡ true → q ≡ also k q
also_there k q h = λ i c. there (same_cell k c) (q c) (λ e. ap q (sym (cell_exact k c e)) ∙ h) i
  where
    there : (b p : Bool) → (b ≡ true → p ≡ true) → p ≡ (b || p)
    there true p h = h refl
    there false p h = refl

-- ---- one more cell is touched, or is touched anew

module _ (old new : Cell → Option (Touch Content)) (k : Cell) (t : Touch Content) (is : (c : Cell) → new c ≡ cond (same_cell k c) (Some t) (old c)) where
  pub touched_more : (λ c. is_some (new c)) ≡ also k (λ c. is_some (old c))
  touched_more = λ i c. (ap is_some (is c) ∙ also_one (same_cell k c) t (old c)) i

  pub state_written : (s : State) (v : Content) → t.written ≡ Some v → (λ c. standing_over (new c) (s c)) ≡ write (λ c. standing_over (old c) (s c)) k v
  state_written s v h = λ i c. (ap (λ o. standing_over o (s c)) (is c) ∙ stands_one (same_cell k c) t (old c) (s c) ∙ ap (λ w. cond (same_cell k c) (standing t.found w) (standing_over (old c) (s c))) h) i

  pub writes_more : (v : Content) → t.written ≡ Some v → (λ c. written_part (new c)) ≡ write (λ c. written_part (old c)) k v
  writes_more v h = λ i c. (ap written_part (is c) ∙ writes_one (same_cell k c) t (old c) ∙ ap (λ w. cond (same_cell k c) w (written_part (old c))) h) i

  pub still_found : (s : State) → t.found ≡ s k → ((c : Cell) (u : Touch Content) → old c ≡ Some u → u.found ≡ s c) → (c : Cell) (u : Touch Content) → new c ≡ Some u → u.found ≡ s c
  still_found s h g c u e = one (same_cell k c) refl (sym (is c) ∙ e)
    where
      one : (b : Bool) → same_cell k c ≡ b → cond b (Some t) (old c) ≡ Some u → u.found ≡ s c
      one true m e = let p : t ≡ u = cc in ap (λ (u : Touch Content). u.found) (sym p) ∙ h ∙ ap s (cell_exact k c m)
      one false m e = g c u e

  -- a cell of which nothing was known is only read
  module _ (none : old k ≡ None) (s : State) (found : t.found ≡ s k) (unwritten : t.written ≡ None) where
    pub state_read : ◌≡◌ {A = State} (λ c. standing_over (new c) (s c)) (λ c. standing_over (old c) (s c))
    state_read = λ i c. (ap (λ o. standing_over o (s c)) (is c) ∙ stands_one (same_cell k c) t (old c) (s c) ∙ by_cases (same_cell k c) _ _ _ (λ m. at c (cell_exact k c m)) (λ m. refl)) i
      where
        at : (c : Cell) → k ≡ c → standing t.found t.written ≡ standing_over (old c) (s c)
        at c m = subst (λ c. standing t.found t.written ≡ standing_over (old c) (s c)) m (ap (standing t.found) unwritten ∙ found ∙ ap (λ o. standing_over o (s k)) (sym none))

    pub writes_read : ◌≡◌ {A = State} (λ c. written_part (new c)) (λ c. written_part (old c))
    writes_read = λ i c. (ap written_part (is c) ∙ writes_one (same_cell k c) t (old c) ∙ by_cases (same_cell k c) _ _ _ (λ m. at c (cell_exact k c m)) (λ m. refl)) i
      where
        at : (c : Cell) → k ≡ c → t.written ≡ written_part (old c)
        at c m = subst (λ c. t.written ≡ written_part (old c)) m (unwritten ∙ ap written_part (sym none))

-- ---- nothing was touched

module _ (old new : Cell → Option (Touch Content)) (is : (c : Cell) → new c ≡ old c) where
  pub state_same : (s : State) → ◌≡◌ {A = State} (λ c. standing_over (new c) (s c)) (λ c. standing_over (old c) (s c))
  state_same s = λ i c. standing_over (is c i) (s c)

  pub writes_same : ◌≡◌ {A = State} (λ c. written_part (new c)) (λ c. written_part (old c))
  writes_same = λ i c. written_part (is c i)

  pub touched_same : ◌≡◌ {A = Cells} (λ c. is_some (new c)) (λ c. is_some (old c))
  touched_same = λ i c. is_some (is c i)

  pub found_same : (s : State) → ((c : Cell) (u : Touch Content) → old c ≡ Some u → u.found ≡ s c) → (c : Cell) (u : Touch Content) → new c ≡ Some u → u.found ≡ s c
  found_same s g c u e = g c u (sym (is c) ∙ e)

pub some_is : {X : Type 0} (o : Option X) → is_some o ≡ true → (x : X) × (o ≡ Some x)
some_is None h = cc
some_is (Some x) h = (x, refl)

pub none_is : {X : Type 0} (o : Option X) → is_some o ≡ false → o ≡ None
none_is None h = refl
none_is (Some x) h = cc

-- contents of which one is a clone of the other stand for the same
pub clones_alike : {V C : Type 0} (D : V → V → Type 0) (f : V → C) → ((v w : V) → D v w → f w ≡ f v) → (o p : Option V) → ContentClones D o p → option_map f p ≡ option_map f o
clones_alike D f h None None d = refl
clones_alike D f h None (Some y) d = absurd d
clones_alike D f h (Some x) None d = absurd d
clones_alike D f h (Some x) (Some y) d = ap Some (h x y d)

-- what holds holds also of a refusal, and what holds either way holds
pub on_err : {T E : Type 0} (r : Result T E) (P : Type 0) → P → OnErr r P
on_err (Ok x) P p = tt
on_err (Err e) P p = p

pub either_way : {T E : Type 0} (r : Result T E) (A B P : Type 0) → OnOk r A → OnErr r B → (A → P) → (B → P) → P
either_way (Ok x) A B P a b f g = f a
either_way (Err e) A B P a b f g = g b

pub told_alike : {V C : Type 0} (D : V → V → Type 0) (f : V → C) → ((v w : V) → D v w → f w ≡ f v) → (x y : Seen V) → AreClones D x y → told f y ≡ told f x
told_alike D f h x y d = λ i. (clones_alike D f h x.0 y.0 d.0 i, d.1 i)

-- a cell that was written holds in the draft what was written there
pub stands_as_written : (t : Option (Touch Content)) (c : Option Content) (x : Content) → written_part t ≡ Some x → standing_over t c ≡ Some x
stands_as_written None c x h = cc
stands_as_written (Some t) c x h = ap (standing t.found) h
