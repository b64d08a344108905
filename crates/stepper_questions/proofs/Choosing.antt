-- The nearest of the writers that are reached.
use Rattle.std.proofs.Common.{◌≡◌, ◌⊎◌, inl, inr, ℕ, suc, zero, ◌<◌, ◌≤◌, ◌==◌, Bool, true, false, cond, ◌&&◌, ◌||◌, ltb, ltb-true, ltb-false, eqb-true, eq-eqb, List, [], ◌∷◌, Option, Some, None, is_some, slice_get, refl, sym, ap, ◌∙◌, subst, arith}
use Rattle.std.proofs.lemmas.Bool.{false≢true}
use Rattle.ids.specs.declared.cells.CellKey.{CellKey}
use Rattle.stepper_questions.specs.ChainView.{Known, is_nearer, nearer, known_writer, best_of}
use Rattle.stepper_questions.specs.declared.chain.Near.{Near}

-- one is as near as another, or nearer: of fewer steps, or of as many and no earlier
abbrev pub AsNear : Near → Near → Type 0
AsNear z y = (y.steps < z.steps) ⊎ ((y.steps ≡ z.steps) × (z.place ≤ y.place))

same_near : (z y : Near) → z ≡ y → AsNear z y
same_near z y is = let P : Near → Type 0 = λ x. AsNear z x in subst P is (inr (refl, omega arith))

near_trans : (x y z : Near) → AsNear x y → AsNear y z → AsNear x z
near_trans x y z h g = elim h [
  | inl a ↦ elim g [ inl b ↦ inl (omega arith) | inr b ↦ let e = b.0 in inl (omega arith) ]
  | inr a ↦ elim g [ inl b ↦ let e = a.0 in inl (omega arith) | inr b ↦ let e = a.0 in let f = b.0 in let u = a.1 in let v = b.1 in inr (omega arith, omega arith) ]
]

-- the test is exact
nearer_so : (y x : Near) → is_nearer y x ≡ true → AsNear x y
nearer_so y x h = by (ltb y.steps x.steps) refl (y.steps == x.steps) refl h
  where
    by : (a : Bool) → ltb y.steps x.steps ≡ a → (b : Bool) → (y.steps == x.steps) ≡ b → (a || (b && ltb x.place y.place)) ≡ true → AsNear x y
    by true is b same g = inl (ltb-true y.steps x.steps is)
    by false is true same g = let e : y.steps ≡ x.steps = eqb-true y.steps x.steps same in let lt : x.place < y.place = ltb-true x.place y.place g in inr (e, omega arith)
    by false is false same g = absurd (false≢true g)

not_nearer : (y x : Near) → is_nearer y x ≡ false → AsNear y x
not_nearer y x h = by (ltb y.steps x.steps) refl (y.steps == x.steps) refl h
  where
    other : (b : Bool) → (y.steps == x.steps) ≡ b → b ≡ false → x.steps ≤ y.steps → AsNear y x
    other b same is le = let n : y.steps ≡ x.steps → ⊥ = λ e. false≢true (sym is ∙ sym same ∙ eq-eqb y.steps x.steps e) in inl (omega (arith, n))

    by : (a : Bool) → ltb y.steps x.steps ≡ a → (b : Bool) → (y.steps == x.steps) ≡ b → (a || (b && ltb x.place y.place)) ≡ false → AsNear y x
    by true is b same g = absurd (false≢true (sym g))
    by false is true same g = let e : y.steps ≡ x.steps = eqb-true y.steps x.steps same in let le : y.place ≤ x.place = ltb-false x.place y.place g in inr (sym e, le)
    by false is false same g = other false same refl (ltb-false y.steps x.steps is)

-- of two the nearer one is one of them, and as near as both
nearer_is : (a b : Option Near) (y : Near) → nearer a b ≡ Some y → (a ≡ Some y) ⊎ (b ≡ Some y)
nearer_is None b y h = inr h
nearer_is (Some x) None y h = inl h
nearer_is (Some x) (Some z) y h = by (is_nearer z x) h
  where
    by : (t : Bool) → cond t (Some z) (Some x) ≡ Some y → (◌≡◌ {A = Option Near} (Some x) (Some y)) ⊎ (◌≡◌ {A = Option Near} (Some z) (Some y))
    by true g = inr g
    by false g = inl g

inside : (x y : Near) → ◌≡◌ {A = Option Near} (Some x) (Some y) → x ≡ y
inside x y h = cc

nearer_first : (a b : Option Near) (y x : Near) → nearer a b ≡ Some y → a ≡ Some x → AsNear x y
nearer_first None b y x h is = cc
nearer_first (Some w) None y x h is = same_near x y (inside x y (sym is ∙ h))
nearer_first (Some w) (Some z) y x h is = by (is_nearer z w) refl h
  where
    w_is : w ≡ x
    w_is = inside w x is

    by : (t : Bool) → is_nearer z w ≡ t → cond t (Some z) (Some w) ≡ Some y → AsNear x y
    by true e g = let P : Near → Near → Type 0 = λ u v. AsNear u v in subst (λ (u : Near). P u y) w_is (subst (λ (v : Near). P w v) (inside z y g) (nearer_so z w e))
    by false e g = same_near x y (sym w_is ∙ inside w y g)

nearer_second : (a b : Option Near) (y z : Near) → nearer a b ≡ Some y → b ≡ Some z → AsNear z y
nearer_second None b y z h is = same_near z y (inside z y (sym is ∙ h))
nearer_second (Some w) None y z h is = cc
nearer_second (Some w) (Some u) y z h is = by (is_nearer u w) refl h
  where
    u_is : u ≡ z
    u_is = inside u z is

    by : (t : Bool) → is_nearer u w ≡ t → cond t (Some u) (Some w) ≡ Some y → AsNear z y
    by true e g = same_near z y (sym u_is ∙ inside u y g)
    by false e g = subst (λ (v : Near). AsNear v y) u_is (subst (λ (v : Near). AsNear u v) (inside w y g) (not_nearer u w e))

some_first : (a b : Option Near) → is_some a ≡ true → is_some (nearer a b) ≡ true
some_first None b h = absurd (false≢true h)
some_first (Some x) None h = refl
some_first (Some x) (Some z) h = by (is_nearer z x)
  where
    by : (t : Bool) → is_some (cond t (Some z) (Some x)) ≡ true
    by true = refl
    by false = refl

some_second : (a b : Option Near) → is_some b ≡ true → is_some (nearer a b) ≡ true
some_second None b h = h
some_second (Some x) b h = some_first (Some x) b refl

module _ (known : Known) where
  -- the best one is what was the best before, or a writer
  best_is : (best : Option Near) (cs : List (CellKey × Option ℕ)) (y : Near) → best_of known best cs ≡ Some y
      → (best ≡ Some y) ⊎ ((i : ℕ) × (c : CellKey × Option ℕ) × (slice_get cs i ≡ Some c) × (known_writer known c.1 ≡ Some y))
  best_is best [] y h = inl h
  best_is best (c ∷ cs) y h = elim (best_is (nearer best (known_writer known c.1)) cs y h) [
    | inl e ↦ elim (nearer_is best (known_writer known c.1) y e) [ inl f ↦ inl f | inr g ↦ inr (0, c, refl, g) ]
    | inr d ↦ inr (suc d.0, d.1, d.2, d.3)
  ]

  -- as near as what was the best before
  best_keeps : (best : Option Near) (cs : List (CellKey × Option ℕ)) (y x : Near) → best_of known best cs ≡ Some y → best ≡ Some x → AsNear x y
  best_keeps best [] y x h is = same_near x y (inside x y (sym is ∙ h))
  best_keeps best (c ∷ cs) y x h is = by (nearer best (known_writer known c.1)) refl (some_first best (known_writer known c.1) (ap is_some is)) (λ w e. best_keeps (nearer best (known_writer known c.1)) cs y w h e)
    where
      by : (o : Option Near) → nearer best (known_writer known c.1) ≡ o → is_some (nearer best (known_writer known c.1)) ≡ true → ((w : Near) → nearer best (known_writer known c.1) ≡ Some w → AsNear w y) → AsNear x y
      by None e some further = absurd (false≢true (ap is_some (sym e) ∙ some))
      by (Some w) e some further = near_trans x w y (nearer_first best (known_writer known c.1) w x e is) (further w e)

  -- and as near as each writer
  pub best_over : (best : Option Near) (cs : List (CellKey × Option ℕ)) (y : Near) → best_of known best cs ≡ Some y → (i : ℕ) (c : CellKey × Option ℕ) (z : Near) → slice_get cs i ≡ Some c → known_writer known c.1 ≡ Some z → AsNear z y
  best_over best [] y h i c z at is = cc
  best_over best (d ∷ cs) y h zero c z at is = by (nearer best (known_writer known d.1)) refl
    where
      here : known_writer known d.1 ≡ Some z
      here = let one : d ≡ c = cc in ap (λ (e : CellKey × Option ℕ). known_writer known e.1) one ∙ is

      by : (o : Option Near) → nearer best (known_writer known d.1) ≡ o → AsNear z y
      by None e = absurd (false≢true (ap is_some (sym e) ∙ some_second best (known_writer known d.1) (ap is_some here)))
      by (Some w) e = near_trans z w y (nearer_second best (known_writer known d.1) w z e here) (best_keeps (nearer best (known_writer known d.1)) cs y w h e)
  best_over best (d ∷ cs) y h (suc i) c z at is = best_over (nearer best (known_writer known d.1)) cs y h i c z at is

  stays_some : (best : Option Near) (cs : List (CellKey × Option ℕ)) → is_some best ≡ true → is_some (best_of known best cs) ≡ true
  stays_some best [] h = h
  stays_some best (c ∷ cs) h = stays_some (nearer best (known_writer known c.1)) cs (some_first best (known_writer known c.1) h)

  -- where a writer is known there is one
  pub best_some : (best : Option Near) (cs : List (CellKey × Option ℕ)) (i : ℕ) (c : CellKey × Option ℕ) → slice_get cs i ≡ Some c → is_some (known_writer known c.1) ≡ true → is_some (best_of known best cs) ≡ true
  best_some best [] i c at h = cc
  best_some best (d ∷ cs) zero c at h =
      let one : d ≡ c = cc in
      stays_some (nearer best (known_writer known d.1)) cs (some_second best (known_writer known d.1) (ap (λ (e : CellKey × Option ℕ). is_some (known_writer known e.1)) one ∙ h))
  best_some best (d ∷ cs) (suc i) c at h = best_some (nearer best (known_writer known d.1)) cs i c at h

  -- the nearest writer is a writer
  pub best_writer : (cs : List (CellKey × Option ℕ)) (y : Near) → best_of known None cs ≡ Some y → (i : ℕ) × (c : CellKey × Option ℕ) × (slice_get cs i ≡ Some c) × (known_writer known c.1 ≡ Some y)
  best_writer cs y h = elim (best_is None cs y h) [ inl e ↦ absurd (none_some e) | inr d ↦ d ]
    where
      none_some : ◌≡◌ {A = Option Near} None (Some y) → ⊥
      none_some e = cc
