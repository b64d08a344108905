-- Records at one cell. A row is an entry with what its record has of the cell.
use Rattle.std.proofs.Common.{◌≡◌, Bool, true, false, cond, ◌&&◌, not, List, [], ◌∷◌, Option, Some, None, unwrap_or, is_some, ◌⊎◌, inl, inr, ◌∙◌, refl, sym, ap, true≢false, subst}
use Rattle.std.specs.List.{AllByRecursion}
use Rattle.std.proofs.lemmas.Bool.{false≢true}
use Rattle.history.specs.Journal.{without}
use Rattle.history.specs.Records.{cell, entries_of}

pub cond_same : {V : Type 0} (b : Bool) (o : Option V) (x : V) → o ≡ None → cond b (unwrap_or o x) x ≡ x
cond_same false o x h = refl
cond_same true o x h = ap (λ p. unwrap_or p x) h

-- sets that agree on the writers of a cell leave the same in it
pub cell_agree : {A V : Type 0} (new : A → Option V) (v : V) (t r : A → Bool) (es : List A) → AllByRecursion (λ a. (new a ≡ None) ⊎ (t a ≡ r a)) es → cell new v t es ≡ cell new v r es
cell_agree new v t r [] h = refl
cell_agree new v t r (e ∷ es) (inl n, h) = cond_same (t e) (new e) _ n ∙ cell_agree new v t r es h ∙ sym (cond_same (r e) (new e) _ n)
cell_agree new v t r (e ∷ es) (inr n, h) = let ih = cell_agree new v t r es h in cc

module _ {A V : Type 0} (new : A → Option V) where
  abbrev pub swaps : (A → Bool) → A → Bool
  swaps c e = c e && is_some (new e)

  -- the cell after the records of c are swapped from the newest to the oldest, and the rows
  abbrev pub back : (A → Bool) → List (A × V) → V → V
  back c [] x = x
  back c (p ∷ ps) x = back c ps (cond (swaps c p.0) p.1 x)

  abbrev pub back_rows : (A → Bool) → List (A × V) → V → List (A × V)
  back_rows c [] x = []
  back_rows c (p ∷ ps) x = (p.0, cond (swaps c p.0) x p.1) ∷ back_rows c ps (cond (swaps c p.0) p.1 x)

  -- from the oldest to the newest
  abbrev pub forth : (A → Bool) → List (A × V) → V → V
  forth c [] x = x
  forth c (p ∷ ps) x = cond (swaps c p.0) p.1 (forth c ps x)

  abbrev pub forth_rows : (A → Bool) → List (A × V) → V → List (A × V)
  forth_rows c [] x = []
  forth_rows c (p ∷ ps) x = (p.0, cond (swaps c p.0) (forth c ps x) p.1) ∷ forth_rows c ps x

  -- no entry of c writes the cell
  abbrev pub Unwritten : (A → Bool) → List (A × V) → Type 0
  Unwritten c ps = AllByRecursion (λ p. swaps c p.0 ≡ false) ps

  back_unwritten : (c : A → Bool) (ps : List (A × V)) (x : V) → Unwritten c ps → back c ps x ≡ x
  back_unwritten c [] x h = refl
  back_unwritten c (p ∷ ps) x (q, h) = rw q (back_unwritten c ps x h)

  back_rows_unwritten : (c : A → Bool) (ps : List (A × V)) (x : V) → Unwritten c ps → back_rows c ps x ≡ ps
  back_rows_unwritten c [] x h = refl
  back_rows_unwritten c (p ∷ ps) x (q, h) = rw q (ap (λ r. p ∷ r) (back_rows_unwritten c ps x h))

  forth_unwritten : (c : A → Bool) (ps : List (A × V)) (x : V) → Unwritten c ps → forth c ps x ≡ x
  forth_unwritten c [] x h = refl
  forth_unwritten c (p ∷ ps) x (q, h) = rw q (forth_unwritten c ps x h)

  forth_rows_unwritten : (c : A → Bool) (ps : List (A × V)) (x : V) → Unwritten c ps → forth_rows c ps x ≡ ps
  forth_rows_unwritten c [] x h = refl
  forth_rows_unwritten c (p ∷ ps) x (q, h) = rw q (ap (λ r. p ∷ r) (forth_rows_unwritten c ps x h))

  entries_back : (c : A → Bool) (ps : List (A × V)) (x : V) → entries_of (back_rows c ps x) ≡ entries_of ps
  entries_back c [] x = refl
  entries_back c (p ∷ ps) x = ap (λ r. p.0 ∷ r) (entries_back c ps _)

  entries_forth : (c : A → Bool) (ps : List (A × V)) (x : V) → entries_of (forth_rows c ps x) ≡ entries_of ps
  entries_forth c [] x = refl
  entries_forth c (p ∷ ps) x = ap (λ r. p.0 ∷ r) (entries_forth c ps _)

  -- each row keeps what was there before its entry, where that is in r, and else what it wrote
  abbrev pub Right : V → (A → Bool) → List (A × V) → Type 0
  Right v r [] = Unit {0}
  Right v r (p ∷ ps) = ((x : V) → new p.0 ≡ Some x → p.1 ≡ cond (r p.0) (cell new v r (entries_of ps)) x) × Right v r ps

  -- c is part of s, and a writer in s that is not in c has no older one in c
  abbrev pub Ready : (A → Bool) → (A → Bool) → List (A × V) → Type 0
  Ready s c [] = Unit {0}
  Ready s c (p ∷ ps) = (c p.0 ≡ true → s p.0 ≡ true) × (s p.0 ≡ true → c p.0 ≡ false → is_some (new p.0) ≡ true → Unwritten c ps) × Ready s c ps

-- one row, by cases: o is what its entry writes, X and Y what was there before it, in s and in s without c
module _ {V : Type 0} where
  back_step : (f : V → V) (o : Option V) (s c : Bool) (r X Y : V) → f X ≡ Y → ((x : V) → o ≡ Some x → r ≡ cond s X x) → (c ≡ true → s ≡ true) → (s ≡ true → c ≡ false → is_some o ≡ true → (z : V) → f z ≡ z)
      → f (cond (c && is_some o) r (cond s (unwrap_or o X) X)) ≡ cond (s && not c) (unwrap_or o Y) Y
  back_step f None true true r X Y ih h sub clear = ih
  back_step f None true false r X Y ih h sub clear = ih
  back_step f None false true r X Y ih h sub clear = ih
  back_step f None false false r X Y ih h sub clear = ih
  back_step f (Some x) true true r X Y ih h sub clear = ap f (h x refl) ∙ ih
  back_step f (Some x) true false r X Y ih h sub clear = clear refl refl refl x
  back_step f (Some x) false true r X Y ih h sub clear = absurd (false≢true (sub refl))
  back_step f (Some x) false false r X Y ih h sub clear = ih

  forth_step : (f : V → V) (o : Option V) (s c : Bool) (r X Y : V) → f Y ≡ X → ((x : V) → o ≡ Some x → r ≡ cond (s && not c) Y x) → (c ≡ true → s ≡ true) → (s ≡ true → c ≡ false → is_some o ≡ true → (z : V) → f z ≡ z)
      → cond (c && is_some o) r (f (cond (s && not c) (unwrap_or o Y) Y)) ≡ cond s (unwrap_or o X) X
  forth_step f None true true r X Y ih h sub clear = ih
  forth_step f None true false r X Y ih h sub clear = ih
  forth_step f None false true r X Y ih h sub clear = ih
  forth_step f None false false r X Y ih h sub clear = ih
  forth_step f (Some x) true true r X Y ih h sub clear = h x refl
  forth_step f (Some x) true false r X Y ih h sub clear = clear refl refl refl x
  forth_step f (Some x) false true r X Y ih h sub clear = absurd (false≢true (sub refl))
  forth_step f (Some x) false false r X Y ih h sub clear = ih

  kept_step : (o : Option V) (s c : Bool) (X Y : V) → (c && is_some o) ≡ false → X ≡ Y → cond s (unwrap_or o X) X ≡ cond (s && not c) (unwrap_or o Y) Y
  kept_step None true true X Y h e = e
  kept_step None true false X Y h e = e
  kept_step None false c X Y h e = e
  kept_step (Some x) true true X Y h e = absurd (true≢false h)
  kept_step (Some x) true false X Y h e = refl
  kept_step (Some x) false c X Y h e = e

  -- a row whose entry is not swapped
  row_kept : (o : Option V) (s c : Bool) (r X Y x : V) → (c && is_some o) ≡ false → X ≡ Y → o ≡ Some x → r ≡ cond s X x → r ≡ cond (s && not c) Y x
  row_kept None s c r X Y x h e is p = cc
  row_kept (Some y) true true r X Y x h e is p = absurd (true≢false h)
  row_kept (Some y) true false r X Y x h e is p = p ∙ e
  row_kept (Some y) false c r X Y x h e is p = p

  row_kept_back : (o : Option V) (s c : Bool) (r X Y x : V) → (c && is_some o) ≡ false → X ≡ Y → o ≡ Some x → r ≡ cond (s && not c) Y x → r ≡ cond s X x
  row_kept_back None s c r X Y x h e is p = cc
  row_kept_back (Some y) true true r X Y x h e is p = absurd (true≢false h)
  row_kept_back (Some y) true false r X Y x h e is p = p ∙ sym e
  row_kept_back (Some y) false c r X Y x h e is p = p

  row_back : (o : Option V) (s c : Bool) (r x X Y y : V) → o ≡ Some y → x ≡ cond s (unwrap_or o X) X → ((z : V) → o ≡ Some z → r ≡ cond s X z) → (c ≡ true → s ≡ true) → (s ≡ true → c ≡ false → is_some o ≡ true → X ≡ Y)
      → cond (c && is_some o) x r ≡ cond (s && not c) Y y
  row_back None s c r x X Y y is e h sub clear = cc
  row_back (Some z) true true r x X Y y is e h sub clear = cc
  row_back (Some z) true false r x X Y y is e h sub clear = h z refl ∙ clear refl refl refl
  row_back (Some z) false true r x X Y y is e h sub clear = absurd (false≢true (sub refl))
  row_back (Some z) false false r x X Y y is e h sub clear = h y is

  rest_back : (o : Option V) (s c : Bool) (r x X : V) (U : Type 0) → x ≡ cond s (unwrap_or o X) X → ((z : V) → o ≡ Some z → r ≡ cond s X z) → (c ≡ true → s ≡ true) → (s ≡ true → c ≡ false → is_some o ≡ true → U)
      → U ⊎ (cond (c && is_some o) r x ≡ X)
  rest_back None true true r x X U e h sub clear = inr e
  rest_back None true false r x X U e h sub clear = inr e
  rest_back None false true r x X U e h sub clear = inr e
  rest_back None false false r x X U e h sub clear = inr e
  rest_back (Some z) true true r x X U e h sub clear = inr (h z refl)
  rest_back (Some z) true false r x X U e h sub clear = inl (clear refl refl refl)
  rest_back (Some z) false true r x X U e h sub clear = absurd (false≢true (sub refl))
  rest_back (Some z) false false r x X U e h sub clear = inr e

  row_forth : (o : Option V) (s c : Bool) (r w x X Y y : V) → o ≡ Some y → x ≡ cond (s && not c) (unwrap_or o Y) Y → (x ≡ Y → w ≡ X) → ((z : V) → o ≡ Some z → r ≡ cond (s && not c) Y z)
      → (c ≡ true → s ≡ true) → (s ≡ true → c ≡ false → is_some o ≡ true → X ≡ Y)
      → cond (c && is_some o) w r ≡ cond s X y
  row_forth None s c r w x X Y y is e f h sub clear = cc
  row_forth (Some z) true true r w x X Y y is e f h sub clear = f e
  row_forth (Some z) true false r w x X Y y is e f h sub clear = h z refl ∙ sym (clear refl refl refl)
  row_forth (Some z) false true r w x X Y y is e f h sub clear = absurd (false≢true (sub refl))
  row_forth (Some z) false false r w x X Y y is e f h sub clear = h y is

  rest_forth : (o : Option V) (s c : Bool) (x Y : V) (U : Type 0) → x ≡ cond (s && not c) (unwrap_or o Y) Y → (c ≡ true → s ≡ true) → (s ≡ true → c ≡ false → is_some o ≡ true → U) → U ⊎ (x ≡ Y)
  rest_forth None true true x Y U e sub clear = inr e
  rest_forth None true false x Y U e sub clear = inr e
  rest_forth None false c x Y U e sub clear = inr e
  rest_forth (Some z) true true x Y U e sub clear = inr e
  rest_forth (Some z) true false x Y U e sub clear = inl (clear refl refl refl)
  rest_forth (Some z) false true x Y U e sub clear = absurd (false≢true (sub refl))
  rest_forth (Some z) false false x Y U e sub clear = inr e

module _ {A V : Type 0} (new : A → Option V) (v : V) (s c : A → Bool) where
  kept_cell : (ps : List (A × V)) → Unwritten new c ps → cell new v s (entries_of ps) ≡ cell new v (without s c) (entries_of ps)
  kept_cell [] h = refl
  kept_cell (p ∷ ps) (q, h) = kept_step (new p.0) (s p.0) (c p.0) _ _ q (kept_cell ps h)

  kept_rows : (ps : List (A × V)) → Unwritten new c ps → Right new v s ps → Right new v (without s c) ps
  kept_rows [] h g = tt
  kept_rows (p ∷ ps) (q, h) (g, gs) = (λ x is. row_kept (new p.0) (s p.0) (c p.0) _ _ _ x q (kept_cell ps h) is (g x is), kept_rows ps h gs)

  kept_rows_back : (ps : List (A × V)) → Unwritten new c ps → Right new v (without s c) ps → Right new v s ps
  kept_rows_back [] h g = tt
  kept_rows_back (p ∷ ps) (q, h) (g, gs) = (λ x is. row_kept_back (new p.0) (s p.0) (c p.0) _ _ _ x q (kept_cell ps h) is (g x is), kept_rows_back ps h gs)

  pub back_is : (ps : List (A × V)) → Ready new s c ps → Right new v s ps → back new c ps (cell new v s (entries_of ps)) ≡ cell new v (without s c) (entries_of ps)
  back_is [] h g = refl
  back_is (p ∷ ps) (sub, clear, h) (g, gs) =
      back_step (back new c ps) (new p.0) (s p.0) (c p.0) p.1 _ _ (back_is ps h gs) g sub (λ a b d z. back_unwritten new c ps z (clear a b d))

  pub forth_is : (ps : List (A × V)) → Ready new s c ps → Right new v (without s c) ps → forth new c ps (cell new v (without s c) (entries_of ps)) ≡ cell new v s (entries_of ps)
  forth_is [] h g = refl
  forth_is (p ∷ ps) (sub, clear, h) (g, gs) =
      forth_step (forth new c ps) (new p.0) (s p.0) (c p.0) p.1 _ _ (forth_is ps h gs) g sub (λ a b d z. forth_unwritten new c ps z (clear a b d))

  pub back_right : (ps : List (A × V)) (x : V) → Unwritten new c ps ⊎ (x ≡ cell new v s (entries_of ps)) → Ready new s c ps → Right new v s ps → Right new v (without s c) (back_rows new c ps x)
  back_right [] x e h g = tt
  back_right (p ∷ ps) x (inl u) h g = subst (Right new v (without s c)) (sym (back_rows_unwritten new c (p ∷ ps) x u)) (kept_rows (p ∷ ps) u g)
  back_right (p ∷ ps) x (inr e) (sub, clear, h) (g, gs) = (
    λ y is. rw (entries_back new c ps (cond (swaps new c p.0) p.1 x)) (row_back (new p.0) (s p.0) (c p.0) p.1 x _ _ y is e g sub (λ a b d. kept_cell ps (clear a b d))),
    back_right ps _ (rest_back (new p.0) (s p.0) (c p.0) p.1 x _ _ e g sub clear) h gs,
  )

  pub forth_right : (ps : List (A × V)) (x : V) → Unwritten new c ps ⊎ (x ≡ cell new v (without s c) (entries_of ps)) → Ready new s c ps → Right new v (without s c) ps → Right new v s (forth_rows new c ps x)
  forth_right [] x e h g = tt
  forth_right (p ∷ ps) x (inl u) h g = subst (Right new v s) (sym (forth_rows_unwritten new c (p ∷ ps) x u)) (kept_rows_back (p ∷ ps) u g)
  forth_right (p ∷ ps) x (inr e) (sub, clear, h) (g, gs) = (
    λ y is. rw (entries_forth new c ps x) (row_forth (new p.0) (s p.0) (c p.0) p.1 _ x _ _ y is e (λ q. ap (forth new c ps) q ∙ forth_is ps h gs) g sub (λ a b d. kept_cell ps (clear a b d))),
    forth_right ps x (rest_forth (new p.0) (s p.0) (c p.0) x _ _ e sub clear) h gs,
  )
