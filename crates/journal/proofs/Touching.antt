-- An entry that is told without what it wrote in its cells touches, wrote and meets the same cells.
use Rattle.std.proofs.Common.{◌≡◌, Bool, true, false, cond, ◌||◌, List, [], ◌∷◌, ◌++◌, ℕ, Option, Some, is_some, map, refl, sym, ap, ◌∙◌, subst}
use Rattle.std.specs.List.{list_any}
use Rattle.std.proofs.lemmas.Bool.{or_left, or_right, false≢true}
use Rattle.history.specs.Subject.{Laws, Foot, found, new, touches, meets}
use Rattle.history.specs.Records.{Seen, Record, Fits}
use Rattle.history.specs.Chains.{HasCells}
use Rattle.history.proofs.Writing.{wrote_touches}
use Rattle.ids.specs.CellKeys.{same_key}
use Rattle.ids.specs.declared.cells.CellKey.{CellKey}
use Rattle.world_cells.specs.Theory.{Rule, subject}
use Rattle.journal.specs.Lines.{plain}

-- tests of which each passes where the other does
pub same_truth : (a b : Bool) → (a ≡ true → b ≡ true) → (b ≡ true → a ≡ true) → a ≡ b
same_truth true b f g = sym (f refl)
same_truth false true f g = g refl
same_truth false false f g = refl

pub any-map : {A B : Type 0} (f : A → B) (p : B → Bool) (xs : List A) → list_any p (map f xs) ≡ list_any (λ a. p (f a)) xs
any-map f p [] = refl
any-map f p (x ∷ xs) = ap (λ b. p (f x) || b) (any-map f p xs)

any-append : {A : Type 0} (p : A → Bool) (xs ys : List A) → list_any p (xs ++ ys) ≡ (list_any p xs || list_any p ys)
any-append p [] ys = refl
any-append {A = A} p (x ∷ xs) ys = ap (λ b. p x || b) (any-append p xs ys) ∙ grouped (p x) (list_any p xs) (list_any p ys)
  where
    grouped : (a b c : Bool) → (a || (b || c)) ≡ ((a || b) || c)
    grouped true b c = refl
    grouped false b c = refl

-- what comes to an alternative that it implies
absorbed : (a b : Bool) → (b ≡ true → a ≡ true) → (a || b) ≡ a
absorbed true b h = refl
absorbed false true h = sym (h refl)
absorbed false false h = refl

-- a cell of a record without what is kept of it
abbrev pub keys_only : (does : Rule) → (CellKey × Seen (subject does)) → CellKey × Unit {0}
keys_only does r = (r.0, tt)

-- the footprint that is told: the cells of the last writers, and those of the record
abbrev pub told_foot : (does : Rule) → List (CellKey × Option ℕ) → Record (subject does) → Foot plain
told_foot does ls kept = record { reads = map (λ p. p.0) ls; writes = map (keys_only does) kept }

module _ (does : Rule) (l : Laws (subject does)) where
  -- a cell that is among these and passes a test
  pub some_found : {V : Type 0} (test : CellKey → Bool) (ps : List (CellKey × V)) → list_any (λ p. test p.0) ps ≡ true → (k : CellKey) × (test k ≡ true) × (is_some (found (subject does) ps k) ≡ true)
  some_found test [] h = absurd (false≢true h)
  some_found {V = V} test (p ∷ ps) h = by (test p.0) refl (λ g. some_found test ps g)
    where
      more : (k : CellKey) (x : Bool) → is_some (found (subject does) ps k) ≡ true → is_some (cond x (Some p.1) (found (subject does) ps k)) ≡ true
      more k true g = refl
      more k false g = g

      by : (x : Bool) → test p.0 ≡ x → (list_any (λ q. test q.0) ps ≡ true → (k : CellKey) × (test k ≡ true) × (is_some (found (subject does) ps k) ≡ true))
          → (k : CellKey) × (test k ≡ true) × (is_some (found (subject does) (p ∷ ps) k) ≡ true)
      by true e ih = (p.0, e, ap (λ x. is_some (cond x (Some p.1) (found (subject does) ps p.0))) (l.same_self p.0))
      by false e ih = let g = ih (sym (ap (λ x. x || list_any (λ q. test q.0) ps) e) ∙ h) in (g.0, g.1, more g.0 (same_key p.0 g.0) g.2)

  -- a cell that passes is one of those that pass
  pub any_found : {V : Type 0} (test : CellKey → Bool) (ps : List (CellKey × V)) (k : CellKey) → is_some (found (subject does) ps k) ≡ true → test k ≡ true → list_any (λ p. test p.0) ps ≡ true
  any_found test [] k h is = absurd (false≢true h)
  any_found test (p ∷ ps) k h is = by (same_key p.0 k) refl h (any_found test ps k)
    where
      by : (x : Bool) → same_key p.0 k ≡ x → is_some (cond x (Some p.1) (found (subject does) ps k)) ≡ true → (is_some (found (subject does) ps k) ≡ true → test k ≡ true → list_any (λ q. test q.0) ps ≡ true) → (test p.0 || list_any (λ q. test q.0) ps) ≡ true
      by true e g ih = or_left _ _ (ap test (l.same_exact p.0 k e) ∙ is)
      by false e g ih = or_right (test p.0) _ (ih g is)

  -- of the same cells, tests that agree on each cell pass alike
  any_alike : {V W : Type 0} (test other : CellKey → Bool) (ps : List (CellKey × V)) (qs : List (CellKey × W)) → ((k : CellKey) → is_some (found (subject does) ps k) ≡ is_some (found (subject does) qs k))
      → ((k : CellKey) → test k ≡ other k) → list_any (λ p. test p.0) ps ≡ list_any (λ q. other q.0) qs
  any_alike test other ps qs cells agree = same_truth _ _
      (λ h. let g = some_found test ps h in any_found other qs g.0 (sym (cells g.0) ∙ g.2) (sym (agree g.0) ∙ g.1))
      (λ h. let g = some_found other qs h in any_found test ps g.0 (cells g.0 ∙ g.2) (agree g.0 ∙ g.1))

  -- the cells of a record
  told_found : (kept : Record (subject does)) (k : CellKey) → is_some (found plain (map (keys_only does) kept) k) ≡ is_some (found (subject does) kept k)
  told_found [] k = refl
  told_found (r ∷ kept) k = first (same_key r.0 k) (told_found kept k)
    where
      first : (b : Bool) → is_some (found plain (map (keys_only does) kept) k) ≡ is_some (found (subject does) kept k)
          → is_some (cond b (Some tt) (found plain (map (keys_only does) kept) k)) ≡ is_some (cond b (Some r.1) (found (subject does) kept k))
      first true ih = refl
      first false ih = ih

  -- THE LEMMAS: the same cells are written
  pub told_new : (f : Foot (subject does)) (ls : List (CellKey × Option ℕ)) (kept : Record (subject does)) → Fits (subject does) f kept → (k : CellKey) → is_some (new plain (told_foot does ls kept) k) ≡ is_some (new (subject does) f k)
  told_new f ls kept fits k = told_found kept k ∙ fits.cells k

  -- and the same are touched
  pub told_touches : (f : Foot (subject does)) (ls : List (CellKey × Option ℕ)) (kept : Record (subject does)) → HasCells (subject does) f ls → Fits (subject does) f kept
      → (k : CellKey) → touches plain (told_foot does ls kept) k ≡ touches (subject does) f k
  told_touches f ls kept have fits k =
      any-append (same_key k) (map (λ p. p.0) ls) _
      ∙ ap (λ b. b || list_any (same_key k) (map (λ (p : CellKey × Unit {0}). p.0) (map (keys_only does) kept))) (any-map (λ (p : CellKey × Option ℕ). p.0) (same_key k) ls ∙ have k)
      ∙ absorbed (touches (subject does) f k) _ (λ h.
      let g = some_found (same_key k) kept (sym (any-map (keys_only does) (λ p. same_key k p.0) kept) ∙ sym (any-map (λ (p : CellKey × Unit {0}). p.0) (same_key k) (map (keys_only does) kept)) ∙ h) in
      subst (λ c. touches (subject does) f c ≡ true) (sym (l.same_exact k g.0 g.1)) (wrote_touches (subject does) l f g.0 (new (subject does) f g.0) refl (sym (fits.cells g.0) ∙ g.2)))

  -- so the same entries meet
  pub told_meets : (f g : Foot (subject does)) (ls ms : List (CellKey × Option ℕ)) (kept other : Record (subject does)) → Fits (subject does) f kept → HasCells (subject does) g ms → Fits (subject does) g other
      → meets plain (told_foot does ls kept) (told_foot does ms other) ≡ meets (subject does) f g
  told_meets f g ls ms kept other fits have also =
      any_alike (touches plain (told_foot does ms other)) (touches (subject does) g) (map (keys_only does) kept) f.writes (told_new f ls kept fits) (told_touches g ms other have also)
