-- Rows that are found by a walk, and rows behind them.
use Rattle.std.proofs.Common.{◌≡◌, ℕ, zero, suc, ◌+◌, ◌<◌, ◌≤◌, Bool, true, false, cond, not, List, [], ◌∷◌, ◌++◌, length, get_or, slice_set, position, Option, Some, None, Result, Ok, Err, OnOk, OnErr, refl, sym, ap, ◌∙◌, subst, arith}
use Rattle.std.specs.Cmp.{IsEquivalence}
use Rattle.std.specs.List.{AllByRecursion, IsDistinct, position_or_len}
use Rattle.std.specs.Map.{keys_of, lookup, set_value}
use Rattle.std.proofs.lemmas.Bool.{ltb-false}
use Rattle.std.proofs.lemmas.List.Quantifiers.{position-Some}
use Rattle.std.proofs.lemmas.Map.{keys-set_value}
use Rattle.std.proofs.lemmas.Map.Entries.{lookup_head, lookup_tail}
use Rattle.std.proofs.lemmas.Map.Keys.{IsDistinct-head, IsDistinct-tail, IsDistinct-cons}
use Rattle.indexmap.specs.IndexMap.{insert_entry}

none_is_some : {A : Type 0} {x : A} → None ≡ Some x → ⊥
none_is_some e = cc

module _ {K V : Type 0} (test : K → Bool) where
  -- at this place stands the first row whose key passes
  abbrev First : List (K × V) → ℕ → Type 0
  First [] i = ⊥
  First (e ∷ es) zero = test e.0 ≡ true
  First (e ∷ es) (suc i) = (test e.0 ≡ false) × First es i

  first : (es : List (K × V)) (i : ℕ) (d : K × V) → i < length es → test (get_or es i d).0 ≡ true → ((k : ℕ) → k < i → test (get_or es k d).0 ≡ false) → First es i
  first [] i d within passes before = absurd (omega arith)
  first (e ∷ es) zero d within passes before = passes
  first (e ∷ es) (suc i) d within passes before = (before 0 (omega arith), first es i d (omega arith) passes (λ k below. before (suc k) (omega arith)))

  first_value : (es : List (K × V)) (i : ℕ) (d : K × V) → First es i → lookup test es ≡ Some (get_or es i d).1
  first_value [] i d h = absurd h
  first_value (e ∷ es) zero d h = lookup_head test e es h
  first_value (e ∷ es) (suc i) d h = lookup_tail test e es h.0 ∙ first_value es i d h.1

  first_set : (es : List (K × V)) (i : ℕ) (d : K × V) (v : V) → First es i → set_value test es v ≡ slice_set es i ((get_or es i d).0, v)
  first_set [] i d v h = absurd h
  first_set (e ∷ es) zero d v h = ap (λ b. cond b ((e.0, v) ∷ es) (e ∷ set_value test es v)) h
  first_set (e ∷ es) (suc i) d v h = ap (λ b. cond b ((e.0, v) ∷ es) (e ∷ set_value test es v)) h.0 ∙ ap (λ l. e ∷ l) (first_set es i d v h.1)

  -- what is known of a row that stands at the place of a key
  pub record Placed (es : List (K × V)) (i : ℕ) (row : K × V) : Type 0 where
    pub value : lookup test es ≡ Some row.1
    pub put : (v : V) → set_value test es v ≡ slice_set es i (row.0, v)

  pub placed : (rows es : List (K × V)) (r : Option ℕ) (i : ℕ) (row : K × V) → rows ≡ es → r ≡ position (λ e. test e.0) rows → r ≡ Some i → row ≡ get_or es i row → Placed es i row
  placed rows es r i row same found is at =
      let p = position-Some (λ (e : K × V). test e.0) es i row (ap (position (λ e. test e.0)) (sym same) ∙ sym found ∙ is) in
      let f = first es i row p.0 p.1 p.2 in
      record {
        value = first_value es i row f ∙ ap (λ (e : K × V). Some e.1) (sym at);
        put = λ v. first_set es i row v f ∙ ap (λ (e : K × V). slice_set es i (e.0, v)) (sym at);
      }

  unpassed : (es : List (K × V)) → length es ≤ position_or_len (λ e. test e.0) es → lookup test es ≡ None
  unpassed [] h = refl
  unpassed (e ∷ es) h = by (test e.0) refl (unpassed es)
    where
      by : (b : Bool) → test e.0 ≡ b → (length es ≤ position_or_len (λ e. test e.0) es → lookup test es ≡ None) → lookup test (e ∷ es) ≡ None
      by true t rest =
          let at : position_or_len (λ e. test e.0) (e ∷ es) ≡ 0 = ap (λ b. cond (not b) (1 + position_or_len (λ e. test e.0) es) 0) t in
          absurd (omega (arith, h, at))
      by false t rest =
          let at : position_or_len (λ e. test e.0) (e ∷ es) ≡ 1 + position_or_len (λ e. test e.0) es = ap (λ b. cond (not b) (1 + position_or_len (λ e. test e.0) es) 0) t in
          lookup_tail test e es t ∙ rest (omega (arith, h, at))

  -- a key that has no place is in no row
  pub absent : (rows es : List (K × V)) (r : Option ℕ) → rows ≡ es → r ≡ position (λ e. test e.0) rows → r ≡ None → lookup test es ≡ None
  absent rows es r same found is = unpassed es (ltb-false _ _ (past _ (ap (position (λ e. test e.0)) (sym same) ∙ sym found ∙ is)))
    where
      past : (b : Bool) → cond b (Some (position_or_len (λ e. test e.0) es)) None ≡ None → b ≡ false
      past true e = absurd (none_is_some (sym e))
      past false e = refl

  pub looked_first : (xs ys : List (K × V)) (v : V) → lookup test xs ≡ Some v → lookup test (xs ++ ys) ≡ Some v
  looked_first [] ys v h = absurd (none_is_some h)
  looked_first (x ∷ xs) ys v h = by (test x.0) refl (looked_first xs ys v)
    where
      by : (b : Bool) → test x.0 ≡ b → (lookup test xs ≡ Some v → lookup test (xs ++ ys) ≡ Some v) → lookup test ((x ∷ xs) ++ ys) ≡ Some v
      by true t rest = lookup_head test x (xs ++ ys) t ∙ sym (lookup_head test x xs t) ∙ h
      by false t rest = lookup_tail test x (xs ++ ys) t ∙ rest (sym (lookup_tail test x xs t) ∙ h)

  -- where a key is in none of the first rows, their tests fail
  passed_by : (x : K × V) (xs : List (K × V)) → lookup test (x ∷ xs) ≡ None → (test x.0 ≡ false) × (lookup test xs ≡ None)
  passed_by x xs h = by (test x.0) refl
    where
      by : (b : Bool) → test x.0 ≡ b → (test x.0 ≡ false) × (lookup test xs ≡ None)
      by true t = absurd (none_is_some (sym h ∙ lookup_head test x xs t))
      by false t = (t, sym (lookup_tail test x xs t) ∙ h)

  pub looked_behind : (xs ys : List (K × V)) → lookup test xs ≡ None → lookup test (xs ++ ys) ≡ lookup test ys
  looked_behind [] ys h = refl
  looked_behind (x ∷ xs) ys h =
      let p = passed_by x xs h in
      lookup_tail test x (xs ++ ys) p.0 ∙ looked_behind xs ys p.1

  pub set_first : (xs ys : List (K × V)) (v w : V) → lookup test xs ≡ Some w → set_value test (xs ++ ys) v ≡ set_value test xs v ++ ys
  set_first [] ys v w h = absurd (none_is_some h)
  set_first (x ∷ xs) ys v w h = by (test x.0) refl (set_first xs ys v w)
    where
      by : (b : Bool) → test x.0 ≡ b → (lookup test xs ≡ Some w → set_value test (xs ++ ys) v ≡ set_value test xs v ++ ys) → set_value test ((x ∷ xs) ++ ys) v ≡ set_value test (x ∷ xs) v ++ ys
      by true t rest =
          ap (λ b. cond b ((x.0, v) ∷ (xs ++ ys)) (x ∷ set_value test (xs ++ ys) v)) t
          ∙ ap (λ b. cond b ((x.0, v) ∷ xs) (x ∷ set_value test xs v) ++ ys) (sym t)
      by false t rest =
          ap (λ b. cond b ((x.0, v) ∷ (xs ++ ys)) (x ∷ set_value test (xs ++ ys) v)) t
          ∙ ap (λ l. x ∷ l) (rest (sym (lookup_tail test x xs t) ∙ h))
          ∙ ap (λ b. cond b ((x.0, v) ∷ xs) (x ∷ set_value test xs v) ++ ys) (sym t)

  pub set_behind : (xs ys : List (K × V)) (v : V) → lookup test xs ≡ None → set_value test (xs ++ ys) v ≡ xs ++ set_value test ys v
  set_behind [] ys v h = refl
  set_behind (x ∷ xs) ys v h =
      let p = passed_by x xs h in
      ap (λ b. cond b ((x.0, v) ∷ (xs ++ ys)) (x ∷ set_value test (xs ++ ys) v)) p.0 ∙ ap (λ l. x ∷ l) (set_behind xs ys v p.1)

  -- a value that is written at the place of a key is written for the key
  pub written : (xs ys : List (K × V)) (i : ℕ) (row : K × V) (v : V) → Placed xs i row → set_value test (xs ++ ys) v ≡ slice_set xs i (row.0, v) ++ ys
  written xs ys i row v p = set_first xs ys v row.1 p.value ∙ ap (λ l. l ++ ys) (p.put v)

  -- a value that is written leaves each key once
  pub once_set : (eq : K → K → Bool) (es : List (K × V)) (v : V) → IsDistinct eq (keys_of es) → IsDistinct eq (keys_of (set_value test es v))
  once_set eq es v h = subst (IsDistinct eq) (sym (keys-set_value test es v)) h

-- what follows from what a success says and from what a refusal says
pub either_way : {T E : Type 0} (r : Result T E) (A B P : Type 0) → OnOk r A → OnErr r B → (A → P) → (B → P) → P
either_way (Ok x) A B P a b f g = f a
either_way (Err e) A B P a b f g = g b

module _ {K V : Type 0} (eq : K → K → Bool) (k : K) (v : V) where
  pub inserted_first : (xs ys : List (K × V)) (w : V) → lookup (eq k) xs ≡ Some w → insert_entry eq (xs ++ ys) k v ≡ set_value (eq k) xs v ++ ys
  inserted_first [] ys w h = absurd (none_is_some h)
  inserted_first (x ∷ xs) ys w h = by (eq k x.0) refl (inserted_first xs ys w)
    where
      by : (b : Bool) → eq k x.0 ≡ b → (lookup (eq k) xs ≡ Some w → insert_entry eq (xs ++ ys) k v ≡ set_value (eq k) xs v ++ ys) → insert_entry eq ((x ∷ xs) ++ ys) k v ≡ set_value (eq k) (x ∷ xs) v ++ ys
      by true t rest =
          ap (λ b. cond b ((x.0, v) ∷ (xs ++ ys)) (x ∷ insert_entry eq (xs ++ ys) k v)) t
          ∙ ap (λ b. cond b ((x.0, v) ∷ xs) (x ∷ set_value (eq k) xs v) ++ ys) (sym t)
      by false t rest =
          ap (λ b. cond b ((x.0, v) ∷ (xs ++ ys)) (x ∷ insert_entry eq (xs ++ ys) k v)) t
          ∙ ap (λ l. x ∷ l) (rest (sym (lookup_tail (eq k) x xs t) ∙ h))
          ∙ ap (λ b. cond b ((x.0, v) ∷ xs) (x ∷ set_value (eq k) xs v) ++ ys) (sym t)

  pub inserted_behind : (xs ys : List (K × V)) → lookup (eq k) xs ≡ None → insert_entry eq (xs ++ ys) k v ≡ xs ++ insert_entry eq ys k v
  inserted_behind [] ys h = refl
  inserted_behind (x ∷ xs) ys h =
      let p = passed_by (eq k) x xs h in
      ap (λ b. cond b ((x.0, v) ∷ (xs ++ ys)) (x ∷ insert_entry eq (xs ++ ys) k v)) p.0 ∙ ap (λ l. x ∷ l) (inserted_behind xs ys p.1)

module _ {K V : Type 0} {eq : K → K → Bool} (laws : IsEquivalence eq) (k : K) (v : V) where
  apart_inserted : (x : K) (es : List (K × V)) → eq x k ≡ false → AllByRecursion (λ y. eq x y ≡ false) (keys_of es) → AllByRecursion (λ y. eq x y ≡ false) (keys_of (insert_entry eq es k v))
  apart_inserted x [] a h = (a, tt)
  apart_inserted x (e ∷ es) a h = by (eq k e.0) refl (apart_inserted x es a h.1)
    where
      by : (b : Bool) → eq k e.0 ≡ b → AllByRecursion (λ y. eq x y ≡ false) (keys_of (insert_entry eq es k v)) → AllByRecursion (λ y. eq x y ≡ false) (keys_of (insert_entry eq (e ∷ es) k v))
      by true t rest = subst (λ b. AllByRecursion (λ y. eq x y ≡ false) (keys_of (cond b ((e.0, v) ∷ es) (e ∷ insert_entry eq es k v)))) (sym t) h
      by false t rest = subst (λ b. AllByRecursion (λ y. eq x y ≡ false) (keys_of (cond b ((e.0, v) ∷ es) (e ∷ insert_entry eq es k v)))) (sym t) (h.0, rest)

  -- a key that is inserted stands once, as the others do
  pub once_inserted : (es : List (K × V)) → IsDistinct eq (keys_of es) → IsDistinct eq (keys_of (insert_entry eq es k v))
  once_inserted [] h = IsDistinct-cons eq k [] tt h
  once_inserted (e ∷ es) h = by (eq k e.0) refl (once_inserted es (IsDistinct-tail eq e.0 (keys_of es) h))
    where
      by : (b : Bool) → eq k e.0 ≡ b → IsDistinct eq (keys_of (insert_entry eq es k v)) → IsDistinct eq (keys_of (insert_entry eq (e ∷ es) k v))
      by true t rest = subst (λ b. IsDistinct eq (keys_of (cond b ((e.0, v) ∷ es) (e ∷ insert_entry eq es k v)))) (sym t) h
      by false t rest =
          subst (λ b. IsDistinct eq (keys_of (cond b ((e.0, v) ∷ es) (e ∷ insert_entry eq es k v)))) (sym t)
          (IsDistinct-cons eq e.0 (keys_of (insert_entry eq es k v)) (apart_inserted e.0 es (laws.symm e.0 k ∙ t) (IsDistinct-head eq e.0 (keys_of es) h)) rest)

  both : {X : Type 0} (b : Bool) (x y z : X) → cond b x z ≡ cond b x (cond b y z)
  both true x y z = refl
  both false x y z = refl

  either : {X : Type 0} (a b : Bool) (x y z : X) → (b ≡ true → a ≡ false) → cond a y (cond b x z) ≡ cond b x (cond a y z)
  either a true x y z h = ap (λ c. cond c y x) (h refl)
  either a false x y z h = refl

  -- each key is found as before, but for the one that is inserted
  pub looked_inserted : (q : K) (es : List (K × V)) → lookup (eq q) (insert_entry eq es k v) ≡ cond (eq k q) (Some v) (lookup (eq q) es)
  looked_inserted q [] = ap (λ b. cond b (Some v) None) (laws.symm q k)
  looked_inserted q (e ∷ es) = by (eq k e.0) refl (looked_inserted q es)
    where
      by : (b : Bool) → eq k e.0 ≡ b → lookup (eq q) (insert_entry eq es k v) ≡ cond (eq k q) (Some v) (lookup (eq q) es) → lookup (eq q) (insert_entry eq (e ∷ es) k v) ≡ cond (eq k q) (Some v) (lookup (eq q) (e ∷ es))
      by true t rest =
          let same : eq q e.0 ≡ eq k q = laws.symm q e.0 ∙ sym (laws.congr k e.0 q t) in
          ap (λ b. lookup (eq q) (cond b ((e.0, v) ∷ es) (e ∷ insert_entry eq es k v))) t
          ∙ ap (λ a. cond a (Some v) (lookup (eq q) es)) same
          ∙ both (eq k q) (Some v) (Some e.1) (lookup (eq q) es)
          ∙ ap (λ a. cond (eq k q) (Some v) (cond a (Some e.1) (lookup (eq q) es))) (sym same)
      by false t rest =
          ap (λ b. lookup (eq q) (cond b ((e.0, v) ∷ es) (e ∷ insert_entry eq es k v))) t
          ∙ ap (λ r. cond (eq q e.0) (Some e.1) r) rest
          ∙ either (eq q e.0) (eq k q) (Some v) (Some e.1) (lookup (eq q) es) (λ m. sym (laws.congr k q e.0 m) ∙ t)
