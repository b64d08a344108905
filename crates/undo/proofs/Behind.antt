-- Items behind others, at positions that are counted from the first of those.
use Rattle.std.proofs.Common.{◌≡◌, ℕ, zero, suc, ◌+◌, Bool, true, ◌&&◌, List, [], ◌∷◌, ◌++◌, Option, Some, None, length, map, set, refl, sym, ap, ◌∙◌, append_assoc, arith}
use Rattle.std.specs.List.{slice_get}
use Rattle.std.specs.Option.{option_map, option_map_or}
use Rattle.history.specs.Walks.{step_at}
use Rattle.history.specs.Records.{State, Record}
use Rattle.ids.specs.declared.cells.CellKey.{CellKey}
use Rattle.world_cells.specs.Events.{Noted}
use Rattle.world_cells.specs.Theory.{cells}
use Rattle.journal.specs.Items.{Item, keys_at, pass, key_count, all_ready, records_at, entered, neighbours, exchanged}

module _ {A : Type 0} where
  pub get_behind : (ss ys : List A) (i : ℕ) → slice_get (ss ++ ys) (length ss + i) ≡ slice_get ys i
  get_behind [] ys i = let e : 0 + i ≡ i = omega arith in ap (slice_get ys) e
  get_behind (s ∷ ss) ys i = let e : length (s ∷ ss) + i ≡ suc (length ss + i) = omega arith in ap (slice_get (s ∷ (ss ++ ys))) e ∙ get_behind ss ys i

  set_behind : (ss ys : List A) (i : ℕ) (y : A) → set (ss ++ ys) (length ss + i) y ≡ ss ++ set ys i y
  set_behind [] ys i y = let e : 0 + i ≡ i = omega arith in ap (λ n. set ys n y) e
  set_behind (s ∷ ss) ys i y = let e : length (s ∷ ss) + i ≡ suc (length ss + i) = omega arith in ap (λ n. set (s ∷ (ss ++ ys)) n y) e ∙ ap (λ l. s ∷ l) (set_behind ss ys i y)

  step_there : {S : Type 0} (one : A → S → A × S) (ss ys : List A) (i : ℕ) (w : S) → ◌≡◌ {A = List A × S} (step_at one (length ss + i) (ss ++ ys, w)) (ss ++ (step_at one i (ys, w)).0, (step_at one i (ys, w)).1)
  step_there {S = S} one ss ys i w =
      ap (λ (o : Option A). option_map_or {U = List A × S} (λ x. (set (ss ++ ys) (length ss + i) (one x w).0, (one x w).1)) o (ss ++ ys, w)) (get_behind ss ys i)
      ∙ by (slice_get ys i)
    where
      by : (o : Option A) → ◌≡◌ {A = List A × S} (option_map_or {U = List A × S} (λ x. (set (ss ++ ys) (length ss + i) (one x w).0, (one x w).1)) o (ss ++ ys, w))
          (ss ++ (option_map_or {U = List A × S} (λ x. (set ys i (one x w).0, (one x w).1)) o (ys, w)).0, (option_map_or {U = List A × S} (λ x. (set ys i (one x w).0, (one x w).1)) o (ys, w)).1)
      by None = refl
      by (Some x) = ap (λ (l : List A). (l, (one x w).1)) (set_behind ss ys i (one x w).0)

  -- one step of a walk
  pub step_behind : {S : Type 0} (one : A → S → A × S) (ss ys : List A) (p i : ℕ) (w : S) → p ≡ length ss + i → ◌≡◌ {A = List A × S} (step_at one p (ss ++ ys, w)) (ss ++ (step_at one i (ys, w)).0, (step_at one i (ys, w)).1)
  step_behind one ss ys p i w is = ap (λ n. step_at one n (ss ++ ys, w)) is ∙ step_there one ss ys i w

  test_suc : (test : A → A → Bool) (k : ℕ) (v : A) (ws : List A) → neighbours test (suc k) (v ∷ ws) ≡ neighbours test k ws
  test_suc test k v [] = refl
  test_suc test k v (w ∷ ws) = refl

  test_there : (test : A → A → Bool) (ss ys : List A) (i : ℕ) → neighbours test (length ss + i) (ss ++ ys) ≡ neighbours test i ys
  test_there test [] ys i = let e : 0 + i ≡ i = omega arith in ap (λ n. neighbours test n ys) e
  test_there test (s ∷ ss) ys i =
      let e : length (s ∷ ss) + i ≡ suc (length ss + i) = omega arith in
      ap (λ n. neighbours test n (s ∷ (ss ++ ys))) e ∙ test_suc test (length ss + i) s (ss ++ ys) ∙ test_there test ss ys i

  -- neighbours
  pub test_behind : (test : A → A → Bool) (ss ys : List A) (p i : ℕ) → p ≡ length ss + i → neighbours test p (ss ++ ys) ≡ neighbours test i ys
  test_behind test ss ys p i is = ap (λ n. neighbours test n (ss ++ ys)) is ∙ test_there test ss ys i

  turn_suc : (k : ℕ) (v : A) (ws : List A) → exchanged (suc k) (v ∷ ws) ≡ v ∷ exchanged k ws
  turn_suc k v [] = refl
  turn_suc k v (w ∷ ws) = refl

  turn_there : (ss ys : List A) (i : ℕ) → exchanged (length ss + i) (ss ++ ys) ≡ ss ++ exchanged i ys
  turn_there [] ys i = let e : 0 + i ≡ i = omega arith in ap (λ n. exchanged n ys) e
  turn_there (s ∷ ss) ys i =
      let e : length (s ∷ ss) + i ≡ suc (length ss + i) = omega arith in
      ap (λ n. exchanged n (s ∷ (ss ++ ys))) e ∙ turn_suc (length ss + i) s (ss ++ ys) ∙ ap (λ l. s ∷ l) (turn_there ss ys i)

  pub turn_behind : (ss ys : List A) (p i : ℕ) → p ≡ length ss + i → exchanged p (ss ++ ys) ≡ ss ++ exchanged i ys
  turn_behind ss ys p i is = ap (λ n. exchanged n (ss ++ ys)) is ∙ turn_there ss ys i

-- the cells of an item
pub keys_behind : (ss ys : List Item) (p i : ℕ) → p ≡ length ss + i → keys_at (ss ++ ys) p ≡ keys_at ys i
keys_behind ss ys p i is = ap (keys_at (ss ++ ys)) is ∙ ap (option_map (λ (j : Item). map (λ (r : CellKey × _). r.0) j.kept)) (get_behind ss ys i)

pub ready_behind : (test : CellKey → Bool) (ss ys : List Item) (p i : ℕ) → p ≡ length ss + i → all_ready test (ss ++ ys) (p ∷ []) ≡ all_ready test ys (i ∷ [])
ready_behind test ss ys p i is = ap (λ o. pass test o && true) (keys_behind ss ys p i is)

pub count_behind : (ss ys : List Item) (p i : ℕ) → p ≡ length ss + i → records_at (ss ++ ys) (p ∷ []) ≡ records_at ys (i ∷ [])
count_behind ss ys p i is = ap (λ o. key_count o + 0) (keys_behind ss ys p i is)

-- where the keys of those behind stay, all do
pub keys_stay_behind : (ss ys zs : List Item) → ((p : ℕ) → keys_at zs p ≡ keys_at ys p) → (p : ℕ) → keys_at (ss ++ zs) p ≡ keys_at (ss ++ ys) p
keys_stay_behind [] ys zs h p = h p
keys_stay_behind (s ∷ ss) ys zs h zero = refl
keys_stay_behind (s ∷ ss) ys zs h (suc p) = keys_stay_behind ss ys zs h p

-- an item that is entered behind them
pub entered_behind : (ss ys : List Item) (e : Noted) (seat : ℕ) (touched : List CellKey) (kept : Record cells) (w : State cells)
    → ◌≡◌ {A = List Item × State cells} (ss ++ (entered e seat touched kept (ys, w)).0, (entered e seat touched kept (ys, w)).1) (entered e seat touched kept (ss ++ ys, w))
entered_behind ss ys e seat touched kept w = ap (λ (l : List Item). (l, (entered e seat touched kept (ys, w)).1)) (sym (append_assoc ss ys _))
