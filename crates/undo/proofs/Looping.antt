-- One more of a list.
use Rattle.std.proofs.Common.{◌≡◌, ℕ, ◌+◌, ◌<◌, ◌%◌, Option, Bool, true, false, ◌&&◌, cond, List, [], ◌∷◌, ◌++◌, length, take, drop, set, get_or, map, refl, sym, ap, ap₂, ◌∙◌, append_assoc, add-one, arith}
use Rattle.std.specs.List.{list_all}
use Rattle.std.proofs.Math.Nat.{mod-add-mod}
use Rattle.std.proofs.Math.Seq.{drop-cons}
use Rattle.std.proofs.lemmas.List.{drop-set-lt, take_more, take_more_set, map-append}
use Rattle.std.proofs.lemmas.List.Folds.{list_all-append}
use Rattle.cells.specs.Seen.{Seen}
use Rattle.history.specs.Records.{State, hold, swap_state, swap_record}
use Rattle.ids.specs.CellKeys.{same_key}
use Rattle.ids.specs.declared.cells.CellKey.{CellKey}
use Rattle.world_cells.specs.World.{Content}
use Rattle.world_cells.specs.Theory.{cells, numbered}

pub and_second : (a b : Bool) → (a && b) ≡ true → b ≡ true
and_second true b h = h
and_second false b h = cc

pub and_first : (a b : Bool) → (a && b) ≡ true → a ≡ true
and_first true b h = refl
and_first false b h = cc

pub both_true : (a b : Bool) → a ≡ true → b ≡ true → (a && b) ≡ true
both_true a b h g = rw (h, g) refl

-- functions that are alike everywhere are one
pub ext : {A B : Type 0} (f g : A → B) → ((a : A) → f a ≡ g a) → f ≡ g
ext f g h j a = h a j

-- one exchange more is counted
pub counted_more : (m was now first n : ℕ) → was % m ≡ (first + n) % m → now ≡ (was + 1) % m → now % m ≡ (first + (n + 1)) % m
counted_more m was now first n h e =
    let more : (first + n) + 1 ≡ first + (n + 1) = omega arith in
    ap (λ x. x % m) e ∙ twice m (was + 1) ∙ sym (mod-add-mod was m 1) ∙ ap (λ x. (x + 1) % m) h ∙ mod-add-mod (first + n) m 1 ∙ ap (λ x. x % m) more
  where
    twice : (m x : ℕ) → x % m % m ≡ x % m
    twice m x = let a : x % m + 0 ≡ x % m = omega arith in let b : x + 0 ≡ x = omega arith in sym (ap (λ y. y % m) a) ∙ mod-add-mod x m 0 ∙ ap (λ y. y % m) b

-- and several more
pub counted_on : (m a b c n k : ℕ) → b % m ≡ (a + n) % m → c % m ≡ (b + k) % m → c % m ≡ (a + (n + k)) % m
counted_on m a b c n k h g =
    let more : (a + n) + k ≡ a + (n + k) = omega arith in
    g ∙ sym (mod-add-mod b m k) ∙ ap (λ x. (x + k) % m) h ∙ mod-add-mod (a + n) m k ∙ ap (λ x. x % m) more

-- what is numbered of one of two
numbered_one : (b : Bool) (x y : Seen Content) → numbered (cond b x y) ≡ cond b (numbered x) (numbered y)
numbered_one true x y = refl
numbered_one false x y = refl

-- a cell that is held is held as the theory says
pub held : (v w : CellKey → Seen Content) (k : CellKey) (x : Seen Content) → v ≡ (λ q. cond (same_key k q) x (w q)) → (λ q. numbered (v q)) ≡ hold cells (λ q. numbered (w q)) k (numbered x)
held v w k x h = ext _ _ (λ q. ap (λ f. numbered (f q)) h ∙ numbered_one (same_key k q) x (w q))

module _ {A : Type 0} (f : A → CellKey × (Option Content × Option ℕ)) (xs : List A) (i : ℕ) (d y : A) (w v : State cells)
    (in_xs : i < length xs) (state : v ≡ hold cells w (f (get_or xs i d)).0 (f (get_or xs i d)).1) (rec : f y ≡ ((f (get_or xs i d)).0, w (f (get_or xs i d)).0)) where
  from_here : drop i xs ≡ get_or xs i d ∷ drop (i + 1) xs
  from_here = drop-cons xs i d in_xs ∙ ap (λ n. get_or xs i d ∷ drop n xs) (sym (add-one i))

  rest_stays : drop (i + 1) (set xs i y) ≡ drop (i + 1) xs
  rest_stays = let h : i < i + 1 = omega arith in drop-set-lt (i + 1) xs i y h

  pub rest_more : swap_state cells (map f (drop (i + 1) (set xs i y))) v ≡ swap_state cells (map f (drop i xs)) w
  rest_more = ap₂ (λ l u. swap_state cells (map f l) u) rest_stays state ∙ sym (ap (λ l. swap_state cells (map f l) w) from_here)

  pub done_more : map f (take (i + 1) (set xs i y)) ++ swap_record cells (map f (drop (i + 1) (set xs i y))) v ≡ map f (take i xs) ++ swap_record cells (map f (drop i xs)) w
  done_more =
      ap (λ l. map f l ++ swap_record cells (map f (drop (i + 1) (set xs i y))) v) (take_more_set xs i y in_xs)
      ∙ ap (λ l. l ++ swap_record cells (map f (drop (i + 1) (set xs i y))) v) (map-append f (take i xs) (y ∷ []))
      ∙ append_assoc (map f (take i xs)) (f y ∷ []) _
      ∙ ap₂ (λ a l. map f (take i xs) ++ (a ∷ l)) rec (ap₂ (λ l u. swap_record cells (map f l) u) rest_stays state)
      ∙ sym (ap (λ l. map f (take i xs) ++ swap_record cells (map f l) w) from_here)

  pub fits_more : (room : CellKey → Bool) → list_all (λ r. room r.0) (map f (drop i xs)) ≡ true → list_all (λ r. room r.0) (map f (drop (i + 1) (set xs i y))) ≡ true
  fits_more room h = ap (λ l. list_all (λ r. room r.0) (map f l)) rest_stays ∙ and_second _ _ (sym (ap (λ l. list_all (λ r. room r.0) (map f l)) from_here) ∙ h)

-- the first of the rest passes the test of all
pub first_fits : {A K X : Type 0} (f : A → K × X) (room : K → Bool) (xs : List A) (i : ℕ) (d : A) → i < length xs → list_all (λ r. room r.0) (map f (drop i xs)) ≡ true → room (f (get_or xs i d)).0 ≡ true
first_fits f room xs i d h all = and_first _ _ (sym (ap (λ l. list_all (λ r. room r.0) (map f l)) (drop-cons xs i d h)) ∙ all)

-- room that is kept for each cell is kept for all of a list
pub all_kept : {K X : Type 0} (room new : K → Bool) → ((k : K) → room k ≡ true → new k ≡ true) → (r : List (K × X)) → list_all (λ p. room p.0) r ≡ true → list_all (λ p. new p.0) r ≡ true
all_kept room new h [] g = refl
all_kept room new h (p ∷ ps) g = rw (h p.0 (and_first _ _ g), all_kept room new h ps (and_second (room p.0) _ g)) refl

-- and for one cell more
pub made_more : {A K X : Type 0} (f : A → K × X) (room new : K → Bool) (xs : List A) (i : ℕ) (d : A) → i < length xs → ((k : K) → room k ≡ true → new k ≡ true) → new (f (get_or xs i d)).0 ≡ true
    → list_all (λ p. room p.0) (map f (take i xs)) ≡ true → list_all (λ p. new p.0) (map f (take (i + 1) xs)) ≡ true
made_more f room new xs i d h kept made all =
    ap (λ l. list_all (λ p. new p.0) (map f l)) (take_more xs i d h)
    ∙ ap (list_all (λ p. new p.0)) (map-append f (take i xs) (get_or xs i d ∷ []))
    ∙ list_all-append (λ p. new p.0) (map f (take i xs)) (f (get_or xs i d) ∷ [])
    ∙ rw (all_kept room new kept (map f (take i xs)) all, made) refl
