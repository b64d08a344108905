-- A walk along items is a walk along what is told of them.
use Rattle.std.proofs.Common.{◌≡◌, ℕ, zero, suc, Bool, List, [], ◌∷◌, Option, Some, None, map, set, refl, sym, ap, ◌∙◌}
use Rattle.std.specs.Option.{option_map, option_map_or}
use Rattle.std.specs.List.{slice_get}
use Rattle.history.specs.Walks.{step_at, walk}
use Rattle.journal.specs.Items.{neighbours}
use Rattle.undo.proofs.Entries.{map-set}

get-map : {A B : Type 0} (f : A → B) (xs : List A) (i : ℕ) → slice_get (map f xs) i ≡ option_map f (slice_get xs i)
get-map f [] i = refl
get-map f (x ∷ xs) zero = refl
get-map f (x ∷ xs) (suc i) = get-map f xs i

module _ {A B S : Type 0} (f : A → B) (one : A → S → A × S) (two : B → S → B × S) (hit : (a : A) (w : S) → two (f a) w ≡ (f (one a w).0, (one a w).1)) where
  abbrev told_of : List A × S → List B × S
  told_of j = (map f j.0, j.1)

  step_told : (p : ℕ) (j : List A × S) → step_at two p (told_of j) ≡ told_of (step_at one p j)
  step_told p j =
      ap (λ o. option_map_or (λ x. (set (map f j.0) p (two x j.1).0, (two x j.1).1)) o (told_of j)) (get-map f j.0 p)
      ∙ by (slice_get j.0 p)
    where
      by : (o : Option A) → option_map_or (λ x. (set (map f j.0) p (two x j.1).0, (two x j.1).1)) (option_map f o) (told_of j) ≡ told_of (option_map_or (λ x. (set j.0 p (one x j.1).0, (one x j.1).1)) o j)
      by None = refl
      by (Some a) = ap (λ (r : B × S). (set (map f j.0) p r.0, r.1)) (hit a j.1) ∙ ap (λ (l : List B). (l, (one a j.1).1)) (sym (map-set f j.0 p (one a j.1).0))

  pub walk_told : (ps : List ℕ) (j : List A × S) → walk two ps (told_of j) ≡ told_of (walk one ps j)
  walk_told [] j = refl
  walk_told (p ∷ ps) j = ap (walk two ps) (step_told p j) ∙ walk_told ps (step_at one p j)

pub neighbours-map : {A B : Type 0} (f : A → B) (p : A → A → Bool) (q : B → B → Bool) → ((x y : A) → p x y ≡ q (f x) (f y)) → (n : ℕ) (xs : List A) → neighbours p n xs ≡ neighbours q n (map f xs)
neighbours-map f p q h n [] = refl
neighbours-map f p q h n (b ∷ []) = refl
neighbours-map f p q h zero (b ∷ a ∷ xs) = h b a
neighbours-map f p q h (suc n) (b ∷ a ∷ xs) = neighbours-map f p q h n (a ∷ xs)
