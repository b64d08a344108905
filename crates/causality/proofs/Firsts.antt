-- The first answer along a list.
use Rattle.std.proofs.Common.{◌≡◌, ◌∙◌, Bool, true, false, cond, List, [], ◌∷◌, ◌++◌, map, Option, Some, None, refl, ap}
use Rattle.std.specs.List.{AllByRecursion}
use Rattle.std.specs.Option.{option_or}
use Rattle.causality.specs.Selections.{first_some}

pub some_mapped : {A B C : Type 0} (f : B → Option C) (g : A → B) (xs : List A) → first_some f (map g xs) ≡ first_some (λ a. f (g a)) xs
some_mapped f g [] = refl
some_mapped f g (x ∷ xs) = ap (option_or (f (g x))) (some_mapped f g xs)

pub some_same : {A C : Type 0} (f g : A → Option C) (xs : List A) → AllByRecursion (λ a. f a ≡ g a) xs → first_some f xs ≡ first_some g xs
some_same f g [] h = refl
some_same f g (x ∷ xs) (p, h) = λ i. option_or (p i) (some_same f g xs h i)

-- what has no answer is passed by
pub some_past : {A C : Type 0} (f : A → Option C) (xs ys : List A) → AllByRecursion (λ a. f a ≡ None) xs → first_some f (xs ++ ys) ≡ first_some f ys
some_past f [] ys h = refl
some_past f (x ∷ xs) ys (p, h) = ap (λ o. option_or o (first_some f (xs ++ ys))) p ∙ some_past f xs ys h

pub some_none : {A C : Type 0} (f : A → Option C) (xs : List A) → AllByRecursion (λ a. f a ≡ None) xs → first_some f xs ≡ None
some_none f [] h = refl
some_none f (x ∷ xs) (p, h) = ap (λ o. option_or o (first_some f xs)) p ∙ some_none f xs h

-- so is what is behind, where it has none
pub some_until : {A C : Type 0} (f : A → Option C) (xs ys : List A) → AllByRecursion (λ a. f a ≡ None) ys → first_some f (xs ++ ys) ≡ first_some f xs
some_until f [] ys h = some_none f ys h
some_until f (x ∷ xs) ys h = ap (option_or (f x)) (some_until f xs ys h)

pub or_none : {B : Type 0} (a b : Option B) → option_or a b ≡ None → (a ≡ None) × (b ≡ None)
or_none None b e = (refl, e)
or_none (Some y) b e = cc

-- and where there is no answer at all, each has none
pub none_each : {A C : Type 0} (f : A → Option C) (xs : List A) → first_some f xs ≡ None → AllByRecursion (λ a. f a ≡ None) xs
none_each f [] h = tt
none_each f (x ∷ xs) h = let parts = or_none (f x) (first_some f xs) h in (parts.0, none_each f xs parts.1)

-- a test that decides on an answer
pub cond_none : {C : Type 0} (b : Bool) (o : Option C) → b ≡ false → cond b o None ≡ None
cond_none b o h = ap (λ t. cond t o None) h

pub cond_same : {C : Type 0} (b : Bool) (x y z : C) → (b ≡ true → x ≡ y) → cond b x z ≡ cond b y z
cond_same true x y z h = h refl
cond_same false x y z h = refl
