-- What holds of each pair of a list, the item before first.
use Rattle.std.proofs.Common.{◌≡◌, ℕ, zero, suc, ◌<◌, List, [], ◌∷◌, ◌++◌, length, get_or, map, reverse, sym, subst, arith}
use Rattle.std.specs.List.{AllByRecursion}
use Rattle.std.proofs.lemmas.List.{reverse-append, reverse-reverse}
use Rattle.history.proofs.Lists.{all_map, all_both, all_append, all_reversed, all_mapped}

-- each item with each one behind it
abbrev pub Pairs : {A : Type 0} → (A → A → Type 0) → List A → Type 0
Pairs R [] = Unit {0}
Pairs R (x ∷ xs) = AllByRecursion (R x) xs × Pairs R xs

pub pairs_map : {A : Type 0} (R S : A → A → Type 0) (xs : List A) → ((a b : A) → R a b → S a b) → Pairs R xs → Pairs S xs
pairs_map R S [] f h = tt
pairs_map R S (x ∷ xs) f (p, h) = (all_map (R x) (S x) xs (f x) p, pairs_map R S xs f h)

pub pairs_both : {A : Type 0} (R S T : A → A → Type 0) (xs : List A) → ((a b : A) → R a b → S a b → T a b) → Pairs R xs → Pairs S xs → Pairs T xs
pairs_both R S T [] f h g = tt
pairs_both R S T (x ∷ xs) f (p, h) (q, g) = (all_both (R x) (S x) (T x) xs (f x) p q, pairs_both R S T xs f h g)

pairs_last : {A : Type 0} (R : A → A → Type 0) (xs : List A) (x : A) → Pairs R xs → AllByRecursion (λ a. R a x) xs → Pairs R (xs ++ x ∷ [])
pairs_last R [] x h g = (tt, tt)
pairs_last R (y ∷ ys) x (p, h) (q, g) = (all_append (R y) ys (x ∷ []) p (q, tt), pairs_last R ys x h g)

-- the other way round
pub pairs_reversed : {A : Type 0} (R : A → A → Type 0) (xs : List A) → Pairs R xs → Pairs (λ a b. R b a) (reverse xs)
pairs_reversed R [] h = tt
pairs_reversed R (x ∷ xs) (p, h) = subst (Pairs (λ a b. R b a)) (sym (reverse-append (x ∷ []) xs)) (pairs_last (λ a b. R b a) (reverse xs) x (pairs_reversed R xs h) (all_reversed (R x) xs p))

pub pairs_mapped : {A B : Type 0} (f : A → B) (R : B → B → Type 0) (xs : List A) → Pairs (λ a b. R (f a) (f b)) xs → Pairs R (map f xs)
pairs_mapped f R [] h = tt
pairs_mapped f R (x ∷ xs) (p, h) = (all_mapped f (R (f x)) xs p, pairs_mapped f R xs h)

pub all_unmapped : {A B : Type 0} (f : A → B) (P : B → Type 0) (xs : List A) → AllByRecursion P (map f xs) → AllByRecursion (λ a. P (f a)) xs
all_unmapped f P [] h = tt
all_unmapped f P (x ∷ xs) (p, h) = (p, all_unmapped f P xs h)

pub pairs_unmapped : {A B : Type 0} (f : A → B) (R : B → B → Type 0) (xs : List A) → Pairs R (map f xs) → Pairs (λ a b. R (f a) (f b)) xs
pairs_unmapped f R [] h = tt
pairs_unmapped f R (x ∷ xs) (p, h) = (all_unmapped f (R (f x)) xs p, pairs_unmapped f R xs h)

-- what is told of a list from its end on, and of the list from its front on
pub all_from_end : {A B : Type 0} (f : A → B) (P : B → Type 0) (xs : List A) → AllByRecursion P (reverse (map f xs)) → AllByRecursion (λ a. P (f a)) xs
all_from_end f P xs h = all_unmapped f P xs (subst (AllByRecursion P) (reverse-reverse (map f xs)) (all_reversed P (reverse (map f xs)) h))

pub all_to_end : {A B : Type 0} (f : A → B) (P : B → Type 0) (xs : List A) → AllByRecursion (λ a. P (f a)) xs → AllByRecursion P (reverse (map f xs))
all_to_end f P xs h = all_reversed P (map f xs) (all_mapped f P xs h)

pub pairs_from_end : {A B : Type 0} (f : A → B) (R : B → B → Type 0) (xs : List A) → Pairs R (reverse (map f xs)) → Pairs (λ a b. R (f b) (f a)) xs
pairs_from_end f R xs h = pairs_unmapped f (λ a b. R b a) xs (subst (Pairs (λ a b. R b a)) (reverse-reverse (map f xs)) (pairs_reversed R (reverse (map f xs)) h))

pub pairs_to_end : {A B : Type 0} (f : A → B) (R : B → B → Type 0) (xs : List A) → Pairs (λ a b. R (f b) (f a)) xs → Pairs R (reverse (map f xs))
pairs_to_end f R xs h = pairs_reversed (λ a b. R b a) (map f xs) (pairs_mapped f (λ a b. R b a) xs h)

-- an item with those before and behind it
pub record Amid {A : Type 0} (R : A → A → Type 0) (before : List A) (x : A) (behind : List A) : Type 0 where
  pub older : AllByRecursion (λ a. R a x) before
  pub newer : AllByRecursion (R x) behind

-- the same of each item, where those before the first are known
abbrev pub Around : {A : Type 0} → (List A → A → List A → Type 0) → List A → List A → Type 0
Around P before [] = Unit {0}
Around P before (x ∷ xs) = P before x xs × Around P (before ++ x ∷ []) xs

around_from : {A : Type 0} (R : A → A → Type 0) (before xs : List A) → AllByRecursion (λ a. AllByRecursion (R a) xs) before → Pairs R xs → Around (Amid R) before xs
around_from R before [] h g = tt
around_from R before (x ∷ xs) h (p, g) = (
  record { older = all_map _ _ before (λ a q. q.0) h; newer = p },
  around_from R (before ++ x ∷ []) xs (all_append _ before (x ∷ []) (all_map _ _ before (λ a q. q.1) h) (p, tt)) g,
)

pub pairs_around : {A : Type 0} (R : A → A → Type 0) (xs : List A) → Pairs R xs → Around (Amid R) [] xs
pairs_around R xs h = around_from R [] xs tt h

-- what holds of each pair both ways, and of each item with itself, holds of all with all
pub every_pair : {A : Type 0} (T : A → A → Type 0) (xs : List A) → Pairs (λ a b. T b a × T a b) xs → AllByRecursion (λ a. T a a) xs → AllByRecursion (λ a. AllByRecursion (T a) xs) xs
every_pair T [] h g = tt
every_pair T (x ∷ xs) (p, h) (q, g) = (
  (q, all_map _ _ xs (λ b t. t.1) p),
  all_both _ _ _ xs (λ a t row. (t.0, row)) p (every_pair T xs h g),
)

all_split : {A : Type 0} (P : A → Type 0) (xs ys : List A) → AllByRecursion P (xs ++ ys) → AllByRecursion P xs × AllByRecursion P ys
all_split P [] ys h = (tt, h)
all_split P (x ∷ xs) ys (p, h) = let parts = all_split P xs ys h in ((p, parts.0), parts.1)

from_around : {A : Type 0} (R : A → A → Type 0) (before xs : List A) → Around (λ older x newer. AllByRecursion (λ a. R a x) older) before xs → AllByRecursion (λ x. AllByRecursion (λ a. R a x) before) xs × Pairs R xs
from_around R before [] h = (tt, tt)
from_around R before (x ∷ xs) (p, h) =
    let more = from_around R (before ++ x ∷ []) xs h in (
      (p, all_map _ _ xs (λ b g. (all_split (λ a. R a b) before (x ∷ []) g).0) more.0),
      (all_map _ _ xs (λ b g. (all_split (λ a. R a b) before (x ∷ []) g).1.0) more.0, more.1),
    )

-- what holds of those before each item holds of each pair
pub around_pairs : {A : Type 0} (R : A → A → Type 0) (xs : List A) → Around (λ older x newer. AllByRecursion (λ a. R a x) older) [] xs → Pairs R xs
around_pairs R xs h = (from_around R [] xs h).1

-- what holds of all with all holds of each pair
pub pairs_of_all : {A : Type 0} (T : A → A → Type 0) (xs : List A) → AllByRecursion (λ a. AllByRecursion (T a) xs) xs → Pairs (λ a b. T b a) xs
pairs_of_all T [] h = tt
pairs_of_all T (x ∷ xs) (p, h) = (all_map _ _ xs (λ b row. row.0) h, pairs_of_all T xs (all_map _ _ xs (λ b row. row.1) h))

-- the one at an index
pub all_at_index : {A B : Type 0} (f : A → B) (P : B → Type 0) (xs : List A) (i : ℕ) (x : A) → i < length xs → x ≡ get_or xs i x → AllByRecursion P (map f xs) → P (f x)
all_at_index f P [] i x h e all = absurd (omega arith)
all_at_index f P (y ∷ xs) zero x h e all = subst (λ z. P (f z)) (sym e) all.0
all_at_index f P (y ∷ xs) (suc i) x h e all = all_at_index f P xs i x (omega arith) e all.1
