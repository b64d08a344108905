-- Lists of steps that rise, and what is in them.
use Rattle.std.proofs.Common.{◌≡◌, List, [], ◌∷◌, ◌++◌, Contains, Option, Some, None, Ordering, Less, ◌⊎◌, inl, inr, ⊎_elim, refl, sym, ap, ap₂, subst, ◌∙◌, arith}
use Rattle.std.specs.List.{AllByRecursion, filter_map, cons_option}
use Rattle.std.specs.List.Sorted.{IsStrictlySortedBy}
use Rattle.std.proofs.lemmas.Map.Keys.{sorted_head, sorted_tail}
use Rattle.std.proofs.lemmas.List.Elements.{Contains-append_left, Contains-append_right, Contains-append_cases, Contains-push, Contains-push_cases, All-from_recursion, All-contains}
use Rattle.std.specs.Ordering.{ordering_then}
use Rattle.ids.specs.Cells.{promise_cmp, vat_cmp}
use Rattle.ids.specs.declared.names.MsgId.{MsgId}
use Rattle.book_agenda.specs.Enabled.{message_in, learn_in, step_cmp_by, step_cmp, Rises}
use Rattle.book_agenda.specs.declared.agenda.Step.{Step}

-- ---- what is in a list

pub in_none : {A : Type 0} (x : A) → Contains [] x → ⊥
in_none x h = absurd (omega (arith, h.1))

pub in_head : {A : Type 0} (x : A) (xs : List A) → Contains (x ∷ xs) x
in_head x xs = Contains-append_left (x ∷ []) xs x (Contains-push [] x)

pub in_tail : {A : Type 0} (y x : A) (xs : List A) → Contains xs x → Contains (y ∷ xs) x
in_tail y x xs h = Contains-append_right (y ∷ []) xs x h

pub in_cases : {A : Type 0} (y x : A) (xs : List A) → Contains (y ∷ xs) x → (y ≡ x) ⊎ Contains xs x
in_cases y x xs h = ⊎_elim (λ g. ⊎_elim (λ n. absurd (in_none x n)) (λ e. inl e) (Contains-push_cases [] y x g)) (λ g. inr g) (Contains-append_cases (y ∷ []) xs x h)

module _ {A B : Type 0} (f : A → Option B) where
  -- what f gives of an item is in the list of what it gives
  pub in_given : (a : A) (b : B) (xs : List A) → Contains xs a → f a ≡ Some b → Contains (filter_map f xs) b
  in_given a b [] h e = absurd (in_none a h)
  in_given a b (x ∷ xs) h e = ⊎_elim (λ same. subst (λ o. Contains (cons_option o (filter_map f xs)) b) (sym (ap f same ∙ e)) (in_head b (filter_map f xs))) (λ g. later (f x) (in_given a b xs g e)) (in_cases x a xs h)
    where
      later : (o : Option B) → Contains (filter_map f xs) b → Contains (cons_option o (filter_map f xs)) b
      later None g = g
      later (Some y) g = in_tail y b (filter_map f xs) g

  -- and nothing else is
  pub given_in : (b : B) (xs : List A) → Contains (filter_map f xs) b → (a : A) × Contains xs a × (f a ≡ Some b)
  given_in b [] h = absurd (in_none b h)
  given_in b (x ∷ xs) h = by (λ g. given_in b xs g) (f x) refl h
    where
      behind : (a : A) × Contains xs a × (f a ≡ Some b) → (a : A) × Contains (x ∷ xs) a × (f a ≡ Some b)
      behind g = (g.0, in_tail x g.0 xs g.1, g.2)

      by : (Contains (filter_map f xs) b → (a : A) × Contains xs a × (f a ≡ Some b)) → (o : Option B) → f x ≡ o → Contains (cons_option o (filter_map f xs)) b → (a : A) × Contains (x ∷ xs) a × (f a ≡ Some b)
      by rest None e g = behind (rest g)
      by rest (Some y) e g = ⊎_elim (λ same. (x, in_head x xs, e ∙ ap (λ z. Some z) same)) (λ t. behind (rest t)) (in_cases y b (filter_map f xs) g)

  -- what holds of each that f gives holds of all of them
  pub each_given : (P : B → Type 0) → ((a : A) (b : B) → f a ≡ Some b → P b) → (xs : List A) → AllByRecursion P (filter_map f xs)
  each_given P h [] = tt
  each_given P h (x ∷ xs) = by (each_given P h xs) (f x) refl
    where
      by : AllByRecursion P (filter_map f xs) → (o : Option B) → f x ≡ o → AllByRecursion P (cons_option o (filter_map f xs))
      by rest None e = rest
      by rest (Some y) e = (h x y e, rest)

-- ---- what rises

module _ {A : Type 0} (cmp : A → A → Ordering) (f : A → Option Step) (before : (a b : A) (s t : Step) → f a ≡ Some s → f b ≡ Some t → cmp a b ≡ Less → step_cmp s t ≡ Less) where
  later_given : (a : A) (s : Step) → f a ≡ Some s → (xs : List A) → AllByRecursion (λ b. cmp a b ≡ Less) xs → AllByRecursion (λ t. step_cmp s t ≡ Less) (filter_map f xs)
  later_given a s e [] h = tt
  later_given a s e (x ∷ xs) h = by (later_given a s e xs h.1) (f x) refl
    where
      by : AllByRecursion (λ t. step_cmp s t ≡ Less) (filter_map f xs) → (o : Option Step) → f x ≡ o → AllByRecursion (λ t. step_cmp s t ≡ Less) (cons_option o (filter_map f xs))
      by rest None g = rest
      by rest (Some t) g = (before a x s t e g h.0, rest)

  -- what is given of a list in order rises
  pub given_rises : (xs : List A) → IsStrictlySortedBy cmp xs → Rises (filter_map f xs)
  given_rises [] h = tt
  given_rises (x ∷ xs) h = by (given_rises xs (sorted_tail cmp x xs h)) (f x) refl
    where
      by : Rises (filter_map f xs) → (o : Option Step) → f x ≡ o → Rises (cons_option o (filter_map f xs))
      by rest None e = rest
      by rest (Some s) e = (later_given x s e xs (sorted_head cmp x xs h), rest)

each_of_both : {A : Type 0} (P : A → Type 0) (xs ys : List A) → AllByRecursion P xs → AllByRecursion P ys → AllByRecursion P (xs ++ ys)
each_of_both P [] ys h g = g
each_of_both P (x ∷ xs) ys h g = (h.0, each_of_both P xs ys h.1 g)

each_weaker : {A : Type 0} (P Q : A → Type 0) → ((x : A) → P x → Q x) → (xs : List A) → AllByRecursion P xs → AllByRecursion Q xs
each_weaker P Q f [] h = tt
each_weaker P Q f (x ∷ xs) h = (f x h.0, each_weaker P Q f xs h.1)

-- a step of a message comes before one of none
abbrev pub IsOfMessage : Step → Type 0
IsOfMessage s = (m : MsgId) × (message_in s ≡ Some m)

abbrev pub IsOfNone : Step → Type 0
IsOfNone s = message_in s ≡ None

pub first_messages : (s t : Step) → IsOfMessage s → IsOfNone t → step_cmp s t ≡ Less
first_messages s t h g = ap₂ (λ o p. step_cmp_by o p (ordering_then (vat_cmp (learn_in s).0 (learn_in t).0) (promise_cmp (learn_in s).1 (learn_in t).1))) h.1 g

pub both_rise : (xs ys : List Step) → Rises xs → Rises ys → AllByRecursion IsOfMessage xs → AllByRecursion IsOfNone ys → Rises (xs ++ ys)
both_rise [] ys h g m n = g
both_rise (x ∷ xs) ys h g m n = (each_of_both _ xs ys h.0 (each_weaker IsOfNone _ (λ t e. first_messages x t m.0 e) ys n), both_rise xs ys h.1 g m.1 n)

-- the first of a list is below all later ones
abbrev pub FirstBelow : List Step → Type 0
FirstBelow [] = Unit {0}
FirstBelow (s ∷ ss) = AllByRecursion (λ t. step_cmp s t ≡ Less) ss

pub first_below : (ss : List Step) → Rises ss → FirstBelow ss
first_below [] h = tt
first_below (s ∷ ss) h = h.0

pub below : (s t : Step) (ss : List Step) → AllByRecursion (λ u. step_cmp s u ≡ Less) ss → Contains ss t → step_cmp s t ≡ Less
below s t ss h g = All-contains (λ u. step_cmp s u ≡ Less) ss t (All-from_recursion (λ u. step_cmp s u ≡ Less) ss h) g
