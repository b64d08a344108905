-- The oldest that passes a test, and the first pair.
use Rattle.std.proofs.Common.{◌≡◌, ℕ, Bool, true, false, cond, List, [], ◌∷◌, ◌++◌, Option, Some, None, option_map, inl, inr, refl, sym, ap, ap₂, ◌∙◌}
use Rattle.std.specs.Option.{option_or}
use Rattle.history.specs.Subject.{Subject}
use Rattle.history.specs.Journal.{Entry, name_of}
use Rattle.history_consequences.specs.Refusals.{oldest, first_pair}
use Rattle.history_consequences.proofs.Members.{In}

none_first : {A : Type 0} (o p : Option A) → option_or o p ≡ None → o ≡ None
none_first None p h = refl
none_first (Some x) p h = h

none_second : {A : Type 0} (o p : Option A) → option_or o p ≡ None → p ≡ None
none_second None p h = h
none_second (Some x) p h = cc

none_test : {A : Type 0} (b : Bool) (x : A) → cond b (Some x) None ≡ None → b ≡ false
none_test true x h = cc
none_test false x h = refl

none_mapped : {A B : Type 0} (f : A → B) (o : Option A) → option_map f o ≡ None → o ≡ None
none_mapped f None h = refl
none_mapped f (Some x) h = cc

-- where there is an answer, nothing further is asked
pub or_same : {A : Type 0} (o q p r : Option A) → o ≡ q → (q ≡ None → p ≡ r) → option_or o p ≡ option_or q r
or_same o None p r e f = ap (λ x. option_or x p) e ∙ f refl
or_same o (Some x) p r e f = ap (λ y. option_or y p) e

module _ (s : Subject) where
  pub none_older : (test : Entry s → Bool) (es : List (Entry s)) → oldest s test es ≡ None → (a : Entry s) → In a es → test a ≡ false
  none_older test [] h a i = absurd i
  none_older test (e ∷ es) h a (inl q) = ap test (sym q) ∙ none_test (test e) (name_of s e) (none_second (oldest s test es) _ h)
  none_older test (e ∷ es) h a (inr i) = none_older test es (none_first (oldest s test es) _ h) a i

  pub oldest_none : (test : Entry s → Bool) (es : List (Entry s)) → ((a : Entry s) → In a es → test a ≡ false) → oldest s test es ≡ None
  oldest_none test [] f = refl
  oldest_none test (e ∷ es) f = ap₂ (λ o b. option_or o (cond b (Some (name_of s e)) None)) (oldest_none test es (λ a i. f a (inr i))) (f e (inl refl))

  pub oldest_each : (p q : Entry s → Bool) (es : List (Entry s)) → ((a : Entry s) → In a es → p a ≡ q a) → oldest s p es ≡ oldest s q es
  oldest_each p q [] f = refl
  oldest_each p q (e ∷ es) f = ap₂ (λ o b. option_or o (cond b (Some (name_of s e)) None)) (oldest_each p q es (λ a i. f a (inr i))) (f e (inl refl))

  -- one more in front
  pub oldest_more : (p q : Entry s → Bool) (e : Entry s) (es : List (Entry s)) → oldest s p es ≡ oldest s q es → (((a : Entry s) → In a es → p a ≡ false) → p e ≡ q e) → oldest s p (e ∷ es) ≡ oldest s q (e ∷ es)
  oldest_more p q e es ih f = or_same (oldest s p es) (oldest s q es) (cond (p e) (Some (name_of s e)) None) (cond (q e) (Some (name_of s e)) None) ih (λ n. ap (λ b. cond b (Some (name_of s e)) None) (f (none_older p es (ih ∙ n))))

  pub pair_more : (one two : Entry s → List (Entry s) → Option ℕ) (e : Entry s) (es : List (Entry s)) → first_pair s one es ≡ first_pair s two es → (first_pair s two es ≡ None → one e es ≡ two e es)
      → first_pair s one (e ∷ es) ≡ first_pair s two (e ∷ es)
  pair_more one two e es ih f = or_same (first_pair s one es) (first_pair s two es) (option_map (λ m. (name_of s e, m)) (one e es)) (option_map (λ m. (name_of s e, m)) (two e es)) ih (λ n. ap (option_map (λ m. (name_of s e, m))) (f n))

  pub none_paired : (one : Entry s → List (Entry s) → Option ℕ) (e : Entry s) (es : List (Entry s)) → first_pair s one (e ∷ es) ≡ None → (first_pair s one es ≡ None) × (one e es ≡ None)
  none_paired one e es h = (none_first (first_pair s one es) _ h, none_mapped (λ m. (name_of s e, m)) (one e es) (none_second (first_pair s one es) _ h))

  -- the oldest is the one that passes where no older one does
  pub oldest_at : (test : Entry s → Bool) (xs : List (Entry s)) (e : Entry s) (ys : List (Entry s)) → test e ≡ true → ((a : Entry s) → In a ys → test a ≡ false) → oldest s test (xs ++ e ∷ ys) ≡ Some (name_of s e)
  oldest_at test [] e ys h none = ap₂ (λ o b. option_or o (cond b (Some (name_of s e)) None)) (oldest_none test ys none) h
  oldest_at test (x ∷ xs) e ys h none = ap (λ o. option_or o (cond (test x) (Some (name_of s x)) None)) (oldest_at test xs e ys h none)

  -- the first pair is that of the entry to which something answers, where nothing answers to an older one
  pub pair_at : (one : Entry s → List (Entry s) → Option ℕ) (xs : List (Entry s)) (e : Entry s) (ys : List (Entry s)) (n : ℕ) → one e ys ≡ Some n → first_pair s one ys ≡ None → first_pair s one (xs ++ e ∷ ys) ≡ Some (name_of s e, n)
  pair_at one [] e ys n h none = ap₂ (λ o p. option_or o (option_map (λ m. (name_of s e, m)) p)) none h
  pair_at one (x ∷ xs) e ys n h none = ap (λ o. option_or o (option_map (λ m. (name_of s x, m)) (one x (xs ++ e ∷ ys)))) (pair_at one xs e ys n h none)
