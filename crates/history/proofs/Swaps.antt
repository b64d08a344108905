-- Neighbours that do not meet change places.
use Rattle.std.proofs.Common.{◌≡◌, ℕ, Bool, true, false, cond, List, [], ◌∷◌, ◌++◌, Option, Some, None, unwrap_or, option_map, ◌⊎◌, inl, inr, ⊎_elim, ◌∙◌, refl, sym, ap}
use Rattle.std.proofs.lemmas.Bool.{and_right}
use Rattle.history.specs.Subject.{Subject, Laws, World, Foot, new, after, meets}
use Rattle.history.specs.Journal.{Entry, name_of, caused, over, Sound, Recorded, Ordered, Good, Distinct, Named}
use Rattle.history.specs.Records.{Seen, State, Row, entries_of, left_by, Kept, Follows}
use Rattle.history.proofs.Lists.{all_swap}
use Rattle.history.proofs.Cells.{cond_same}
use Rattle.history.proofs.Rows.{leaves_of}
use Rattle.history.proofs.Writing.{at_after, one_writes}

module _ (s : Subject) (l : Laws s) where
  -- footprints that do not meet may be applied in either order
  after_commutes : (f g : Foot s) (w : World s) → meets s f g ≡ false → after s f (after s g w) ≡ after s g (after s f w)
  after_commutes f g w apart = λ i k. (two f g k ∙ one (new s f k) (new s g k) (w k) (one_writes s l f g k apart _ _ refl refl) ∙ sym (two g f k)) i
    where
      two : (f g : Foot s) (k : s.Key) → after s f (after s g w) k ≡ unwrap_or (option_map (λ v. Some v) (new s f k)) (unwrap_or (option_map (λ v. Some v) (new s g k)) (w k))
      two f g k = at_after s f (after s g w) k ∙ ap (unwrap_or (option_map (λ v. Some v) (new s f k))) (at_after s g w k)

      one : (o p : Option s.Content) (x : Option s.Content) → (o ≡ None) ⊎ (p ≡ None)
          → unwrap_or (option_map (λ v. Some v) o) (unwrap_or (option_map (λ v. Some v) p) x) ≡ unwrap_or (option_map (λ v. Some v) p) (unwrap_or (option_map (λ v. Some v) o) x)
      one None p x h = refl
      one (Some v) None x h = refl
      one (Some v) (Some u) x (inl h) = cc
      one (Some v) (Some u) x (inr h) = cc

module _ (s : Subject) (l : Laws s) (a b : Entry s) (ys : List (Entry s)) (apart : meets s a.foot b.foot ≡ false) where
  in_turn : (p q : Bool) (f g : World s → World s) (w : World s) → f (g w) ≡ g (f w) → cond p (f (cond q (g w) w)) (cond q (g w) w) ≡ cond q (g (cond p (f w) w)) (cond p (f w) w)
  in_turn true true f g w h = h
  in_turn true false f g w h = refl
  in_turn false q f g w h = refl

  over_swap : (start : World s) (t : Entry s → Bool) (xs : List (Entry s)) → over s start t (xs ++ a ∷ b ∷ ys) ≡ over s start t (xs ++ b ∷ a ∷ ys)
  over_swap start t [] = in_turn (t a) (t b) (after s a.foot) (after s b.foot) (over s start t ys) (after_commutes s l a.foot b.foot _ apart)
  over_swap start t (x ∷ xs) = ap (λ w. cond (t x) (after s x.foot w) w) (over_swap start t xs)

  module _ (no_cause : caused s a b ≡ false) where
    recorded_swap : (start : World s) (xs : List (Entry s)) → Ordered s (xs ++ a ∷ b ∷ ys) → Recorded s start (xs ++ a ∷ b ∷ ys) → Recorded s start (xs ++ b ∷ a ∷ ys)
    recorded_swap start [] ((later, _), _) (p, (q, r)) = (rw later q, (rw no_cause at p, r))
    recorded_swap start (x ∷ xs) (_, o) (p, r) = (rw (over_swap start (caused s x) xs) at p, recorded_swap start xs o r)

    pub ordered_swap : (xs : List (Entry s)) → Ordered s (xs ++ a ∷ b ∷ ys) → Ordered s (xs ++ b ∷ a ∷ ys)
    ordered_swap [] ((_, p), (q, o)) = ((no_cause, q), (p, o))
    ordered_swap (x ∷ xs) (p, o) = (all_swap _ xs a b ys p, ordered_swap xs o)

    sound_swap : (t : Entry s → Bool) (xs : List (Entry s)) → Ordered s (xs ++ a ∷ b ∷ ys) → Sound s t (xs ++ a ∷ b ∷ ys) → Sound s t (xs ++ b ∷ a ∷ ys)
    sound_swap t [] ((later, _), _) (p, (q, h)) = (λ is. (later ∙ sym (and_right (t a) _ apart), q is), (λ is. (p is).1, h))
    sound_swap t (x ∷ xs) (_, o) (p, h) = (λ is. all_swap _ xs a b ys (p is), sound_swap t xs o h)

    pub good_swap : {start w : World s} {t : Entry s → Bool} (xs : List (Entry s)) → Good s start t (xs ++ a ∷ b ∷ ys) w → Good s start t (xs ++ b ∷ a ∷ ys) w
    good_swap {start = start} {t = t} xs g = record {
      recorded = recorded_swap start xs g.ordered g.recorded;
      sound = sound_swap t xs g.ordered g.sound;
      ordered = ordered_swap xs g.ordered;
      world = g.world ∙ over_swap start t xs;
    }

module _ (s : Subject) (a b : Entry s) (ys : List (Entry s)) where
  distinct_swap : (xs : List (Entry s)) → Distinct s (xs ++ a ∷ b ∷ ys) → Distinct s (xs ++ b ∷ a ∷ ys)
  distinct_swap [] ((n, p), (q, d)) = ((λ h. n (sym h), q), (p, d))
  distinct_swap (x ∷ xs) (p, d) = (all_swap _ xs a b ys p, distinct_swap xs d)

  pub named_swap : {next : ℕ} (xs : List (Entry s)) → Named s next (xs ++ a ∷ b ∷ ys) → Named s next (xs ++ b ∷ a ∷ ys)
  named_swap xs h = record { distinct = distinct_swap xs h.distinct; below = all_swap _ xs a b ys h.below; own = all_swap _ xs a b ys h.own }

-- with their records
module _ (s : Subject) (l : Laws s) (start : World s) (t : Entry s → Bool) (a b : Row s) (ys : List (Row s)) (apart : meets s a.0.foot b.0.foot ≡ false) where
  cells_swap : {V : Type 0} (o p : Option V) (ta tb : Bool) (z : V) → (o ≡ None) ⊎ (p ≡ None)
      → cond ta (unwrap_or o (cond tb (unwrap_or p z) z)) (cond tb (unwrap_or p z) z) ≡ cond tb (unwrap_or p (cond ta (unwrap_or o z) z)) (cond ta (unwrap_or o z) z)
  cells_swap None p true tb z h = refl
  cells_swap None p false tb z h = refl
  cells_swap (Some x) None ta true z h = refl
  cells_swap (Some x) None ta false z h = refl
  cells_swap (Some x) (Some y) ta tb z (inl q) = cc
  cells_swap (Some x) (Some y) ta tb z (inr q) = cc

  one_left : (k : s.Key) → (leaves_of s k a.0 ≡ None) ⊎ (leaves_of s k b.0 ≡ None)
  one_left k = ⊎_elim (λ h. inl (ap (option_map (λ v. (Some v, Some (name_of s a.0)))) h)) (λ h. inr (ap (option_map (λ v. (Some v, Some (name_of s b.0)))) h)) (one_writes s l a.0.foot b.0.foot k apart _ _ refl refl)

  left_swap : (k : s.Key) (xs : List (Row s)) → left_by s start t (entries_of (xs ++ a ∷ b ∷ ys)) k ≡ left_by s start t (entries_of (xs ++ b ∷ a ∷ ys)) k
  left_swap k [] = cells_swap (leaves_of s k a.0) (leaves_of s k b.0) (t a.0) (t b.0) _ (one_left k)
  left_swap k (p ∷ xs) = ap (λ z. cond (t p.0) (unwrap_or (leaves_of s k p.0) z) z) (left_swap k xs)

  other_none : (o p : Option (Seen s)) (y : Seen s) → (o ≡ None) ⊎ (p ≡ None) → o ≡ Some y → p ≡ None
  other_none o p y (inl h) is = cc
  other_none o p y (inr h) is = h

  kept_swap : (xs : List (Row s)) → Kept s start t (xs ++ a ∷ b ∷ ys) → Kept s start t (xs ++ b ∷ a ∷ ys)
  kept_swap [] (p, (q, h)) = (
    λ k y is. q k y is ∙ ap (λ z. cond (t b.0) z y) (sym (cond_same (t a.0) (leaves_of s k a.0) _ (other_none _ _ y (⊎_elim inr inl (one_left k)) is))),
    (λ k y is. p k y is ∙ ap (λ z. cond (t a.0) z y) (cond_same (t b.0) (leaves_of s k b.0) _ (other_none _ _ y (one_left k) is)), h),
  )
  kept_swap (r ∷ xs) (p, h) = (λ k y is. p k y is ∙ ap (λ z. cond (t r.0) z y) (left_swap k xs), kept_swap xs h)

  pub follows_swap : (xs : List (Row s)) (w : State s) → Follows s start t (xs ++ a ∷ b ∷ ys) w → Follows s start t (xs ++ b ∷ a ∷ ys) w
  follows_swap xs w f = record {
    seen = λ k. f.seen k ∙ left_swap k xs;
    records = kept_swap xs f.records;
    fit = all_swap _ xs a b ys f.fit;
  }
