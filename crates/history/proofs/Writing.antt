-- What footprints write and touch, one cell at a time.
use Rattle.std.proofs.Common.{◌≡◌, Bool, true, false, cond, ◌||◌, List, [], ◌∷◌, ◌++◌, Option, Some, None, map, unwrap_or, option_map, is_some, ◌⊎◌, inl, inr, ◌∙◌, refl, sym, ap, subst}
use Rattle.std.specs.List.{list_any}
use Rattle.std.proofs.lemmas.Bool.{or_left, or_right, false≢true, both_ways}
use Rattle.history.specs.Subject.{Subject, Laws, World, Foot, written, after, found, new, touches, meets, Alike}

pub any_append_right : {A : Type 0} (test : A → Bool) (xs ys : List A) → list_any test ys ≡ true → list_any test (xs ++ ys) ≡ true
any_append_right test [] ys h = h
any_append_right test (x ∷ xs) ys h = or_right (test x) _ (any_append_right test xs ys h)

module _ (s : Subject) where
  -- what is in a cell after these writes
  at_written : (ps : List (s.Key × s.Content)) (w : World s) (k : s.Key) → written s ps w k ≡ unwrap_or (option_map (λ v. Some v) (found s ps k)) (w k)
  at_written [] w k = refl
  at_written (p ∷ ps) w k = first (s.same p.0 k) (at_written ps w k)
    where
      first : (b : Bool) → written s ps w k ≡ unwrap_or (option_map (λ v. Some v) (found s ps k)) (w k)
          → cond b (Some p.1) (written s ps w k) ≡ unwrap_or (option_map (λ v. Some v) (cond b (Some p.1) (found s ps k))) (w k)
      first true ih = refl
      first false ih = ih

  pub at_after : (f : Foot s) (w : World s) (k : s.Key) → after s f w k ≡ unwrap_or (option_map (λ v. Some v) (new s f k)) (w k)
  at_after f w k = at_written f.writes w k

  -- footprints that write the same make the same world
  pub after_alike : (f g : Foot s) (w : World s) → Alike s f g → after s f w ≡ after s g w
  after_alike f g w h = λ i k. (at_after f w k ∙ ap (λ o. unwrap_or (option_map (λ v. Some v) o) (w k)) (h.write k) ∙ sym (at_after g w k)) i

module _ (s : Subject) (l : Laws s) where
  -- sameness goes both ways
  pub same_turned : (a b : s.Key) → s.same a b ≡ true → s.same b a ≡ true
  same_turned a b h = subst (λ c. s.same c a ≡ true) (l.same_exact a b h) (l.same_self a)

  -- what is written to a cell that passes a test is among the writes that pass it
  pub any_written : {X : Type 0} (test : s.Key → Bool) (ps : List (s.Key × X)) (k : s.Key) (v : X) → found s ps k ≡ Some v → test k ≡ true → list_any (λ p. test p.0) ps ≡ true
  any_written test [] k v h is = cc
  any_written test (p ∷ ps) k v h is = first (s.same p.0 k) refl h (λ q. any_written test ps k v q is)
    where
      first : (b : Bool) → s.same p.0 k ≡ b → cond b (Some p.1) (found s ps k) ≡ Some v → (found s ps k ≡ Some v → list_any (λ r. test r.0) ps ≡ true) → (test p.0 || list_any (λ r. test r.0) ps) ≡ true
      first true e g ih = or_left _ _ (subst (λ q. test q ≡ true) (sym (l.same_exact p.0 k e)) is)
      first false e g ih = or_right _ _ (ih g)

  pub meets_new : (f g : Foot s) (k : s.Key) (v : s.Content) → new s f k ≡ Some v → touches s g k ≡ true → meets s f g ≡ true
  meets_new f g k v h is = any_written (touches s g) f.writes k v h is

  any_of_keys : {X : Type 0} (test : s.Key → Bool) (ps : List (s.Key × X)) → list_any (λ p. test p.0) ps ≡ true → list_any test (map (λ p. p.0) ps) ≡ true
  any_of_keys test [] h = h
  any_of_keys test (p ∷ ps) h = elim (test p.0) as (λ b. (b || list_any (λ q. test q.0) ps) ≡ true → (b || list_any test (map (λ q. q.0) ps)) ≡ true) [
    | true ↦ λ q. refl
    | false ↦ λ q. any_of_keys test ps q
  ] h

  -- what is written is touched
  pub new_touches : (f : Foot s) (k : s.Key) (v : s.Content) → new s f k ≡ Some v → touches s f k ≡ true
  new_touches f k v h = any_append_right (s.same k) f.reads _ (any_of_keys (s.same k) f.writes (any_written (s.same k) f.writes k v h (l.same_self k)))

  pub wrote_touches : (f : Foot s) (k : s.Key) (o : Option s.Content) → new s f k ≡ o → is_some o ≡ true → touches s f k ≡ true
  wrote_touches f k None e h = absurd (false≢true h)
  wrote_touches f k (Some v) e h = new_touches f k v e

  -- footprints that do not meet write no cell both
  pub one_writes : (f g : Foot s) (k : s.Key) → meets s f g ≡ false → (o p : Option s.Content) → new s f k ≡ o → new s g k ≡ p → (o ≡ None) ⊎ (p ≡ None)
  one_writes f g k apart None p oe pe = inl refl
  one_writes f g k apart (Some x) None oe pe = inr refl
  one_writes f g k apart (Some x) (Some y) oe pe = absurd (both_ways _ apart (meets_new f g k x oe (new_touches g k y pe)))
