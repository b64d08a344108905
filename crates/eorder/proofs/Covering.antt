-- A fence is a frontier.
use Rattle.std.proofs.Common.{◌≡◌, Bool, true, List, [], ◌∷◌, inl, inr, ⊎_elim, subst, ◌∙◌}
use Rattle.ids.proofs.Keys.{message_self}
use Rattle.ids.specs.declared.names.VatNo.{VatNo}
use Rattle.ids.specs.declared.names.MsgId.{MsgId}
use Rattle.ids.specs.declared.reference.Reference.{Reference}
use Rattle.eorder.specs.Places.{Place, fence_at, carried, sent_after, same_message}
use Rattle.eorder.specs.Acts.{sent, left, came, joined, Entry, did, turned, Start, add, fences, Behind, given, kept, sends, waits, leaves, comes, joins, Covered}
use Rattle.eorder.specs.Theorems.{FencesCover, FencesHaveNoMore}
use Rattle.eorder.proofs.Places.{message_equal, one_or_other, put_here, put_elsewhere, add_here, add_keeps, put_has, add_has}

module _ (s : Start) where
  -- what is covered at k is covered at p where the fence of k has come to p
  lift : (e : Entry) (es : List Entry) (k p : Place) (m : MsgId) → ((b : MsgId) → fences s es k b ≡ true → fences s (e ∷ es) p b ≡ true) → Covered s es (fences s es k) m → Covered s (e ∷ es) (fences s (e ∷ es) p) m
  lift e es k p m f (inl q) = inl (f m q)
  lift e es k p m f (inr (b, h, q)) = inr (b, kept h, f b q)

  -- what is behind t when b is sent on it
  sent_covered : (v : VatNo) (b : MsgId) (t : Reference) (es : List Entry) (k : Place) (m : MsgId) → fence_at v t ≡ k → Behind s es k m → Covered s (did v (sent b t) ∷ es) (fences s (did v (sent b t) ∷ es) k) m
  sent_covered v b t es k m e =
      subst (λ p. Behind s es p m → Covered s (did v (sent b t) ∷ es) (fences s (did v (sent b t) ∷ es) p) m) e
      (λ h. inr (b, waits h, put_here (fence_at v t) (same_message b) (add (sent_after b) (fences s es (fence_at v t)) (fences s es)) b ∙ message_self b))

  -- what was covered is covered after one more entry
  kept_covered : (e : Entry) (es : List Entry) (k : Place) (m : MsgId) → Behind s es k m → Covered s es (fences s es k) m → Covered s (e ∷ es) (fences s (e ∷ es) k) m
  kept_covered (did v (sent b t)) es k m h c =
      ⊎_elim
      (λ e. sent_covered v b t es k m e h)
      (λ e. lift (did v (sent b t)) es k k m
      (λ a q. put_elsewhere (fence_at v t) k (same_message b) (add (sent_after b) (fences s es (fence_at v t)) (fences s es)) a e ∙ add_keeps (sent_after b) k (fences s es (fence_at v t)) (fences s es) a q)
      c)
      (one_or_other (fence_at v t) k)
  kept_covered (did v (left r d)) es k m h c = lift (did v (left r d)) es k k m (λ b q. add_keeps (carried d r) k (fences s es (fence_at v r)) (fences s es) b q) c
  kept_covered (did v (came r d t)) es k m h c = lift (did v (came r d t)) es k k m (λ b q. add_keeps (fence_at v t) k (fences s es (carried d r)) (fences s es) b q) c
  kept_covered (did v (joined p t)) es k m h c = lift (did v (joined p t)) es k k m (λ b q. add_keeps (fence_at v t) k (fences s es (fence_at v p)) (fences s es) b q) c
  kept_covered (turned b walk) es k m h c = lift (turned b walk) es k k m (λ a q. q) c

  pub covers : {es : List Entry} {k : Place} {m : MsgId} → Behind s es k m → Covered s es (fences s es k) m
  covers (given q) = inl q
  covers (kept {e = e} {es = es} {k = k} {m = m} h) = kept_covered e es k m h (covers h)
  covers (sends {es = es} {v = v} {t = t} {m = m}) = inl (put_here (fence_at v t) (same_message m) (add (sent_after m) (fences s es (fence_at v t)) (fences s es)) m ∙ message_self m)
  covers (waits {es = es} {v = v} {t = t} {m = m} {b = b} h) = lift (did v (sent b t)) es (fence_at v t) (sent_after b) m (λ a q. add_here (sent_after b) (fences s es (fence_at v t)) (fences s es) a q) (covers h)
  covers (leaves {es = es} {v = v} {r = r} {c = c} {m = m} h) = lift (did v (left r c)) es (fence_at v r) (carried c r) m (λ a q. add_here (carried c r) (fences s es (fence_at v r)) (fences s es) a q) (covers h)
  covers (comes {es = es} {v = v} {r = r} {t = t} {c = c} {m = m} h) = lift (did v (came r c t)) es (carried c r) (fence_at v t) m (λ a q. add_here (fence_at v t) (fences s es (carried c r)) (fences s es) a q) (covers h)
  covers (joins {es = es} {v = v} {p = p} {t = t} {m = m} h) = lift (did v (joined p t)) es (fence_at v p) (fence_at v t) m (λ a q. add_here (fence_at v t) (fences s es (fence_at v p)) (fences s es) a q) (covers h)

  -- what is added to the place k is behind it
  added : (e : Entry) (es : List Entry) (k p : Place) (f : MsgId → Bool) (m : MsgId) → (f m ≡ true → Behind s (e ∷ es) k m) → (fences s es p m ≡ true → Behind s es p m) → add k f (fences s es) p m ≡ true → Behind s (e ∷ es) p m
  added e es k p f m g ih q = ⊎_elim (λ h. kept (ih h)) (λ h. subst (λ r. Behind s (e ∷ es) r m) h.0 (g h.1)) (add_has k p f (fences s es) m q)

  pub only_behind : (es : List Entry) (k : Place) (m : MsgId) → fences s es k m ≡ true → Behind s es k m
  only_behind [] k m q = given q
  only_behind (did v (sent b t) ∷ es) k m q =
      ⊎_elim
      (λ h. subst (λ p. Behind s (did v (sent b t) ∷ es) p m) h.0 (subst (λ c. Behind s (did v (sent b t) ∷ es) (fence_at v t) c) (message_equal b m h.1) sends))
      (λ h. added (did v (sent b t)) es (sent_after b) k (fences s es (fence_at v t)) m (λ g. waits (only_behind es (fence_at v t) m g)) (only_behind es k m) h)
      (put_has (fence_at v t) k (same_message b) (add (sent_after b) (fences s es (fence_at v t)) (fences s es)) m q)
  only_behind (did v (left r c) ∷ es) k m q = added (did v (left r c)) es (carried c r) k (fences s es (fence_at v r)) m (λ g. leaves (only_behind es (fence_at v r) m g)) (only_behind es k m) q
  only_behind (did v (came r c t) ∷ es) k m q = added (did v (came r c t)) es (fence_at v t) k (fences s es (carried c r)) m (λ g. comes (only_behind es (carried c r) m g)) (only_behind es k m) q
  only_behind (did v (joined p t) ∷ es) k m q = added (did v (joined p t)) es (fence_at v t) k (fences s es (fence_at v p)) m (λ g. joins (only_behind es (fence_at v p) m g)) (only_behind es k m) q
  only_behind (turned b walk ∷ es) k m q = kept (only_behind es k m q)

pub fences_cover : FencesCover
fences_cover s es k m h = covers s h

pub fences_have_no_more : FencesHaveNoMore
fences_have_no_more = only_behind
