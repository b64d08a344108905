-- Turns keep the order.
use Rattle.std.proofs.Common.{◌≡◌, true, List, [], ◌∷◌, ◌++◌, map, inl, inr, refl, sym, ap, subst}
use Rattle.std.specs.List.{AllByRecursion}
use Rattle.eorder.specs.Places.{Carrier, Place, carried, sent_after}
use Rattle.eorder.specs.Acts.{sent, Entry, did, turned, Start, fences, Behind, given, kept, sends, waits, Covered}
use Rattle.eorder.specs.Order.{Among, Done, awaited, Allows, Allowed, Settled, Ahead, sent_behind, walked, ahead_kept, Before, first, before, Precedes}
use Rattle.eorder.specs.Theorems.{EntriesKeepOrder, RowsKeepOrder}
use Rattle.eorder.proofs.Covering.{covers}
use Rattle.ids.specs.declared.names.MsgId.{MsgId}
use Rattle.ids.specs.declared.reference.Reference.{Reference}

-- what holds of each holds of one of them
all_among : {A : Type 0} (P : A → Type 0) (x : A) (xs : List A) → AllByRecursion P xs → Among x xs → P x
all_among P x [] h i = absurd i
all_among P x (y ∷ ys) h (inl e) = subst P e h.0
all_among P x (y ∷ ys) h (inr i) = all_among P x ys h.1 i

among_map : {A B : Type 0} (f : A → B) (x : A) (xs : List A) → Among x xs → Among (f x) (map f xs)
among_map f x [] i = i
among_map f x (y ∷ ys) (inl e) = inl (ap f e)
among_map f x (y ∷ ys) (inr i) = inr (among_map f x ys i)

module _ (s : Start) where
  pub precedes_done : (es : List Entry) (a b : MsgId) → Precedes s es a b → Done s es a
  precedes_done [] a b h = h.0
  precedes_done (did v x ∷ es) a b h = precedes_done es a b h
  precedes_done (turned m w ∷ es) a b (inl h) = inr h.1
  precedes_done (turned m w ∷ es) a b (inr h) = inr (precedes_done es a b h)

  -- a message that is done is not sent again
  behind_done : {e : Entry} {es : List Entry} {a b : MsgId} → Behind s (e ∷ es) (sent_after b) a → Allows s e es → Done s es b → Behind s es (sent_after b) a
  behind_done (kept h) f d = h
  behind_done (waits h) f d = absurd (f d)

  done_kept : (e : Entry) (es : List Entry) (b : MsgId) → Done s es b → Done s (e ∷ es) b
  done_kept (did v x) es b d = d
  done_kept (turned m w) es b d = inr d

  -- a message that has had no turn had no walk
  unwalked : {es : List Entry} {a b : MsgId} → Ahead s es a b → (Done s es b → ⊥) → Behind s es (sent_after b) a
  unwalked (sent_behind h) f = h
  unwalked (walked i h) f = absurd (f (inl refl))
  unwalked (ahead_kept {e = e} {es = es} {b = b} h) f = kept (unwalked h (λ d. f (done_kept e es b d)))

  -- what is E-before a message that has its turn now was behind a place that it waits for
  way : {es : List Entry} {m : MsgId} {w : List (Carrier × Reference)} {a b : MsgId} → Ahead s (turned m w ∷ es) a b → (Done s es b → ⊥) → (k : Place) × Among k (awaited b w) × Behind s es k a
  way {b = b} (sent_behind (kept h)) f = (sent_after b, inl refl, h)
  way (walked {walk = w} {c = c} {r = r} i h) f = (carried c r, inr (among_map (λ p. carried p.0 p.1) (c, r) w i), h)
  way {b = b} (ahead_kept h) f = (sent_after b, inl refl, unwalked h f)

  -- what is behind a place whose names are done is done
  reached : (es : List Entry) (k : Place) (a : MsgId) → ((b : MsgId) → Ahead s es a b → Done s es b → Precedes s es a b) → Covered s es (fences s es k) a → ((b : MsgId) → fences s es k b ≡ true → Done s es b) → Done s es a
  reached es k a ih (inl q) f = f a q
  reached es k a ih (inr (b, h, q)) f = precedes_done es a b (ih b (sent_behind h) (f b q))

  turns_after : (es : List Entry) (w : List (Carrier × Reference)) (a b : MsgId) → ((c : MsgId) → Ahead s es a c → Done s es c → Precedes s es a c) → Allows s (turned b w) es → ((k : Place) × Among k (awaited b w) × Behind s es k a) → Done s es a
  turns_after es w a b ih p (k, i, h) = reached es k a ih (covers s h) (all_among _ k (awaited b w) p.1 i)

  together : (es : List Entry) (a b c : MsgId) → Allowed s es → Precedes s es a b → Precedes s es b c → Precedes s es a c
  together [] a b c p h g = (h.0, g.1)
  together (did v x ∷ es) a b c p h g = together es a b c p.1 h g
  together (turned m w ∷ es) a b c p (inl h) (inl g) = absurd (p.0.0 (subst (Done s es) (sym h.0) g.1))
  together (turned m w ∷ es) a b c p (inr h) (inl g) = inl (g.0, precedes_done es a b h)
  together (turned m w ∷ es) a b c p (inl h) (inr g) = absurd (p.0.0 (subst (Done s es) (sym h.0) (precedes_done es b c g)))
  together (turned m w ∷ es) a b c p (inr h) (inr g) = inr (together es a b c p.1 h g)

  precedes : (es : List Entry) (a b : MsgId) → Settled s → Allowed s es → Ahead s es a b → Done s es b → Precedes s es a b
  precedes [] a b z p (sent_behind (given q)) d = (z a b d q, d)
  precedes (did v x ∷ es) a b z p (sent_behind h) d = precedes es a b z p.1 (sent_behind (behind_done h p.0 d)) d
  precedes (did v x ∷ es) a b z p (ahead_kept h) d = precedes es a b z p.1 h d
  precedes (turned m w ∷ es) a b z p h (inl e) =
      let p' = subst (λ c. Allows s (turned c w) es) e p.0 in
      inl (e, turns_after es w a b (λ c. precedes es a c z p.1) p' (way h p'.0))
  precedes (turned m w ∷ es) a b z p (sent_behind (kept h)) (inr d) = inr (precedes es a b z p.1 (sent_behind h) d)
  precedes (turned m w ∷ es) a b z p (walked i h) (inr d) = absurd (p.0.0 d)
  precedes (turned m w ∷ es) a b z p (ahead_kept h) (inr d) = inr (precedes es a b z p.1 h d)

  pub keeps : (es : List Entry) {a b : MsgId} → Before s es a b → Settled s → Allowed s es → Done s es b → Precedes s es a b
  keeps es (first {a = a} {b = b} h) z p d = precedes es a b z p h d
  keeps es (before {a = a} {b = b} {c = c} h g) z p d =
      let r = keeps es g z p d in
      together es a b c p (precedes es a b z p h (precedes_done es b c r)) r

  -- what was behind stays behind
  kept_over : (xs : List Entry) {es : List Entry} {k : Place} {m : MsgId} → Behind s es k m → Behind s (xs ++ es) k m
  kept_over [] h = h
  kept_over (x ∷ xs) h = kept (kept_over xs h)

pub entries_keep : EntriesKeepOrder
entries_keep s es a b z p h d = keeps s es h z p d

pub rows_keep : RowsKeepOrder
rows_keep s xs ys zs v t a b z p d = precedes s (xs ++ did v (sent b t) ∷ (ys ++ did v (sent a t) ∷ zs)) a b z p (sent_behind (kept_over s xs (waits (kept_over s ys sends)))) d
