-- The test of places tells them apart, and what is put into a place or added to it stands there.
use Rattle.std.proofs.Common.{◌≡◌, Bool, true, false, cond, ◌&&◌, ◌||◌, ◌⊎◌, inl, inr, ⊎_elim, refl, ap, ap₂, ◌∙◌}
use Rattle.ids.proofs.Keys.{equal, equal_self, exact_vats, exact_messages, exact_promises, message_self, promise_self}
use Rattle.ids.proofs.References.{reference_equal, reference_self}
use Rattle.ids.specs.Cells.{vat_cmp, message_cmp, promise_cmp}
use Rattle.ids.specs.References.{same_reference}
use Rattle.ids.specs.declared.names.VatNo.{VatNo}
use Rattle.ids.specs.declared.names.MsgId.{MsgId}
use Rattle.std.specs.Ordering.{is_eq}
use Rattle.eorder.specs.Places.{Carrier, argument, published, Place, fence_at, carried, sent_after, same_vat, same_message, same_carrier, same_place}
use Rattle.eorder.specs.Acts.{Fences, put, add}

pub both_true : (x y : Bool) → (x && y) ≡ true → (x ≡ true) × (y ≡ true)
both_true true y h = (refl, h)
both_true false y h = cc

pub either_true : (x y : Bool) → (x || y) ≡ true → (x ≡ true) ⊎ (y ≡ true)
either_true true y h = inl refl
either_true false y h = inr h

or_yes : (x : Bool) → (x || true) ≡ true
or_yes true = refl
or_yes false = refl

pub vat_equal : (v w : VatNo) → same_vat v w ≡ true → v ≡ w
vat_equal v w h = exact_vats v w (equal (vat_cmp v w) h)

pub message_equal : (m n : MsgId) → same_message m n ≡ true → m ≡ n
message_equal m n h = exact_messages m n (equal (message_cmp m n) h)

carrier_equal : (c d : Carrier) → same_carrier c d ≡ true → c ≡ d
carrier_equal (argument m) (argument n) h = ap argument (message_equal m n h)
carrier_equal (published p) (published q) h = ap published (exact_promises p q (equal (promise_cmp p q) h))
carrier_equal (argument m) (published q) h = cc
carrier_equal (published p) (argument n) h = cc

carrier_self : (c : Carrier) → same_carrier c c ≡ true
carrier_self (argument m) = message_self m
carrier_self (published p) = promise_self p

pub place_self : (k : Place) → same_place k k ≡ true
place_self (fence_at v r) = ap₂ (λ a b. a && b) (ap is_eq (equal_self v.0.0)) (reference_self r)
place_self (carried c r) = ap₂ (λ a b. a && b) (carrier_self c) (reference_self r)
place_self (sent_after m) = message_self m

pub place_equal : (k p : Place) → same_place k p ≡ true → k ≡ p
place_equal (fence_at v r) (fence_at w t) h = let b = both_true (same_vat v w) (same_reference r t) h in ap₂ fence_at (vat_equal v w b.0) (reference_equal r t b.1)
place_equal (carried c r) (carried d t) h = let b = both_true (same_carrier c d) (same_reference r t) h in ap₂ carried (carrier_equal c d b.0) (reference_equal r t b.1)
place_equal (sent_after m) (sent_after n) h = ap sent_after (message_equal m n h)
place_equal (fence_at v r) (carried d t) h = cc
place_equal (fence_at v r) (sent_after n) h = cc
place_equal (carried c r) (fence_at w t) h = cc
place_equal (carried c r) (sent_after n) h = cc
place_equal (sent_after m) (fence_at w t) h = cc
place_equal (sent_after m) (carried d t) h = cc

-- a place is this one, or it is not touched
pub one_or_other : (k p : Place) → (k ≡ p) ⊎ (same_place k p ≡ false)
one_or_other k p = go (same_place k p) refl
  where
    go : (b : Bool) → same_place k p ≡ b → (k ≡ p) ⊎ (same_place k p ≡ false)
    go true e = inl (place_equal k p e)
    go false e = inr e

pub put_here : (k : Place) (f : MsgId → Bool) (s : Fences) (m : MsgId) → put k f s k m ≡ f m
put_here k f s m = ap (λ b. cond b (f m) (s k m)) (place_self k)

pub put_elsewhere : (k p : Place) (f : MsgId → Bool) (s : Fences) (m : MsgId) → same_place k p ≡ false → put k f s p m ≡ s p m
put_elsewhere k p f s m e = ap (λ b. cond b (f m) (s p m)) e

pub add_here : (k : Place) (f : MsgId → Bool) (s : Fences) (m : MsgId) → f m ≡ true → add k f s k m ≡ true
add_here k f s m q = ap₂ (λ a b. s k m || (a && b)) (place_self k) q ∙ or_yes (s k m)

pub add_keeps : (k p : Place) (f : MsgId → Bool) (s : Fences) (m : MsgId) → s p m ≡ true → add k f s p m ≡ true
add_keeps k p f s m q = ap (λ a. a || (same_place k p && f m)) q

-- what a fence has after it was put or added to
pub put_has : (k p : Place) (f : MsgId → Bool) (s : Fences) (m : MsgId) → put k f s p m ≡ true → ((k ≡ p) × (f m ≡ true)) ⊎ (s p m ≡ true)
put_has k p f s m = go (same_place k p) refl
  where
    go : (b : Bool) → same_place k p ≡ b → cond b (f m) (s p m) ≡ true → ((k ≡ p) × (f m ≡ true)) ⊎ (s p m ≡ true)
    go true e q = inl (place_equal k p e, q)
    go false e q = inr q

pub add_has : (k p : Place) (f : MsgId → Bool) (s : Fences) (m : MsgId) → add k f s p m ≡ true → (s p m ≡ true) ⊎ ((k ≡ p) × (f m ≡ true))
add_has k p f s m q = ⊎_elim inl (λ h. let b = both_true (same_place k p) (f m) h in inr (place_equal k p b.0, b.1)) (either_true (s p m) (same_place k p && f m) q)
