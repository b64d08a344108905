-- Keys that are the same are equal.
use Rattle.std.proofs.Common.{◌≡◌, ℕ, List, [], ◌∷◌, true, refl, sym, ap, ◌∙◌}
use Rattle.std.specs.Cmp.{nat_cmp_is}
use Rattle.std.specs.Ordering.{nat_cmp, ordering_then, is_eq}
use Rattle.std.specs.Cmp.Lexicographic.{slice_cmp}
use Rattle.std.specs.declared.cmp.Ordering.{Ordering}
use Rattle.std.specs.declared.cmp.Ordering.TheVariants.{Less, Equal, Greater}
use Rattle.std.proofs.lemmas.Map.Lookups.{CmpEqualImpliesEq, exact_pairs, exact_unsigned}
use Rattle.ids.specs.declared.names.ObjId.{ObjId}
use Rattle.ids.specs.declared.names.EjId.{EjId}
use Rattle.ids.specs.declared.names.SlotId.{SlotId}
use Rattle.ids.specs.declared.names.MsgId.{MsgId}
use Rattle.ids.specs.declared.names.PromId.{PromId}
use Rattle.ids.specs.Cells.{vat_cmp, message_cmp, promise_cmp, slot_cmp, object_cmp, ejector_cmp}

pub equal : (o : Ordering) → is_eq o ≡ true → o ≡ Equal
equal Less h = cc
equal Equal h = refl
equal Greater h = cc

pub exact_vats : CmpEqualImpliesEq vat_cmp
exact_vats v w h = let e : v.0.0 ≡ w.0.0 = exact_unsigned v.0.0 w.0.0 h in ap (λ (n : ℕ). record { 0 = record { 0 = n } }) e

pub exact_messages : CmpEqualImpliesEq message_cmp
exact_messages m n h = ap (λ (p : ℕ × ℕ). record { event = record { 0 = p.0 }; index = p.1 }) (exact_pairs nat_cmp nat_cmp exact_unsigned exact_unsigned (m.event.0, m.index) (n.event.0, n.index) h)

-- a number and a vat, by numbers alone
pair_cmp : ℕ × ℕ → ℕ × ℕ → Ordering
pair_cmp a b = ordering_then (nat_cmp a.0 b.0) (nat_cmp a.1 b.1)

pub exact_promises : CmpEqualImpliesEq promise_cmp
unfolding pair_cmp
exact_promises p q h =
    ap (λ (x : ℕ × (ℕ × ℕ)). record { event = record { 0 = x.0 }; index = x.1.0; home = record { 0 = record { 0 = x.1.1 } } })
    (exact_pairs nat_cmp pair_cmp exact_unsigned (exact_pairs nat_cmp nat_cmp exact_unsigned exact_unsigned) (p.event.0, (p.index, p.home.0.0)) (q.event.0, (q.index, q.home.0.0)) h)

pub exact_slots : CmpEqualImpliesEq slot_cmp
unfolding pair_cmp
exact_slots s t h =
    ap (λ (x : ℕ × (ℕ × ℕ)). record { event = record { 0 = x.0 }; index = x.1.0; vat = record { 0 = record { 0 = x.1.1 } } })
    (exact_pairs nat_cmp pair_cmp exact_unsigned (exact_pairs nat_cmp nat_cmp exact_unsigned exact_unsigned) (s.event.0, (s.index, s.vat.0.0)) (t.event.0, (t.index, t.vat.0.0)) h)

pub exact_objects : CmpEqualImpliesEq object_cmp
unfolding pair_cmp
exact_objects o p h =
    ap (λ (x : ℕ × (ℕ × ℕ)). record { event = record { 0 = x.0 }; index = x.1.0; vat = record { 0 = record { 0 = x.1.1 } } })
    (exact_pairs nat_cmp pair_cmp exact_unsigned (exact_pairs nat_cmp nat_cmp exact_unsigned exact_unsigned) (o.event.0, (o.index, o.vat.0.0)) (p.event.0, (p.index, p.vat.0.0)) h)

pub exact_ejectors : CmpEqualImpliesEq ejector_cmp
unfolding pair_cmp
exact_ejectors j k h =
    ap (λ (x : ℕ × (ℕ × ℕ)). record { event = record { 0 = x.0 }; index = x.1.0; vat = record { 0 = record { 0 = x.1.1 } } })
    (exact_pairs nat_cmp pair_cmp exact_unsigned (exact_pairs nat_cmp nat_cmp exact_unsigned exact_unsigned) (j.event.0, (j.index, j.vat.0.0)) (k.event.0, (k.index, k.vat.0.0)) h)

pub equal_self : (n : ℕ) → nat_cmp n n ≡ Equal
equal_self n = sym (nat_cmp_is n n Equal refl)

bytes_self : (xs : List ℕ) → slice_cmp nat_cmp xs xs ≡ Equal
bytes_self [] = refl
bytes_self (x ∷ xs) = ap (λ o. ordering_then o (slice_cmp nat_cmp xs xs)) (equal_self x) ∙ bytes_self xs

-- a slot, a message and a promise have the names of themselves
pub slot_self : (s : SlotId) → is_eq (slot_cmp s s) ≡ true
slot_self s = ap is_eq (ap (λ c. ordering_then c (ordering_then (nat_cmp s.index s.index) (vat_cmp s.vat s.vat))) (equal_self s.event.0) ∙ ap (λ c. ordering_then c (vat_cmp s.vat s.vat)) (equal_self s.index) ∙ equal_self s.vat.0.0)

pub message_self : (m : MsgId) → is_eq (message_cmp m m) ≡ true
message_self m = ap is_eq (ap (λ o. ordering_then o (nat_cmp m.index m.index)) (equal_self m.event.0) ∙ equal_self m.index)

pub promise_self : (p : PromId) → is_eq (promise_cmp p p) ≡ true
promise_self p = ap is_eq (ap (λ o. ordering_then o (ordering_then (nat_cmp p.index p.index) (vat_cmp p.home p.home))) (equal_self p.event.0) ∙ ap (λ o. ordering_then o (vat_cmp p.home p.home)) (equal_self p.index) ∙ equal_self p.home.0.0)

-- an object has the name of itself
pub object_self : (o : ObjId) → is_eq (object_cmp o o) ≡ true
object_self o = ap is_eq (ap (λ c. ordering_then c (ordering_then (nat_cmp o.index o.index) (vat_cmp o.vat o.vat))) (equal_self o.event.0) ∙ ap (λ c. ordering_then c (vat_cmp o.vat o.vat)) (equal_self o.index) ∙ equal_self o.vat.0.0)

-- objects of one name are one
pub object_equal : (o p : ObjId) → is_eq (object_cmp o p) ≡ true → o ≡ p
object_equal o p h = exact_objects o p (equal (object_cmp o p) h)

-- an ejector has the name of itself
pub ejector_self : (j : EjId) → is_eq (ejector_cmp j j) ≡ true
ejector_self j = ap is_eq (ap (λ c. ordering_then c (ordering_then (nat_cmp j.index j.index) (vat_cmp j.vat j.vat))) (equal_self j.event.0) ∙ ap (λ c. ordering_then c (vat_cmp j.vat j.vat)) (equal_self j.index) ∙ equal_self j.vat.0.0)

-- ejectors of one name are one
pub ejector_equal : (j k : EjId) → is_eq (ejector_cmp j k) ≡ true → j ≡ k
ejector_equal j k h = exact_ejectors j k (equal (ejector_cmp j k) h)
