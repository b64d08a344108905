-- Keys that are equal are one key.
use Rattle.std.proofs.Common.{◌≡◌, ℕ, List, Bool, true, ◌&&◌, nat_eq, ap}
use Rattle.std.specs.Cmp.Lexicographic.{pointwise}
use Rattle.std.proofs.lemmas.Bool.{eqb-true, and_parts}
use Rattle.std.proofs.lemmas.Slice.Eq.{bytes_eq-Decides}
use Rattle.ids.specs.declared.names.VatNo.{VatNo}
use Rattle.ids.specs.declared.names.SlotId.{SlotId}
use Rattle.ids.specs.declared.names.ObjId.{ObjId}
use Rattle.ids.specs.declared.names.MsgId.{MsgId}
use Rattle.ids.specs.declared.names.PromId.{PromId}
use Rattle.ids.specs.declared.names.EjId.{EjId}
use Rattle.ids.specs.contracts.reference.ReferencePartialEq.TheImpl as test
use Rattle.ids.specs.declared.reference.Reference.{Reference}
use Rattle.ids.specs.declared.reference.Reference.TheVariants as reference

-- numbers of which each equals its other
abbrev pub same_two : ℕ → ℕ → ℕ → ℕ → Bool
same_two e f i j = nat_eq e f && nat_eq i j

abbrev pub same_three : ℕ → ℕ → ℕ → ℕ → ℕ → ℕ → Bool
same_three e f i j v w = nat_eq e f && (nat_eq i j && nat_eq v w)

two_equal : (e f i j : ℕ) → same_two e f i j ≡ true → (e ≡ f) × (i ≡ j)
two_equal e f i j h = let p = and_parts (nat_eq e f) (nat_eq i j) h in (eqb-true e f p.0, eqb-true i j p.1)

three_equal : (e f i j v w : ℕ) → same_three e f i j v w ≡ true → (e ≡ f) × (i ≡ j) × (v ≡ w)
three_equal e f i j v w h =
    let p = and_parts (nat_eq e f) (nat_eq i j && nat_eq v w) h in
    let q = and_parts (nat_eq i j) (nat_eq v w) p.1 in
    (eqb-true e f p.0, eqb-true i j q.0, eqb-true v w q.1)

pub exact_text : (a b : List ℕ) → pointwise nat_eq a b ≡ true → a ≡ b
exact_text a b h = (bytes_eq-Decides a b).0 h

pub exact_vat : (a b : VatNo) → nat_eq a.0.0 b.0.0 ≡ true → a ≡ b
exact_vat a b h = ap (λ (e : ℕ). record { 0 = record { 0 = e } }) (eqb-true a.0.0 b.0.0 h)

pub exact_message : (a b : MsgId) → same_two a.event.0 b.event.0 a.index b.index ≡ true → a ≡ b
exact_message a b h =
    let q = two_equal a.event.0 b.event.0 a.index b.index h in
    λ k. record { event = record { 0 = q.0 k }; index = q.1 k }

pub exact_slot : (a b : SlotId) → same_three a.event.0 b.event.0 a.index b.index a.vat.0.0 b.vat.0.0 ≡ true → a ≡ b
exact_slot a b h =
    let q = three_equal a.event.0 b.event.0 a.index b.index a.vat.0.0 b.vat.0.0 h in
    λ k. record { event = record { 0 = q.0 k }; index = q.1 k; vat = record { 0 = record { 0 = q.2 k } } }

pub exact_object : (a b : ObjId) → same_three a.event.0 b.event.0 a.index b.index a.vat.0.0 b.vat.0.0 ≡ true → a ≡ b
exact_object a b h =
    let q = three_equal a.event.0 b.event.0 a.index b.index a.vat.0.0 b.vat.0.0 h in
    λ k. record { event = record { 0 = q.0 k }; index = q.1 k; vat = record { 0 = record { 0 = q.2 k } } }

pub exact_promise : (a b : PromId) → same_three a.event.0 b.event.0 a.index b.index a.home.0.0 b.home.0.0 ≡ true → a ≡ b
exact_promise a b h =
    let q = three_equal a.event.0 b.event.0 a.index b.index a.home.0.0 b.home.0.0 h in
    λ k. record { event = record { 0 = q.0 k }; index = q.1 k; home = record { 0 = record { 0 = q.2 k } } }

exact_ejector : (a b : EjId) → same_three a.event.0 b.event.0 a.index b.index a.vat.0.0 b.vat.0.0 ≡ true → a ≡ b
exact_ejector a b h =
    let q = three_equal a.event.0 b.event.0 a.index b.index a.vat.0.0 b.vat.0.0 h in
    λ k. record { event = record { 0 = q.0 k }; index = q.1 k; vat = record { 0 = record { 0 = q.2 k } } }

-- references that the test of the program finds equal
pub exact_reference : (a b : Reference) → (test.ghosts).eq a b ≡ true → a ≡ b
exact_reference (reference.Object i) (reference.Object j) h = ap reference.Object (exact_object i j h)
exact_reference (reference.Ejector i) (reference.Ejector j) h = ap reference.Ejector (exact_ejector i j h)
exact_reference (reference.Promise p) (reference.Promise q) h = ap reference.Promise (exact_promise p q h)
exact_reference _ _ h = cc
