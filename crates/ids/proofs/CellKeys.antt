-- Keys of cells that are the same are one key.
use Rattle.std.proofs.Common.{◌≡◌, ℕ, Bool, true, false, ◌&&◌, refl, sym, ap, ap₂, ◌∙◌}
use Rattle.std.specs.Str.{bytes_eq}
use Rattle.std.specs.Ordering.{is_eq}
use Rattle.std.proofs.lemmas.Bool.{and_parts, eq-eqb}
use Rattle.std.proofs.lemmas.Slice.Eq.{bytes_eq-Decides}
use Rattle.ids.proofs.Keys.{equal, equal_self, exact_vats, exact_messages, exact_promises, exact_slots, exact_objects, message_self, promise_self, slot_self, object_self}
use Rattle.ids.proofs.References.{reference_equal, reference_self}
use Rattle.ids.specs.Cells.{vat_cmp, message_cmp, promise_cmp, slot_cmp, object_cmp}
use Rattle.ids.specs.References.{same_reference}
use Rattle.ids.specs.declared.names.SlotId.{SlotId}
use Rattle.ids.specs.declared.names.ObjId.{ObjId}
use Rattle.ids.specs.declared.names.MsgId.{MsgId}
use Rattle.ids.specs.declared.names.PromId.{PromId}
use Rattle.ids.specs.KeyLaws.{same_two, same_three, exact_slot, exact_object, exact_message, exact_promise, exact_reference}
use Rattle.ids.specs.contracts.reference.ReferencePartialEq.TheImpl as test
use Rattle.ids.specs.declared.reference.Reference.{Reference}
use Rattle.ids.specs.declared.reference.Reference.TheVariants as reference
use Rattle.ids.specs.CellKeys.{same_key, SameIsEqual}
use Rattle.ids.specs.declared.cells.CellKey.{CellKey}
use Rattle.ids.specs.declared.cells.CellKey.TheVariants as key

two_self : (e i : ℕ) → same_two e e i i ≡ true
two_self e i = ap₂ (λ a b. a && b) (eq-eqb e e refl) (eq-eqb i i refl)

three_self : (e i v : ℕ) → same_three e e i i v v ≡ true
three_self e i v = ap₂ (λ a b. a && b) (eq-eqb e e refl) (two_self i v)

pub same_exact : (k d : CellKey) → same_key k d ≡ true → k ≡ d
same_exact (key.Name x) (key.Name y) h = ap key.Name ((bytes_eq-Decides x y).0 h)
same_exact (key.Slot s) (key.Slot t) h = ap key.Slot (exact_slots s t (equal (slot_cmp s t) h))
same_exact (key.Object i) (key.Object j) h = ap key.Object (exact_objects i j (equal (object_cmp i j) h))
same_exact (key.Top v x) (key.Top w y) h =
    let p = and_parts (is_eq (vat_cmp v w)) (bytes_eq x y) h in
    ap₂ key.Top (exact_vats v w (equal (vat_cmp v w) p.0)) ((bytes_eq-Decides x y).0 p.1)
same_exact (key.View v p) (key.View w q) h =
    let t = and_parts (is_eq (vat_cmp v w)) (is_eq (promise_cmp p q)) h in
    ap₂ key.View (exact_vats v w (equal (vat_cmp v w) t.0)) (exact_promises p q (equal (promise_cmp p q) t.1))
same_exact (key.Fence v r) (key.Fence w t) h =
    let p = and_parts (is_eq (vat_cmp v w)) (same_reference r t) h in
    ap₂ key.Fence (exact_vats v w (equal (vat_cmp v w) p.0)) (reference_equal r t p.1)
same_exact (key.Msg m) (key.Msg n) h = ap key.Msg (exact_messages m n (equal (message_cmp m n) h))
same_exact (key.Board p) (key.Board q) h = ap key.Board (exact_promises p q (equal (promise_cmp p q) h))
same_exact _ _ h = cc

pub same_self : (k : CellKey) → same_key k k ≡ true
same_self (key.Name x) = (bytes_eq-Decides x x).1 refl
same_self (key.Slot s) = slot_self s
same_self (key.Object i) = object_self i
same_self (key.Top v x) = ap₂ (λ a b. is_eq a && b) (equal_self v.0.0) ((bytes_eq-Decides x x).1 refl)
same_self (key.View v p) = ap₂ (λ a b. is_eq a && b) (equal_self v.0.0) (promise_self p)
same_self (key.Fence v r) = ap₂ (λ a b. is_eq a && b) (equal_self v.0.0) (reference_self r)
same_self (key.Msg m) = message_self m
same_self (key.Board p) = promise_self p

pub same_is_equal : SameIsEqual
same_is_equal k d = (same_exact k d, same_self k)

-- two tests that both tell whether two things are equal agree
agree : (p q : Bool) → (p ≡ true → q ≡ true) → (q ≡ true → p ≡ true) → p ≡ q
agree true q h g = sym (h refl)
agree false true h g = g refl
agree false false h g = refl

-- the test of the program and the order of names agree
pub slots_agree : (s t : SlotId) → same_three s.event.0 t.event.0 s.index t.index s.vat.0.0 t.vat.0.0 ≡ is_eq (slot_cmp s t)
slots_agree s t = agree _ _ (λ h. ap (λ x. is_eq (slot_cmp s x)) (sym (exact_slot s t h)) ∙ slot_self s) (λ h. let e : s ≡ t = exact_slots s t (equal (slot_cmp s t) h) in ap (λ x. same_three s.event.0 x.event.0 s.index x.index s.vat.0.0 x.vat.0.0) (sym e) ∙ three_self s.event.0 s.index s.vat.0.0)

pub objects_agree : (s t : ObjId) → same_three s.event.0 t.event.0 s.index t.index s.vat.0.0 t.vat.0.0 ≡ is_eq (object_cmp s t)
objects_agree s t = agree _ _ (λ h. ap (λ x. is_eq (object_cmp s x)) (sym (exact_object s t h)) ∙ object_self s) (λ h. let e : s ≡ t = exact_objects s t (equal (object_cmp s t) h) in ap (λ x. same_three s.event.0 x.event.0 s.index x.index s.vat.0.0 x.vat.0.0) (sym e) ∙ three_self s.event.0 s.index s.vat.0.0)

pub promises_agree : (s t : PromId) → same_three s.event.0 t.event.0 s.index t.index s.home.0.0 t.home.0.0 ≡ is_eq (promise_cmp s t)
promises_agree s t = agree _ _ (λ h. ap (λ x. is_eq (promise_cmp s x)) (sym (exact_promise s t h)) ∙ promise_self s) (λ h. let e : s ≡ t = exact_promises s t (equal (promise_cmp s t) h) in ap (λ x. same_three s.event.0 x.event.0 s.index x.index s.home.0.0 x.home.0.0) (sym e) ∙ three_self s.event.0 s.index s.home.0.0)

pub messages_agree : (s t : MsgId) → same_two s.event.0 t.event.0 s.index t.index ≡ is_eq (message_cmp s t)
messages_agree s t = agree _ _ (λ h. ap (λ x. is_eq (message_cmp s x)) (sym (exact_message s t h)) ∙ message_self s) (λ h. let e : s ≡ t = exact_messages s t (equal (message_cmp s t) h) in ap (λ x. same_two s.event.0 x.event.0 s.index x.index) (sym e) ∙ two_self s.event.0 s.index)

-- and so do those of references
test_self : (r : Reference) → (test.ghosts).eq r r ≡ true
test_self (reference.Promise p) = three_self p.event.0 p.index p.home.0.0
test_self (reference.Object i) = three_self i.event.0 i.index i.vat.0.0
test_self (reference.Ejector j) = three_self j.event.0 j.index j.vat.0.0

pub references_agree : (r t : Reference) → (test.ghosts).eq r t ≡ same_reference r t
references_agree r t = agree _ _ (λ h. ap (λ x. same_reference r x) (sym (exact_reference r t h)) ∙ reference_self r) (λ h. ap (λ x. (test.ghosts).eq r x) (sym (reference_equal r t h)) ∙ test_self r)
