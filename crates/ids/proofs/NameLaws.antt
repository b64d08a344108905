-- Names that are the same are equal, so those that differ in a part are told apart.
use Rattle.std.proofs.Common.{◌≡◌, ℕ, Bool, true, false, refl, sym, ap, ◌∙◌}
use Rattle.std.specs.Ordering.{is_eq}
use Rattle.std.specs.declared.cmp.Ordering.{Ordering}
use Rattle.std.proofs.lemmas.Map.Lookups.{CmpEqualImpliesEq}
use Rattle.ids.proofs.Keys.{equal, equal_self, exact_vats, exact_messages, exact_promises, exact_slots, exact_objects, exact_ejectors, message_self, promise_self, slot_self, object_self, ejector_self}
use Rattle.ids.specs.declared.names.VatNo.{VatNo}
use Rattle.ids.specs.Cells.{vat_cmp, message_cmp, promise_cmp, slot_cmp, object_cmp, ejector_cmp}
use Rattle.ids.specs.NameLaws.{TellsApart, EventsTellApart, NumbersTellApart, IsExact, SameNamesAreOne}

-- a test that leads to equality answers no where that fails
told_apart : {A : Type 0} (b : Bool) (a c : A) → (b ≡ true → a ≡ c) → (a ≡ c → ⊥) → b ≡ false
told_apart true a c h g = absurd (g (h refl))
told_apart false a c h g = refl

apart : {A : Type 0} (cmp : A → A → Ordering) (number : A → ℕ) → CmpEqualImpliesEq cmp → TellsApart cmp number
apart cmp number exact a b h = told_apart (is_eq (cmp a b)) a b (λ e. exact a b (equal (cmp a b) e)) (λ e. h (ap number e))

pub events_tell_apart : EventsTellApart
events_tell_apart = (
  apart vat_cmp (λ v. v.0.0) exact_vats,
  apart message_cmp (λ m. m.event.0) exact_messages,
  apart promise_cmp (λ p. p.event.0) exact_promises,
  apart slot_cmp (λ s. s.event.0) exact_slots,
  apart object_cmp (λ o. o.event.0) exact_objects,
  apart ejector_cmp (λ j. j.event.0) exact_ejectors,
)

pub numbers_tell_apart : NumbersTellApart
numbers_tell_apart = (
  apart message_cmp (λ m. m.index) exact_messages,
  apart promise_cmp (λ p. p.index) exact_promises,
  apart slot_cmp (λ s. s.index) exact_slots,
  apart object_cmp (λ o. o.index) exact_objects,
  apart ejector_cmp (λ j. j.index) exact_ejectors,
)

one : {A : Type 0} (cmp : A → A → Ordering) → CmpEqualImpliesEq cmp → ((a : A) → is_eq (cmp a a) ≡ true) → IsExact cmp
one cmp exact self a b = (λ h. exact a b (equal (cmp a b) h), λ e. ap (λ c. is_eq (cmp a c)) (sym e) ∙ self a)

vat_self : (v : VatNo) → is_eq (vat_cmp v v) ≡ true
vat_self v = ap is_eq (equal_self v.0.0)

pub same_names_are_one : SameNamesAreOne
same_names_are_one = (
  one vat_cmp exact_vats vat_self,
  one message_cmp exact_messages message_self,
  one promise_cmp exact_promises promise_self,
  one slot_cmp exact_slots slot_self,
  one object_cmp exact_objects object_self,
  one ejector_cmp exact_ejectors ejector_self,
)
