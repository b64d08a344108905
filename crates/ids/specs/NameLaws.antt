-- Names are told apart by the event that made what they name, and by its number.
use Rattle.std.specs.Prelude.{◌≡◌, ◌≢◌, ◌↔◌, ℕ, true, false}
use Rattle.std.specs.Ordering.{is_eq}
use Rattle.std.specs.declared.cmp.Ordering.{Ordering}
use Rattle.ids.specs.Cells.{vat_cmp, message_cmp, promise_cmp, slot_cmp, object_cmp, ejector_cmp}

-- two that differ in this number have different names
abbrev pub TellsApart : {A : Type 0} → (A → A → Ordering) → (A → ℕ) → Type 0
TellsApart {A = A} cmp number = (a b : A) → number a ≢ number b → is_eq (cmp a b) ≡ false

-- what different events made has different names
abbrev pub EventsTellApart : Type 0
EventsTellApart =
    TellsApart vat_cmp (λ v. v.0.0)
    × TellsApart message_cmp (λ m. m.event.0)
    × TellsApart promise_cmp (λ p. p.event.0)
    × TellsApart slot_cmp (λ s. s.event.0)
    × TellsApart object_cmp (λ o. o.event.0)
    × TellsApart ejector_cmp (λ j. j.event.0)

-- and so has, of each kind, what one event made, by its number
abbrev pub NumbersTellApart : Type 0
NumbersTellApart =
    TellsApart message_cmp (λ m. m.index)
    × TellsApart promise_cmp (λ p. p.index)
    × TellsApart slot_cmp (λ s. s.index)
    × TellsApart object_cmp (λ o. o.index)
    × TellsApart ejector_cmp (λ j. j.index)

-- two names are the same exactly where they are equal
abbrev pub IsExact : {A : Type 0} → (A → A → Ordering) → Type 0
IsExact {A = A} cmp = (a b : A) → (is_eq (cmp a b) ≡ true) ↔ (a ≡ b)

abbrev pub SameNamesAreOne : Type 0
SameNamesAreOne = IsExact vat_cmp × IsExact message_cmp × IsExact promise_cmp × IsExact slot_cmp × IsExact object_cmp × IsExact ejector_cmp
