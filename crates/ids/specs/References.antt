-- When two references are the same.
use Rattle.std.specs.Prelude.{◌≡◌, Bool, true, false}
use Rattle.std.specs.Ordering.{is_eq}
use Rattle.ids.specs.Cells.{promise_cmp, object_cmp, ejector_cmp}
use Rattle.ids.specs.declared.reference.Reference.{Reference}
use Rattle.ids.specs.declared.reference.Reference.TheVariants as reference

abbrev pub same_reference : Reference → Reference → Bool
same_reference (reference.Object i) (reference.Object j) = is_eq (object_cmp i j)
same_reference (reference.Ejector i) (reference.Ejector j) = is_eq (ejector_cmp i j)
same_reference (reference.Promise p) (reference.Promise q) = is_eq (promise_cmp p q)
same_reference _ _ = false

-- references that are the same are one reference, and each is the same as itself
abbrev pub SameReferenceIsEqual : Type 0
SameReferenceIsEqual = (r t : Reference) → (same_reference r t ≡ true → r ≡ t) × (same_reference r r ≡ true)
