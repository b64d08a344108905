-- References that are the same are one reference.
use Rattle.std.proofs.Common.{◌≡◌, true, ap}
use Rattle.ids.proofs.Keys.{equal, exact_promises, object_equal, object_self, ejector_equal, ejector_self, promise_self}
use Rattle.ids.specs.Cells.{promise_cmp}
use Rattle.ids.specs.References.{same_reference, SameReferenceIsEqual}
use Rattle.ids.specs.declared.reference.Reference.{Reference}
use Rattle.ids.specs.declared.reference.Reference.TheVariants as reference

pub reference_equal : (r t : Reference) → same_reference r t ≡ true → r ≡ t
reference_equal (reference.Object i) (reference.Object j) h = ap reference.Object (object_equal i j h)
reference_equal (reference.Ejector i) (reference.Ejector j) h = ap reference.Ejector (ejector_equal i j h)
reference_equal (reference.Promise p) (reference.Promise q) h = ap reference.Promise (exact_promises p q (equal (promise_cmp p q) h))
reference_equal _ _ h = cc

pub reference_self : (r : Reference) → same_reference r r ≡ true
reference_self (reference.Object i) = object_self i
reference_self (reference.Ejector i) = ejector_self i
reference_self (reference.Promise p) = promise_self p

pub same_reference_is_equal : SameReferenceIsEqual
same_reference_is_equal r t = (reference_equal r t, reference_self r)
