use Rattle.std.proofs.Common.{◌≡◌, List, length}
use Rattle.code.specs.Frames.{Frame, fits_methods}
use Rattle.code.specs.View.{methods_of_codes}
use Rattle.values.specs.View.{vals_of}
use Rattle.values.specs.declared.value.Value.{Value}
use Rattle.eval_rules.specs.Rules.{method_in}
use Rattle.eval_objects.proofs.objects.scan_methods.Given as goal

-- the methods that are left have what all have, and fit where all do
abbrev pub invariant-loop-method : goal.invariant-loop-method
invariant-loop-method l =
    ((vs : List Value) → length vs ≡ l.count → method_in (methods_of_codes l.rest) l.verb (vals_of vs) ≡ method_in (methods_of_codes l.fn.methods) l.verb (vals_of vs))
    × ((frame : Frame) → fits_methods frame l.fn.methods → fits_methods frame l.rest)

abbrev pub decreases-loop-method : goal.decreases-loop-method
decreases-loop-method l = length l.rest
