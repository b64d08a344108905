-- The items of a list that stands in a list weigh less than all items there.
use Rattle.std.specs.Prelude.{◌≤◌, List, [], ◌∷◌}
use Rattle.std.proofs.Common.{arith}
use denote.Param.Weighed.{most}
use Rattle.values.specs.Limits.{weight, weights}
use Rattle.values.specs.View.{val_of, vals_of}
use Rattle.values.specs.declared.value.Value.{Value}
use Rattle.values.specs.declared.value.Value.TheVariants as code
use Rattle.values.specs.declared.value.Items.TheDeep.{deep-Value}

deep_le-weight : (v : Value) → deep-Value v ≤ weight (val_of v)
deep_le-weight code.Null = omega arith
deep_le-weight (code.Bool b) = omega arith
deep_le-weight (code.Int z) = omega arith
deep_le-weight (code.Text s) = omega arith
deep_le-weight (code.List items) = omega arith
deep_le-weight (code.Object o) = omega arith
deep_le-weight (code.Ejector j) = omega arith
deep_le-weight (code.Promise p) = omega arith
deep_le-weight (code.Broken s) = omega arith

pub most_le-weights : (vs : List Value) → most deep-Value vs ≤ weights (vals_of vs)
most_le-weights [] = omega arith
most_le-weights (v ∷ vs) = omega (arith, deep_le-weight v, most_le-weights vs)
