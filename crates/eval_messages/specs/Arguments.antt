-- The arguments of a verb of data, once the end of what it looks at is taken.
use Rattle.std.specs.Prelude.{Bool, true, false}
use Rattle.cells.specs.Doing.{over, and_then}
use Rattle.kernele.specs.Tree.{Name}
use Rattle.values.specs.Data.{Val, Vals, no_vals, and_val}
use Rattle.values.specs.Wanted.{wants_datum}
use Rattle.sends.specs.Vats.{Vat, ended}

-- the only argument of a verb: its end, where a datum is wanted
abbrev pub wanted_args : Bool → Val → Vat Vals
wanted_args true w = and_then (ended w) (λ u. over (and_val u no_vals))
wanted_args false w = over (and_val w no_vals)

-- a verb with more arguments or none looks at none of them
abbrev pub data_args : Val → Name → Vals → Vat Vals
data_args v verb (and_val w no_vals) = wanted_args (wants_datum v verb) w
data_args v verb vs = over vs
