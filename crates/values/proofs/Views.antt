-- A list's code stands for the list of its items.
use Rattle.std.proofs.Common.{◌≡◌, List, sym, ap, ◌∙◌}
use Rattle.values.specs.Data.{Vals, list}
use Rattle.values.specs.View.{val_of, vals_of}
use Rattle.values.specs.declared.value.Value.TheVariants as code
use Rattle.values.specs.declared.value.Value.{Value}
use Rattle.std.specs.declared.sync.Arc.{Arc}
use Rattle.std.specs.declared.alloc.Global.{Global}

-- a list, where the program has its items as a slice
pub list_is : (v : Value) (items : Arc Vals Global) (held : Vals) (xs : List Value) → v ≡ code.List items → held ≡ items.value → vals_of xs ≡ held → val_of v ≡ list (vals_of xs)
list_is v items held xs p q r = ap val_of p ∙ ap list (sym q) ∙ ap list (sym r)
