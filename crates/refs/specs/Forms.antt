-- What the program keeps of settled forms.
use Rattle.std.specs.Prelude.{Option, Some, None, List}
use Rattle.values.specs.Data.{Val, Vals}
use Rattle.values.specs.View.{val_of, vals_of}
use Rattle.values.specs.declared.value.Value.{Value}
use Rattle.refs.specs.declared.settling.Form.{Form}
use Rattle.refs.specs.declared.settling.Form.TheVariants.{Itself, Other}

-- the settled form of a value
abbrev pub formed : Val → Form → Val
formed v Itself = v
formed v (Other w) = val_of w

-- the settled items of a list: its own, where there is no row of them
abbrev pub gathered : Vals → Option (List Value) → Vals
gathered own None = own
gathered own (Some row) = vals_of row
