-- What ends are in a vat.
use Rattle.std.specs.Prelude.{Bool, true, false}
use Rattle.std.specs.Ordering.{is_eq}
use Rattle.ids.specs.Cells.{vat_cmp}
use Rattle.ids.specs.declared.names.VatNo.{VatNo}
use Rattle.values.specs.Data.{Val, object, ejector, promise, broken}
use Rattle.refs.specs.declared.kinds.Kind.{Kind}
use Rattle.refs.specs.declared.kinds.Kind.TheVariants as kind

-- an object or an ejector, by whether it is the vat's own
abbrev pub near : Bool → Kind
near true = kind.Near
near false = kind.Far

-- an unresolved promise, by whether its home is the vat
abbrev pub local : Bool → Kind
local true = kind.LocalPromise
local false = kind.RemotePromise

-- an end: data are near everywhere
abbrev pub kind_in : VatNo → Val → Kind
kind_in vat (object o) = near (is_eq (vat_cmp o.vat vat))
kind_in vat (ejector j) = near (is_eq (vat_cmp j.vat vat))
kind_in vat (promise p) = local (is_eq (vat_cmp p.home vat))
kind_in vat (broken problem) = kind.Broken
kind_in vat _ = kind.Near
