-- The least of names, from the front on.
use Rattle.std.proofs.Common.{Option, Some, None}
use Rattle.ids.specs.declared.names.EventName.{EventName}
use Rattle.causality.specs.Selections.{lesser}

-- the lesser of two, where there are two
abbrev pub least_with : Option EventName → Option EventName → Option EventName
least_with None o = o
least_with (Some a) o = lesser a o
