use Rattle.std.proofs.Common.{◌≡◌, map, take}
use Rattle.ids.specs.declared.cells.CellKey.TheVariants as key
use Rattle.event.proofs.effects.name_keys.Given as goal

abbrev pub invariant-loop-name : goal.invariant-loop-name
invariant-loop-name l = l.keys.items ≡ map key.Name (take l.name-index l.names)
