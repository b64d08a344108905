use Rattle.std.proofs.Common.{◌≡◌, ◌++◌, map, take}
use Rattle.ids.specs.declared.cells.CellKey.TheVariants as key
use Rattle.event.proofs.effects.touch_messages.Given as goal

abbrev pub invariant-loop-name : goal.invariant-loop-name
invariant-loop-name l = l.touched.items ≡ l.initial.touched.items ++ map key.Msg (take l.name-index l.names)
