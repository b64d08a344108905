use Rattle.std.proofs.Common.{◌≡◌, ◌++◌, map, take}
use Rattle.ids.specs.declared.cells.CellKey.TheVariants as key
use Rattle.event.proofs.effects.touch_board.Given as goal

abbrev pub invariant-loop-promise : goal.invariant-loop-promise
invariant-loop-promise l = l.touched.items ≡ l.initial.touched.items ++ map key.Board (take l.promise-index l.promises)
