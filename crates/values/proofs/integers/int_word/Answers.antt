use Rattle.std.proofs.Common.{w64, codes}
use Rattle.std.proofs.lemmas.Int.{to_z-of_z}
use Rattle.values.proofs.integers.int_word.Goals as goal

pub returns-in-FloorDivide : goal.returns-in-FloorDivide
returns-in-FloorDivide c = rw c.in-FloorDivide.is (rw (to_z-of_z w64 c.args.x c.ranges.x) at (c.int_floor_divide.ensures (codes "floorDivide")))
