use Rattle.code.proofs.Alike.{pattern_told, trees_told, blocks_told, methods_told}
use Rattle.code.proofs.theorems.what_is_alike_is_equal.Goals as goal

pub returns : goal.returns
returns c = record { patterns = pattern_told; trees = trees_told; blocks = blocks_told; methods = methods_told }
