-- Rows of keys and values of which the first few stand in a list, and those behind them in a map.
use Rattle.std.specs.Prelude.{List, [], Option, Some, None, Box}
use Rattle.indexmap.specs.IndexMap.{IndexMap}

abbrev pub rows_behind : {K V S A : Type 0} → Option (Box (IndexMap K V S) A) → List (K × V)
rows_behind None = []
rows_behind (Some b) = b.value.entries
