-- What is seen of cells: each has a content or none, and its last writer or none.
use Rattle.std.specs.Prelude.{Bool, Option, Some, None, is_some}
use Rattle.indexmap.specs.IndexMap.{get}
use Rattle.ids.specs.declared.names.EventName.{EventName}
use Rattle.cells.specs.declared.store.Cell.{Cell}
use Rattle.cells.specs.declared.store.CellStore.{CellStore}

-- the content and the last writer
abbrev pub Seen : Type 0 → Type 0
Seen V = Option V × Option EventName

abbrev pub seen_of : {V : Type 0} → Option (Cell V) → Seen V
seen_of None = (None, None)
seen_of (Some c) = (c.content, c.writer)

module _ {K V : Type 0} (eq : K → K → Bool) (s : CellStore K V) where
  -- what is seen at a key
  abbrev pub seen : K → Seen V
  seen k = seen_of (get eq s.cells k)

  -- whether the store has room for the key: nothing written there needs memory
  abbrev pub has_room : K → Bool
  has_room k = is_some (get eq s.cells k)
