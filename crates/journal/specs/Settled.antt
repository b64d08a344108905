-- What is kept of an entry that can no longer be taken back.
use Rattle.std.specs.Prelude.{◌≡◌, ℕ, List, map, Option, Some, None}
use Rattle.history.specs.Records.{Record}
use Rattle.ids.specs.declared.names.VatNo.{VatNo}
use Rattle.ids.specs.declared.cells.CellKey.{CellKey}
use Rattle.kernele.specs.Tree.{Name}
use Rattle.world_cells.specs.Events.{Act, birth, turn}
use Rattle.world_cells.specs.Theory.{cells}
use Rattle.journal.specs.Items.{Item, lasts_of}
use Rattle.journal.specs.Lines.{last_among}
use Rattle.journal.specs.declared.entry.Touched.{Touched}

-- the name of the vat that an act gives birth to
abbrev pub newborn : Act → Option Name
newborn (birth x earlier script) = Some x
newborn a = None

-- the vat of which an act is a turn
abbrev pub whose_turn : Act → Option VatNo
whose_turn (turn v m budget) = Some v
whose_turn a = None

-- the cells of records, each with the last writer that it has among those that were touched
abbrev pub written_over : List (CellKey × Option ℕ) → Record cells → List (CellKey × Option ℕ)
written_over lasts kept = map (λ r. (r.0, last_among lasts r.0)) kept

-- the cells that an item wrote, with their last writers before it
abbrev pub written_by : Item → List (CellKey × Option ℕ)
written_by i = written_over i.lasts i.kept

-- these are the cells that an item wrote, the name of the vat that it gave birth to, and the vat whose turn it was
pub record Keeps (written : List Touched) (born : Option Name) (turned : Option VatNo) (i : Item) : Type 0 where
  pub cells : lasts_of written ≡ written_by i
  pub birth : born ≡ newborn i.event.act
  pub turn : turned ≡ whose_turn i.event.act
