-- The cells of which entries have records.
use Rattle.std.specs.Prelude.{ℕ, List, [], ◌∷◌, ◌++◌, unwrap_or}
use Rattle.ids.specs.declared.cells.CellKey.{CellKey}
use Rattle.journal.specs.Items.{Item, keys_at}

-- those of the items at these positions, one after another
abbrev pub written_at : List Item → List ℕ → List CellKey
written_at items [] = []
written_at items (p ∷ ps) = unwrap_or (keys_at items p) [] ++ written_at items ps
