-- What the program has of the cells that an entry touched.
use Rattle.std.specs.Prelude.{◌≡◌, ℕ, Bool, false, List, map, Option, Some, None, slice_get}
use Rattle.std.specs.BTreeMap.{is_at}
use Rattle.std.specs.List.{list_any}
use Rattle.std.specs.Map.{lookup}
use Rattle.std.specs.Option.{option_map}
use Rattle.history.specs.Records.{Record}
use Rattle.ids.specs.CellKeys.{same_key}
use Rattle.ids.specs.declared.cells.CellKey.{CellKey}
use Rattle.world_cells.specs.Theory.{cells}
use Rattle.journal.specs.Items.{number_of}
use Rattle.stepper_questions.specs.Cells.{cell_cmp}
use Rattle.stepper_questions.specs.Writers.{Told}
use Rattle.stepper_questions.specs.declared.cell.ToldCell.{ToldCell}
use Rattle.stepper_questions.specs.declared.touched.Seen.{Seen}

-- a cell is among these
abbrev pub has_cell : List ToldCell → ToldCell → Bool
has_cell cs c = list_any (is_at (cell_cmp c)) cs

-- a record has the cell
abbrev pub kept_has : Record cells → CellKey → Bool
kept_has kept k = list_any (λ r. same_key r.0 k) kept

abbrev pub told_of : Seen → Told
told_of s = record { writer = number_of s.writer; written = s.is_written }

-- what entries of a map tell of a cell
abbrev pub seen_as : List (ToldCell × Seen) → ToldCell → Option Told
seen_as es c = option_map told_of (lookup (is_at (cell_cmp c)) es)

-- the entries of a map, as they are told
abbrev pub told_entries : List (ToldCell × Seen) → List (ToldCell × Told)
told_entries es = map (λ e. (e.0, told_of e.1)) es

-- what is told of a cell is what one of these last writers of it says, and whether a record has the cell; or none of these is of the cell
abbrev pub SeenIn : List (CellKey × Option ℕ) → Record cells → CellKey → Option Told → Type 0
SeenIn lasts kept k None = list_any (λ p. same_key k p.0) lasts ≡ false
SeenIn lasts kept k (Some t) =
    (i : ℕ) × (p : CellKey × Option ℕ) × (slice_get lasts i ≡ Some p) × (p.0 ≡ k) × (t ≡ record { writer = p.1; written = kept_has kept k })
