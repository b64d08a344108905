-- A line of the journal whose causes are known, and the text of a listing.
use Rattle.std.specs.Prelude.{ℕ, ◌+◌, List, ◌++◌, map, Option}
use Rattle.ids.specs.declared.names.VatNo.{VatNo}
use Rattle.kernele.specs.Tree.{Name}
use Rattle.journal.specs.Items.{Item, item_of}
use Rattle.journal.specs.Lines.{Line, bare}
use Rattle.causality.specs.Selections.{numbers}
use Rattle.stepper_printing.specs.Listing.{entry_line, entry_lines, base_text}
use Rattle.stepper_printing.specs.Show.{name_of}
use Rattle.stepper_printing.specs.declared.rows.Row.{Row}
use Rattle.stepper_printing.specs.declared.rows.ListedEntry.{ListedEntry}
use Rattle.stepper_printing.specs.declared.rows.Listing.{Listing}

-- the line of an item with these causes
abbrev pub line_with : List ℕ → Item → Line
line_with causes i = record { seat = i.seat; entry = record (bare i) { causes = causes } }

-- the line of an entry whose causes were gathered
abbrev pub row_line : Row → Line
row_line r = line_with (numbers r.causes.items) (item_of r.entry.now)

abbrev pub row_text : (VatNo → Option Name) → ℕ → Row → List ℕ
row_text names position r = entry_line names position (row_line r)

abbrev pub rows_text : (VatNo → Option Name) → ℕ → List Row → List ℕ
rows_text names first rows = entry_lines names first (map row_line rows)

-- how many entries are settled, and the others
abbrev pub listing_text : Listing → List ℕ
listing_text l = base_text l.settled ++ rows_text (name_of l.vats.entries) (l.settled + 1) l.rows.items

-- the line of an entry at its position
abbrev pub listed_text : ListedEntry → List ℕ
listed_text l = row_text (name_of l.vats.entries) l.position l.row
