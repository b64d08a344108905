-- What the journal tells: a line for each entry, the oldest first, with the names of all its causes.
use Rattle.std.specs.Prelude.{ℕ, Bool, List, [], map, filter, reverse, Option, None, unwrap_or}
use Rattle.std.specs.List.{list_any}
use Rattle.history.specs.Subject.{Subject, found}
use Rattle.history.specs.Journal.{Entry, is_in, caused}
use Rattle.history.specs.Chains.{wrote, chain, last_of}
use Rattle.ids.specs.CellKeys.{same_key}
use Rattle.ids.specs.declared.cells.CellKey.{CellKey}
use Rattle.world_cells.specs.Events.{Noted}
use Rattle.journal.specs.Items.{Item}

-- events with their notes and the cells that they touched and wrote, and without what they wrote there
abbrev pub plain : Subject
plain = record { Key = CellKey; Content = Unit {0}; Event = Noted; same = same_key; name = λ e. e.name.0; Does = λ e w f. ⊥ }

-- an entry as the theory of undo has it, and the seat that it was made from
pub record Line : Type 0 where
  pub seat : ℕ
  pub entry : Entry plain

-- the entries of lines, the newest first
abbrev pub entries_in : List Line → List (Entry plain)
entries_in lines = reverse (map (λ l. l.entry) lines)

-- an item as an entry of which no cause is known
abbrev pub bare : Item → Entry plain
bare i = record { event = i.event; foot = record { reads = map (λ p. p.0) i.lasts; writes = map (λ r. (r.0, tt)) i.kept }; causes = []; live = i.live; lasts = i.lasts }

-- the last writer of a cell, if it is one of these
abbrev pub last_among : List (CellKey × Option ℕ) → CellKey → Option ℕ
last_among lasts k = unwrap_or (found plain lasts k) None

-- the last writer of a cell when an item was made
abbrev pub writer_of : Item → CellKey → Option ℕ
writer_of i k = last_of plain (bare i) k

-- an item wrote a cell
abbrev pub wrote_cell : Item → CellKey → Bool
wrote_cell i k = wrote plain k (bare i)

-- the names, the newest first, that are reached from a last writer of a cell: its own, that of the last writer of the cell before it, and so on
abbrev pub reached : List Item → CellKey → Option ℕ → List ℕ
reached items k writer = chain plain k writer (reverse (map bare items))

-- the second item is reached from a cell that the first one touched
abbrev pub is_cause : List Item → Item → Item → Bool
is_cause items i a = list_any (λ p. is_in (reached items p.0 p.1) a.event.name.0) i.lasts

-- the names of the causes of an item, the oldest first
abbrev pub causes_in : List Item → Item → List ℕ
causes_in items i = map (λ a. a.event.name.0) (filter (is_cause items i) items)

abbrev pub line_of : List Item → Item → Line
line_of items i = record { seat = i.seat; entry = record (bare i) { causes = causes_in items i } }

abbrev pub lines_of : List Item → List Line
lines_of items = map (line_of items) items

-- a line with its causes named in the order of these lines
abbrev pub in_order : List Line → Line → Line
in_order lines l = record l { entry = record (l.entry) { causes = map (λ m. m.entry.event.name.0) (filter (λ m. caused plain l.entry m.entry) lines) } }
