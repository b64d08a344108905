-- Sets of names, and which of them wrote last what an entry touched.
use Rattle.std.specs.Prelude.{◌≡◌, ℕ, Bool, false, List, Option, Some, None}
use Rattle.std.specs.List.{list_any}
use Rattle.history.specs.Journal.{is_in}
use Rattle.ids.specs.declared.names.EventName.{EventName}
use Rattle.journal.specs.Items.{Item}
use Rattle.causality.specs.Selections.{numbers}

-- each name is in both or in neither
abbrev pub SameNames : List EventName → List EventName → Type 0
SameNames es fs = (e : EventName) → is_in (numbers es) e.0 ≡ is_in (numbers fs) e.0

-- a last writer is one of these
abbrev pub is_writer_in : List ℕ → Option ℕ → Bool
is_writer_in ns None = false
is_writer_in ns (Some n) = is_in ns n

-- one of these was the last writer of a cell that an item touched
abbrev pub wrote_last : List ℕ → Item → Bool
wrote_last ns i = list_any (λ p. is_writer_in ns p.1) i.lasts
