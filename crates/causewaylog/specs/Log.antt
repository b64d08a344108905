-- The log of a vat.
use Rattle.std.specs.Prelude.{ℕ, ◌+◌, List, [], ◌∷◌, ◌++◌, length, Option, Some, None}
use Rattle.kernele.specs.Tree.{Name}
use Rattle.world_cells.specs.Events.{Noted}
use Rattle.serde_json.specs.Data.{Data, array}
use Rattle.serde_json.specs.View.{items_of}
use Rattle.serde_json.specs.Written.{compact_text}
use Rattle.causewaylog.specs.Facts.{Fact, facts_of, anchor, record_at}
use Rattle.causewaylog.specs.Turns.{Turn, vat_called, turns_of}
use Rattle.ids.specs.declared.names.VatNo.{VatNo}

-- facts of the turn of a number as records, where so many stand before them
abbrev pub records_from : Name → ℕ → ℕ → List Fact → List Data
records_from x n i [] = []
records_from x n i (f ∷ fs) = record_at (anchor x n i) f ∷ records_from x n (i + 1) fs

-- the records of turns, the first of which has this number
abbrev pub records_of : Name → ℕ → List Turn → List Data
records_of x n [] = []
records_of x n (t ∷ ts) = records_from x n 0 (facts_of t) ++ records_of x (n + 1) ts

-- the turns of the vat of a name, if there is one
abbrev pub turns_called : Option VatNo → List Noted → List Turn
turns_called None es = []
turns_called (Some v) es = turns_of v es

-- the records of the turns of a vat, if there is one, among later events: turns are counted among the earlier ones too
abbrev pub records_behind : Name → Option VatNo → List Noted → List Noted → List Data
records_behind x v earlier es = records_of x (length (turns_called v earlier) + 1) (turns_called v es)

-- the log of the loop of a name, from the events that are settled and those behind them: a list of records in JSON with no spaces
abbrev pub log_text : Name → List Noted → List Noted → List ℕ
log_text x settled es = compact_text (array (items_of (records_behind x (vat_called x (settled ++ es)) settled es)))
