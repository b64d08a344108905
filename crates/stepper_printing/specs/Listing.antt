-- The journal and a cone as texts.
use Rattle.std.specs.Prelude.{ℕ, zero, suc, ◌+◌, List, [], ◌∷◌, ◌++◌, map, drop, Bool, true, false, cond, Option, Some, None, codes}
use Rattle.std.specs.Fmt.{decimal}
use Rattle.std.specs.Ordering.{is_eq}
use Rattle.ids.specs.Cells.{vat_cmp}
use Rattle.ids.specs.Names.{event_text, message_text, promise_text}
use Rattle.ids.specs.declared.names.EventName.{EventName}
use Rattle.ids.specs.declared.names.PromId.{PromId}
use Rattle.ids.specs.declared.names.VatNo.{VatNo}
use Rattle.kernele.specs.Tree.{Name}
use Rattle.world_cells.specs.Events.{Act, birth, ask, arrive, forward, learn, turn, Event, event_in}
use Rattle.journal.specs.Lines.{Line}
use Rattle.causality.specs.Selections.{name_of}

-- the event of a birth names the vat that is born
abbrev pub born_by : VatNo → EventName → Act → Option Name → Option Name
born_by v e (birth x earlier script) other = cond (is_eq (vat_cmp (record { 0 = e }) v)) (Some x) other
born_by v e a other = other

abbrev pub born_as : VatNo → Event → Option Name → Option Name
born_as v e other = born_by v e.name e.act other

-- the name with which a vat was born, also by a birth that is undone; before these lines it was this
abbrev pub born_among : List Line → VatNo → Option Name → Option Name
born_among [] v known = known
born_among (l ∷ ls) v known = born_among ls v (born_as v (event_in l.entry.event) known)

abbrev pub born : List Line → VatNo → Option Name
born lines v = born_among lines v None

-- learn NAME PROM
abbrev pub learn_text : Option Name → PromId → List ℕ
learn_text (Some x) p = codes "learn " ++ (x ++ (codes " " ++ promise_text p))
learn_text None p = []

-- birth NAME, ask NAME, arrive M, forward M, learn NAME P, turn M
abbrev pub act_text : (VatNo → Option Name) → Act → List ℕ
act_text names (birth x earlier script) = codes "birth " ++ x
act_text names (ask x program) = codes "ask " ++ x
act_text names (arrive m) = codes "arrive " ++ message_text m
act_text names (forward m) = codes "forward " ++ message_text m
act_text names (learn v p) = learn_text (names v) p
act_text names (turn v m budget) = codes "turn " ++ message_text m

abbrev pub mark_text : Bool → List ℕ
mark_text true = codes "live"
mark_text false = codes "undone"

-- the names of events, a space before each
abbrev pub names_text : List EventName → List ℕ
names_text [] = []
names_text (e ∷ es) = codes " " ++ (event_text e ++ names_text es)

-- the events of these numbers
abbrev pub events_of : List ℕ → List EventName
events_of ns = map (λ n. record { 0 = n }) ns

-- POSITION EVENT live|undone KIND ARGS causes E..
abbrev pub entry_line : (VatNo → Option Name) → ℕ → Line → List ℕ
entry_line names position l =
    decimal position ++ (codes " " ++ (event_text (name_of l) ++ (codes " " ++ (mark_text l.entry.live ++ (codes " " ++ (act_text names l.entry.event.act ++ (codes " causes" ++ (names_text (events_of l.entry.causes) ++ (10 ∷ [])))))))))

abbrev pub entry_lines : (VatNo → Option Name) → ℕ → List Line → List ℕ
entry_lines names position [] = []
entry_lines names position (l ∷ ls) = entry_line names position l ++ entry_lines names (position + 1) ls

-- base POSITION, if some entries are settled
abbrev pub base_text : ℕ → List ℕ
base_text zero = []
base_text (suc n) = codes "base " ++ (decimal (suc n) ++ (10 ∷ []))

-- how many entries are settled, and the others in order, with their positions, which are counted from 1
abbrev pub journal_text : ℕ → List Line → List ℕ
journal_text settled lines = base_text settled ++ entry_lines (born lines) (settled + 1) (drop settled lines)

-- cone E..
abbrev pub cone_text : List EventName → List ℕ
cone_text names = codes "cone" ++ (names_text names ++ (10 ∷ []))
