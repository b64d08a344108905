-- Cells as questions tell them.
use Rattle.std.specs.Prelude.{ℕ, List, ◌++◌, codes}
use Rattle.std.specs.declared.cmp.Ordering.{Ordering}
use Rattle.ids.specs.Names.{event_text, message_text, promise_text, slot_text, object_text, reference_text}
use Rattle.ids.specs.declared.cells.CellKey.{CellKey}
use Rattle.ids.specs.declared.cells.CellKey.TheVariants as key
use Rattle.stepper_questions.specs.contracts.cell.ToldCellOrd.TheImpl as cell_order
use Rattle.stepper_questions.specs.declared.cell.ToldCell.{ToldCell}
use Rattle.stepper_questions.specs.declared.cell.ToldCell.TheVariants as cell

-- the key of a cell that is told
abbrev pub key_of : ToldCell → CellKey
key_of (cell.Vat x) = key.Name x
key_of (cell.Noun v x) = key.Top v x
key_of (cell.Slot s) = key.Slot s
key_of (cell.Object i) = key.Object i
key_of (cell.View v p) = key.View v p
key_of (cell.Fence v r) = key.Fence v r
key_of (cell.Message m) = key.Msg m
key_of (cell.Board p) = key.Board p

-- the order in which cells are told: that in which their kinds stand above, and within a kind by vat, then by name
abbrev pub cell_cmp : ToldCell → ToldCell → Ordering
cell_cmp = (cell_order.ghosts).cmp

-- vat NAME, noun V NAME, slot S, object O, view V P, fence V R, msg M, board P
abbrev pub cell_text : ToldCell → List ℕ
cell_text (cell.Vat x) = codes "vat " ++ x
cell_text (cell.Noun v x) = codes "noun " ++ (event_text v.0 ++ (codes " " ++ x))
cell_text (cell.Slot s) = codes "slot " ++ slot_text s
cell_text (cell.Object i) = codes "object " ++ object_text i
cell_text (cell.View v p) = codes "view " ++ (event_text v.0 ++ (codes " " ++ promise_text p))
cell_text (cell.Fence v r) = codes "fence " ++ (event_text v.0 ++ (codes " " ++ reference_text r))
cell_text (cell.Message m) = codes "msg " ++ message_text m
cell_text (cell.Board p) = codes "board " ++ promise_text p
