use Rattle.std.proofs.Common.{◌≡◌, true, take}
use Rattle.ids.specs.declared.cells.CellKey.{CellKey}
use Rattle.undo.specs.CoreView.{items_of, state_of, ready_of, swaps_of}
use Rattle.journal.specs.Items.{all_ready}
use Rattle.undo.proofs.undoing.Core.prepare.Given as goal

abbrev pub invariant-loop-position : goal.invariant-loop-position
invariant-loop-position l = record {
  settled : l.self.settled ≡ l.fn.self.settled;
  counted : swaps_of l.self ≡ swaps_of l.fn.self;
  entries : l.self.entries ≡ l.fn.self.entries;
  state : state_of l.self ≡ state_of l.fn.self;
  ready : (k : CellKey) → ready_of l.fn.self k ≡ true → ready_of l.self k ≡ true;
  made : all_ready (ready_of l.self) (items_of l.fn.self) (take l.position-index l.positions) ≡ true;
}
