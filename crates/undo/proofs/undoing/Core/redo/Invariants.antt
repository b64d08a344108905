use Rattle.std.proofs.Common.{◌≡◌, ℕ, true, take, drop}
use Rattle.history.specs.Walks.{walk}
use Rattle.world_cells.specs.View.{RisesBy}
use Rattle.undo.specs.CoreView.{items_of, settled_of, shown, ready_of, swaps_of}
use Rattle.journal.specs.Items.{swap_item, keys_at, records_at}
use Rattle.undo.proofs.undoing.Core.redo.Given as goal

abbrev pub invariant-loop-position : goal.invariant-loop-position
invariant-loop-position l = record {
  settled : settled_of l.self ≡ settled_of l.fn.self;
  ready : ready_of l.self ≡ ready_of l.fn.self;
  keys : (p : ℕ) → keys_at (items_of l.self) p ≡ keys_at (items_of l.fn.self) p;
  rest : walk (swap_item true) (drop l.position-index l.positions) (shown l.self) ≡ walk (swap_item true) l.positions (shown l.fn.self);
  counted : RisesBy (records_at (items_of l.fn.self) (take l.position-index l.positions)) (swaps_of l.fn.self) (swaps_of l.self);
}
