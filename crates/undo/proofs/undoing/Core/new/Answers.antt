use Rattle.undo.specs.OpenView.{opens}
use Rattle.undo.proofs.Linked.{placed_begin, followed_begin, inherited_begin}
use Rattle.undo.proofs.undoing.Core.new.Goals as goal

pub invariant_of-result : goal.invariant_of-result
invariant_of-result c = record {
  placed = placed_begin c.new-4.result c.new-2.result.items (opens c.new-3.result) c.new-2.ensures.items c.new-3.ensures c.new-4.ensures;
  followed = followed_begin c.new-5.result (opens c.new-3.result) c.new-3.ensures;
  inherited = inherited_begin c.new-6.result c.new-2.result.items (opens c.new-3.result) c.new-2.ensures.items c.new-3.ensures;
}
