use Rattle.std.proofs.Common.{ap, ◌∙◌, sym}
use Rattle.values.specs.Data.{list}
use Rattle.values.specs.Limits.{weights, deepest}
use Rattle.values.specs.View.{val_of}
use Rattle.values.proofs.Weighing.{list_left}
use Rattle.values.proofs.limits.weight_left.Goals as goal

pub returns-in_ok-checked_sub-in-List : goal.returns-in_ok-checked_sub-in-List
returns-in_ok-checked_sub-in-List c =
    rw (ap val_of c.in-List.is ∙ ap list (sym c.deref.ensures))
    (list_left c.list_left.result (weights c.deref.result.now) (deepest c.deref.result.now) c.args.weight c.args.depth _ _ c.in_ok-left.ensures.0 c.in_ok-left.ensures.1 c.in_ok-checked_sub-in-List.ensures.0 c.in_ok-checked_sub-in-List.ensures.1 c.list_left.ensures)
