use Rattle.std.proofs.Common.{sym, ap₂, subst}
use Rattle.journal.specs.SettledView.{items_in}
use Rattle.undo.specs.OpenView.{opens}
use Rattle.undo.proofs.Linked.{Followed, placed_settled, inherited_settled}
use Rattle.undo.proofs.undoing.Core.journal.Goals as goal

pub invariant_of-result : goal.invariant_of-result
invariant_of-result c =
    let b = c.args.self.now in
    record {
      placed = placed_settled b.places b.settled.items c.deref.result.now (opens b.entries) c.as_slice.result.now (ap₂ items_in c.deref.ensures.value c.as_slice.ensures) b.placed;
      followed = subst (Followed b.followers) (sym c.as_slice.ensures) b.followed;
      inherited = inherited_settled b.heirs b.settled.items c.deref.result.now (opens b.entries) c.as_slice.result.now (ap₂ items_in c.deref.ensures.value c.as_slice.ensures) b.inherited;
    }
