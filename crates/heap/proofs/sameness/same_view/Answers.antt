use Rattle.std.proofs.Common.{ap}
use Rattle.values.specs.View.{val_of}
use Rattle.heap.specs.View.{view_of}
use Rattle.heap.proofs.Alike.{resolved_told}
use Rattle.heap.proofs.sameness.same_view.Goals as goal

pub returns-in-Resolved-Resolved : goal.returns-in-Resolved-Resolved
returns-in-Resolved-Resolved c = resolved_told (val_of c.in-Resolved-Resolved.x) (val_of c.in-Resolved-Resolved.y) c.same.result (ap view_of c.in-Resolved-Resolved.is-0) (ap view_of c.in-Resolved-Resolved.is-1) c.same.ensures
