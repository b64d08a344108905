use Rattle.std.proofs.Common.{◌≡◌, ◌↔◌, IsTrue, Some, ap, subst}
use Rattle.heap.specs.State.{State, pending, view_cell, viewed}
use Rattle.world.proofs.step.is_open.Goals as goal

pub returns-in-Some : goal.returns-in-Some
returns-in-Some c = subst (λ (s : State). IsTrue c.is_open_in.result ↔ (s (view_cell c.args.promise) ≡ Some (viewed pending))) c.in-Some.ensures.there c.is_open_in.ensures

pub returns-in-None : goal.returns-in-None
returns-in-None c =
    let none = ap (λ (s : State). s (view_cell c.args.promise)) c.in-None.ensures.absent in
    (λ t. absurd (cc t), λ e. absurd (cc (none, e)))
