use Rattle.std.proofs.Common.{sym, ap, subst, ◌∙◌}
use Rattle.std.specs.List.{insert}
use Rattle.eorder.specs.Fences.{Rises}
use Rattle.eorder.proofs.FenceSets.{rises-with_name}
use Rattle.eorder.proofs.fence.Fence.insert.Goals as goal

pub invariant_of-self : goal.invariant_of-self
invariant_of-self c =
    let old = subst Rises c.self.view_is c.self.invariant in
    let new = c.in_ok-insert.ensures.ok ∙ ap (λ l. insert l c.in-Err.place c.args.message) c.self.view_is in
    subst Rises (c.in-Err.ensures.1 ∙ sym new) (rises-with_name c.args.message c.args.self.now old)
