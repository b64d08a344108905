use Rattle.std.proofs.Common.{subst}
use Rattle.heap.specs.Found.{Found}
use Rattle.heap.specs.View.{state_of}
use Rattle.heap.specs.declared.state.VatState.{VatState}
use Rattle.heap.proofs.reach.Reach.reach_fence.Goals as goal

pub invariant_of-self : goal.invariant_of-self
invariant_of-self c = record {
  found = subst (λ (s : VatState). Found c.args.self.now.footprint (state_of s) → Found c.reach_fence.new.self (state_of s)) c.deref.ensures c.reach_fence.ensures.found c.args.self.now.found;
}
