use Rattle.std.proofs.Common.{refl}
use Rattle.std.proofs.lemmas.Result.{on_ok_weaker, on_err_weaker}
use Rattle.heap.specs.State.{fence_cell, fenced}
use Rattle.heap.proofs.Drafting.{unwritten, one_touched, other_state, other_writes}
use Rattle.heap.proofs.draft.Draft.write_fence.Goals as goal

pub returns-clause-ok : goal.returns-clause-ok
returns-clause-ok c =
    let d = c.self.inside in rw (← c.self.view_is) (
    on_ok_weaker c.write_fence.result (other_state d c.write_fence.new.self (fence_cell c.args.reference) (fenced c.args.fence) (λ _. refl) (λ _. refl)) c.write_fence.ensures.state)

pub returns-clause-touched : goal.returns-clause-touched
returns-clause-touched c =
    let d = c.self.inside in rw (← c.self.view_is) (
    on_ok_weaker c.write_fence.result (one_touched d c.write_fence.new.self (fence_cell c.args.reference)) c.write_fence.ensures.touched)

pub returns-clause-written : goal.returns-clause-written
returns-clause-written c =
    let d = c.self.inside in rw (← c.self.view_is) (
    on_ok_weaker c.write_fence.result (other_writes d c.write_fence.new.self (fence_cell c.args.reference) (fenced c.args.fence) (λ _. refl) (λ _. refl)) c.write_fence.ensures.written)

pub returns-clause-err : goal.returns-clause-err
returns-clause-err c =
    let d = c.self.inside in rw (← c.self.view_is) (
    on_err_weaker c.write_fence.result (λ e. unwritten d c.write_fence.new.self e c.write_fence.ensures.beneath) c.write_fence.ensures.err)
