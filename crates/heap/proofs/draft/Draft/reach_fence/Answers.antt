use Rattle.std.proofs.lemmas.Result.{on_ok_weaker, on_err_weaker}
use Rattle.heap.specs.State.{fence_cell}
use Rattle.heap.proofs.Drafting.{state_kept, writes_kept, touches_kept, one_touched}
use Rattle.heap.proofs.draft.Draft.reach_fence.Goals as goal

pub returns-clause-state : goal.returns-clause-state
returns-clause-state c =
    let d = c.self.inside in rw (← c.self.view_is) (
    state_kept d c.reach_fence.new.self c.reach_fence.ensures.state)

pub returns-clause-touched : goal.returns-clause-touched
returns-clause-touched c =
    let d = c.self.inside in rw (← c.self.view_is) (
    on_ok_weaker c.reach_fence.result (one_touched d c.reach_fence.new.self (fence_cell c.args.reference)) c.reach_fence.ensures.touched)

pub returns-clause-written : goal.returns-clause-written
returns-clause-written c =
    let d = c.self.inside in rw (← c.self.view_is) (
    writes_kept d c.reach_fence.new.self c.reach_fence.ensures.written)

pub returns-clause-err : goal.returns-clause-err
returns-clause-err c =
    let d = c.self.inside in rw (← c.self.view_is) (
    on_err_weaker c.reach_fence.result (touches_kept d c.reach_fence.new.self) c.reach_fence.ensures.err)
