use Rattle.std.proofs.lemmas.Result.{on_ok_weaker, on_err_weaker}
use Rattle.heap.specs.State.{top}
use Rattle.heap.proofs.Drafting.{state_kept, writes_kept, touches_kept, one_touched}
use Rattle.heap.proofs.draft.Draft.reach_top.Goals as goal

pub returns-clause-state : goal.returns-clause-state
returns-clause-state c =
    let d = c.self.inside in rw (← c.self.view_is) (
    state_kept d c.reach_top.new.self c.reach_top.ensures.state)

pub returns-clause-touched : goal.returns-clause-touched
returns-clause-touched c =
    let d = c.self.inside in rw (← c.self.view_is) (
    on_ok_weaker c.reach_top.result (one_touched d c.reach_top.new.self (top c.args.name.now)) c.reach_top.ensures.touched)

pub returns-clause-written : goal.returns-clause-written
returns-clause-written c =
    let d = c.self.inside in rw (← c.self.view_is) (
    writes_kept d c.reach_top.new.self c.reach_top.ensures.written)

pub returns-clause-err : goal.returns-clause-err
returns-clause-err c =
    let d = c.self.inside in rw (← c.self.view_is) (
    on_err_weaker c.reach_top.result (touches_kept d c.reach_top.new.self) c.reach_top.ensures.err)
