use Rattle.std.proofs.lemmas.Result.{on_ok_weaker, on_err_weaker}
use Rattle.heap.specs.State.{view_cell}
use Rattle.heap.proofs.Drafting.{state_kept, writes_kept, touches_kept, one_touched}
use Rattle.heap.proofs.draft.Draft.reach_view.Goals as goal

pub returns-clause-state : goal.returns-clause-state
returns-clause-state c =
    let d = c.self.inside in rw (← c.self.view_is) (
    state_kept d c.reach_view.new.self c.reach_view.ensures.state)

pub returns-clause-touched : goal.returns-clause-touched
returns-clause-touched c =
    let d = c.self.inside in rw (← c.self.view_is) (
    on_ok_weaker c.reach_view.result (one_touched d c.reach_view.new.self (view_cell c.args.promise)) c.reach_view.ensures.touched)

pub returns-clause-written : goal.returns-clause-written
returns-clause-written c =
    let d = c.self.inside in rw (← c.self.view_is) (
    writes_kept d c.reach_view.new.self c.reach_view.ensures.written)

pub returns-clause-err : goal.returns-clause-err
returns-clause-err c =
    let d = c.self.inside in rw (← c.self.view_is) (
    on_err_weaker c.reach_view.result (touches_kept d c.reach_view.new.self) c.reach_view.ensures.err)
