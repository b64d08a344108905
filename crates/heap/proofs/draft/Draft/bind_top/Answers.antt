use Rattle.std.proofs.Common.{refl}
use Rattle.std.proofs.lemmas.Result.{on_ok_weaker, on_err_weaker}
use Rattle.heap.specs.State.{top, bound}
use Rattle.heap.specs.View.{bind_of}
use Rattle.heap.proofs.Drafting.{unwritten, one_touched, other_state, other_writes}
use Rattle.heap.proofs.draft.Draft.bind_top.Goals as goal

pub returns-clause-ok : goal.returns-clause-ok
returns-clause-ok c =
    let d = c.self.inside in rw (← c.self.view_is) (
    on_ok_weaker c.write_top.result (other_state d c.write_top.new.self (top c.args.name) (bound (bind_of c.args.binding)) (λ _. refl) (λ _. refl)) c.write_top.ensures.state)

pub returns-clause-touched : goal.returns-clause-touched
returns-clause-touched c =
    let d = c.self.inside in rw (← c.self.view_is) (
    on_ok_weaker c.write_top.result (one_touched d c.write_top.new.self (top c.args.name)) c.write_top.ensures.touched)

pub returns-clause-written : goal.returns-clause-written
returns-clause-written c =
    let d = c.self.inside in rw (← c.self.view_is) (
    on_ok_weaker c.write_top.result (other_writes d c.write_top.new.self (top c.args.name) (bound (bind_of c.args.binding)) (λ _. refl) (λ _. refl)) c.write_top.ensures.written)

pub returns-clause-err : goal.returns-clause-err
returns-clause-err c =
    let d = c.self.inside in rw (← c.self.view_is) (
    on_err_weaker c.write_top.result (λ e. unwritten d c.write_top.new.self e c.write_top.ensures.beneath) c.write_top.ensures.err)
