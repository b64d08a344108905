use Rattle.std.proofs.Common.{refl}
use Rattle.std.proofs.lemmas.Result.{on_ok_weaker, on_err_weaker}
use Rattle.heap.specs.State.{view_cell, viewed}
use Rattle.heap.specs.View.{view_of}
use Rattle.heap.proofs.Drafting.{unwritten, one_touched, other_state, other_writes}
use Rattle.heap.proofs.draft.Draft.write_view.Goals as goal

pub returns-clause-ok : goal.returns-clause-ok
returns-clause-ok c =
    let d = c.self.inside in rw (← c.self.view_is) (
    on_ok_weaker c.write_view.result (other_state d c.write_view.new.self (view_cell c.args.promise) (viewed (view_of c.args.view)) (λ _. refl) (λ _. refl)) c.write_view.ensures.state)

pub returns-clause-touched : goal.returns-clause-touched
returns-clause-touched c =
    let d = c.self.inside in rw (← c.self.view_is) (
    on_ok_weaker c.write_view.result (one_touched d c.write_view.new.self (view_cell c.args.promise)) c.write_view.ensures.touched)

pub returns-clause-written : goal.returns-clause-written
returns-clause-written c =
    let d = c.self.inside in rw (← c.self.view_is) (
    on_ok_weaker c.write_view.result (other_writes d c.write_view.new.self (view_cell c.args.promise) (viewed (view_of c.args.view)) (λ _. refl) (λ _. refl)) c.write_view.ensures.written)

pub returns-clause-err : goal.returns-clause-err
returns-clause-err c =
    let d = c.self.inside in rw (← c.self.view_is) (
    on_err_weaker c.write_view.result (λ e. unwritten d c.write_view.new.self e c.write_view.ensures.beneath) c.write_view.ensures.err)
