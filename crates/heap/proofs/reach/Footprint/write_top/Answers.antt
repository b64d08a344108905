use Rattle.std.proofs.Common.{◌∙◌}
use Rattle.std.proofs.lemmas.Result.{on_ok_weaker, on_err_weaker}
use Rattle.heap.specs.View.{state_of}
use Rattle.heap.proofs.Reaching.{on_err, either_way}
use Rattle.heap.proofs.CellKinds.{tops_kind, untouched, written_again, written_first}
use Rattle.heap.proofs.reach.Footprint.write_top.Goals as goal

pub returns-in_err-found-in-Err-clause-found : goal.returns-in_err-found-in-Err-clause-found
returns-in_err-found-in-Err-clause-found c = (untouched (tops_kind c.args.self.now) (state_of c.args.state.now) c.write.new.self c.in-Err.ensures.same).found

pub returns-in_err-found-in-Err-clause-err : goal.returns-in_err-found-in-Err-clause-err
returns-in_err-found-in-Err-clause-err c = on_err c.from_residual.result _ (untouched (tops_kind c.args.self.now) (state_of c.args.state.now) c.write.new.self c.in-Err.ensures.same).cells

pub returns-in-Ok-clause-found : goal.returns-in-Ok-clause-found
returns-in-Ok-clause-found c = (written_again (tops_kind c.args.self.now) (state_of c.args.state.now) c.write.new.self c.args.name c.args.binding c.in-Ok.ensures.touched c.in-Ok.ensures.written).found

pub returns-in-Ok-clause-state : goal.returns-in-Ok-clause-state
returns-in-Ok-clause-state c = (written_again (tops_kind c.args.self.now) (state_of c.args.state.now) c.write.new.self c.args.name c.args.binding c.in-Ok.ensures.touched c.in-Ok.ensures.written).state

pub returns-in-Ok-clause-touched : goal.returns-in-Ok-clause-touched
returns-in-Ok-clause-touched c = (written_again (tops_kind c.args.self.now) (state_of c.args.state.now) c.write.new.self c.args.name c.args.binding c.in-Ok.ensures.touched c.in-Ok.ensures.written).touched

pub returns-in-Ok-clause-written : goal.returns-in-Ok-clause-written
returns-in-Ok-clause-written c = (written_again (tops_kind c.args.self.now) (state_of c.args.state.now) c.write.new.self c.args.name c.args.binding c.in-Ok.ensures.touched c.in-Ok.ensures.written).written

pub returns-in_ok-found-in-Err-clause-found : goal.returns-in_ok-found-in-Err-clause-found
returns-in_ok-found-in-Err-clause-found c g =
    either_way c.add.result _ _ _ c.add.ensures.ok c.add.ensures.err
    (λ ok. (written_first (tops_kind c.args.self.now) (state_of c.args.state.now) c.write.new.self c.add.new.self c.args.name c.args.binding c.in-Err.binding c.in_ok-found-in-Err.found c.in-Err.ensures.same c.in-Err.ensures.back ok c.in_ok-found-in-Err.ensures).found g)
    (λ e. (untouched (tops_kind c.args.self.now) (state_of c.args.state.now) c.add.new.self (λ q. e q ∙ c.in-Err.ensures.same q)).found g)

pub returns-in_ok-found-in-Err-clause-state : goal.returns-in_ok-found-in-Err-clause-state
returns-in_ok-found-in-Err-clause-state c = on_ok_weaker c.add.result (λ ok. (written_first (tops_kind c.args.self.now) (state_of c.args.state.now) c.write.new.self c.add.new.self c.args.name c.args.binding c.in-Err.binding c.in_ok-found-in-Err.found c.in-Err.ensures.same c.in-Err.ensures.back ok c.in_ok-found-in-Err.ensures).state) c.add.ensures.ok

pub returns-in_ok-found-in-Err-clause-touched : goal.returns-in_ok-found-in-Err-clause-touched
returns-in_ok-found-in-Err-clause-touched c = on_ok_weaker c.add.result (λ ok. (written_first (tops_kind c.args.self.now) (state_of c.args.state.now) c.write.new.self c.add.new.self c.args.name c.args.binding c.in-Err.binding c.in_ok-found-in-Err.found c.in-Err.ensures.same c.in-Err.ensures.back ok c.in_ok-found-in-Err.ensures).touched) c.add.ensures.ok

pub returns-in_ok-found-in-Err-clause-written : goal.returns-in_ok-found-in-Err-clause-written
returns-in_ok-found-in-Err-clause-written c = on_ok_weaker c.add.result (λ ok. (written_first (tops_kind c.args.self.now) (state_of c.args.state.now) c.write.new.self c.add.new.self c.args.name c.args.binding c.in-Err.binding c.in_ok-found-in-Err.found c.in-Err.ensures.same c.in-Err.ensures.back ok c.in_ok-found-in-Err.ensures).written) c.add.ensures.ok

pub returns-in_ok-found-in-Err-clause-err : goal.returns-in_ok-found-in-Err-clause-err
returns-in_ok-found-in-Err-clause-err c = on_err_weaker c.add.result (λ e. (untouched (tops_kind c.args.self.now) (state_of c.args.state.now) c.add.new.self (λ q. e q ∙ c.in-Err.ensures.same q)).cells) c.add.ensures.err
