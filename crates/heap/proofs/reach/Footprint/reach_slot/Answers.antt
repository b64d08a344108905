use Rattle.std.proofs.Common.{sym, ◌∙◌}
use Rattle.heap.specs.View.{state_of}
use Rattle.heap.proofs.Reaching.{on_err}
use Rattle.heap.proofs.CellKinds.{slots_kind, untouched, reached}
use Rattle.heap.proofs.reach.Footprint.reach_slot.Goals as goal

pub returns-in_err-add-clause-found : goal.returns-in_err-add-clause-found
returns-in_err-add-clause-found c = (untouched (slots_kind c.args.self.now) (state_of c.args.state.now) c.add.new.self c.in_err-add.ensures.err).found

pub returns-in_err-add-clause-state : goal.returns-in_err-add-clause-state
returns-in_err-add-clause-state c = (untouched (slots_kind c.args.self.now) (state_of c.args.state.now) c.add.new.self c.in_err-add.ensures.err).state

pub returns-in_err-add-clause-written : goal.returns-in_err-add-clause-written
returns-in_err-add-clause-written c = (untouched (slots_kind c.args.self.now) (state_of c.args.state.now) c.add.new.self c.in_err-add.ensures.err).written

pub returns-in_err-add-clause-err : goal.returns-in_err-add-clause-err
returns-in_err-add-clause-err c = on_err c.from_residual-in_err-add.result _ (untouched (slots_kind c.args.self.now) (state_of c.args.state.now) c.add.new.self c.in_err-add.ensures.err).cells

pub returns-in_ok-add-clause-found : goal.returns-in_ok-add-clause-found
returns-in_ok-add-clause-found c = (reached (slots_kind c.args.self.now) (state_of c.args.state.now) c.add.new.self c.args.slot c.in_ok-found.found (sym c.has.ensures ∙ c.if-not-has.true) c.in_ok-add.ensures.ok c.in_ok-found.ensures).found

pub returns-in_ok-add-clause-state : goal.returns-in_ok-add-clause-state
returns-in_ok-add-clause-state c = (reached (slots_kind c.args.self.now) (state_of c.args.state.now) c.add.new.self c.args.slot c.in_ok-found.found (sym c.has.ensures ∙ c.if-not-has.true) c.in_ok-add.ensures.ok c.in_ok-found.ensures).state

pub returns-in_ok-add-clause-touched : goal.returns-in_ok-add-clause-touched
returns-in_ok-add-clause-touched c = (reached (slots_kind c.args.self.now) (state_of c.args.state.now) c.add.new.self c.args.slot c.in_ok-found.found (sym c.has.ensures ∙ c.if-not-has.true) c.in_ok-add.ensures.ok c.in_ok-found.ensures).touched

pub returns-in_ok-add-clause-written : goal.returns-in_ok-add-clause-written
returns-in_ok-add-clause-written c = (reached (slots_kind c.args.self.now) (state_of c.args.state.now) c.add.new.self c.args.slot c.in_ok-found.found (sym c.has.ensures ∙ c.if-not-has.true) c.in_ok-add.ensures.ok c.in_ok-found.ensures).written
