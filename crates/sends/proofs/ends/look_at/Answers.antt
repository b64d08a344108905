use Rattle.std.proofs.Common.{get_or}
use Rattle.heap.specs.State.{view_cell}
use Rattle.sends.proofs.Did.{touched_one}
use Rattle.sends.proofs.Looking.{no_promise, look_next, look_last}
use Rattle.sends.proofs.Playing.{same_turn}
use Rattle.sends.proofs.ends.look_at.Goals as goal

pub loop-promise-preserved : goal.loop-promise-preserved
loop-promise-preserved c = (
  look_next c.args.promises.now c.loop-promise.promise-index c.args.draft.now c.loop-promise.draft c.reach_view.new.self c.loop-promise-test.true c.loop-promise.invariant.0
      (touched_one (view_cell (get_or c.args.promises.now c.loop-promise.promise-index no_promise)) c.loop-promise.draft c.reach_view.new.self c.in_ok-reach_view.ensures.state c.in_ok-reach_view.ensures.touched c.in_ok-reach_view.ensures.written),
  same_turn c.args.draft.now c.loop-promise.draft c.reach_view.new.self c.loop-promise.invariant.1 (record { counts = c.reach_view.ensures.counts; began = c.reach_view.ensures.began }),
)

pub returns-clause-looked : goal.returns-clause-looked
returns-clause-looked c = look_last c.args.promises.now c.loop-promise.promise-index c.args.draft.now c.loop-promise.draft c.loop-promise-test.false c.loop-promise.invariant.0

pub returns-in_err-reach_view-clause-turn : goal.returns-in_err-reach_view-clause-turn
returns-in_err-reach_view-clause-turn c = same_turn c.args.draft.now c.loop-promise.draft c.reach_view.new.self c.loop-promise.invariant.1 (record { counts = c.reach_view.ensures.counts; began = c.reach_view.ensures.began })
