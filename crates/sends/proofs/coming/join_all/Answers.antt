use Rattle.sends.proofs.Playing.{same_turn}
use Rattle.sends.proofs.BroughtIn.{receive_next, receive_last}
use Rattle.sends.proofs.coming.join_all.Goals as goal

pub loop-reference-preserved : goal.loop-reference-preserved
loop-reference-preserved c = (
  receive_next c.args.fences.now c.args.references.now c.args.references.now c.loop-reference.reference-index c.in_ok-join_carried.field-0 c.args.draft.now c.loop-reference.draft c.join_carried.new.draft c.loop-reference-test.true c.loop-reference.invariant.0
      c.in_ok-join_carried.ensures.did,
  same_turn c.args.draft.now c.loop-reference.draft c.join_carried.new.draft c.loop-reference.invariant.1 c.join_carried.ensures.turn,
)

pub returns-clause-did : goal.returns-clause-did
returns-clause-did c = receive_last c.args.fences.now c.args.references.now c.args.references.now c.loop-reference.reference-index c.args.draft.now c.loop-reference.draft c.loop-reference-test.false c.loop-reference.invariant.0
