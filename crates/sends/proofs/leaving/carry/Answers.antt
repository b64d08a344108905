use Rattle.sends.proofs.Playing.{same_turn}
use Rattle.sends.proofs.Carrying.{carry_next, carry_last}
use Rattle.sends.proofs.leaving.carry.Goals as goal

pub loop-reference-preserved : goal.loop-reference-preserved
loop-reference-preserved c = (
  carry_next c.args.references.now c.args.references.now c.loop-reference.reference-index c.loop-reference.row c.add.new.self c.in_ok-fence.fence c.args.draft.now c.loop-reference.draft c.fence_of.new.draft c.loop-reference-test.true
      c.loop-reference.invariant.0 c.in_ok-fence.ensures.did c.in_ok-add.ensures.ok,
  same_turn c.args.draft.now c.loop-reference.draft c.fence_of.new.draft c.loop-reference.invariant.1 c.fence_of.ensures.turn,
)

pub returns-clause-did : goal.returns-clause-did
returns-clause-did c = carry_last c.args.references.now c.args.references.now c.loop-reference.reference-index c.loop-reference.row c.args.draft.now c.loop-reference.draft c.loop-reference-test.false c.loop-reference.invariant.0
