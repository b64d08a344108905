use Rattle.sends.proofs.Playing.{same_turn}
use Rattle.sends.proofs.BroughtIn.{bring_next, bring_last}
use Rattle.sends.proofs.coming.bring_all.Goals as goal

pub loop-reference-preserved : goal.loop-reference-preserved
loop-reference-preserved c = (
  bring_next c.args.references.now c.args.references.now c.loop-reference.reference-index c.args.draft.now c.loop-reference.draft c.bring.new.draft c.loop-reference-test.true c.loop-reference.invariant.0 c.in_ok-bring.ensures.did,
  same_turn c.args.draft.now c.loop-reference.draft c.bring.new.draft c.loop-reference.invariant.1 c.bring.ensures.turn,
)

pub returns-clause-did : goal.returns-clause-did
returns-clause-did c = bring_last c.args.references.now c.args.references.now c.loop-reference.reference-index c.args.draft.now c.loop-reference.draft c.loop-reference-test.false c.loop-reference.invariant.0
