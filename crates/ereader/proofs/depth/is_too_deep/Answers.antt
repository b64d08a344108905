use Rattle.std.proofs.Common.{arith, rules}
use Rattle.std.proofs.lemmas.Grind.{common_steps}
use Rattle.ereader.proofs.Nesting.{most_open-next}
use Rattle.ereader.proofs.depth.is_too_deep.Goals as goal

pub returns-then-depth-gt-MOST_OPEN : goal.returns-then-depth-gt-MOST_OPEN
returns-then-depth-gt-MOST_OPEN c =
    let l = c.loop-placed in
    let deeper = most_open-next l.depth l.placed-index c.placed-item.result c.args.tokens.now c.loop-placed-test.true c.placed-item.is in
    (λ _. l.invariant.same.1 (omega (arith, deeper, c.depth_after-depth.ensures, c.if-depth-gt-MOST_OPEN.true)), λ _. search rules)

pub loop-placed-preserved : goal.loop-placed-preserved
loop-placed-preserved c = grind (arith, common_steps)
