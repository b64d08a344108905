use Rattle.std.proofs.Common.{◌≡◌, subst, arith}
use Rattle.stepper.proofs.Running.{SoFar, as_more, none_so_far, one_more, last_step, cut_step, all_steps}
use Rattle.stepper.proofs.engine.Engine.run.Goals as goal

pub steps-init : goal.steps-init
steps-init g c = none_so_far g.W.Write.contents c.args.most c.args.self.now c.args.out.now

pub steps-preserved : goal.steps-preserved
steps-preserved g c =
    one_more g.W.Write.contents c.args.most c.steps.left c.args.self.now c.steps.self c.try_step-goes_on.new.self c.args.out.now c.steps.out c.try_step-goes_on.new.out c.steps-test.true c.steps.invariant c.send.new.self
    (as_more g.W.Write.contents c.if-not-goes_on.false c.try_step-goes_on.ensures) c.send.ensures.tells c.in-Ok.ensures.ok

pub returns-then-not-goes_on : goal.returns-then-not-goes_on
returns-then-not-goes_on g c =
    last_step g.W.Write.contents c.args.most c.steps.left c.args.self.now c.steps.self c.try_step-goes_on.new.self c.args.out.now c.steps.out c.try_step-goes_on.new.out c.steps-test.true c.steps.invariant
    (as_more g.W.Write.contents c.if-not-goes_on.true c.try_step-goes_on.ensures)

pub returns-in-Err : goal.returns-in-Err
returns-in-Err g c =
    cut_step g.W.Write.contents c.args.most c.steps.left c.args.self.now c.steps.self c.try_step-goes_on.new.self c.args.out.now c.steps.out c.try_step-goes_on.new.out c.steps-test.true c.steps.invariant c.send.new.self
    (as_more g.W.Write.contents c.if-not-goes_on.false c.try_step-goes_on.ensures) c.send.ensures.tells c.in-Err.ensures.err

pub returns : goal.returns
returns g c =
    let none : c.steps.left ≡ 0 = omega arith in
    all_steps g.W.Write.contents c.args.most c.args.self.now c.steps.self c.args.out.now c.steps.out (subst (λ n. SoFar g.W.Write.contents c.args.most n c.args.self.now c.steps.self c.args.out.now c.steps.out) none c.steps.invariant)
