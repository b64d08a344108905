use Rattle.std.proofs.Common.{◌+◌, ◌∷◌, ◌++◌, [], ap, ◌∙◌, arith}
use Rattle.stepper_questions.specs.ChainView.{near_of}
use Rattle.stepper_questions.proofs.Reasons.{places_more, places_done}
use Rattle.stepper_questions.proofs.chain.places_back.Goals as goal

pub loop-step-init : goal.loop-step-init
loop-step-init c = λ ps back many.
    (ps, back, omega (arith, many), ap (λ xs. xs ++ ps) (c.in_ok-push.ensures.items ∙ ap (λ xs. xs ++ c.args.end.place ∷ []) c.new-places.ensures.items))

pub loop-step-preserved : goal.loop-step-preserved
loop-step-preserved c = λ ps back many.
    places_more (near_of c.args.known.now.entries) c.loop-step.near c.step_back-near.result c.args.end.steps c.loop-step._step c.loop-step.places.items c.push-in-loop-step.new.self.items (c.args.end.place ∷ ps)
    c.loop-step-test.true c.step_back-near.ensures c.in_ok-push-2.ensures.items (c.loop-step.invariant ps back many)

pub returns : goal.returns
returns c = λ ps back many.
    places_done (near_of c.args.known.now.entries) c.loop-step.near c.args.end.steps c.loop-step._step c.loop-step.places.items (c.args.end.place ∷ ps) c.loop-step-test.false (c.loop-step.invariant ps back many)
