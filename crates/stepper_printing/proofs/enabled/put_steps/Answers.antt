use Rattle.std.proofs.Common.{◌+◌, ap, sym, refl, drop, append_assoc, ◌∙◌}
use Rattle.std.proofs.lemmas.List.{drop_all, drop_more}
use Rattle.stepper_streams.proofs.Giving.{tells_both, leads_first, leads_more, leads_all}
use Rattle.stepper_printing.specs.Steps.{step_lines}
use Rattle.stepper_printing.proofs.enabled.put_steps.Goals as goal

pub loop-step-init : goal.loop-step-init
loop-step-init g c = leads_first g.W.Write.contents c.args.out.now refl

pub loop-step-preserved : goal.loop-step-preserved
loop-step-preserved g c =
    let rest = step_lines c.args.vats.now.entries (drop (c.loop-step.step-index + 1) c.args.steps.now) in
    leads_more g.W.Write.contents _ rest c.loop-step.invariant (tells_both g.W.Write.contents c.put_step.ensures c.put.ensures)
    (ap (step_lines c.args.vats.now.entries) (drop_more c.args.steps.now c.loop-step.step-index _ c.loop-step-test.true) ∙ sym (append_assoc _ _ rest))

pub returns : goal.returns
returns g c = leads_all g.W.Write.contents c.loop-step.invariant (ap (step_lines c.args.vats.now.entries) (drop_all c.loop-step.step-index c.args.steps.now c.loop-step-test.false))
