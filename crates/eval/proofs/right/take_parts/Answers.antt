use Rattle.std.proofs.Common.{ap, ◌∙◌}
use Rattle.sends.specs.Vats.{ended}
use Rattle.eval_rules.specs.Doings.{behind, given_by}
use Rattle.eval_rules.specs.View.{at}
use Rattle.eval.proofs.Listed.{parts_given}
use Rattle.eval.proofs.right.take_parts.Goals as goal

pub returns : goal.returns
returns c =
    let a = at c.args.w.now in
    let shared = c.in_ok-end.ensures in
    parts_given c.bind_parts.result c.take_end.new.value c.args.value.now c.bind_parts.new.w c.args.patterns.now
    (c.in_ok-take_end.ensures.end ∙ ap (λ v. given_by (ended v) a) shared) (c.in_ok-take_end.ensures.place ∙ ap (λ v. behind (ended v) a) shared) c.bind_parts.ensures
