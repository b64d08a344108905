use Rattle.std.proofs.Common.{ap, ◌∙◌}
use Rattle.eval_rules.specs.Locals.{captured_in, names_in}
use Rattle.eval_rules.specs.Rules.{inside}
use Rattle.eval_rules.specs.View.{at}
use Rattle.eval_objects.proofs.Entering.{all_in_scope}
use Rattle.eval_objects.proofs.calls.enter_method.Goals as goal

pub returns-clause-place : goal.returns-clause-place
returns-clause-place c =
    let shared = c.replace_captured-captured.ensures in
    (λ i. inside (names_in (shared.captured i) (shared.older i) (c.replace-nouns.ensures.after i).items) (shared.place i))
    ∙ ap (λ ns. inside ns (at c.args.w.now)) (all_in_scope (captured_in c.args.captured) c.args.nouns.items c.count_captured-count.ensures)
