use Rattle.std.proofs.Common.{◌∙◌}
use Rattle.heap.specs.View.{nouns_of}
use Rattle.eval_rules.specs.Locals.{locals_after}
use Rattle.eval_rules.specs.Rules.{inside}
use Rattle.eval_rules.specs.View.{at}
use Rattle.turn.proofs.whens.enter_when.Goals as goal

pub returns : goal.returns
returns c = c.enter_method.ensures.place ∙ (λ i. inside (locals_after (nouns_of (c.in_ok-captured.ensures i).items) (c.new-own.ensures.items i)) (at c.args.w.now))
