use Rattle.values.specs.Replies.{items_in}
use Rattle.values.specs.View.{val_of}
use Rattle.eval_rules.proofs.Patterns.{all_taken, none_taken}
use Rattle.eval_objects.proofs.nouns.parts.Goals as goal

pub returns-then-values-patterns-clause-items : goal.returns-then-values-patterns-clause-items
returns-then-values-patterns-clause-items c = all_taken c.args.patterns.now c.in-Some.values.now (items_in (val_of c.args.value.now)) c.in-Some.ensures c.if-values-patterns.true

pub returns-else-values-patterns-clause-items : goal.returns-else-values-patterns-clause-items
returns-else-values-patterns-clause-items c = none_taken c.args.patterns.now c.in-Some.values.now (items_in (val_of c.args.value.now)) c.in-Some.ensures c.if-values-patterns.false
