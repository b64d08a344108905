use Rattle.std.proofs.Common.{arith, ap}
use Rattle.code.specs.View.{tree_of_code}
use Rattle.values.specs.View.{val_of}
use Rattle.eval_rules.specs.View.{at}
use Rattle.eval_quick.proofs.Leaves.{given_ends, where_some}
use Rattle.eval_quick.proofs.quick.noun_at_hand.Goals as goal

pub returns-else-level-gt-DEEPEST-clause-steps : goal.returns-else-level-gt-DEEPEST-clause-steps
returns-else-level-gt-DEEPEST-clause-steps c = where_some c.value_at_hand.result (omega arith)

pub returns-else-level-gt-DEEPEST-clause-ends : goal.returns-else-level-gt-DEEPEST-clause-ends
returns-else-level-gt-DEEPEST-clause-ends c =
    given_ends c.value_at_hand.result (λ v. val_of v.now) (at c.args.w.now) c.args.e.now c.in-Noun.name c.args.level (ap tree_of_code c.in-Noun.is) c.value_at_hand.ensures (omega arith) c.if-level-gt-DEEPEST.false
