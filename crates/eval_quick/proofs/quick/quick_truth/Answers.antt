use Rattle.std.proofs.Common.{ap, sym, subst, ◌∙◌, ◌-◌}
use Rattle.values.specs.Data.{bool}
use Rattle.values.specs.View.{val_of}
use Rattle.code.specs.View.{tree_of_code}
use Rattle.eval_rules.specs.Outcomes.{value}
use Rattle.eval_rules.specs.Rules.{Ends}
use Rattle.eval_rules.specs.View.{at}
use Rattle.eval_quick.proofs.quick.quick_truth.Goals as goal

pub returns-in-Some-Bool-clause-ends : goal.returns-in-Some-Bool-clause-ends
returns-in-Some-Bool-clause-ends c =
    let a = at c.args.w.now in
    let is = ap val_of c.in-Some-Bool.field-0-is ∙ sym (ap (λ b. bool b) c.in-Some-Bool.holds-is) in
    subst (λ v. Ends c.args.level (tree_of_code c.args.condition.now) a (value v) (record a { left = c.args.w.now.steps - 3 })) is
    (c.in-Some-Bool.ensures c.args.level c.args.w.now.steps c.if-level-ge-DEEPEST.false c.if-w-lt3.false)
