use Rattle.std.proofs.Common.{refl, ap, sym, subst, ◌∙◌, IfOk}
use Rattle.kernele.specs.Tree.{assign}
use Rattle.code.specs.View.{tree_of_code}
use Rattle.eval_rules.specs.View.{at}
use Rattle.eval_rules.proofs.Steps.{ends_to}
use Rattle.eval_quick.specs.Leaves.{RanOrNot}
use Rattle.eval_quick.proofs.quick.run_quickly.Goals as goal

pub returns-in_ok-set-in-Some : goal.returns-in_ok-set-in-Some
returns-in_ok-set-in-Some c = (_, ends_to c.in-Some.ensures.ends refl c.in_ok-set-in-Some.ensures.place)

pub returns-in-Assign : goal.returns-in-Assign
returns-in-Assign c =
    subst (λ t. IfOk c.grow_variable.result (λ ran. RanOrNot ran c.args.level t (at c.args.w.now) (at c.grow_variable.new.w)))
    (ap (λ e. assign c.in-Assign.name (tree_of_code e)) c.deref.ensures ∙ sym (ap tree_of_code c.in-Assign.is)) c.grow_variable.ensures
