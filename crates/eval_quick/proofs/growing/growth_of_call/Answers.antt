use Rattle.std.proofs.Common.{rules, sym, subst, IfSome}
use Rattle.code.specs.View.{tree_of_code}
use Rattle.values.specs.View.{val_of}
use Rattle.eval_quick.specs.Leaves.{Leaf}
use Rattle.eval_rules.specs.Fits.{all_fit_at}
use Rattle.eval_rules.specs.View.{at}
use Rattle.eval_rules.proofs.Steps.{only_one}
use Rattle.eval_quick.proofs.Lengthened.{lengthens, noun_fits}
use Rattle.eval_quick.proofs.growing.growth_of_call.Goals as goal

pub leaf_value-requires : goal.leaf_value-requires
leaf_value-requires c = (subst (all_fit_at (at c.args.w.now)) (sym (only_one c.args.args.now _ (search rules) c.index-args-0.is)) (noun_fits (at c.args.w.now) c.args.receiver.now c.args.name.now c.args.args.now c.in-Some.ensures.0 c.requires.1)).0

pub returns : goal.returns
returns c = lengthens (at c.args.w.now) c.args.receiver.now _ c.args.args.now c.in-Some.ensures (only_one c.args.args.now _ (search rules) c.index-args-0.is) (subst (λ o. IfSome o (λ v. Leaf (at c.args.w.now) (tree_of_code c.index-args-0.result) (val_of v))) c.in-Some-given.is c.in_ok-given.ensures)
