use Rattle.std.proofs.Common.{rules, w64, sym, subst}
use Rattle.std.proofs.lemmas.Int.{to_z-of_z}
use Rattle.eval_rules.specs.Fits.{all_fit_at}
use Rattle.eval_rules.specs.View.{at}
use Rattle.eval_quick.proofs.Leaves.{leaf_fits, operands}
use Rattle.eval_rules.proofs.Steps.{only_one}
use Rattle.eval_quick.proofs.quick.operands.Goals as goal

pub integer_at-requires-2 : goal.integer_at-requires-2
integer_at-requires-2 c = (subst (all_fit_at (at c.args.w.now)) (sym (only_one c.args.args.now _ (search rules) c.index-args-0.is)) (leaf_fits (at c.args.w.now) _ c.args.args.now c.in_ok-x.ensures c.requires.1)).0

pub returns : goal.returns
returns c = operands (at c.args.w.now) (only_one c.args.args.now _ (search rules) c.index-args-0.is) c.in_ok-x.ensures c.in_ok-y.ensures (to_z-of_z w64 c.in_ok-x.x (search rules)) (to_z-of_z w64 c.in_ok-y.y (search rules))
