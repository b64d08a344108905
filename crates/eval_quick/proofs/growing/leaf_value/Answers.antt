use Rattle.std.proofs.Common.{rules, ap, sym, ◌∙◌, subst}
use Rattle.code.specs.View.{tree_of_code}
use Rattle.values.specs.View.{reply_of}
use Rattle.eval_rules.specs.View.{at}
use Rattle.eval_quick.specs.Leaves.{GivesAtHand}
use Rattle.eval_quick.proofs.Leaves.{integer_leaf, noun_leaf}
use Rattle.eval_quick.proofs.Lengthened.{null_leaf, bool_leaf, text_leaf}
use Rattle.eval_quick.proofs.growing.leaf_value.Goals as goal

pub returns-in-Null : goal.returns-in-Null
returns-in-Null c = null_leaf (at c.args.w.now) _ (ap tree_of_code c.in-Null.is)

pub returns-in-Bool : goal.returns-in-Bool
returns-in-Bool c = bool_leaf (at c.args.w.now) _ _ (ap tree_of_code c.in-Bool.is)

pub returns-in-Int : goal.returns-in-Int
returns-in-Int c = integer_leaf (at c.args.w.now) _ c.in-Int.n _ (ap tree_of_code c.in-Int.is) (search rules)

pub returns-in-Gives : goal.returns-in-Gives
returns-in-Gives c = text_leaf (at c.args.w.now) _ _ _ (ap tree_of_code c.in-Text.is) (sym (ap reply_of c.in-Gives.is) ∙ c.in_ok-value-in-Text.ensures)

pub returns-in-Some : goal.returns-in-Some
returns-in-Some c = noun_leaf (at c.args.w.now) _ c.in-Noun.name _ (ap tree_of_code c.in-Noun.is) (subst (λ v. GivesAtHand c.in-Noun.name v (at c.args.w.now)) (sym c.in_ok-share-in-Some.ensures) c.in-Some.ensures)
