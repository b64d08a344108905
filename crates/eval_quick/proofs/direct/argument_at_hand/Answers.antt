use Rattle.std.proofs.Common.{rules, ap, sym, subst}
use Rattle.code.specs.View.{tree_of_code}
use Rattle.eval_rules.specs.View.{at}
use Rattle.eval_quick.specs.Leaves.{AtHand}
use Rattle.eval_quick.proofs.AtHand.{leaf_at_hand}
use Rattle.eval_quick.proofs.Leaves.{integer_leaf, noun_leaf}
use Rattle.eval_quick.proofs.direct.argument_at_hand.Goals as goal

pub returns-in_ok-share-in-Some : goal.returns-in_ok-share-in-Some
returns-in_ok-share-in-Some c =
    let a = at c.args.w.now in
    let t = tree_of_code c.args.arg.now in
    subst (λ v. AtHand a t 1 v) (sym c.in_ok-share-in-Some.ensures) (leaf_at_hand a t _ (noun_leaf a c.args.arg.now c.in-Noun.name _ (ap tree_of_code c.in-Noun.is) c.in-Some.ensures))

pub returns-in-Int : goal.returns-in-Int
returns-in-Int c = leaf_at_hand (at c.args.w.now) (tree_of_code c.args.arg.now) _ (integer_leaf (at c.args.w.now) c.args.arg.now c.in-Int.n _ (ap tree_of_code c.in-Int.is) (search rules))
