use Rattle.std.proofs.Common.{rules, ap}
use Rattle.std.proofs.lemmas.Option.{IfSome_then}
use Rattle.code.specs.View.{tree_of_code}
use Rattle.eval_rules.specs.View.{at}
use Rattle.eval_quick.proofs.Leaves.{integer_leaf, noun_leaf}
use Rattle.eval_quick.proofs.quick.integer_at.Goals as goal

pub returns-in-Int : goal.returns-in-Int
returns-in-Int c = integer_leaf (at c.args.w.now) _ c.in-Int.n _ (ap tree_of_code c.in-Int.is) (search rules)

pub returns-in-Noun : goal.returns-in-Noun
returns-in-Noun c = IfSome_then c.integer_of.result c.integer_of.ensures (λ n h. noun_leaf (at c.args.w.now) _ c.in-Noun.name _ (ap tree_of_code c.in-Noun.is) h)
