use Rattle.std.proofs.Common.{ap}
use Rattle.std.proofs.lemmas.Option.{IfSome_then}
use Rattle.code.specs.View.{tree_of_code}
use Rattle.eval_rules.specs.View.{at}
use Rattle.eval_quick.proofs.Leaves.{noun_leaf}
use Rattle.eval_quick.proofs.returns.ejector_at.Goals as goal

pub returns-in-Noun : goal.returns-in-Noun
returns-in-Noun c = IfSome_then c.ejector_of.result c.ejector_of.ensures (λ i h. noun_leaf (at c.args.w.now) _ c.in-Noun.name _ (ap tree_of_code c.in-Noun.is) h)
