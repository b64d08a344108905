use Rattle.std.proofs.Common.{refl, ◌∙◌}
use Rattle.kernele_scopes.specs.Scope.{name_of, names_of_all}
use Rattle.kernele.proofs.Walks.{items_more, items_end}
use Rattle.kernele_scopes.proofs.naming.add_all_bound.Goals as goal

pub loop-pattern-preserved : goal.loop-pattern-preserved
loop-pattern-preserved c = items_more names_of_all name_of (λ p ps. refl) c.loop-pattern.names.items c.args.patterns.now c.loop-pattern.pattern-index c.pattern-item.result c.loop-pattern-test.true c.pattern-item.is c.in_ok-add_bound.ensures ∙ c.loop-pattern.invariant

pub returns : goal.returns
returns c = items_end names_of_all refl c.args.patterns.now c.loop-pattern.pattern-index c.loop-pattern-test.false c.loop-pattern.invariant
