use Rattle.std.proofs.Common.{refl, ◌∙◌, ◌++◌, append_assoc, rules, string_bytes, codes, map}
use Rattle.kernele.specs.Spelling.{led_by, bound_name}
use Rattle.kernele.proofs.Walks.{items_more}
use Rattle.kernele.proofs.printing.write_patterns.Goals as goal

pub loop-pattern-preserved : goal.loop-pattern-preserved
loop-pattern-preserved c =
    items_more (λ ps. led_by (codes ", ") (map bound_name ps)) (λ p. codes ", " ++ bound_name p) (λ p ps. refl) (string_bytes c.loop-pattern.out) c.in-Some.rest.now c.loop-pattern.pattern-index c.pattern-item.result c.loop-pattern-test.true c.pattern-item.is (search (rules, append_assoc))
    ∙ c.loop-pattern.invariant
