-- A For over the items of its list.
use Rattle.std.proofs.Common.{◌≡◌, ℕ, ◌+◌, List, subst}
use Rattle.kernele.specs.Tree.{Tree, Trees, for_tree}
use Rattle.kernele.specs.declared.tree.Pattern.{Pattern}
use Rattle.values.specs.Data.{Vals}
use Rattle.values.specs.View.{vals_of}
use Rattle.values.specs.declared.value.Value.{Value}
use Rattle.eval_rules.specs.At.{At}
use Rattle.eval_rules.specs.Outcomes.{End}
use Rattle.eval_rules.specs.Rules.{listing_of, listed, Needs, Runs, run_for, Each}

pub for_runs : {k : ℕ} {p : Pattern} {e : Tree} {body : Trees} {a b c d : At} {o q : End} {vs : Vals} (xs : List Value) → Needs (k + 1) e a o b → listing_of o ≡ listed vs → c ≡ b → vals_of xs ≡ vs → Each (k + 1) p body (vals_of xs) c q d → Runs k (for_tree p e body) a q d
for_runs {k = k} {p = p} {body = body} {b = b} {d = d} {q = q} xs r e f g h = run_for r e (subst (λ vs. Each (k + 1) p body vs b q d) g (subst (λ c. Each (k + 1) p body (vals_of xs) c q d) f h))
