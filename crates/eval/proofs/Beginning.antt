-- Nodes that do not run, and blocks in which there is nothing to run.
use Rattle.std.proofs.Common.{arith, ◌≡◌, ℕ, ◌<◌, List, [], ◌∷◌, length, subst, sym}
use Rattle.kernele.specs.Tree.{Tree}
use Rattle.code.specs.View.{trees_of_codes}
use Rattle.code.specs.declared.code.Code.{Code}
use Rattle.values.specs.Data.{null}
use Rattle.eval_rules.specs.At.{At}
use Rattle.eval_rules.specs.Answered.{OnStop}
use Rattle.eval_rules.specs.Outcomes.{Halt, value, halt, abandoned, budget_spent, too_deep}
use Rattle.eval_rules.specs.Rules.{begun, Ends, at_budget, at_depth, Block, in_block, items_none}
use Rattle.eval_rules.specs.declared.end.Stop.{Stop}
use Rattle.eval_rules.specs.declared.end.Stop.TheVariants as stop
use Rattle.eval_rules.specs.declared.working.Working.{Working}

ends_as : {k : ℕ} {t : Tree} {a b c : At} {h g : Halt} → h ≡ g → b ≡ c → Ends k t a (halt g) c → Ends k t a (halt h) b
ends_as {k = k} {t = t} {a = a} {b = b} {g = g} e f r = subst (λ h. Ends k t a (halt h) b) (sym e) (subst (λ b. Ends k t a (halt g) b) (sym f) r)

-- without a step left
pub no_steps : (s : Stop) (w : Working) (k : ℕ) (t : Tree) (a : At) → a.left ≡ 0 → OnStop s w (λ h b. (h ≡ abandoned budget_spent) × (b ≡ a)) → OnStop s w (λ h b. Ends k t a (halt h) b)
no_steps stop.Memory w k t a none p = tt
no_steps stop.Halted w k t a none p = ends_as p.0 p.1 (at_budget none)

-- too deep
pub no_level : (s : Stop) (w : Working) (k : ℕ) (t : Tree) (a : At) → 0 < a.left → 1000 < k → OnStop s w (λ h b. (h ≡ abandoned too_deep) × (b ≡ begun a)) → OnStop s w (λ h b. Ends k t a (halt h) b)
no_level stop.Memory w k t a some deep p = tt
no_level stop.Halted w k t a some deep p = ends_as p.0 p.1 (at_depth some deep)

-- a block with no items
pub block_none : {k : ℕ} (xs : List Code) (a : At) → length xs ≡ 0 → Block k (trees_of_codes xs) a (value null) a
block_none [] a none = in_block items_none
block_none (x ∷ xs) a none = absurd (omega (arith, none))
