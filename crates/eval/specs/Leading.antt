-- What a call leads to.
use Rattle.std.specs.Prelude.{◌≡◌, ℕ}
use Rattle.kernele.specs.Tree.{Name, Trees}
use Rattle.values.specs.Data.{Val}
use Rattle.eval_rules.specs.At.{At}
use Rattle.eval_rules.specs.Outcomes.{Gather}
use Rattle.eval_rules.specs.Rules.{Args, Target, target_of, called}

-- at level k, a call's arguments are evaluated, and then it leads to this target, behind what it reads for it
pub record Leads (k : ℕ) (ts : Trees) (v : Val) (verb : Name) (a : At) (m : Target) (b : At) : Type 0 where
  pub gather : Gather
  pub behind : At
  pub args : Args k ts a gather behind
  pub target : m ≡ target_of v verb gather behind
  pub place : b ≡ called v verb gather behind
