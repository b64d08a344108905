-- How an evaluation ends.
use Rattle.std.specs.Prelude.{codes}
use Rattle.ids.specs.declared.names.EjId.{EjId}
use Rattle.kernele.specs.Tree.{Name}
use Rattle.values.specs.Data.{Val, Vals, Reply, gives, throws}

-- why a turn is abandoned
pub data Cause : Type 0 where
  budget_spent : Cause
  too_deep : Cause
  too_large : Cause

-- the problem that an abandoned turn leaves
abbrev pub reason : Cause → Name
reason budget_spent = codes "turn budget spent"
reason too_deep = codes "calls too deep"
reason too_large = codes "turn too large"

-- why there is no value: a problem was thrown, an ejector was given a value, or the turn is abandoned
pub data Halt : Type 0 where
  thrown : (problem : Name) → Halt
  ejected : (j : EjId) → (v : Val) → Halt
  abandoned : (why : Cause) → Halt

-- how a tree ends
pub data End : Type 0 where
  value : (v : Val) → End
  halt : (h : Halt) → End

-- how trees in order end
pub data Gather : Type 0 where
  values : (vs : Vals) → Gather
  halted : (h : Halt) → Gather

-- an answer of data, as an end
abbrev pub reply_end : Reply → End
reply_end (gives v) = value v
reply_end (throws problem) = halt (thrown problem)
