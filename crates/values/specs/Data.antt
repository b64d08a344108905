-- Values as plain data: no pointers, no capacities.
use Rattle.std.specs.Prelude.{ℕ, ℤ, Bool, List}
use Rattle.ids.specs.declared.names.ObjId.{ObjId}
use Rattle.ids.specs.declared.names.EjId.{EjId}
use Rattle.ids.specs.declared.names.PromId.{PromId}

mutual
  pub data Val : Type 0 where
    null : Val
    bool : (b : Bool) → Val
    int : (z : ℤ) → Val
    text : (s : List ℕ) → Val
    list : (vs : Vals) → Val
    object : (o : ObjId) → Val
    ejector : (j : EjId) → Val
    promise : (p : PromId) → Val
    broken : (problem : List ℕ) → Val
    deriving IsSet as Val-set

  -- items of a list, or arguments
  pub data Vals : Type 0 where
    no_vals : Vals
    and_val : (v : Val) → (vs : Vals) → Vals
    deriving IsSet as Vals-set

-- what a verb of data leads to: a value, or a problem that is thrown
pub data Reply : Type 0 where
  gives : (v : Val) → Reply
  throws : (problem : List ℕ) → Reply
