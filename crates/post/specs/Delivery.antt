-- What is delivered.
use Rattle.std.specs.Prelude.{List, Option}
use Rattle.kernele.specs.Tree.{Name, Trees}
use Rattle.kernele.specs.declared.tree.Pattern.{Pattern}
use Rattle.values.specs.Data.{Val, Vals}
use Rattle.heap.specs.State.{Nouns}
use Rattle.eorder.specs.Carried.{Carried}
use Rattle.post.specs.declared.earlier.Earlier.{Earlier}

-- a call that was sent: its target, its verb and its arguments, and the fences that travel with the references in these
pub record Call : Type 0 where
  pub target : Val
  pub verb : Name
  pub arguments : Vals
  pub fences : Carried
  deriving IsSet as Call-set

-- what a problem is bound to, and the block that it runs
pub record Handler : Type 0 where
  pub pattern : Pattern
  pub block : Trees
  deriving IsSet as Handler-set

-- a `when`: the value as it was, not settled, what the names stand for that it captured, the newest first, the block that runs
-- when more is known of the value, and the handler for a problem, if it has one
pub record When : Type 0 where
  pub value : Val
  pub captured : Nouns
  pub block : Trees
  pub handler : Option Handler
  deriving IsSet as When-set

-- what is delivered: the vat's script, in which the earlier vats have names, a program that is asked of it, a call that was
-- sent, or a `when` of the vat itself
pub data Delivery : Type 0 where
  opening : (earlier : List Earlier) → (program : Trees) → Delivery
  asked : (program : Trees) → Delivery
  sent : (call : Call) → Delivery
  waiting : (block : When) → Delivery
  deriving IsSet as Delivery-set
