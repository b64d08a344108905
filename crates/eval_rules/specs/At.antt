-- Where an evaluation stands.
use Rattle.std.specs.Prelude.{ℕ, Bool, List}
use Rattle.ids.specs.declared.names.EventName.{EventName}
use Rattle.ids.specs.declared.names.VatNo.{VatNo}
use Rattle.ids.specs.declared.names.EjId.{EjId}
use Rattle.heap.specs.State.{Nouns, State, Cells}
use Rattle.eval_rules.specs.Outbox.{Outbox}

-- where an evaluation stands: the names of the scopes entered so far, whether the innermost scope is the script's own,
-- the state, the steps left, the turn's event, its vat and the state that it began with, how many slots, objects and ejectors the turn has made,
-- the ejectors whose Escape is being evaluated, the newest first,
-- the cells of the vat that the turn has read or written so far, those of them that it has written,
-- and what the turn has made beside: messages, promises, what it published
pub record At : Type 0 where
  pub nouns : Nouns
  pub own_scope : Bool
  pub state : State
  pub left : ℕ
  pub event : EventName
  pub vat : VatNo
  pub began : State
  pub slots : ℕ
  pub objects : ℕ
  pub ejectors : ℕ
  pub opened : List EjId
  pub touched : Cells
  pub written : Cells
  pub out : Outbox
