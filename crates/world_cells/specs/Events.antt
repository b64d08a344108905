-- What happens.
use Rattle.std.specs.Prelude.{ℕ, List}
use Rattle.kernele.specs.Tree.{Name, Trees}
use Rattle.ids.specs.declared.names.EventName.{EventName}
use Rattle.ids.specs.declared.names.VatNo.{VatNo}
use Rattle.ids.specs.declared.names.MsgId.{MsgId}
use Rattle.ids.specs.declared.names.PromId.{PromId}
use Rattle.eval_rules.specs.Outbox.{Note}

-- what happens: a vat is born, whose script knows earlier vats by their names; a program is asked of a vat; a message arrives at
-- the vat to which it flies; a message goes on to the vat to which its target leads; a vat learns what a promise was published
-- as; a vat runs a message with a budget of steps
pub data Act : Type 0 where
  birth : (x : Name) → (earlier : List Name) → (script : Trees) → Act
  ask : (x : Name) → (program : Trees) → Act
  arrive : (m : MsgId) → Act
  forward : (m : MsgId) → Act
  learn : (v : VatNo) → (p : PromId) → Act
  turn : (v : VatNo) → (m : MsgId) → (budget : ℕ) → Act

pub record Event : Type 0 where
  pub name : EventName
  pub act : Act

-- an event together with the notes for the log that it made
pub record Noted : Type 0 where
  pub name : EventName
  pub act : Act
  pub notes : List Note

-- the event alone
abbrev pub event_in : Noted → Event
event_in n = record { name = n.name; act = n.act }

abbrev pub with_notes : Event → List Note → Noted
with_notes e notes = record { name = e.name; act = e.act; notes = notes }
