-- The tickets that are out.
use Rattle.std.specs.Prelude.{ℕ, ◌==◌, Bool, not, cond, List, [], ◌∷◌, filter, Option, Some, None}
use Rattle.std.specs.List.{list_any}
use Rattle.ids.specs.declared.names.EventName.{EventName}
use Rattle.ids.specs.declared.names.VatNo.{VatNo}
use Rattle.ids.specs.declared.names.MsgId.{MsgId}

-- a ticket that is out: the event that its turn will be, its message, the vat, the budget, and the seat
pub record Lent : Type 0 where
  pub number : EventName
  pub message : MsgId
  pub vat : VatNo
  pub budget : ℕ
  pub seat : ℕ

-- a ticket of this number is out
abbrev pub is_out : EventName → List Lent → Bool
is_out e out = list_any (λ t. t.number.0 == e.0) out

-- a ticket of this vat is out
abbrev pub has_vat : VatNo → List Lent → Bool
has_vat v out = list_any (λ t. t.vat.0.0 == v.0.0) out

-- the tickets that are out but those of a number
abbrev pub without : EventName → List Lent → List Lent
without e out = filter (λ t. not (t.number.0 == e.0)) out

-- the ticket of a number that is out, if one is
abbrev pub lent_at : EventName → List Lent → Option Lent
lent_at e [] = None
lent_at e (t ∷ out) = cond (t.number.0 == e.0) (Some t) (lent_at e out)
