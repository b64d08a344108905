-- Where messages are behind something, and when two such places are the same.
use Rattle.std.specs.Prelude.{Bool, false, ◌&&◌}
use Rattle.std.specs.Ordering.{is_eq}
use Rattle.ids.specs.Cells.{vat_cmp, message_cmp, promise_cmp}
use Rattle.ids.specs.References.{same_reference}
use Rattle.ids.specs.declared.names.VatNo.{VatNo}
use Rattle.ids.specs.declared.names.MsgId.{MsgId}
use Rattle.ids.specs.declared.names.PromId.{PromId}
use Rattle.ids.specs.declared.reference.Reference.{Reference}

-- what a reference travels in: the arguments of a message, or what a promise was published as
pub data Carrier : Type 0 where
  argument : (m : MsgId) → Carrier
  published : (p : PromId) → Carrier

-- a reference at a vat, a reference that left in a carrier, and what a message was sent after
pub data Place : Type 0 where
  fence_at : (v : VatNo) → (r : Reference) → Place
  carried : (c : Carrier) → (r : Reference) → Place
  sent_after : (m : MsgId) → Place

abbrev pub same_vat : VatNo → VatNo → Bool
same_vat v w = is_eq (vat_cmp v w)

abbrev pub same_message : MsgId → MsgId → Bool
same_message m n = is_eq (message_cmp m n)

abbrev pub same_carrier : Carrier → Carrier → Bool
same_carrier (argument m) (argument n) = same_message m n
same_carrier (published p) (published q) = is_eq (promise_cmp p q)
same_carrier _ _ = false

abbrev pub same_place : Place → Place → Bool
same_place (fence_at v r) (fence_at w t) = same_vat v w && same_reference r t
same_place (carried c r) (carried d t) = same_carrier c d && same_reference r t
same_place (sent_after m) (sent_after n) = same_message m n
same_place _ _ = false
