-- The orders of names.
use Rattle.std.specs.Ordering.{nat_cmp, ordering_then}
use Rattle.std.specs.declared.cmp.Ordering.{Ordering}
use Rattle.ids.specs.declared.names.VatNo.{VatNo}
use Rattle.ids.specs.declared.names.MsgId.{MsgId}
use Rattle.ids.specs.declared.names.PromId.{PromId}
use Rattle.ids.specs.declared.names.SlotId.{SlotId}
use Rattle.ids.specs.declared.names.ObjId.{ObjId}
use Rattle.ids.specs.declared.names.EjId.{EjId}

-- by event
abbrev pub vat_cmp : VatNo → VatNo → Ordering
vat_cmp v w = nat_cmp v.0.0 w.0.0

-- by event, then by number
abbrev pub message_cmp : MsgId → MsgId → Ordering
message_cmp m n = ordering_then (nat_cmp m.event.0 n.event.0) (nat_cmp m.index n.index)

-- by event, then by number, then by home
abbrev pub promise_cmp : PromId → PromId → Ordering
promise_cmp p q = ordering_then (nat_cmp p.event.0 q.event.0) (ordering_then (nat_cmp p.index q.index) (vat_cmp p.home q.home))

-- by event, then by number, then by vat
abbrev pub slot_cmp : SlotId → SlotId → Ordering
slot_cmp s t = ordering_then (nat_cmp s.event.0 t.event.0) (ordering_then (nat_cmp s.index t.index) (vat_cmp s.vat t.vat))

-- by event, then by number, then by vat
abbrev pub object_cmp : ObjId → ObjId → Ordering
object_cmp o p = ordering_then (nat_cmp o.event.0 p.event.0) (ordering_then (nat_cmp o.index p.index) (vat_cmp o.vat p.vat))

-- by event, then by number, then by vat
abbrev pub ejector_cmp : EjId → EjId → Ordering
ejector_cmp j k = ordering_then (nat_cmp j.event.0 k.event.0) (ordering_then (nat_cmp j.index k.index) (vat_cmp j.vat k.vat))
