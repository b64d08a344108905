-- How names are written.
use Rattle.std.specs.Prelude.{ℕ, List, ◌++◌, codes}
use Rattle.std.specs.Fmt.{decimal}
use Rattle.ids.specs.declared.names.EventName.{EventName}
use Rattle.ids.specs.declared.names.MsgId.{MsgId}
use Rattle.ids.specs.declared.names.PromId.{PromId}
use Rattle.ids.specs.declared.names.SlotId.{SlotId}
use Rattle.ids.specs.declared.names.ObjId.{ObjId}
use Rattle.ids.specs.declared.names.EjId.{EjId}
use Rattle.ids.specs.declared.reference.Reference.{Reference}
use Rattle.ids.specs.declared.reference.Reference.TheVariants as reference

-- e4
abbrev pub event_text : EventName → List ℕ
event_text e = codes "e" ++ decimal e.0

-- e4.m0
abbrev pub message_text : MsgId → List ℕ
message_text m = event_text m.event ++ codes ".m" ++ decimal m.index

-- e4.p0
abbrev pub promise_text : PromId → List ℕ
promise_text p = event_text p.event ++ codes ".p" ++ decimal p.index

-- e2.s0
abbrev pub slot_text : SlotId → List ℕ
slot_text s = event_text s.event ++ codes ".s" ++ decimal s.index

-- e2.o0
abbrev pub object_text : ObjId → List ℕ
object_text o = event_text o.event ++ codes ".o" ++ decimal o.index

-- e2.j0
abbrev pub ejector_text : EjId → List ℕ
ejector_text j = event_text j.event ++ codes ".j" ++ decimal j.index

-- e8.p1, e2.o0 or e2.j0
abbrev pub reference_text : Reference → List ℕ
reference_text (reference.Promise p) = promise_text p
reference_text (reference.Object i) = object_text i
reference_text (reference.Ejector j) = ejector_text j
