-- What the program's states stand for.
use Rattle.std.specs.Prelude.{Bool, Option, List, [], ◌∷◌, nat_eq}
use Rattle.std.specs.Option.{option_map}
use Rattle.std.specs.Ordering.{nat_cmp}
use Rattle.std.specs.Cmp.Lexicographic.{slice_cmp, pointwise}
use Rattle.std.specs.BTreeMap.{BTreeMap, get}
use Rattle.ids.specs.KeyLaws.{same_three}
use Rattle.cells.specs.Seen.{Seen, seen}
use Rattle.ids.specs.Cells.{slot_cmp, object_cmp, promise_cmp}
use Rattle.ids.specs.declared.names.SlotId.{SlotId}
use Rattle.ids.specs.declared.names.ObjId.{ObjId}
use Rattle.ids.specs.declared.names.PromId.{PromId}
use Rattle.ids.specs.declared.names.MsgId.{MsgId}
use Rattle.ids.specs.declared.reference.Reference.{Reference}
use Rattle.ids.specs.contracts.reference.ReferencePartialEq.TheImpl as reference_test
use Rattle.ids.specs.contracts.reference.ReferenceOrd.TheImpl as reference_order
use Rattle.kernele.specs.Tree.{Name}
use Rattle.code.specs.View.{methods_of_codes}
use Rattle.values.specs.declared.value.Value.{Value}
use Rattle.values.specs.View.{val_of}
use Rattle.heap.specs.State.{Bind, fixed, slot, Nouns, Plain, Object, plain, resolver, View, pending, resolved, Cell, top, slot_cell, object_cell, view_cell, fence_cell, Content, bound, held, made, viewed, fenced, State}
use Rattle.heap.specs.declared.state.VatState.{VatState}
use Rattle.heap.specs.declared.state.Binding.{Binding}
use Rattle.heap.specs.declared.state.Binding.TheVariants as binding
use Rattle.heap.specs.declared.state.Noun.{Noun}
use Rattle.heap.specs.declared.state.View.{View as Known}
use Rattle.heap.specs.declared.state.View.TheVariants as known
use Rattle.heap.specs.declared.made.Plain.{Plain as Defined}
use Rattle.heap.specs.declared.made.Made.{Made}
use Rattle.heap.specs.declared.made.Made.TheVariants as made_of

abbrev pub bind_of : Binding → Bind
bind_of (binding.Fixed v) = fixed (val_of v)
bind_of (binding.Slot i) = slot i

-- names, the newest first: the program pushes the newest at the end
abbrev pub nouns_after : Nouns → List Noun → Nouns
nouns_after ns [] = ns
nouns_after ns (n ∷ rest) = nouns_after ((n.name, bind_of n.binding) ∷ ns) rest

abbrev pub nouns_of : List Noun → Nouns
nouns_of items = nouns_after [] items

-- an object that a definition made
abbrev pub plain_of : Defined → Plain
plain_of m = record { own = m.own; captured = nouns_of m.captured.value.items; methods = methods_of_codes m.methods.value.items }

-- what an object is
abbrev pub object_of : Made → Object
object_of (made_of.Plain m) = plain (plain_of m)
object_of (made_of.Resolver p) = resolver p

-- what is known of a promise
abbrev pub view_of : Known → View
view_of known.Open = pending
view_of (known.Resolved v) = resolved (val_of v)

-- what the cells of top nouns hold, those of slots, those of objects, those of views, and those of fences
abbrev pub tops_of : BTreeMap Name Binding → Name → Option Content
tops_of nouns x = option_map (λ b. bound (bind_of b)) (get (slice_cmp nat_cmp) nouns x)

abbrev pub slots_of : BTreeMap SlotId Value → SlotId → Option Content
slots_of slots i = option_map (λ v. held (val_of v)) (get slot_cmp slots i)

abbrev pub objects_of : BTreeMap ObjId Made → ObjId → Option Content
objects_of objects i = option_map (λ m. made (object_of m)) (get object_cmp objects i)

abbrev pub views_of : BTreeMap PromId Known → PromId → Option Content
views_of views p = option_map (λ k. viewed (view_of k)) (get promise_cmp views p)

abbrev pub fences_of : BTreeMap Reference (List MsgId) → Reference → Option Content
fences_of fences r = option_map fenced (get (reference_order.ghosts).cmp fences r)

-- whether two keys are the same, as the program tests it
abbrev pub same_name : Name → Name → Bool
same_name x y = pointwise nat_eq x y

abbrev pub same_slot : SlotId → SlotId → Bool
same_slot i j = same_three i.event.0 j.event.0 i.index j.index i.vat.0.0 j.vat.0.0

abbrev pub same_object : ObjId → ObjId → Bool
same_object i j = same_three i.event.0 j.event.0 i.index j.index i.vat.0.0 j.vat.0.0

abbrev pub same_promise : PromId → PromId → Bool
same_promise p q = same_three p.event.0 q.event.0 p.index q.index p.home.0.0 q.home.0.0

abbrev pub same_target : Reference → Reference → Bool
same_target r t = (reference_test.ghosts).eq r t

-- a content and its last writer, where the content stands for this
abbrev pub told : {V C : Type 0} → (V → C) → Seen V → Seen C
told f x = (option_map f x.0, x.1)

-- what a vat's cells hold, and who wrote them last
abbrev pub seen_in : VatState → Cell → Seen Content
seen_in s (top x) = told (λ b. bound (bind_of b)) (seen same_name s.tops x)
seen_in s (slot_cell i) = told (λ v. held (val_of v)) (seen same_slot s.slots i)
seen_in s (object_cell i) = told (λ m. made (object_of m)) (seen same_object s.objects i)
seen_in s (view_cell p) = told (λ k. viewed (view_of k)) (seen same_promise s.views p)
seen_in s (fence_cell r) = told fenced (seen same_target s.fences r)

-- a vat's state
abbrev pub state_of : VatState → State
state_of s c = (seen_in s c).0
