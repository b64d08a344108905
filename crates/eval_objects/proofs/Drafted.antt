-- Where the program stands once its draft has changed.
use Rattle.std.proofs.Common.{◌≡◌, ◌+◌, ap, ◌∙◌}
use Rattle.std.specs.Prelude.{Result, Ok, Err, OnOk}
use Rattle.ids.specs.declared.names.SlotId.{SlotId}
use Rattle.ids.specs.declared.names.ObjId.{ObjId}
use Rattle.values.specs.Data.{Val}
use Rattle.heap.specs.State.{Plain, plain, Cell, slot_cell, object_cell, Content, held, made, State, write, Cells, also}
use Rattle.heap.specs.Drafts.{Counts}
use Rattle.eval_rules.specs.At.{At}
use Rattle.eval_rules.specs.Rules.{reached, put, slot_made, object_made}

-- the same place with another state, other counts, another beginning, and other cells touched and written
abbrev pub drafted : At → State → Counts → State → Cells → Cells → At
drafted a s n w p q = record a { began = w; state = s; event = n.event; vat = n.vat; slots = n.slots; objects = n.objects; touched = p; written = q }

abbrev pub counts_at : At → Counts
counts_at a = record { event = a.event; vat = a.vat; slots = a.slots; objects = a.objects }

-- a cell was read
pub drafted_reached : (c : Cell) (a : At) (s : State) (n : Counts) (w : State) (p q : Cells) → s ≡ a.state → n ≡ counts_at a → w ≡ a.began → p ≡ also c a.touched → q ≡ a.written → drafted a s n w p q ≡ reached c a
drafted_reached c a s n w p q is counts began touched written = λ k. drafted a (is k) (counts k) (began k) (touched k) (written k)

-- a cell was written
pub drafted_put : (c : Cell) (x : Content) (a : At) (s : State) (n : Counts) (w : State) (p q : Cells) → s ≡ write a.state c x → n ≡ counts_at a → w ≡ a.began → p ≡ also c a.touched → q ≡ also c a.written → drafted a s n w p q ≡ put c x a
drafted_put c x a s n w p q is counts began touched written = λ k. drafted a (is k) (counts k) (began k) (touched k) (written k)

-- the same where that is known of what was returned
pub reached_all : {T E : Type 0} (r : Result T E) (c : Cell) (a : At) (s : State) (n : Counts) (w : State) (p q : Cells) → s ≡ a.state → n ≡ counts_at a → w ≡ a.began → OnOk r (p ≡ also c a.touched) → q ≡ a.written → OnOk r (drafted a s n w p q ≡ reached c a)
reached_all (Ok u) c a s n w p q is counts began touched written = drafted_reached c a s n w p q is counts began touched written
reached_all (Err e) c a s n w p q is counts began touched written = tt

pub put_all : {T E : Type 0} (r : Result T E) (c : Cell) (x : Content) (a : At) (s : State) (n : Counts) (w : State) (p q : Cells) → OnOk r (s ≡ write a.state c x) → n ≡ counts_at a → w ≡ a.began → OnOk r (p ≡ also c a.touched) → OnOk r (q ≡ also c a.written) → OnOk r (drafted a s n w p q ≡ put c x a)
put_all (Ok u) c x a s n w p q is counts began touched written = drafted_put c x a s n w p q is counts began touched written
put_all (Err e) c x a s n w p q is counts began touched written = tt

-- a slot was made
pub drafted_slot : (a : At) (s : State) (n : Counts) (w : State) (p q : Cells) (i : SlotId) (v : Val) → i ≡ record { event = a.event; index = a.slots; vat = a.vat } → s ≡ write a.state (slot_cell i) (held v)
    → n ≡ record (counts_at a) { slots = a.slots + 1 } → w ≡ a.began → p ≡ also (slot_cell i) a.touched → q ≡ also (slot_cell i) a.written → drafted a s n w p q ≡ slot_made v a
drafted_slot a s n w p q i v named is counts began touched written =
    λ k. drafted a ((is ∙ ap (λ i. write a.state (slot_cell i) (held v)) named) k) (counts k) (began k) ((touched ∙ ap (λ i. also (slot_cell i) a.touched) named) k) ((written ∙ ap (λ i. also (slot_cell i) a.written) named) k)

-- an object was made
pub drafted_object : (a : At) (s : State) (n : Counts) (w : State) (p q : Cells) (i : ObjId) (o : Plain) → i ≡ record { event = a.event; index = a.objects; vat = a.vat } → s ≡ write a.state (object_cell i) (made (plain o))
    → n ≡ record (counts_at a) { objects = a.objects + 1 } → w ≡ a.began → p ≡ also (object_cell i) a.touched → q ≡ also (object_cell i) a.written → drafted a s n w p q ≡ object_made o a
drafted_object a s n w p q i o named is counts began touched written =
    λ k. drafted a ((is ∙ ap (λ i. write a.state (object_cell i) (made (plain o))) named) k) (counts k) (began k) ((touched ∙ ap (λ i. also (object_cell i) a.touched) named) k) ((written ∙ ap (λ i. also (object_cell i) a.written) named) k)
