-- A slot of the turn's own whose value a verb made longer.
use Rattle.std.proofs.Common.{◌≡◌, ℕ, List, length, get_or, set, Bool, true, false, Some, Result, Ok, Err, IfOk, sym, ap, ◌∙◌}
use Rattle.std.specs.Prelude.{◌&&◌, ◌||◌, ltb, is_some}
use Rattle.std.specs.declared.alloc.AllocError.{AllocError}
use Rattle.std.proofs.lemmas.List.{set-get_or}
use Rattle.std.proofs.lemmas.Option.{slice_get_read}
use Rattle.ids.specs.declared.names.SlotId.{SlotId}
use Rattle.values.specs.Data.{Val, no_vals, and_val}
use Rattle.values.specs.Growing.{Grown, adds_to}
use Rattle.values.specs.Replies.{data_reply, value_given}
use Rattle.values.specs.View.{val_of}
use Rattle.values.specs.declared.value.Value.{Value}
use Rattle.heap.specs.State.{slot_cell, held, read}
use Rattle.heap.specs.View.{state_of}
use Rattle.heap.specs.Found.{touched_in, writes_in, over_state}
use Rattle.heap.specs.Drafted.{Drafted}
use Rattle.heap.specs.Drafts.{is_of, own_item, draft_of, writes_of}
use Rattle.heap.specs.Growing.{SlotGrows, lengthens}
use Rattle.heap.proofs.Overlaid.{own_there, read_own, own_written, own_touched, written_also}

-- an own item is touched
own_is_touched : {X : Type 0} (q : Bool) (xs : List X) (i n : ℕ) (r : Bool) (x : X) (t : Bool) → n ≡ length xs → r ≡ (q && ltb i n) → r ≡ true → x ≡ get_or xs i x → (is_some (own_item q xs i) || t) ≡ true
own_is_touched q xs i n r x t l e h is =
    let there = own_there q i n r e h in
    ap (λ b. is_some (own_item b xs i) || t) there.0 ∙ ap (λ y. is_some y || t) (slice_get_read xs n i x l there.1 is)

-- the same item in its place
same_items : (xs : List Value) (i : ℕ) (x y : Value) → y ≡ get_or xs i y → x ≡ y → set xs i x ≡ xs
same_items xs i x y is e = ap (set xs i) (e ∙ is) ∙ set-get_or xs i y

-- what an own slot holds
own_content : (d : Drafted) (i : SlotId) (y : Value) (n : ℕ) (own : Bool) → n ≡ length d.slots → own ≡ (is_of d.event d.vat i.event i.vat && ltb i.index n) → own ≡ true → y ≡ get_or d.slots i.index y → Some (held (val_of y)) ≡ read (draft_of d) (slot_cell i)
own_content d i y n own l t h is = read_own (λ z. held (val_of z)) (is_of d.event d.vat i.event i.vat) d.slots i.index n own y (over_state d.footprint (state_of d.began) (slot_cell i)) l t h is

-- a turn's slots with this item in the place of what was there
pub own_grows : (r : Result Bool AllocError) (d : Drafted) (i : SlotId) (verb : List ℕ) (more : Val) (y x : Value) (n : ℕ) (own : Bool)
    → n ≡ length d.slots → own ≡ (is_of d.event d.vat i.event i.vat && ltb i.index n) → own ≡ true → y ≡ get_or d.slots i.index y
    → IfOk r (λ g. Grown g y (data_reply (val_of y) verb (and_val more no_vals)) x) → IfOk r (λ g. SlotGrows g i verb more d (record d { slots = set d.slots i.index x }))
own_grows (Ok true) d i verb more y x n own l t h is given = record {
  before = val_of y;
  after = val_of x;
  touched = own_is_touched (is_of d.event d.vat i.event i.vat) d.slots i.index n own y (touched_in d.footprint (slot_cell i)) l t h is;
  content = sym (own_content d i y n own l t h is);
  given = given;
  state = own_written d.event d.vat d.slots d.objects (over_state d.footprint (state_of d.began)) i x n own l t h;
  cells = own_touched d.event d.vat d.slots d.objects (touched_in d.footprint) i x n own l t h;
  written = written_also (slot_cell i) (held (val_of x)) (writes_of d) _ (own_written d.event d.vat d.slots d.objects (writes_in d.footprint) i x n own l t h);
}
own_grows (Ok false) d i verb more y x n own l t h is same = ap (λ xs. record d { slots = xs }) (same_items d.slots i.index x y is same)
own_grows (Err u) d i verb more y x n own l t h is given = tt

-- when it grows
pub own_when : (r : Result Bool AllocError) (d : Drafted) (i : SlotId) (verb : List ℕ) (more : Val) (y : Value) (n : ℕ) (own : Bool)
    → n ≡ length d.slots → own ≡ (is_of d.event d.vat i.event i.vat && ltb i.index n) → own ≡ true → y ≡ get_or d.slots i.index y
    → IfOk r (λ g. g ≡ (adds_to (val_of y) verb more && is_some (value_given (data_reply (val_of y) verb (and_val more no_vals)))))
    → IfOk r (λ g. g ≡ (is_of d.event d.vat i.event i.vat && ltb i.index (length d.slots) && lengthens verb more (read (draft_of d) (slot_cell i))))
own_when (Ok g) d i verb more y n own l t h is e =
    e ∙ ap (lengthens verb more) (own_content d i y n own l t h is)
    ∙ ap (λ b. b && lengthens verb more (read (draft_of d) (slot_cell i))) (sym h ∙ t ∙ ap (λ m. is_of d.event d.vat i.event i.vat && ltb i.index m) l)
own_when (Err u) d i verb more y n own l t h is e = tt
