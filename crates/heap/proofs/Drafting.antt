-- What a draft holds where its turn has written.
use Rattle.std.proofs.Common.{◌≡◌, ◌<◌, ◌&&◌, ◌||◌, ℕ, zero, suc, Bool, true, false, ltb, List, [], ◌∷◌, length, Some, is_some, refl, ap, ◌∙◌, arith}
use Rattle.std.specs.List.{slice_get}
use Rattle.ids.specs.declared.names.EventName.{EventName}
use Rattle.ids.specs.declared.names.ObjId.{ObjId}
use Rattle.ids.specs.declared.names.SlotId.{SlotId}
use Rattle.ids.specs.declared.names.VatNo.{VatNo}
use Rattle.values.specs.declared.value.Value.{Value}
use Rattle.heap.specs.declared.made.Made.{Made}
use Rattle.std.specs.Arc.{arc_value}
use Rattle.heap.specs.State.{Cell, Content, Cells, slot_cell, object_cell, also, write, same_cell}
use Rattle.heap.specs.View.{state_of}
use Rattle.heap.specs.Found.{touch_in, touched_in, writes_in, over_state}
use Rattle.heap.specs.Reaches.{state_in}
use Rattle.heap.specs.DraftView.{drafted}
use Rattle.heap.specs.Drafts.{is_of, own_item, draft_of, writes_of, touched_of, written_of, with_slots, with_objects, and_slots, and_objects, IsUnwritten}
use Rattle.heap.specs.declared.draft.Draft.TheInside.{Inside}
use Rattle.heap.specs.declared.reach.Reach.{Reach}
use Rattle.heap.specs.Drafted.{Drafted}
use Rattle.heap.proofs.Reaching.{also_there, stands_as_written, state_same, touched_same, writes_same}
use Rattle.heap.proofs.Overlaid.{own_there, holds_what_was_written, same_set, written_also, touched_beneath, others_pass}

pub draft_as_written : (d : Drafted) (c : Cell) (x : Content) → writes_of d c ≡ Some x → draft_of d c ≡ Some x
draft_as_written d c x h =
    holds_what_was_written d.event d.vat d.slots d.objects (writes_in d.footprint) (over_state d.footprint (state_of d.began))
    (λ c x e. stands_as_written (touch_in d.footprint c) (state_of d.began c) x e) c x h

-- where nothing more is known of any cell beneath, nothing more was touched or written
pub unwritten : (d : Inside) (new : Reach) → ((c : Cell) → touch_in new.footprint c ≡ touch_in d.base.footprint c) → new.state ≡ d.base.state → IsUnwritten (drafted d) (drafted (record d { base = new }))
unwritten d new is beneath = record {
  state = ap (λ s. with_objects d.event d.vat d.objects.items (with_slots d.event d.vat d.slots.items s))
      (ap (λ a. over_state new.footprint (state_of (arc_value a))) beneath ∙ state_same (touch_in d.base.footprint) (touch_in new.footprint) is (state_of (arc_value d.base.state)));
  touched = ap (λ q. and_objects d.event d.vat d.objects.items (and_slots d.event d.vat d.slots.items q)) (touched_same (touch_in d.base.footprint) (touch_in new.footprint) is);
  written = same_set _ _ (ap (λ s. with_objects d.event d.vat d.objects.items (with_slots d.event d.vat d.slots.items s)) (writes_same (touch_in d.base.footprint) (touch_in new.footprint) is));
}

-- only what stands beneath the turn's own has changed
module _ (d : Inside) (new : Reach) where
  pub state_kept : state_in new ≡ state_in d.base → draft_of (drafted (record d { base = new })) ≡ draft_of (drafted d)
  state_kept h = ap (λ s. with_objects d.event d.vat d.objects.items (with_slots d.event d.vat d.slots.items s)) h

  pub writes_kept : writes_in new.footprint ≡ writes_in d.base.footprint → written_of (drafted (record d { base = new })) ≡ written_of (drafted d)
  writes_kept h = same_set _ _ (ap (λ s. with_objects d.event d.vat d.objects.items (with_slots d.event d.vat d.slots.items s)) h)

  pub touches_kept : ((c : Cell) → touch_in new.footprint c ≡ touch_in d.base.footprint c) → touched_of (drafted (record d { base = new })) ≡ touched_of (drafted d)
  touches_kept h = ap (λ q. and_objects d.event d.vat d.objects.items (and_slots d.event d.vat d.slots.items q)) (touched_same (touch_in d.base.footprint) (touch_in new.footprint) h)

  pub one_touched : (k : Cell) → touched_in new.footprint ≡ also k (touched_in d.base.footprint) → touched_of (drafted (record d { base = new })) ≡ also k (touched_of (drafted d))
  one_touched k h = touched_beneath d.event d.vat d.slots.items d.objects.items (touched_in d.base.footprint) (touched_in new.footprint) k h

  -- a cell is written that is no slot and no object
  module _ (k : Cell) (x : Content) (no_slot : (i : SlotId) → same_cell k (slot_cell i) ≡ false) (no_object : (i : ObjId) → same_cell k (object_cell i) ≡ false) where
    pub other_state : state_in new ≡ write (state_in d.base) k x → draft_of (drafted (record d { base = new })) ≡ write (draft_of (drafted d)) k x
    other_state h = ap (λ s. with_objects d.event d.vat d.objects.items (with_slots d.event d.vat d.slots.items s)) h ∙ others_pass d.event d.vat d.slots.items d.objects.items (state_in d.base) k x no_slot no_object

    pub other_writes : writes_in new.footprint ≡ write (writes_in d.base.footprint) k x → written_of (drafted (record d { base = new })) ≡ also k (written_of (drafted d))
    other_writes h = written_also k x (writes_of (drafted d)) (writes_of (drafted (record d { base = new })))
        (ap (λ s. with_objects d.event d.vat d.objects.items (with_slots d.event d.vat d.slots.items s)) h ∙ others_pass d.event d.vat d.slots.items d.objects.items (writes_in d.base.footprint) k x no_slot no_object)

get_some : {X : Type 0} (xs : List X) (i : ℕ) → i < length xs → is_some (slice_get xs i) ≡ true
get_some [] i h = absurd (omega arith)
get_some (x ∷ xs) zero h = refl
get_some (x ∷ xs) (suc i) h = get_some xs i (omega arith)

own_some : {X : Type 0} (q : Bool) (xs : List X) (i n : ℕ) (r : Bool) → n ≡ length xs → r ≡ (q && ltb i n) → r ≡ true → is_some (own_item q xs i) ≡ true
own_some q xs i n r l t h = let there = own_there q i n r t h in ap (λ b. is_some (own_item b xs i)) there.0 ∙ get_some xs i (omega (arith, there.1, l))

-- what the turn has made is touched already
module _ (e : EventName) (v : VatNo) (xs : List Value) (os : List Made) (q : Cells) (n : ℕ) (r : Bool) where
  pub slot_reached : (i : SlotId) → n ≡ length xs → r ≡ (is_of e v i.event i.vat && ltb i.index n) → r ≡ true → and_objects e v os (and_slots e v xs q) ≡ also (slot_cell i) (and_objects e v os (and_slots e v xs q))
  slot_reached i l t h = also_there (slot_cell i) (and_objects e v os (and_slots e v xs q)) (ap (λ b. b || q (slot_cell i)) (own_some (is_of e v i.event i.vat) xs i.index n r l t h))

  pub object_reached : (i : ObjId) → n ≡ length os → r ≡ (is_of e v i.event i.vat && ltb i.index n) → r ≡ true → and_objects e v os (and_slots e v xs q) ≡ also (object_cell i) (and_objects e v os (and_slots e v xs q))
  object_reached i l t h = also_there (object_cell i) (and_objects e v os (and_slots e v xs q)) (ap (λ b. b || q (object_cell i)) (own_some (is_of e v i.event i.vat) os i.index n r l t h))
