-- Kinds of cells: what is known of the cells of one kind makes no difference to those of another.
use Rattle.std.proofs.Common.{◌≡◌, Option, Some, None, Bool, true, false, cond, is_some, refl, ap, ◌∙◌}
use Rattle.std.specs.Option.{option_map}
use Rattle.ids.proofs.CellKeys.{slots_agree, objects_agree, promises_agree, references_agree}
use Rattle.cells.specs.Touches.{touch}
use Rattle.cells.specs.declared.touches.Touch.{Touch}
use Rattle.cells.specs.declared.touches.Touches.{Touches}
use Rattle.values.specs.View.{val_of}
use Rattle.heap.specs.State.{Content, Cell, top, slot_cell, object_cell, view_cell, fence_cell, bound, held, made, viewed, fenced, State, also, write, same_cell}
use Rattle.heap.specs.View.{bind_of, object_of, view_of, same_name, same_slot, same_object, same_promise, same_target}
use Rattle.heap.specs.Found.{touch_of, touch_in, touched_in, writes_in, over_state, Found}
use Rattle.heap.specs.declared.state.View.{View}
use Rattle.heap.specs.declared.reach.Footprint.{Footprint}
use Rattle.heap.proofs.Reaching.{touched_more, state_written, writes_more, still_found, state_read, writes_read, state_same, writes_same, found_same, some_is, none_is}

-- what is known of a cell where this was found and this was written
abbrev pub known_so : {V : Type 0} → Option V → Option V → Touch V
known_so found written = record { found = found; written = written }

-- in these touches one key is known so, and all others as in those
abbrev pub OneMore : {K V : Type 0} → (K → K → Bool) → Touches K V → Touches K V → K → Touch V → Type 0
OneMore {K = K} eq ts us k t = (q : K) → touch eq us q ≡ cond (eq k q) (Some t) (touch eq ts q)

-- in these touches each key is known as in those
abbrev pub AllSame : {K V : Type 0} → (K → K → Bool) → Touches K V → Touches K V → Type 0
AllSame {K = K} eq ts us = (q : K) → touch eq us q ≡ touch eq ts q

module _ {K V : Type 0} (eq : K → K → Bool) (f : V → Content) (cell : K → Cell) (r : Footprint) (ts : Touches K V) (put : Touches K V → Footprint) where
  -- one cell of this kind is known so, and no other cell otherwise
  abbrev TellsMore : Type 0
  TellsMore = (us : Touches K V) (k : K) (t : Touch V) → OneMore eq ts us k t → (c : Cell) → touch_in (put us) c ≡ cond (same_cell (cell k) c) (touch_of f (Some t)) (touch_in r c)

  -- no cell is known otherwise
  abbrev TellsSame : Type 0
  TellsSame = (us : Touches K V) → AllSame eq ts us → (c : Cell) → touch_in (put us) c ≡ touch_in r c

  -- a kind of cell: these touches of a footprint, which others may replace, tell of these cells and of no others
  pub record IsKind : Type 0 where
    pub its : (k : K) → touch_in r (cell k) ≡ touch_of f (touch eq ts k)
    pub more : TellsMore
    pub same : TellsSame

here : {K V : Type 0} (f : V → Content) (eq : K → K → Bool) (ts us : Touches K V) (k q : K) (t : Touch V) (b : Bool) → touch eq us q ≡ cond (eq k q) (Some t) (touch eq ts q) → eq k q ≡ b
    → touch_of f (touch eq us q) ≡ cond b (touch_of f (Some t)) (touch_of f (touch eq ts q))
here f eq ts us k q t b h e = ap (touch_of f) h ∙ one (eq k q) (touch eq ts q) ∙ ap (λ b. cond b (touch_of f (Some t)) (touch_of f (touch eq ts q))) e
  where
    one : (b : Bool) (o : Option (Touch _)) → touch_of f (cond b (Some t) o) ≡ cond b (touch_of f (Some t)) (touch_of f o)
    one true o = refl
    one false o = refl

module _ (r : Footprint) where
  tops_more : TellsMore same_name (λ b. bound (bind_of b)) top r r.tops (λ us. record r { tops = us })
  tops_more us k t h (top q) = here (λ b. bound (bind_of b)) same_name r.tops us k q t (same_cell (top k) (top q)) (h q) refl
  tops_more us k t h _ = refl

  tops_same : TellsSame same_name (λ b. bound (bind_of b)) top r r.tops (λ us. record r { tops = us })
  tops_same us h (top q) = ap (touch_of (λ b. bound (bind_of b))) (h q)
  tops_same us h _ = refl

  pub tops_kind : IsKind same_name (λ b. bound (bind_of b)) top r r.tops (λ us. record r { tops = us })
  tops_kind = record { its = λ k. refl; more = tops_more; same = tops_same }

  slots_more : TellsMore same_slot (λ v. held (val_of v)) slot_cell r r.slots (λ us. record r { slots = us })
  slots_more us k t h (slot_cell q) = here (λ v. held (val_of v)) same_slot r.slots us k q t (same_cell (slot_cell k) (slot_cell q)) (h q) (slots_agree k q)
  slots_more us k t h _ = refl

  slots_same : TellsSame same_slot (λ v. held (val_of v)) slot_cell r r.slots (λ us. record r { slots = us })
  slots_same us h (slot_cell q) = ap (touch_of (λ v. held (val_of v))) (h q)
  slots_same us h _ = refl

  pub slots_kind : IsKind same_slot (λ v. held (val_of v)) slot_cell r r.slots (λ us. record r { slots = us })
  slots_kind = record { its = λ k. refl; more = slots_more; same = slots_same }

  objects_more : TellsMore same_object (λ m. made (object_of m)) object_cell r r.objects (λ us. record r { objects = us })
  objects_more us k t h (object_cell q) = here (λ m. made (object_of m)) same_object r.objects us k q t (same_cell (object_cell k) (object_cell q)) (h q) (objects_agree k q)
  objects_more us k t h _ = refl

  objects_same : TellsSame same_object (λ m. made (object_of m)) object_cell r r.objects (λ us. record r { objects = us })
  objects_same us h (object_cell q) = ap (touch_of (λ m. made (object_of m))) (h q)
  objects_same us h _ = refl

  pub objects_kind : IsKind same_object (λ m. made (object_of m)) object_cell r r.objects (λ us. record r { objects = us })
  objects_kind = record { its = λ k. refl; more = objects_more; same = objects_same }

  views_more : TellsMore same_promise (λ k. viewed (view_of k)) view_cell r r.views (λ us. record r { views = us })
  views_more us k t h (view_cell q) = here (λ k. viewed (view_of k)) same_promise r.views us k q t (same_cell (view_cell k) (view_cell q)) (h q) (promises_agree k q)
  views_more us k t h _ = refl

  views_same : TellsSame same_promise (λ k. viewed (view_of k)) view_cell r r.views (λ us. record r { views = us })
  views_same us h (view_cell q) = ap (touch_of (λ k. viewed (view_of k))) (h q)
  views_same us h _ = refl

  pub views_kind : IsKind same_promise (λ k. viewed (view_of k)) view_cell r r.views (λ us. record r { views = us })
  views_kind = record { its = λ k. refl; more = views_more; same = views_same }

  fences_more : TellsMore same_target fenced fence_cell r r.fences (λ us. record r { fences = us })
  fences_more us k t h (fence_cell q) = here fenced same_target r.fences us k q t (same_cell (fence_cell k) (fence_cell q)) (h q) (references_agree k q)
  fences_more us k t h _ = refl

  fences_same : TellsSame same_target fenced fence_cell r r.fences (λ us. record r { fences = us })
  fences_same us h (fence_cell q) = ap (touch_of fenced) (h q)
  fences_same us h _ = refl

  pub fences_kind : IsKind same_target fenced fence_cell r r.fences (λ us. record r { fences = us })
  fences_kind = record { its = λ k. refl; more = fences_more; same = fences_same }

-- a cell is touched that was not touched before
pub record Reached (old new : Footprint) (k : Cell) (s : State) : Type 0 where
  pub found : Found old s → Found new s
  pub state : over_state new s ≡ over_state old s
  pub touched : touched_in new ≡ also k (touched_in old)
  pub written : writes_in new ≡ writes_in old

-- a cell is written
pub record Written (old new : Footprint) (k : Cell) (x : Content) (s : State) : Type 0 where
  pub found : Found old s → Found new s
  pub state : over_state new s ≡ write (over_state old s) k x
  pub touched : touched_in new ≡ also k (touched_in old)
  pub written : writes_in new ≡ write (writes_in old) k x

-- no cell is touched
pub record Untouched (old new : Footprint) (s : State) : Type 0 where
  pub found : Found old s → Found new s
  pub state : over_state new s ≡ over_state old s
  pub written : writes_in new ≡ writes_in old
  pub cells : (c : Cell) → touch_in new c ≡ touch_in old c

module _ {K V : Type 0} {eq : K → K → Bool} {f : V → Content} {cell : K → Cell} {r : Footprint} {ts : Touches K V} {put : Touches K V → Footprint} (kind : IsKind eq f cell r ts put) (s : State) where
  pub untouched : (us : Touches K V) → AllSame eq ts us → Untouched r (put us) s
  untouched us h =
      let is = kind.same us h in
      record { found = found_same (touch_in r) (touch_in (put us)) is s; state = state_same (touch_in r) (touch_in (put us)) is s; written = writes_same (touch_in r) (touch_in (put us)) is; cells = is }

  pub reached : (us : Touches K V) (k : K) (v : Option V) → is_some (touch eq ts k) ≡ false → OneMore eq ts us k (known_so v None) → option_map f v ≡ s (cell k) → Reached r (put us) (cell k) s
  reached us k v untold h is =
      let more = kind.more us k (known_so v None) h in
      let none : touch_in r (cell k) ≡ None = kind.its k ∙ ap (touch_of f) (none_is (touch eq ts k) untold) in
      let t : Touch Content = known_so (option_map f v) None in
      record {
        found = still_found (touch_in r) (touch_in (put us)) (cell k) t more s is;
        state = state_read (touch_in r) (touch_in (put us)) (cell k) t more none s is refl;
        touched = touched_more (touch_in r) (touch_in (put us)) (cell k) t more;
        written = writes_read (touch_in r) (touch_in (put us)) (cell k) t more none s is refl;
      }

  -- a cell that was touched before is written
  pub written_again : (us : Touches K V) (k : K) (v : V) → is_some (touch eq ts k) ≡ true → ((q : K) (t : Touch V) → touch eq ts k ≡ Some t → touch eq us q ≡ cond (eq k q) (Some (known_so t.found (Some v))) (touch eq ts q)) → Written r (put us) (cell k) (f v) s
  written_again us k v told h =
      let before = some_is (touch eq ts k) told in
      let more = kind.more us k (known_so before.0.found (Some v)) (λ q. h q before.0 before.1) in
      let t : Touch Content = known_so (option_map f before.0.found) (Some (f v)) in
      let was : Touch Content = known_so (option_map f before.0.found) (option_map f before.0.written) in
      record {
        found = λ g. still_found (touch_in r) (touch_in (put us)) (cell k) t more s (g (cell k) was (kind.its k ∙ ap (touch_of f) before.1)) g;
        state = state_written (touch_in r) (touch_in (put us)) (cell k) t more s (f v) refl;
        touched = touched_more (touch_in r) (touch_in (put us)) (cell k) t more;
        written = writes_more (touch_in r) (touch_in (put us)) (cell k) t more (f v) refl;
      }

  -- a cell is written whose content is looked up for it: the value came back from touches that stayed the same
  pub written_first : (mid us : Touches K V) (k : K) (v back : V) (found : Option V) → AllSame eq ts mid → back ≡ v → OneMore eq mid us k (known_so found (Some back)) → option_map f found ≡ s (cell k) → Written r (put us) (cell k) (f v) s
  written_first mid us k v back found same b h is =
      let more = kind.more us k (known_so found (Some back)) (λ q. h q ∙ ap (λ o. cond (eq k q) (Some (known_so found (Some back))) o) (same q)) in
      let t : Touch Content = known_so (option_map f found) (Some (f back)) in
      let wrote : Some (f back) ≡ Some (f v) = ap (λ x. Some (f x)) b in
      record {
        found = still_found (touch_in r) (touch_in (put us)) (cell k) t more s is;
        state = state_written (touch_in r) (touch_in (put us)) (cell k) t more s (f v) wrote;
        touched = touched_more (touch_in r) (touch_in (put us)) (cell k) t more;
        written = writes_more (touch_in r) (touch_in (put us)) (cell k) t more (f v) wrote;
      }
