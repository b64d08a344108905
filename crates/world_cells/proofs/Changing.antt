-- The states of all vats after that of one changed.
use Rattle.std.proofs.Common.{◌≡◌, Bool, true, false, cond, is_some, Option, Some, None, Result, Ok, Err, OnOk, OnErr, refl, sym, ap, ◌∙◌, subst}
use Rattle.std.proofs.lemmas.Bool.{and_parts, eq-eqb, false≢true}
use Rattle.cells.specs.Seen.{Seen}
use Rattle.ids.specs.CellKeys.{same_key}
use Rattle.ids.specs.Cells.{vat_cmp}
use Rattle.ids.specs.KeyLaws.{exact_vat}
use Rattle.ids.proofs.Keys.{equal, equal_self, exact_vats, exact_slots, exact_objects}
use Rattle.ids.specs.References.{same_reference}
use Rattle.ids.specs.Cells.{slot_cmp, object_cmp, promise_cmp}
use Rattle.std.specs.Option.{IsSome, option_map}
use Rattle.std.specs.Ordering.{is_eq}
use Rattle.std.specs.Str.{bytes_eq}
use Rattle.ids.specs.declared.names.VatNo.{VatNo}
use Rattle.ids.specs.declared.cells.CellKey.{CellKey}
use Rattle.ids.specs.declared.cells.CellKey.TheVariants as key
use Rattle.heap.specs.State.{Content, Cell, top, slot_cell, object_cell, view_cell, fence_cell, same_cell}
use Rattle.heap.specs.View.{seen_in, told}
use Rattle.heap.proofs.Cells.{cell_exact}
use Rattle.heap.specs.declared.state.VatState.{VatState}
use Rattle.world_cells.specs.World.{same_vat, lives_in, cell_key, content_of}
use Rattle.world_cells.specs.Homes.{state_in, seen_at, is_ready_in, is_ready_at}
use Rattle.world_cells.specs.HomesView.{seen_by, ready_by}
use Rattle.world_cells.specs.declared.home.Home.{Home}
use Rattle.world_cells.proofs.Cells.{told_one}

-- functions that are alike everywhere are one
pub ext : {A B : Type 0} (f g : A → B) → ((a : A) → f a ≡ g a) → f ≡ g
ext f g h j a = h a j

pub vat_self : (v : VatNo) → same_vat v v ≡ true
vat_self v = eq-eqb v.0.0 v.0.0 refl

-- ---- keys of cells of vats

same_keys : (v w : VatNo) (c d : Cell) → same_vat v w ≡ true → same_key (cell_key v c) (cell_key w d) ≡ same_cell c d
same_keys v w (top x) (top y) h = subst (λ u. same_key (key.Top v x) (key.Top u y) ≡ bytes_eq x y) (exact_vat v w h) (rw (equal_self v.0.0) refl)
same_keys v w (view_cell p) (view_cell q) h = subst (λ u. same_key (key.View v p) (key.View u q) ≡ is_eq (promise_cmp p q)) (exact_vat v w h) (rw (equal_self v.0.0) refl)
same_keys v w (fence_cell r) (fence_cell t) h = subst (λ u. same_key (key.Fence v r) (key.Fence u t) ≡ same_reference r t) (exact_vat v w h) (rw (equal_self v.0.0) refl)
same_keys v w (top x) (slot_cell y) h = refl
same_keys v w (top x) (object_cell y) h = refl
same_keys v w (top x) (view_cell y) h = refl
same_keys v w (top x) (fence_cell y) h = refl
same_keys v w (slot_cell x) (top y) h = refl
same_keys v w (slot_cell x) (slot_cell y) h = refl
same_keys v w (slot_cell x) (object_cell y) h = refl
same_keys v w (slot_cell x) (view_cell y) h = refl
same_keys v w (slot_cell x) (fence_cell y) h = refl
same_keys v w (object_cell x) (top y) h = refl
same_keys v w (object_cell x) (slot_cell y) h = refl
same_keys v w (object_cell x) (object_cell y) h = refl
same_keys v w (object_cell x) (view_cell y) h = refl
same_keys v w (object_cell x) (fence_cell y) h = refl
same_keys v w (view_cell x) (top y) h = refl
same_keys v w (view_cell x) (slot_cell y) h = refl
same_keys v w (view_cell x) (object_cell y) h = refl
same_keys v w (view_cell x) (fence_cell y) h = refl
same_keys v w (fence_cell x) (top y) h = refl
same_keys v w (fence_cell x) (slot_cell y) h = refl
same_keys v w (fence_cell x) (object_cell y) h = refl
same_keys v w (fence_cell x) (view_cell y) h = refl

not_true : (b : Bool) → (b ≡ true → false ≡ true) → b ≡ false
not_true true h = sym (h refl)
not_true false h = refl

-- two vats of which each is that of a cell, where the cells are one
met : (v w a b : VatNo) → same_vat a v ≡ true → same_vat b w ≡ true → a ≡ b → same_vat v w ≡ true
met v w a b g h e = ap (λ u. same_vat u w) (sym (exact_vat a v g)) ∙ ap (λ u. same_vat u w) e ∙ h

other_keys : (v w : VatNo) (c d : Cell) → lives_in c v ≡ true → lives_in d w ≡ true → same_vat v w ≡ false → same_key (cell_key v c) (cell_key w d) ≡ false
other_keys v w (top x) (top y) g h n = not_true _ (λ e.
    let p = and_parts (is_eq (vat_cmp v w)) (bytes_eq x y) e in
    sym n ∙ ap (λ u. same_vat v u) (sym (exact_vats v w (equal (vat_cmp v w) p.0))) ∙ vat_self v)
other_keys v w (slot_cell i) (slot_cell j) g h n = not_true _ (λ e. sym n ∙ met v w i.vat j.vat g h (ap (λ s. s.vat) (exact_slots i j (equal (slot_cmp i j) e))))
other_keys v w (object_cell i) (object_cell j) g h n = not_true _ (λ e. sym n ∙ met v w i.vat j.vat g h (ap (λ s. s.vat) (exact_objects i j (equal (object_cmp i j) e))))
other_keys v w (view_cell p) (view_cell q) g h n = not_true _ (λ e.
    let t = and_parts (is_eq (vat_cmp v w)) (is_eq (promise_cmp p q)) e in
    sym n ∙ ap (λ u. same_vat v u) (sym (exact_vats v w (equal (vat_cmp v w) t.0))) ∙ vat_self v)
other_keys v w (fence_cell r) (fence_cell t) g h n = not_true _ (λ e.
    let p = and_parts (is_eq (vat_cmp v w)) (same_reference r t) e in
    sym n ∙ ap (λ u. same_vat v u) (sym (exact_vats v w (equal (vat_cmp v w) p.0))) ∙ vat_self v)
other_keys v w (top x) (slot_cell y) g h n = refl
other_keys v w (top x) (object_cell y) g h n = refl
other_keys v w (top x) (view_cell y) g h n = refl
other_keys v w (top x) (fence_cell y) g h n = refl
other_keys v w (slot_cell x) (top y) g h n = refl
other_keys v w (slot_cell x) (object_cell y) g h n = refl
other_keys v w (slot_cell x) (view_cell y) g h n = refl
other_keys v w (slot_cell x) (fence_cell y) g h n = refl
other_keys v w (object_cell x) (top y) g h n = refl
other_keys v w (object_cell x) (slot_cell y) g h n = refl
other_keys v w (object_cell x) (view_cell y) g h n = refl
other_keys v w (object_cell x) (fence_cell y) g h n = refl
other_keys v w (view_cell x) (top y) g h n = refl
other_keys v w (view_cell x) (slot_cell y) g h n = refl
other_keys v w (view_cell x) (object_cell y) g h n = refl
other_keys v w (view_cell x) (fence_cell y) g h n = refl
other_keys v w (fence_cell x) (top y) g h n = refl
other_keys v w (fence_cell x) (slot_cell y) g h n = refl
other_keys v w (fence_cell x) (object_cell y) g h n = refl
other_keys v w (fence_cell x) (view_cell y) g h n = refl

-- ---- states of which the same is seen

module _ (old new : VatNo → Option Home) where
  pub seen_same : ((v : VatNo) (c : Cell) → seen_at (new v) c ≡ seen_at (old v) c) → (k : CellKey) → seen_by new k ≡ seen_by old k
  seen_same h (key.Name x) = refl
  seen_same h (key.Slot s) = ap (told content_of) (h s.vat (slot_cell s))
  seen_same h (key.Object i) = ap (told content_of) (h i.vat (object_cell i))
  seen_same h (key.Top v x) = ap (told content_of) (h v (top x))
  seen_same h (key.View v p) = ap (told content_of) (h v (view_cell p))
  seen_same h (key.Fence v r) = ap (told content_of) (h v (fence_cell r))
  seen_same h (key.Msg m) = refl
  seen_same h (key.Board p) = refl

  pub ready_same : ((v : VatNo) (c : Cell) → is_ready_at (new v) c ≡ is_ready_at (old v) c) → (k : CellKey) → ready_by new k ≡ ready_by old k
  ready_same h (key.Name x) = refl
  ready_same h (key.Slot s) = h s.vat (slot_cell s)
  ready_same h (key.Object i) = h i.vat (object_cell i)
  ready_same h (key.Top v x) = h v (top x)
  ready_same h (key.View v p) = h v (view_cell p)
  ready_same h (key.Fence v r) = h v (fence_cell r)
  ready_same h (key.Msg m) = refl
  ready_same h (key.Board p) = refl

  pub ready_kept : ((v : VatNo) (c : Cell) → is_ready_at (old v) c ≡ true → is_ready_at (new v) c ≡ true) → (k : CellKey) → ready_by old k ≡ true → ready_by new k ≡ true
  ready_kept h (key.Name x) g = g
  ready_kept h (key.Slot s) g = h s.vat (slot_cell s) g
  ready_kept h (key.Object i) g = h i.vat (object_cell i) g
  ready_kept h (key.Top v x) g = h v (top x) g
  ready_kept h (key.View v p) g = h v (view_cell p) g
  ready_kept h (key.Fence v r) g = h v (fence_cell r) g
  ready_kept h (key.Msg m) g = g
  ready_kept h (key.Board p) g = g

  pub own_same : ((v : VatNo) (c : Cell) → seen_at (new v) c ≡ seen_at (old v) c) → ((v : VatNo) (c : Cell) → lives_in c v ≡ false → (seen_at (old v) c).0 ≡ None)
      → (v : VatNo) (c : Cell) → lives_in c v ≡ false → (seen_at (new v) c).0 ≡ None
  own_same h own v c g = ap (λ (x : Seen Content). x.0) (h v c) ∙ own v c g

-- ---- the state of one vat changed

module _ (old new : VatNo → Option Home) (a : VatNo) (h g : Home) (there : old a ≡ Some h) (changed : (v : VatNo) → new v ≡ cond (same_vat a v) (Some g) (old v)) where
  either : (P : Option Home → Option Home → Type 0) (v : VatNo) → (same_vat a v ≡ true → P (Some h) (Some g)) → (same_vat a v ≡ false → (o : Option Home) → P o o) → P (old v) (new v)
  either P v this other = subst (P (old v)) (sym (changed v)) (by (same_vat a v) refl)
    where
      by : (b : Bool) → same_vat a v ≡ b → P (old v) (cond b (Some g) (old v))
      by true e = subst (λ o. P o (Some g)) (sym (ap old (sym (exact_vat a v e)) ∙ there)) (this e)
      by false e = other e (old v)

  pub seen_stays : ((c : Cell) → seen_in (state_in g) c ≡ seen_in (state_in h) c) → (v : VatNo) (c : Cell) → seen_at (new v) c ≡ seen_at (old v) c
  seen_stays s v c = either (λ o n. seen_at n c ≡ seen_at o c) v (λ e. s c) (λ e o. refl)

  pub ready_stays : ((c : Cell) → is_ready_in h c ≡ true → is_ready_in g c ≡ true) → (v : VatNo) (c : Cell) → is_ready_at (old v) c ≡ true → is_ready_at (new v) c ≡ true
  ready_stays s v c = either (λ o n. is_ready_at o c ≡ true → is_ready_at n c ≡ true) v (λ e. s c) (λ e o x. x)

  pub ready_alike : ((c : Cell) → is_ready_in g c ≡ is_ready_in h c) → (v : VatNo) (c : Cell) → is_ready_at (new v) c ≡ is_ready_at (old v) c
  ready_alike s v c = either (λ o n. is_ready_at n c ≡ is_ready_at o c) v (λ e. s c) (λ e o. refl)

  -- the state that changed is there
  pub here : new a ≡ Some g
  here = changed a ∙ ap (λ b. cond b (Some g) (old a)) (vat_self a)

  module _ (c : Cell) (x : Seen Content) (lives : lives_in c a ≡ true) (exchanged : (d : Cell) → seen_in (state_in g) d ≡ cond (same_cell c d) x (seen_in (state_in h) d)) where
    pub own_exchanged : ((v : VatNo) (d : Cell) → lives_in d v ≡ false → (seen_at (old v) d).0 ≡ None) → (v : VatNo) (d : Cell) → lives_in d v ≡ false → (seen_at (new v) d).0 ≡ None
    own_exchanged own v d n =
        either (λ o m. (seen_at o d).0 ≡ None → (seen_at m d).0 ≡ None) v
        (λ e was. ap (λ (s : Seen Content). s.0) (exchanged d ∙ ap (λ b. cond b x (seen_in (state_in h) d)) (not_true _ (λ same. sym n ∙ ap (λ q. lives_in q v) (sym (cell_exact c d same)) ∙ ap (λ u. lives_in c u) (sym (exact_vat a v e)) ∙ lives))) ∙ was)
        (λ e o was. was)
        (own v d n)

    one_exchanged : (v : VatNo) (d : Cell) → lives_in d v ≡ true → told content_of (seen_at (new v) d) ≡ cond (same_key (cell_key a c) (cell_key v d)) (told content_of x) (told content_of (seen_at (old v) d))
    one_exchanged v d l =
        either (λ o n. told content_of (seen_at n d) ≡ cond (same_key (cell_key a c) (cell_key v d)) (told content_of x) (told content_of (seen_at o d))) v
        (λ e. ap (told content_of) (exchanged d) ∙ told_one content_of (same_cell c d) x (seen_in (state_in h) d)
        ∙ ap (λ b. cond b (told content_of x) (told content_of (seen_in (state_in h) d))) (sym (same_keys a v c d e)))
        (λ e o. sym (ap (λ b. cond b (told content_of x) (told content_of (seen_at o d))) (other_keys a v c d lives l e)))

    no_vat : (k : CellKey) → same_key (cell_key a c) k ≡ false → (None, None) ≡ cond (same_key (cell_key a c) k) (told content_of x) (None, None)
    no_vat k e = sym (ap (λ b. cond b (told content_of x) (None, None)) e)

    pub seen_exchanged : (k : CellKey) → seen_by new k ≡ cond (same_key (cell_key a c) k) (told content_of x) (seen_by old k)
    seen_exchanged (key.Slot s) = one_exchanged s.vat (slot_cell s) (vat_self s.vat)
    seen_exchanged (key.Object i) = one_exchanged i.vat (object_cell i) (vat_self i.vat)
    seen_exchanged (key.Top v y) = one_exchanged v (top y) refl
    seen_exchanged (key.View v p) = one_exchanged v (view_cell p) refl
    seen_exchanged (key.Fence v r) = one_exchanged v (fence_cell r) refl
    seen_exchanged (key.Name y) = no_vat (key.Name y) (no_name c)
      where
        no_name : (d : Cell) → same_key (cell_key a d) (key.Name y) ≡ false
        no_name (top z) = refl
        no_name (slot_cell s) = refl
        no_name (object_cell i) = refl
        no_name (view_cell q) = refl
        no_name (fence_cell r) = refl
    seen_exchanged (key.Msg m) = no_vat (key.Msg m) (no_message c)
      where
        no_message : (d : Cell) → same_key (cell_key a d) (key.Msg m) ≡ false
        no_message (top z) = refl
        no_message (slot_cell s) = refl
        no_message (object_cell i) = refl
        no_message (view_cell q) = refl
        no_message (fence_cell r) = refl
    seen_exchanged (key.Board p) = no_vat (key.Board p) (no_promise c)
      where
        no_promise : (d : Cell) → same_key (cell_key a d) (key.Board p) ≡ false
        no_promise (top z) = refl
        no_promise (slot_cell s) = refl
        no_promise (object_cell i) = refl
        no_promise (view_cell q) = refl
        no_promise (fence_cell r) = refl

-- a vat that has a state, by what was asked
pub written : {A P : Type 0} {o : Option A} {x : A} → o ≡ Some x → (IsSome o → P) → P
written e f = f (subst IsSome (sym e) refl)

-- ---- an empty state for a vat that had none

module _ (old new : VatNo → Option Home) (a : VatNo) (g : Home) (absent : old a ≡ None) (changed : (v : VatNo) → new v ≡ cond (same_vat a v) (Some g) (old v)) where
  either_added : (P : Option Home → Option Home → Type 0) (v : VatNo) → P None (Some g) → ((o : Option Home) → P o o) → P (old v) (new v)
  either_added P v this other = subst (P (old v)) (sym (changed v)) (by (same_vat a v) refl)
    where
      by : (b : Bool) → same_vat a v ≡ b → P (old v) (cond b (Some g) (old v))
      by true e = subst (λ o. P o (Some g)) (sym (ap old (sym (exact_vat a v e)) ∙ absent)) this
      by false e = other (old v)

  pub added_seen : ((c : Cell) → seen_in (state_in g) c ≡ (None, None)) → (v : VatNo) (c : Cell) → seen_at (new v) c ≡ seen_at (old v) c
  added_seen s v c = either_added (λ o n. seen_at n c ≡ seen_at o c) v (s c) (λ o. refl)

  pub added_ready : (v : VatNo) (c : Cell) → is_ready_at (old v) c ≡ true → is_ready_at (new v) c ≡ true
  added_ready v c = either_added (λ o n. is_ready_at o c ≡ true → is_ready_at n c ≡ true) v (λ h. absurd (false≢true h)) (λ o h. h)

-- what is not there is nothing
pub is_absent : {A : Type 0} (b : Bool) (o : Option A) → b ≡ is_some o → b ≡ false → o ≡ None
is_absent b None h g = refl
is_absent true (Some x) h g = absurd (false≢true (sym g))
is_absent false (Some x) h g = absurd (false≢true h)

-- what holds of either outcome holds
pub either_way : {T E : Type 0} (r : Result T E) (A B P : Type 0) → OnOk r A → OnErr r B → (A → P) → (B → P) → P
either_way (Ok x) A B P a b f g = f a
either_way (Err e) A B P a b f g = g b

-- the last writer in a state that is there
pub writer_at : (o : Option Home) (s : VatState) (c : Cell) → option_map state_in o ≡ Some s → (seen_in s c).1 ≡ (seen_at o c).1
writer_at None s c h = cc
writer_at (Some g) s c h = let e : state_in g ≡ s = cc in ap (λ u. (seen_in u c).1) (sym e)
