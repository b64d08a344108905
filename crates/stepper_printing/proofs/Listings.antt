-- A map's entries, as lists of contents with their keys.
use Rattle.std.proofs.Common.{◌≡◌, ℕ, List, [], ◌∷◌, map, Bool, true, false, cond, Option, Some, None, refl, ap, ◌∙◌, sym, subst}
use Rattle.std.specs.Option.{option_map}
use Rattle.std.specs.Ordering.{is_eq}
use Rattle.std.specs.declared.cmp.Ordering.{Ordering}
use Rattle.std.specs.List.Sorted.{IsStrictlySortedBy}
use Rattle.std.specs.Map.{lookup, keys_of}
use Rattle.std.specs.BTreeMap.{BTreeMap, get, IsOrdered}
use Rattle.ids.specs.declared.names.VatNo.{VatNo}
use Rattle.ids.specs.declared.names.PromId.{PromId}
use Rattle.ids.specs.Cells.{promise_cmp}
use Rattle.ids.specs.declared.names.SlotId.{SlotId}
use Rattle.ids.specs.declared.names.ObjId.{ObjId}
use Rattle.ids.specs.Cells.{slot_cmp, object_cmp}
use Rattle.std.specs.Ordering.{nat_cmp}
use Rattle.std.specs.Cmp.Lexicographic.{slice_cmp}
use Rattle.values.specs.View.{val_of}
use Rattle.heap.specs.State.{State, nothing, read, top, slot_cell, object_cell, view_cell, fence_cell, bound, held, made, viewed, fenced}
use Rattle.heap.specs.View.{bind_of, object_of, view_of, tops_of, slots_of, objects_of, views_of, fences_of}
use Rattle.heap.specs.declared.state.Contents.{Contents}
use Rattle.ids.specs.declared.reference.Reference.{Reference}
use Rattle.ids.specs.contracts.reference.ReferenceOrd.TheImpl as reference_order
use Rattle.kernele.specs.Tree.{Name}
use Rattle.world_cells.specs.World.{Content}
use Rattle.stepper_printing.specs.Show.{Lists, StateLines, number_in, ByBirth}
use Rattle.stepper_printing.specs.ShowView.{entries_as, nouns_in, slots_in, objects_in, views_in, fences_in}
use Rattle.stepper_printing.specs.PictureView.{contents_text}

keys_as : {K V W : Type 0} (f : V → W) (es : List (K × V)) → map (λ e. e.0) (entries_as f es) ≡ keys_of es
keys_as f [] = refl
keys_as f (e ∷ es) = ap (λ ks. e.0 ∷ ks) (keys_as f es)

one : {A B : Type 0} (f : A → B) (b : Bool) (x : A) (o : Option A) → option_map f (cond b (Some x) o) ≡ cond b (Some (f x)) (option_map f o)
one f true x o = refl
one f false x o = refl

lookup_as : {K V W : Type 0} (f : V → W) (test : K → Bool) (es : List (K × V)) → option_map f (lookup test es) ≡ lookup test (entries_as f es)
lookup_as f test [] = refl
lookup_as f test (e ∷ es) = one f (test e.0) e.1 (lookup test es) ∙ ap (cond (test e.0) (Some (f e.1))) (lookup_as f test es)

-- the entries of an ordered map are its listing
pub entries_list : {K V W : Type 0} (cmp : K → K → Ordering) (f : V → W) (m : BTreeMap K V) → IsOrdered cmp m → Lists cmp (λ k. option_map f (get cmp m k)) (entries_as f m.entries)
entries_list cmp f m h = record { ordered = subst (IsStrictlySortedBy cmp) (sym (keys_as f m.entries)) h; listed = λ k. lookup_as f (λ q. is_eq (cmp k q)) m.entries }

-- a listing of the same map
pub lists_along : {K V : Type 0} (cmp : K → K → Ordering) (f g : K → Option V) (xs : List (K × V)) → ((k : K) → f k ≡ g k) → Lists cmp f xs → Lists cmp g xs
lists_along cmp f g xs h l = record { ordered = l.ordered; listed = λ k. sym (h k) ∙ l.listed k }

-- nothing is listed of what is empty
lists_none : {K V : Type 0} (cmp : K → K → Ordering) → Lists {K = K} {V = V} cmp (λ k. None) []
unfolding IsStrictlySortedBy
lists_none cmp = record { ordered = tt; listed = λ k. refl }

-- the vats by birth, of the same names
pub by_birth_along : (at now : Name → Option Content) (vs : List (VatNo × Name)) → ((x : Name) → at x ≡ now x) → ByBirth at vs → ByBirth now vs
by_birth_along at now vs h b = record {
  ordered = b.ordered;
  named = λ v x e. ap number_in (sym (h x)) ∙ b.named v x e;
  all = λ x v e. b.all x v (ap number_in (h x) ∙ e);
}

-- what the maps hold is what the state does
pub record HoldsAll (s : State) (c : Contents) : Type 0 where
  pub nouns : (x : List ℕ) → tops_of c.nouns x ≡ read s (top x)
  pub slots : (i : SlotId) → slots_of c.slots i ≡ read s (slot_cell i)
  pub objects : (i : ObjId) → objects_of c.objects i ≡ read s (object_cell i)
  pub views : (p : PromId) → views_of c.views p ≡ read s (view_cell p)
  pub fences : (r : Reference) → fences_of c.fences r ≡ read s (fence_cell r)

-- the lines of a state
pub state_shown : (s : State) (c : Contents) → HoldsAll s c → IsOrdered (slice_cmp nat_cmp) c.nouns → IsOrdered slot_cmp c.slots → IsOrdered object_cmp c.objects → IsOrdered promise_cmp c.views
    → IsOrdered (reference_order.ghosts).cmp c.fences → StateLines s (contents_text c)
state_shown s c h nouns slots objects views fences = record {
  nouns = nouns_in c.nouns;
  nouns_listed = lists_along (slice_cmp nat_cmp) _ _ (nouns_in c.nouns) h.nouns (entries_list (slice_cmp nat_cmp) (λ b. bound (bind_of b)) c.nouns nouns);
  slots = slots_in c.slots;
  slots_listed = lists_along slot_cmp _ _ (slots_in c.slots) h.slots (entries_list slot_cmp (λ v. held (val_of v)) c.slots slots);
  objects = objects_in c.objects;
  objects_listed = lists_along object_cmp _ _ (objects_in c.objects) h.objects (entries_list object_cmp (λ m. made (object_of m)) c.objects objects);
  views = views_in c.views;
  views_listed = lists_along promise_cmp _ _ (views_in c.views) h.views (entries_list promise_cmp (λ k. viewed (view_of k)) c.views views);
  fences = fences_in c.fences;
  fences_listed = lists_along (reference_order.ghosts).cmp _ _ (fences_in c.fences) h.fences (entries_list (reference_order.ghosts).cmp fenced c.fences fences);
  whole = refl;
}

-- of a vat without a state there is none
pub nothing_shown : (s : State) → s ≡ nothing → StateLines s []
nothing_shown s e =
    subst (λ z. StateLines z []) (sym e)
    (record { nouns = []; nouns_listed = lists_none (slice_cmp nat_cmp); slots = []; slots_listed = lists_none slot_cmp; objects = []; objects_listed = lists_none object_cmp; views = []; views_listed = lists_none promise_cmp; fences = []; fences_listed = lists_none (reference_order.ghosts).cmp; whole = refl })
