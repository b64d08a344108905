-- What a world has in the cells of a vat behind what the vat left there.
use Rattle.std.proofs.Common.{◌≡◌, ℕ, Bool, true, false, cond, ◌||◌, ◌&&◌, List, [], ◌∷◌, ◌++◌, map, Option, Some, None, option_map, is_some, true≢false, inl, inr, ◌⊎◌, ⊎_elim, eqb-true, refl, sym, ap, ◌∙◌, subst}
use Rattle.std.proofs.lemmas.Bool.{false_from_ne_true}
use Rattle.std.specs.List.{list_any, AllByRecursion}
use Rattle.std.specs.Ordering.{is_eq}
use Rattle.history.specs.Subject.{written}
use Rattle.ids.specs.Cells.{promise_cmp}
use Rattle.ids.specs.CellKeys.{same_key}
use Rattle.ids.specs.declared.names.VatNo.{VatNo}
use Rattle.ids.specs.declared.names.PromId.{PromId}
use Rattle.ids.specs.declared.names.ObjId.{ObjId}
use Rattle.ids.specs.declared.cells.CellKey.TheVariants as key
use Rattle.ids.proofs.CellKeys.{same_exact as key_exact, same_self as key_self}
use Rattle.eorder.specs.Places.{same_vat}
use Rattle.eorder.proofs.Places.{vat_equal}
use Rattle.heap.specs.State as heap
use Rattle.heap.specs.State.{Cell, top, slot_cell, object_cell, view_cell, fence_cell, resolver, same_cell, State}
use Rattle.heap.proofs.Cells.{cell_exact}
use Rattle.sends.specs.Vats.{resolution_in}
use Rattle.world_cells.specs.World.{Content, vat, bound, held, made, viewed, fenced, message, published, World, content_of, cell_content, cell_key, vat_state}
use Rattle.eval_rules.specs.Doings.{same_vat as same_home}
use Rattle.event.specs.Events.{events, in_world}
use Rattle.event.proofs.Listing.{one_cell}
use Rattle.event_ordering.proofs.Written.{Writes, passed, all_pass}
use Rattle.event_publishing.proofs.Calm.{knows, HasResolver}
use Rattle.event_publishing.proofs.Worlds.{ResolverAt, knows_at}

-- ---- contents

-- a content of a vat comes back from the world
comes_back : (o : Option heap.Content) → cell_content (option_map content_of o) ≡ o
comes_back None = refl
comes_back (Some (heap.bound b)) = refl
comes_back (Some (heap.held v)) = refl
comes_back (Some (heap.made o)) = refl
comes_back (Some (heap.viewed k)) = refl
comes_back (Some (heap.fenced names)) = refl

resolver_there : (o : Option Content) (p : PromId) → cell_content o ≡ Some (heap.made (resolver p)) → o ≡ Some (made (resolver p))
resolver_there None p h = absurd (cc)
resolver_there (Some (vat x)) p h = absurd (cc)
resolver_there (Some (bound b)) p h = absurd (cc)
resolver_there (Some (held v)) p h = absurd (cc)
resolver_there (Some (made o)) p h = cc
resolver_there (Some (viewed k)) p h = absurd (cc)
resolver_there (Some (fenced names)) p h = absurd (cc)
resolver_there (Some (message g)) p h = absurd (cc)
resolver_there (Some (published b)) p h = absurd (cc)

-- a resolver of a vat is one of the world, and lives in the vat
pub vat_resolver : (w : World) (v : VatNo) (i : ObjId) (p : PromId) → HasResolver (vat_state w v) i p → ResolverAt w i p × (i.vat ≡ v)
vat_resolver w v i p h = go (same_home i.vat v) refl h
  where
    go : (q : Bool) → same_home i.vat v ≡ q → cond q (cell_content (w (key.Object i))) None ≡ Some (heap.made (resolver p)) → ResolverAt w i p × (i.vat ≡ v)
    go true e h = (resolver_there (w (key.Object i)) p h, ap (λ (n : ℕ). record { 0 = record { 0 = n } }) (eqb-true i.vat.0.0 v.0.0 e))
    go false e h = absurd (cc)

-- ---- keys

not_view : (v x : VatNo) (p : PromId) → same_vat v x ≡ false → (c : Cell) → same_key (cell_key v c) (key.View x p) ≡ false
not_view v x p h (top y) = refl
not_view v x p h (slot_cell s) = refl
not_view v x p h (object_cell i) = refl
not_view v x p h (view_cell q) = ap (λ b. b && is_eq (promise_cmp q p)) h
not_view v x p h (fence_cell r) = refl

-- ---- what is left

module _ (w : World) (v : VatNo) (t : State) (rest : Writes) where
  abbrev after_all : List (Cell × heap.Content) → World
  after_all left = written events (in_world v left ++ rest) w

  -- a cell holds what was left there, or was not written
  abbrev IsLeft : List (Cell × heap.Content) → Cell → Type 0
  IsLeft left c = (after_all left (cell_key v c) ≡ option_map content_of (t c)) ⊎ ((list_any (same_cell c) (map (λ p. p.0) left) ≡ false) × (after_all left (cell_key v c) ≡ written events rest w (cell_key v c)))

  left_there : (left : List (Cell × heap.Content)) (c : Cell) → AllByRecursion (λ p. t p.0 ≡ Some p.1) left → IsLeft left c
  left_there [] c a = inr (refl, refl)
  left_there (p ∷ left) c a = go (same_key (cell_key v p.0) (cell_key v c)) refl (left_there left c a.1)
    where
      other : same_key (cell_key v p.0) (cell_key v c) ≡ false → same_cell c p.0 ≡ false
      other e = false_from_ne_true (same_cell c p.0) (λ h. true≢false (sym (key_self (cell_key v c)) ∙ ap (λ d. same_key (cell_key v d) (cell_key v c)) (cell_exact c p.0 h) ∙ e))

      go : (q : Bool) → same_key (cell_key v p.0) (cell_key v c) ≡ q → IsLeft left c
          → (cond q (Some (content_of p.1)) (after_all left (cell_key v c)) ≡ option_map content_of (t c))
          ⊎ (((same_cell c p.0 || list_any (same_cell c) (map (λ p. p.0) left)) ≡ false) × (cond q (Some (content_of p.1)) (after_all left (cell_key v c)) ≡ written events rest w (cell_key v c)))
      go true e h = inl (sym (ap (λ d. option_map content_of (t d)) (sym (one_cell v p.0 c (key_exact (cell_key v p.0) (cell_key v c) e))) ∙ ap (option_map content_of) a.0))
      go false e h = ⊎_elim inl (λ x. inr (ap (λ b. b || list_any (same_cell c) (map (λ p. p.0) left)) (other e) ∙ x.0, x.1)) h

  module _ (left : List (Cell × heap.Content)) (contents : AllByRecursion (λ p. t p.0 ≡ Some p.1) left) where
    -- a resolver is one that was left, or that was there
    pub resolver_left : ((i : ObjId) → written events rest w (key.Object i) ≡ w (key.Object i)) → (i : ObjId) (p : PromId) → ResolverAt (after_all left) i p → HasResolver t i p ⊎ ResolverAt w i p
    resolver_left objects i p r = ⊎_elim
        (λ h. inl (sym (comes_back (t (object_cell i))) ∙ ap cell_content (sym h ∙ r)))
        (λ h. inr (sym (objects i) ∙ sym h.1 ∙ r)) (left_there left (object_cell i) contents)

    module _ (stays : (c : Cell) → list_any (same_cell c) (map (λ p. p.0) left) ≡ false → t c ≡ vat_state w v c) (views : (x : VatNo) (p : PromId) → written events rest w (key.View x p) ≡ w (key.View x p)) where
      own_view : (p : PromId) → vat_state (after_all left) v (view_cell p) ≡ t (view_cell p)
      own_view p = ⊎_elim
          (λ h. ap cell_content h ∙ comes_back (t (view_cell p)))
          (λ h. ap cell_content (h.1 ∙ views v p) ∙ sym (stays (view_cell p) h.0)) (left_there left (view_cell p) contents)

      -- the vat knows what it knew as it left
      pub knows_left : (p : PromId) → knows_at (after_all left) v p ≡ knows t p
      knows_left p = ap (λ o. is_some (resolution_in o)) (own_view p)

      -- and what a vat knew it knows
      pub knows_on : ((p : PromId) → knows (vat_state w v) p ≡ true → knows t p ≡ true) → (x : VatNo) (p : PromId) → knows_at w x p ≡ true → knows_at (after_all left) x p ≡ true
      knows_on known x p = go (same_vat v x) refl
        where
          go : (q : Bool) → same_vat v x ≡ q → knows_at w x p ≡ true → knows_at (after_all left) x p ≡ true
          go true e k = subst (λ y. knows_at w y p ≡ true → knows_at (after_all left) y p ≡ true) (vat_equal v x e) (λ j. knows_left p ∙ known p j) k
          go false e k = ap (λ o. is_some (resolution_in (cell_content o))) (passed (in_world v left) rest w (key.View x p) (all_pass v left (key.View x p) (not_view v x p e)) ∙ views x p) ∙ k
