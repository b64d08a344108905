-- What is found at each place of a list of touched cells is found in each cell.
use Rattle.std.proofs.Common.{◌≡◌, ◌↔◌, ℕ, ◌+◌, ◌<◌, ◌≤◌, Bool, true, IsTrue, length, Option, Some, slice_get, sym, ap, ◌∙◌, subst, below_more, arith}
use Rattle.std.specs.Option.{option_map}
use Rattle.std.specs.Cmp.{IsEquivalence}
use Rattle.std.proofs.lemmas.Option.{slice_get_within}
use Rattle.std.proofs.lemmas.Map.Entries.{place_from_lookup, lookup_from_place}
use Rattle.cells.specs.Seen.{seen}
use Rattle.cells.specs.Touches.{touched_list, IsListedOnce}
use Rattle.cells.specs.declared.store.CellStore.{CellStore}
use Rattle.cells.specs.declared.touches.Touch.{Touch}
use Rattle.cells.specs.declared.touches.Touches.{Touches}
use Rattle.event.specs.Finds.{FoundIn}

-- a test of two contents is one of what they are
pub tests_same : {V C : Type 0} (content : V → C) (a b found there : Option V) (r : Bool) → a ≡ found → b ≡ there → IsTrue r ↔ (option_map content a ≡ option_map content b) → IsTrue r ↔ (option_map content found ≡ option_map content there)
tests_same content a b found there r p q e = (
  λ t. ap (option_map content) (sym p) ∙ e.0 t ∙ ap (option_map content) q,
  λ s. e.1 (ap (option_map content) p ∙ s ∙ ap (option_map content) (sym q)),
)

module _ {K V C : Type 0} (eq : K → K → Bool) (content : V → C) (touches : Touches K V) (cells : CellStore K V) where
  -- in this cell stands what was found there
  abbrev pub FoundAt : K → Touch V → Type 0
  FoundAt k t = option_map content t.found ≡ option_map content (seen eq cells k).0

  -- and so in each cell up to a place
  abbrev pub FoundUpTo : ℕ → Type 0
  FoundUpTo i = (j : ℕ) → j < i → (k : K) (t : Touch V) → slice_get (touched_list touches) j ≡ Some (k, t) → FoundAt k t

  -- and one cell more
  pub found_next : (i : ℕ) (k : K) (t : Touch V) → FoundUpTo i → slice_get (touched_list touches) i ≡ Some (k, t) → FoundAt k t → FoundUpTo (i + 1)
  found_next i k t before is here =
      below_more (λ j. (q : K) (u : Touch V) → slice_get (touched_list touches) j ≡ Some (q, u) → FoundAt q u) i before
      (λ q u at. let same : ◌≡◌ {A = K × Touch V} (k, t) (q, u) = cc in subst (λ (p : K × Touch V). FoundAt p.0 p.1) same here)

  -- all places are all cells
  pub found_all : ((a b : K) → eq a b ≡ true → a ≡ b) → (i : ℕ) → length (touched_list touches) ≤ i → FoundUpTo i → FoundIn eq content touches cells
  found_all exact i all before k t is =
      let p = place_from_lookup (eq k) (touched_list touches) t is in
      let here : FoundAt p.1 t = before p.0 (omega (arith, slice_get_within (touched_list touches) p.0 (p.1, t) p.2)) p.1 t p.2 in
      subst (λ q. FoundAt q t) (sym (exact k p.1 p.3)) here

  -- so what is not found at a place is not found in a cell
  pub found_there : IsEquivalence eq → IsListedOnce eq touches → (i : ℕ) (k : K) (t : Touch V) → slice_get (touched_list touches) i ≡ Some (k, t) → FoundIn eq content touches cells → FoundAt k t
  found_there laws unique i k t is all = all k t (lookup_from_place laws (touched_list touches) i k t unique is)
