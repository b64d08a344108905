-- The vats by birth, as they are gathered from names.
use Rattle.std.proofs.Common.{◌≡◌, ◌⊎◌, inl, inr, ℕ, List, [], ◌∷◌, map, Bool, true, false, cond, Option, Some, None, refl, ap, ◌∙◌, sym}
use Rattle.std.specs.Prelude.{IsSome, is_some}
use Rattle.std.specs.Option.{option_map}
use Rattle.std.specs.Ordering.{nat_cmp, is_eq}
use Rattle.std.specs.Cmp.Lexicographic.{slice_cmp}
use Rattle.std.specs.declared.cmp.Ordering.{Ordering}
use Rattle.std.specs.declared.cmp.Ordering.TheVariants.{Less, Equal, Greater}
use Rattle.std.specs.List.Sorted.{IsStrictlySortedBy}
use Rattle.std.specs.Map.{lookup}
use Rattle.std.proofs.lemmas.Map.Lookups.{exact_unsigned}
use Rattle.kernele.specs.Tree.{Name}
use Rattle.ids.specs.Cells.{vat_cmp}
use Rattle.ids.specs.declared.names.VatNo.{VatNo}
use Rattle.world_cells.specs.World.{Content, vat}
use Rattle.post.specs.MessageView.{vat_of}
use Rattle.post.specs.declared.vat.Vat.{Vat}
use Rattle.stepper_printing.specs.Show.{number_in, name_of, ByBirth}

-- what names that are left stand for
abbrev pub left_in : List (Name × Vat) → Name → Option Content
left_in es x = option_map (λ v. vat (vat_of v)) (lookup (λ q. is_eq (slice_cmp nat_cmp x q)) es)

-- vs has the vats that names stand for, but for names that are left
pub record Gathered (at : Name → Option Content) (vs : List (VatNo × Name)) (es : List (Name × Vat)) : Type 0 where
  pub ordered : IsStrictlySortedBy vat_cmp (map (λ e. e.0) vs)
  pub named : (v : VatNo) (x : Name) → name_of vs v ≡ Some x → number_in (at x) ≡ Some v
  pub all : (x : Name) (v : VatNo) → number_in (at x) ≡ Some v → IsSome (name_of vs v) ⊎ (number_in (left_in es x) ≡ Some v)

equal : (o : Ordering) → is_eq o ≡ true → o ≡ Equal
equal Less h = cc
equal Equal h = refl
equal Greater h = cc

same_number : (v w : VatNo) → is_eq (vat_cmp v w) ≡ true → v ≡ w
same_number v w h = ap (λ (n : ℕ). record { 0 = record { 0 = n } }) (exact_unsigned v.0.0 w.0.0 (equal (vat_cmp v w) h))

some_by : {A : Type 0} (b : Bool) (x : A) (o : Option A) → IsSome o → IsSome (cond b (Some x) o)
some_by true x o h = refl
some_by false x o h = h

no_name : (x : Name) → None ≡ Some x → ⊥
no_name x e = cc

no_left : (v : VatNo) → None ≡ Some v → ⊥
no_left v e = cc

-- before the first name, all are left
pub gathered_none : (at : Name → Option Content) (vs : List (VatNo × Name)) (es : List (Name × Vat)) → IsStrictlySortedBy vat_cmp (map (λ e. e.0) vs) → vs ≡ [] → ((x : Name) → left_in es x ≡ at x) → Gathered at vs es
gathered_none at vs es ordered none left = record {
  ordered = ordered;
  named = λ v x e. absurd (no_name x (ap (λ z. name_of z v) (sym none) ∙ e));
  all = λ x v e. inr (ap number_in (left x) ∙ e);
}

-- a name is gathered under its number
module _ (at : Name → Option Content) (name : Name) (y : Vat) (found : at name ≡ Some (vat (vat_of y))) where
  named_by : (b : Bool) (x : Name) (v : VatNo) (o : Option Name) → is_eq (vat_cmp y.number v) ≡ b → cond b (Some name) o ≡ Some x → (o ≡ Some x → number_in (at x) ≡ Some v) → number_in (at x) ≡ Some v
  named_by true x v o h e more =
      let same : name ≡ x = cc in
      ap (λ z. number_in (at z)) (sym same) ∙ ap number_in found ∙ ap (λ z. Some z) (same_number y.number v h)
  named_by false x v o h e more = more e

  left_by : (b : Bool) (v : VatNo) (vs : List (VatNo × Name)) (rest : Option Vat) → name_of vs y.number ≡ Some name → number_in (option_map (λ v. vat (vat_of v)) (cond b (Some y) rest)) ≡ Some v
      → IsSome (name_of vs v) ⊎ (number_in (option_map (λ v. vat (vat_of v)) rest) ≡ Some v)
  left_by true v vs rest here e =
      let same : y.number ≡ v = cc in
      inl (ap is_some (ap (name_of vs) (sym same) ∙ here))
  left_by false v vs rest here e = inr e

  pub gathered_more : (older newer : List (VatNo × Name)) (es rest : List (Name × Vat)) (text : Name) → es ≡ (name, y) ∷ rest → IsStrictlySortedBy vat_cmp (map (λ e. e.0) newer)
      → ((v : VatNo) → name_of newer v ≡ cond (is_eq (vat_cmp y.number v)) (Some text) (name_of older v)) → name_of newer y.number ≡ Some text → text ≡ name
      → Gathered at older es → Gathered at newer rest
  gathered_more older newer es rest text taken ordered updates here same g =
      let put : (v : VatNo) → name_of newer v ≡ cond (is_eq (vat_cmp y.number v)) (Some name) (name_of older v) = λ v. updates v ∙ ap (λ n. cond (is_eq (vat_cmp y.number v)) (Some n) (name_of older v)) same in
      record {
        ordered = ordered;
        named = λ v x e. named_by (is_eq (vat_cmp y.number v)) x v (name_of older v) refl (sym (put v) ∙ e) (g.named v x);
        all = λ x v e. elim (g.all x v e) [
          | inl h ↦ inl (ap is_some (put v) ∙ some_by (is_eq (vat_cmp y.number v)) name (name_of older v) h)
          | inr h ↦ left_by (is_eq (slice_cmp nat_cmp x name)) v newer (lookup (λ q. is_eq (slice_cmp nat_cmp x q)) rest) (here ∙ ap (λ n. Some n) same) (sym (ap (λ z. number_in (left_in z x)) taken) ∙ h)
        ];
      }

all_there : (o : Option Name) (x : Name) (v : VatNo) (es : List (Name × Vat)) → es ≡ [] → IsSome o ⊎ (number_in (left_in es x) ≡ Some v) → IsSome o
all_there o x v es e (inl h) = h
all_there o x v es e (inr h) = absurd (no_left v (ap (λ z. number_in (left_in z x)) (sym e) ∙ h))

-- where no name is left, these are the vats by birth
pub gathered_all : (at : Name → Option Content) (vs : List (VatNo × Name)) (es : List (Name × Vat)) → es ≡ [] → Gathered at vs es → ByBirth at vs
gathered_all at vs es none g = record { ordered = g.ordered; named = g.named; all = λ x v e. all_there (name_of vs v) x v es none (g.all x v e) }
