-- Values of different kinds are never the same.
use Rattle.std.proofs.Common.{◌≡◌, ℕ, ℤ, Bool, true, false, ◌&&◌, List, [], ◌∷◌, length, ◌⊎◌, inl, inr, refl, sym, ap, ◌∙◌, arith}
use Rattle.std.specs.declared.sync.Arc.{Arc}
use Rattle.std.specs.declared.alloc.Global.{Global}
use Rattle.ids.specs.declared.names.ObjId.{ObjId}
use Rattle.ids.specs.declared.names.EjId.{EjId}
use Rattle.ids.specs.declared.names.PromId.{PromId}
use Rattle.values.specs.Data.{Vals, null, bool, int, text, list, object, ejector, promise, broken}
use Rattle.values.specs.Same.{same_as, same_items}
use Rattle.values.specs.View.{val_of, vals_of}
use Rattle.values.specs.declared.value.Value.TheVariants as code
use Rattle.values.specs.declared.value.Value.{Value}

pub other_null : (b : Value) → (b ≡ code.Null → ⊥) → false ≡ same_as null (val_of b)
other_null code.Null h = absurd (h refl)
other_null (code.Bool y) h = refl
other_null (code.Int y) h = refl
other_null (code.Text y) h = refl
other_null (code.List items) h = refl
other_null (code.Object y) h = refl
other_null (code.Ejector y) h = refl
other_null (code.Promise y) h = refl
other_null (code.Broken y) h = refl

pub other_bool : (x : Bool) (b : Value) → ((y : Bool) → b ≡ code.Bool y → ⊥) → false ≡ same_as (bool x) (val_of b)
other_bool x code.Null h = refl
other_bool x (code.Bool y) h = absurd (h y refl)
other_bool x (code.Int y) h = refl
other_bool x (code.Text y) h = refl
other_bool x (code.List items) h = refl
other_bool x (code.Object y) h = refl
other_bool x (code.Ejector y) h = refl
other_bool x (code.Promise y) h = refl
other_bool x (code.Broken y) h = refl

pub other_int : (x : ℤ) (b : Value) → ((y : ℤ) → b ≡ code.Int y → ⊥) → false ≡ same_as (int x) (val_of b)
other_int x code.Null h = refl
other_int x (code.Bool y) h = refl
other_int x (code.Int y) h = absurd (h y refl)
other_int x (code.Text y) h = refl
other_int x (code.List items) h = refl
other_int x (code.Object y) h = refl
other_int x (code.Ejector y) h = refl
other_int x (code.Promise y) h = refl
other_int x (code.Broken y) h = refl

pub other_text : (x : List ℕ) (b : Value) → ((y : List ℕ) → b ≡ code.Text y → ⊥) → false ≡ same_as (text x) (val_of b)
other_text x code.Null h = refl
other_text x (code.Bool y) h = refl
other_text x (code.Int y) h = refl
other_text x (code.Text y) h = absurd (h y refl)
other_text x (code.List items) h = refl
other_text x (code.Object y) h = refl
other_text x (code.Ejector y) h = refl
other_text x (code.Promise y) h = refl
other_text x (code.Broken y) h = refl

pub other_list : (vs : Vals) (b : Value) → ((y : Arc Vals Global) → b ≡ code.List y → ⊥) → false ≡ same_as (list vs) (val_of b)
other_list vs code.Null h = refl
other_list vs (code.Bool y) h = refl
other_list vs (code.Int y) h = refl
other_list vs (code.Text y) h = refl
other_list vs (code.List items) h = absurd (h _ refl)
other_list vs (code.Object y) h = refl
other_list vs (code.Ejector y) h = refl
other_list vs (code.Promise y) h = refl
other_list vs (code.Broken y) h = refl

pub other_object : (x : ObjId) (b : Value) → ((y : ObjId) → b ≡ code.Object y → ⊥) → false ≡ same_as (object x) (val_of b)
other_object x code.Null h = refl
other_object x (code.Bool y) h = refl
other_object x (code.Int y) h = refl
other_object x (code.Text y) h = refl
other_object x (code.List items) h = refl
other_object x (code.Object y) h = absurd (h y refl)
other_object x (code.Ejector y) h = refl
other_object x (code.Promise y) h = refl
other_object x (code.Broken y) h = refl

pub other_ejector : (x : EjId) (b : Value) → ((y : EjId) → b ≡ code.Ejector y → ⊥) → false ≡ same_as (ejector x) (val_of b)
other_ejector x code.Null h = refl
other_ejector x (code.Bool y) h = refl
other_ejector x (code.Int y) h = refl
other_ejector x (code.Text y) h = refl
other_ejector x (code.List items) h = refl
other_ejector x (code.Object y) h = refl
other_ejector x (code.Ejector y) h = absurd (h y refl)
other_ejector x (code.Promise y) h = refl
other_ejector x (code.Broken y) h = refl

pub other_promise : (x : PromId) (b : Value) → ((y : PromId) → b ≡ code.Promise y → ⊥) → false ≡ same_as (promise x) (val_of b)
other_promise x code.Null h = refl
other_promise x (code.Bool y) h = refl
other_promise x (code.Int y) h = refl
other_promise x (code.Text y) h = refl
other_promise x (code.List items) h = refl
other_promise x (code.Object y) h = refl
other_promise x (code.Ejector y) h = refl
other_promise x (code.Promise y) h = absurd (h y refl)
other_promise x (code.Broken y) h = refl

pub other_broken : (x : List ℕ) (b : Value) → ((y : List ℕ) → b ≡ code.Broken y → ⊥) → false ≡ same_as (broken x) (val_of b)
other_broken x code.Null h = refl
other_broken x (code.Bool y) h = refl
other_broken x (code.Int y) h = refl
other_broken x (code.Text y) h = refl
other_broken x (code.List items) h = refl
other_broken x (code.Object y) h = refl
other_broken x (code.Ejector y) h = refl
other_broken x (code.Promise y) h = refl
other_broken x (code.Broken y) h = absurd (h y refl)

and_false : (p q : Bool) → false ≡ q → false ≡ p && q
and_false true q h = h
and_false false q h = refl

-- lists of different lengths
pub lengths_differ : (xs ys : List Value) → (length xs ≡ length ys → ⊥) → false ≡ same_items (vals_of xs) (vals_of ys)
lengths_differ [] [] h = absurd (h refl)
lengths_differ [] (y ∷ ys) h = refl
lengths_differ (x ∷ xs) [] h = refl
lengths_differ (x ∷ xs) (y ∷ ys) h = and_false _ _ (lengths_differ xs ys (λ e. h (omega (arith, e))))

pair_of_rest : (us vs cs ds : List Value) (x y : Value) → us ≡ x ∷ cs → vs ≡ y ∷ ds → (same_as (val_of x) (val_of y) && same_items (vals_of cs) (vals_of ds)) ≡ same_items (vals_of us) (vals_of vs)
pair_of_rest us vs cs ds x y p q = sym (ap (λ zs. same_items (vals_of zs) (vals_of vs)) p ∙ ap (λ zs. same_items (vals_of (x ∷ cs)) (vals_of zs)) q)

-- a pair of items in two lists, and the rest
pub same_rest : (us vs cs ds : List Value) (x y : Value) (all : Bool) → us ≡ x ∷ cs → vs ≡ y ∷ ds → same_items (vals_of us) (vals_of vs) ≡ all → true ≡ same_as (val_of x) (val_of y) → same_items (vals_of cs) (vals_of ds) ≡ all
same_rest us vs cs ds x y all p q r s = ap (λ t. t && same_items (vals_of cs) (vals_of ds)) s ∙ pair_of_rest us vs cs ds x y p q ∙ r

pub differs_here : (us vs cs ds : List Value) (x y : Value) (all : Bool) → us ≡ x ∷ cs → vs ≡ y ∷ ds → same_items (vals_of us) (vals_of vs) ≡ all → false ≡ same_as (val_of x) (val_of y) → false ≡ all
differs_here us vs cs ds x y all p q r s = ap (λ t. t && same_items (vals_of cs) (vals_of ds)) s ∙ pair_of_rest us vs cs ds x y p q ∙ r

-- both lists at their end
pub same_end : (us vs : List Value) (all : Bool) → length us ≡ length vs → (us ≡ []) ⊎ (vs ≡ []) → same_items (vals_of us) (vals_of vs) ≡ all → true ≡ all
same_end [] [] all h e r = r
same_end [] (b ∷ vs) all h e r = absurd (omega arith)
same_end (a ∷ us) [] all h e r = absurd (omega arith)
same_end (a ∷ us) (b ∷ vs) all h (inl e) r = absurd (cc)
same_end (a ∷ us) (b ∷ vs) all h (inr e) r = absurd (cc)

pub lengths_rest : (us vs cs ds : List Value) (x y : Value) → us ≡ x ∷ cs → vs ≡ y ∷ ds → length us ≡ length vs → length cs ≡ length ds
lengths_rest us vs cs ds x y p q r = omega (arith, ap length p, ap length q)
