-- What patterns bind.
use Rattle.std.proofs.Common.{◌≡◌, ℕ, ◌+◌, ◌<◌, ◌≤◌, List, [], ◌∷◌, length, drop, get_or, Option, Some, None, true, false, cond, refl, sym, ap, ◌∙◌, suc, add-one, arith}
use Rattle.std.proofs.Math.Seq.{drop-cons}
use Rattle.std.proofs.lemmas.List.{drop_all}
use Rattle.kernele.specs.Tree.{Name}
use Rattle.kernele.specs.declared.tree.Pattern.{Pattern}
use Rattle.values.specs.Data.{Val, Vals}
use Rattle.values.specs.View.{val_of, vals_of}
use Rattle.values.specs.declared.value.Value.{Value}
use Rattle.eval_rules.specs.At.{At}
use Rattle.eval_rules.specs.Rules.{matched, matched_all, as_many, taken, listing_by, parts_bound}

pub as_many-true : (ps : List Pattern) (vs : List Value) → length vs ≡ length ps → as_many ps (vals_of vs) ≡ true
as_many-true [] [] h = refl
as_many-true [] (v ∷ vs) h = absurd (omega arith)
as_many-true (p ∷ ps) [] h = absurd (omega arith)
as_many-true (p ∷ ps) (v ∷ vs) h = as_many-true ps vs (omega arith)

pub as_many-false : (ps : List Pattern) (vs : List Value) → (length vs ≡ length ps → ⊥) → as_many ps (vals_of vs) ≡ false
as_many-false [] [] h = absurd (h refl)
as_many-false [] (v ∷ vs) h = refl
as_many-false (p ∷ ps) [] h = refl
as_many-false (p ∷ ps) (v ∷ vs) h = as_many-false ps vs (λ e. h (ap suc e))

-- items that are as many as patterns are taken
pub all_taken : (ps : List Pattern) (vs : List Value) (m : Option Vals) → Some (vals_of vs) ≡ m → length vs ≡ length ps → Some (vals_of vs) ≡ taken ps m
all_taken ps vs m e h = sym (ap (λ b. cond b (Some (vals_of vs)) None) (as_many-true ps vs h)) ∙ ap (taken ps) e

-- and others are not
pub none_taken : (ps : List Pattern) (vs : List Value) (m : Option Vals) → Some (vals_of vs) ≡ m → (length vs ≡ length ps → ⊥) → None ≡ taken ps m
none_taken ps vs m e h = sym (ap (λ b. cond b (Some (vals_of vs)) None) (as_many-false ps vs h)) ∙ ap (taken ps) e

-- one more pattern takes its value
pub matched_more : (ps : List Pattern) (vs : List Value) (i : ℕ) (p : Pattern) (v : Value) (a : At) → i < length ps → i < length vs → p ≡ get_or ps i p → v ≡ get_or vs i v
    → matched_all (drop i ps) (vals_of (drop i vs)) a ≡ matched_all (drop (i + 1) ps) (vals_of (drop (i + 1) vs)) (matched p (val_of v) a)
matched_more ps vs i p v a h g e f =
    rw add-one ((λ j. matched_all (drop-cons ps i p h j) (vals_of (drop-cons vs i v g j)) a)
    ∙ (λ j. matched_all (drop (suc i) ps) (vals_of (drop (suc i) vs)) (matched (sym e j) (val_of (sym f j)) a)))

-- no pattern is left
pub matched_end : (ps : List Pattern) (vs : Vals) (i : ℕ) (a : At) → length ps ≤ i → matched_all (drop i ps) vs a ≡ a
matched_end ps vs i a h = ap (λ qs. matched_all qs vs a) (drop_all i ps h)

-- what is no list of as many items binds nothing
pub none_bound : (words : Name) (ps : List Pattern) (v : Val) (a : At) {m : Option Vals} → None ≡ m → a ≡ parts_bound ps (listing_by words v m) a
none_bound words ps v a e = ap (λ m. parts_bound ps (listing_by words v m) a) e
