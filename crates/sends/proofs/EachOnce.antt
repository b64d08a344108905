-- References are gathered, each once.
use Rattle.std.proofs.Common.{◌≡◌, ◌<◌, ◌≤◌, ◌+◌, ℕ, cond, List, [], ◌∷◌, ◌++◌, drop, length, get_or, refl, sym, ap, ◌∙◌}
use Rattle.std.specs.List.{list_any}
use Rattle.ids.specs.declared.reference.Reference.{Reference}
use Rattle.ids.proofs.CellKeys.{references_agree}
use Rattle.heap.specs.View.{same_target}
use Rattle.values.specs.View.{val_of, vals_of}
use Rattle.values.specs.declared.value.Value.{Value}
use Rattle.values.proofs.Tables.{vals_from}
use Rattle.refs.proofs.Making.{none_left}
use Rattle.ids.specs.References.{same_reference}
use Rattle.sends.specs.Vats.{and_reference, each_once, references, references_in}

-- first these, then those
pub each_once_on : (found xs ys : List Reference) → each_once found (xs ++ ys) ≡ each_once (each_once found xs) ys
each_once_on found [] ys = refl
each_once_on found (x ∷ xs) ys = each_once_on (and_reference found x) xs ys

-- the references of one more value were gathered
pub gather_next : (ks found new : List Reference) (xs : List Value) (i : ℕ) (x : Value) → i < length xs → x ≡ get_or xs i x → each_once found (references_in (vals_of (drop i xs))) ≡ ks → new ≡ each_once found (references (val_of x))
    → each_once new (references_in (vals_of (drop (i + 1) xs))) ≡ ks
gather_next ks found new xs i x h e inv w =
    ap (λ rs. each_once rs (references_in (vals_of (drop (i + 1) xs)))) w
    ∙ sym (each_once_on found (references (val_of x)) (references_in (vals_of (drop (i + 1) xs))))
    ∙ ap (λ vs. each_once found (references_in vs)) (sym (vals_from xs i x h e))
    ∙ inv

-- none is left
pub gather_last : (ks found : List Reference) (xs : List Value) (i : ℕ) → length xs ≤ i → each_once found (references_in (vals_of (drop i xs))) ≡ ks → found ≡ ks
gather_last ks found xs i h inv = ap (λ vs. each_once found (references_in vs)) (sym (none_left xs i h)) ∙ inv

-- a set of references adds as the definition does
pub added : (rs new : List Reference) (r : Reference) → new ≡ cond (list_any (same_target r) rs) rs (rs ++ r ∷ []) → new ≡ and_reference rs r
added rs new r e =
    let same : same_target r ≡ same_reference r = λ i t. references_agree r t i in
    e ∙ ap (λ q. cond (list_any q rs) rs (rs ++ r ∷ [])) same
