-- The vats of names, one name after another.
use Rattle.std.proofs.Common.{◌≡◌, ℕ, zero, suc, ◌<◌, List, [], ◌∷◌, length, get_or, take, Option, Some, None, refl, sym, ap, ◌∙◌, arith}
use Rattle.ids.specs.declared.names.VatNo.{VatNo}
use Rattle.kernele.specs.Tree.{Name}
use Rattle.post.specs.Messages.{Vat}
use Rattle.world_cells.specs.World.{World, vat_named}
use Rattle.event.specs.Events.{AreNamed}
use Rattle.event.specs.Naming.{Numbers}
use Rattle.book_refusals.specs.Refusals.{first, no_vat}
use Rattle.book.specs.Refusals.{absent_refusal, named_refusal}

-- where all are there, none is refused
all_named : (w : World) (xs : List Name) (vs : List Vat) → AreNamed w xs vs → named_refusal w xs ≡ None
all_named w [] vs a = refl
all_named w (x ∷ xs) [] a = absurd a
all_named w (x ∷ xs) (v ∷ vs) a = ap (λ (o : Option Vat). first (absent_refusal x o) (named_refusal w xs)) a.0 ∙ all_named w xs vs a.1

pub none_absent : (w : World) (xs : List Name) (ns : List VatNo) → Numbers w xs ns → named_refusal w xs ≡ None
none_absent w xs ns n = all_named w xs n.vats n.named

-- the first that is not there is told
first_absent : (w : World) (xs : List Name) (vs : List Vat) (i : ℕ) (x : Name) → AreNamed w (take i xs) vs → i < length xs → x ≡ get_or xs i x → vat_named w x ≡ None → named_refusal w xs ≡ Some (no_vat x)
first_absent w [] vs i x a h is none = absurd (omega arith)
first_absent w (y ∷ xs) vs zero x a h is none = ap (λ (o : Option Vat). first (absent_refusal y o) (named_refusal w xs)) (ap (vat_named w) (sym is) ∙ none) ∙ ap (λ (z : Name). Some (no_vat z)) (sym is)
first_absent w (y ∷ xs) [] (suc i) x a h is none = absurd a
first_absent w (y ∷ xs) (v ∷ vs) (suc i) x a h is none = ap (λ (o : Option Vat). first (absent_refusal y o) (named_refusal w xs)) a.0 ∙ first_absent w xs vs i x a.1 (omega arith) is none

pub absent_at : (w : World) (xs : List Name) (ns : List VatNo) (i : ℕ) (x : Name) → Numbers w (take i xs) ns → i < length xs → x ≡ get_or xs i x → vat_named w x ≡ None → named_refusal w xs ≡ Some (no_vat x)
absent_at w xs ns i x n h is none = first_absent w xs n.vats i x n.named h is none
