-- The vats of names, one name after another.
use Rattle.std.proofs.Common.{◌≡◌, ℕ, zero, suc, ◌<◌, List, [], ◌∷◌, length, get_or, None, sym, ap, ◌∙◌, arith}
use Rattle.kernele.specs.Tree.{Name}
use Rattle.post.specs.Messages.{Vat}
use Rattle.world_cells.specs.World.{World, vat_named}
use Rattle.event.specs.Events.{AreNamed}

-- each of these names is of a vat
named_at : (w : World) (xs : List Name) (vs : List Vat) (i : ℕ) (x : Name) → AreNamed w xs vs → i < length xs → vat_named w (get_or xs i x) ≡ None → ⊥
named_at w [] vs i x a h none = absurd (omega arith)
named_at w (y ∷ xs) [] i x a h none = a
named_at w (y ∷ xs) (v ∷ vs) zero x a h none = absurd (cc (a.0, none))
named_at w (y ∷ xs) (v ∷ vs) (suc i) x a h none = named_at w xs vs i x a.1 (omega arith) none

pub not_named : (w : World) (xs : List Name) (i : ℕ) (x : Name) → i < length xs → x ≡ get_or xs i x → vat_named w x ≡ None → (vs : List Vat) → AreNamed w xs vs → ⊥
not_named w xs i x h is none vs a = named_at w xs vs i x a h (ap (vat_named w) (sym is) ∙ none)
