-- The vats of names, one name after another.
use Rattle.std.proofs.Common.{◌≡◌, ℕ, ◌+◌, ◌<◌, ◌≤◌, List, [], ◌∷◌, ◌++◌, length, get_or, take, Some, sym, ap, ◌∙◌, subst}
use Rattle.std.proofs.lemmas.List.{take_more, take_all, map-append}
use Rattle.ids.specs.declared.names.VatNo.{VatNo}
use Rattle.kernele.specs.Tree.{Name}
use Rattle.post.specs.Messages.{Vat}
use Rattle.world_cells.specs.World.{World, vat_named}
use Rattle.event.specs.Events.{AreNamed}
use Rattle.event.specs.Naming.{Numbers}

-- one more name behind the others
named_more : (w : World) (xs : List Name) (vs : List Vat) (x : Name) (v : Vat) → AreNamed w xs vs → vat_named w x ≡ Some v → AreNamed w (xs ++ x ∷ []) (vs ++ v ∷ [])
named_more w [] [] x v a h = (h, tt)
named_more w [] (u ∷ us) x v a h = absurd a
named_more w (y ∷ xs) [] x v a h = absurd a
named_more w (y ∷ xs) (u ∷ us) x v a h = (a.0, named_more w xs us x v a.1 h)

-- before the first name
pub numbers_none : (w : World) (ns : List VatNo) → ns ≡ [] → Numbers w [] ns
numbers_none w ns h = record { vats = []; named = tt; numbered = sym h }

-- behind the name at a place
pub numbers_more : (w : World) (xs : List Name) (i : ℕ) (x : Name) (v : Vat) (ns ms : List VatNo) → i < length xs → x ≡ get_or xs i x → vat_named w x ≡ Some v → ms ≡ ns ++ v.number ∷ [] → Numbers w (take i xs) ns → Numbers w (take (i + 1) xs) ms
numbers_more w xs i x v ns ms h is there more n = record {
  vats = n.vats ++ v ∷ [];
  named = subst (λ (ys : List Name). AreNamed w ys (n.vats ++ v ∷ [])) (sym (take_more xs i x h ∙ ap (λ y. take i xs ++ y ∷ []) (sym is))) (named_more w (take i xs) n.vats x v n.named there);
  numbered = map-append (λ (u : Vat). u.number) n.vats (v ∷ []) ∙ ap (λ ks. ks ++ v.number ∷ []) n.numbered ∙ sym more;
}

-- behind the last name
pub numbers_all : (w : World) (xs : List Name) (i : ℕ) (ns : List VatNo) → length xs ≤ i → Numbers w (take i xs) ns → Numbers w xs ns
numbers_all w xs i ns h n = subst (λ (ys : List Name). Numbers w ys ns) (take_all i xs h) n
