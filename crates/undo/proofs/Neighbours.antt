-- Neighbours that may change places leave a core standing.
use Rattle.std.proofs.Common.{◌≡◌, ℕ, suc, ◌+◌, Bool, true, false, ◌&&◌, not, List, [], ◌∷◌, ◌++◌, length, map, reverse, refl, sym, ap, ap₂, ◌∙◌, subst, arith}
use mathlib.Core.List.{reverse_aux}
use Rattle.std.specs.List.{list_any, AllByRecursion}
use Rattle.std.proofs.lemmas.List.{reverse-reverse, length-map, map-append}
use Rattle.history.specs.Subject.{Laws, touches, meets}
use Rattle.history.specs.Records.{State, Row, Fits, entries_of}
use Rattle.history.specs.Chains.{HasCells, Chained}
use Rattle.history.specs.Stands.{Stands}
use Rattle.history.proofs.Standing.{exchanged_stands}
use Rattle.ids.specs.CellKeys.{same_key}
use Rattle.world_cells.specs.Theory.{Rule, subject, cells}
use Rattle.journal.specs.Items.{Item, may_exchange, neighbours, exchanged}
use Rattle.undo.specs.CoreView.{items_of}
use Rattle.journal.specs.Standing.{Told, told, row_told}
use Rattle.journal.proofs.Neighbouring.{map-exchanged, onto-append, exchanged-onto}
use Rattle.journal.proofs.Touching.{some_found, any_found}
use Rattle.undo.specs.Standing.{Exchanges}
use Rattle.undo.proofs.Looping.{and_first, and_second}
use Rattle.undo.proofs.Mapping.{neighbours-map}

-- the same tests of what is told
wrote_told : Told → Told → Bool
wrote_told a b = list_any (λ r. list_any (λ q. same_key r.0 q.0) b.lasts) a.kept

may_told : Told → Told → Bool
may_told b a = not (wrote_told b a) && not (wrote_told a b)

may_is : (n : ℕ) (items : List Item) → neighbours may_exchange n items ≡ neighbours may_told n (map told items)
unfolding wrote_told may_told
may_is n items = neighbours-map told may_exchange may_told (λ x y. refl) n items

may-suc : {A : Type 0} (test : A → A → Bool) (k : ℕ) (v : A) (ws : List A) → neighbours test (suc k) (v ∷ ws) ≡ neighbours test k ws
may-suc test k v [] = refl
may-suc test k v (w ∷ ws) = refl

may-onto : {A : Type 0} (test : A → A → Bool) (vs : List A) (k : ℕ) (ws : List A) → neighbours test (length vs + k) (reverse_aux vs ws) ≡ neighbours test k ws
may-onto test [] k ws = let e : 0 + k ≡ k = omega arith in ap (λ n. neighbours test n ws) e
may-onto test (v ∷ vs) k ws =
    let e : length (v ∷ vs) + k ≡ length vs + suc k = omega arith in
    ap (λ n. neighbours test n (reverse_aux vs (v ∷ ws))) e ∙ may-onto test vs (suc k) (v ∷ ws) ∙ may-suc test k v ws

not_true : (x : Bool) → (x ≡ true → false ≡ true) → x ≡ false
not_true true h = sym (h refl)
not_true false h = refl

not_is : (x : Bool) → not x ≡ true → x ≡ false
not_is true h = sym h
not_is false h = refl

module _ (does : Rule) (l : Laws (subject does)) where
  -- what is told of two rows holds of their footprints
  not_met : (p q : Row (subject does)) → Fits (subject does) p.0.foot p.1 → HasCells (subject does) q.0.foot q.0.lasts → wrote_told (row_told does p) (row_told does q) ≡ false → meets (subject does) p.0.foot q.0.foot ≡ false
  unfolding wrote_told
  not_met p q fits have h = not_true _ (λ met.
      let g = some_found does l (touches (subject does) q.0.foot) p.0.foot.writes met in
      let is : list_any (λ r. same_key g.0 r.0) q.0.lasts ≡ true = have g.0 ∙ g.1 in
      sym h ∙ any_found does l (λ k. list_any (λ r. same_key k r.0) q.0.lasts) p.1 g.0 (fits.cells g.0 ∙ g.2) is)

  traced_at : (xs : List (Row (subject does))) (a : Row (subject does)) (ys : List (Row (subject does))) → Chained (subject does) (entries_of (xs ++ a ∷ ys)) → HasCells (subject does) a.0.foot a.0.lasts
  traced_at [] a ys h = h.0.cells
  traced_at (x ∷ xs) a ys h = traced_at xs a ys h.1

  traced_next : (xs : List (Row (subject does))) (a b : Row (subject does)) (ys : List (Row (subject does))) → Chained (subject does) (entries_of (xs ++ a ∷ b ∷ ys)) → HasCells (subject does) b.0.foot b.0.lasts
  traced_next [] a b ys h = h.1.0.cells
  traced_next (x ∷ xs) a b ys h = traced_next xs a b ys h.1

  pair_at : {A : Type 0} (P : A → Type 0) (xs : List A) (a b : A) (ys : List A) → AllByRecursion P (xs ++ a ∷ b ∷ ys) → P a × P b
  pair_at P [] a b ys (p, (q, h)) = (p, q)
  pair_at P (x ∷ xs) a b ys (p, h) = pair_at P xs a b ys h

  module _ (xs ys : List (Row (subject does))) where
    around : (p q : Row (subject does)) → reverse (map (row_told does) (xs ++ p ∷ q ∷ ys)) ≡ reverse_aux (map (row_told does) ys) (row_told does q ∷ row_told does p ∷ reverse (map (row_told does) xs))
    around p q = ap reverse (map-append (row_told does) xs (p ∷ q ∷ ys)) ∙ onto-append (map (row_told does) xs) (row_told does p ∷ row_told does q ∷ map (row_told does) ys) []

  pub exchanges : Exchanges does
  unfolding may_told
  exchanges start next xs ys a b old new n h behind may is =
      let place : n ≡ length (map (row_told does) ys) + 0 = (let e = length-map ys (row_told does) in omega arith) in
      let items : map told (items_of old) ≡ reverse_aux (map (row_told does) ys) (row_told does b ∷ row_told does a ∷ reverse (map (row_told does) xs)) =
      sym (reverse-reverse (map told (items_of old))) ∙ ap reverse (sym h.shows) ∙ around xs ys a b in
      let allowed : may_told (row_told does b) (row_told does a) ≡ true =
      sym (may_is n (items_of old) ∙ ap₂ (neighbours may_told) place items ∙ may-onto may_told (map (row_told does) ys) 0 _) ∙ may in
      let fits = pair_at (λ p. Fits (subject does) p.0.foot p.1) xs a b ys h.stands.follows.fit in
      let ba : meets (subject does) b.0.foot a.0.foot ≡ false = not_met b a fits.1 (traced_at xs a (b ∷ ys) h.stands.chained) (not_is _ (and_first _ _ allowed)) in
      let ab : meets (subject does) a.0.foot b.0.foot ≡ false = not_met a b fits.0 (traced_next xs a b ys h.stands.chained) (not_is _ (and_second (not (wrote_told (row_told does b) (row_told does a))) _ allowed)) in
      record {
        shows =
            sym (ap (λ (r : List Item × State cells). reverse (map told r.0)) is
            ∙ ap reverse (map-exchanged told n (items_of old) ∙ ap₂ exchanged place items ∙ exchanged-onto (map (row_told does) ys) 0 _ ∙ sym (around xs ys b a))
            ∙ reverse-reverse _);
        stands = subst (Stands (subject does) start next (xs ++ b ∷ a ∷ ys)) (sym (ap (λ (r : List Item × State cells). r.1) is)) (exchanged_stands (subject does) l xs ys a b h.stands ab ba);
      }
