-- A chain is followed from place to place, to older and older entries.
use Rattle.std.proofs.Common.{◌≡◌, ◌≢◌, ℕ, zero, suc, ◌<◌, ◌==◌, Bool, true, false, ◌||◌, List, [], ◌∷◌, ◌++◌, Option, Some, None, unwrap_or, option_map, map, length, reverse, slice_get, inl, inr, refl, sym, ap, ap₂, ◌∙◌, subst, arith, append_assoc, eqb-true, eq-eqb, ne_eqb}
use Rattle.std.specs.List.{list_any, AllByRecursion}
use Rattle.std.specs.Option.{option_and_then, option_map_or}
use Rattle.std.proofs.lemmas.Bool.{false≢true, or_cases}
use Rattle.std.proofs.lemmas.List.{reverse-append, map-append, length-map}
use Rattle.std.proofs.lemmas.List.Sorted.{list_any-IsPermutation, IsPermutation-reverse}
use Rattle.std.proofs.lemmas.Option.{slice_get-map}
use Rattle.history.specs.Subject.{Laws, found}
use Rattle.history.specs.Journal.{name_of, is_in, Distinct}
use Rattle.history.specs.Records.{State, Row, entries_of}
use Rattle.history.specs.Chains.{chain, last_of}
use Rattle.history.proofs.Lists.{all_append, all_reversed}
use Rattle.history.proofs.Standing.{chain_stands}
use Rattle.ids.specs.declared.cells.CellKey.{CellKey}
use Rattle.world_cells.specs.World.{World}
use Rattle.world_cells.specs.Theory.{Rule, subject, cells}
use Rattle.journal.specs.Items.{Item}
use Rattle.journal.specs.Lines.{plain, reached, writer_of}
use Rattle.journal.specs.Standing.{Told, told, row_told, ItemsStand}
use Rattle.journal.proofs.Reversed.{map-map, map-reverse}
use Rattle.journal.proofs.Touching.{any-map}
use Rattle.journal.proofs.Telling.{reached_is, items_told}

-- the number of an item's event
abbrev pub number : Item → ℕ
number i = i.event.name.0

-- the number of the event at a place
abbrev pub named_place : List Item → Option ℕ → Option ℕ
named_place items place = option_and_then (λ p. option_map number (slice_get items p)) place

-- no number stands twice
abbrev pub Apart : List ℕ → Type 0
Apart [] = Unit {0}
Apart (n ∷ ns) = AllByRecursion (λ m. m ≢ n) ns × Apart ns

apart_last : (ns : List ℕ) (m : ℕ) → Apart ns → AllByRecursion (λ n. n ≢ m) ns → Apart (ns ++ m ∷ [])
apart_last [] m h g = (tt, tt)
apart_last (n ∷ ns) m (h, hs) (g, gs) = (all_append _ ns (m ∷ []) h ((λ is. g (sym is)), tt), apart_last ns m hs gs)

apart_reversed : (ns : List ℕ) → Apart ns → Apart (reverse ns)
apart_reversed [] h = tt
apart_reversed (n ∷ ns) (h, hs) = subst Apart (sym (reverse-append (n ∷ []) ns)) (apart_last (reverse ns) n (apart_reversed ns hs) (all_reversed _ ns h))

pub all_place : {A : Type 0} (P : A → Type 0) (xs : List A) → AllByRecursion P xs → (p : ℕ) (x : A) → slice_get xs p ≡ Some x → P x
all_place P [] h p x g = cc
all_place P (y ∷ xs) (h, hs) zero x g = let is : y ≡ x = cc in subst P is h
all_place P (y ∷ xs) (h, hs) (suc p) x g = all_place P xs hs p x g

-- a number stands in one place
pub one_place : (ns : List ℕ) → Apart ns → (p q m : ℕ) → slice_get ns p ≡ Some m → slice_get ns q ≡ Some m → p ≡ q
one_place [] h p q m a b = cc
one_place (n ∷ ns) (h, hs) zero zero m a b = refl
one_place (n ∷ ns) (h, hs) zero (suc q) m a b = let is : n ≡ m = cc in absurd (all_place _ ns h q m b (sym is))
one_place (n ∷ ns) (h, hs) (suc p) zero m a b = let is : n ≡ m = cc in absurd (all_place _ ns h p m a (sym is))
one_place (n ∷ ns) (h, hs) (suc p) (suc q) m a b = ap suc (one_place ns hs p q m a b)

-- the item at a place is the first of these names, or another of them
pub here_or_on : (items : List Item) → Apart (map number items) → (p : ℕ) (i : Item) → slice_get items p ≡ Some i → (ns : List ℕ) (q : ℕ)
    → option_map_or (λ j. is_in (number i ∷ ns) (number j)) (slice_get items q) false ≡ ((p == q) || option_map_or (λ j. is_in ns (number j)) (slice_get items q) false)
here_or_on items apart p i at ns q = by (slice_get items q) refl
  where
    numbered : (k : ℕ) (j : Item) → slice_get items k ≡ Some j → slice_get (map number items) k ≡ Some (number j)
    numbered k j g = slice_get-map number items k ∙ ap (option_map number) g

    same : (j : Item) → slice_get items q ≡ Some j → (b : Bool) → (p == q) ≡ b → (number i == number j) ≡ b
    same j g true e =
        let is : p ≡ q = eqb-true p q e in
        let both : Some i ≡ Some j = sym at ∙ ap (slice_get items) is ∙ g in
        let one : i ≡ j = cc in
        eq-eqb (number i) (number j) (ap number one)
    same j g false e = ne_eqb (number i) (number j) (λ is. false≢true (sym e ∙ eq-eqb p q (one_place (map number items) apart p q (number j) (numbered p i at ∙ ap Some is) (numbered q j g))))

    none_same : slice_get items q ≡ None → (b : Bool) → (p == q) ≡ b → false ≡ (b || false)
    none_same g true e =
        let is : p ≡ q = eqb-true p q e in
        let both : Some i ≡ None = sym at ∙ ap (slice_get items) is ∙ g in cc
    none_same g false e = refl

    by : (o : Option Item) → slice_get items q ≡ o → option_map_or (λ j. is_in (number i ∷ ns) (number j)) o false ≡ ((p == q) || option_map_or (λ j. is_in ns (number j)) o false)
    by None g = none_same g (p == q) refl
    by (Some j) g = ap (λ b. b || is_in ns (number j)) (same j g (p == q) refl)

-- what is known of items where chains are followed
pub record Follows (items : List Item) : Type 0 where
  pub apart : Apart (map number items)
  pub on : (k : CellKey) (p : ℕ) (i : Item) → slice_get items p ≡ Some i → reached items k (Some (number i)) ≡ number i ∷ reached items k (writer_of i k)
  pub older : (k : CellKey) (p : ℕ) (i : Item) (n : ℕ) → slice_get items p ≡ Some i → writer_of i k ≡ Some n → (q : ℕ) × (q < p) × (slice_get (map number items) q ≡ Some n)

-- a list around the item at a place
pub split_at : {A : Type 0} (xs : List A) (p : ℕ) (x : A) → slice_get xs p ≡ Some x → (us : List A) × (vs : List A) × (xs ≡ us ++ x ∷ vs) × (length us ≡ p)
split_at [] p x g = cc
split_at (y ∷ xs) zero x g = let is : y ≡ x = cc in ([], xs, ap (λ z. z ∷ xs) is, refl)
split_at (y ∷ xs) (suc p) x g = let s = split_at xs p x g in (y ∷ s.0, s.1, ap (λ l. y ∷ l) s.2, ap suc s.3)

head_or : {A : Type 0} → A → List A → A
head_or d [] = d
head_or d (x ∷ xs) = x

tail_of : {A : Type 0} → List A → List A
tail_of [] = []
tail_of (x ∷ xs) = xs

-- what is mapped to a list around an item is such a list
split_map : {A B : Type 0} (f : A → B) (xs : List A) (us : List B) (y : B) (vs : List B) → map f xs ≡ us ++ y ∷ vs → (ws : List A) × (x : A) × (zs : List A) × (xs ≡ ws ++ x ∷ zs) × (f x ≡ y) × (map f zs ≡ vs)
unfolding head_or tail_of
split_map f [] [] y vs e = cc
split_map f [] (u ∷ us) y vs e = cc
split_map f (x ∷ xs) [] y vs e = ([], x, xs, refl, ap (head_or y) e, ap tail_of e)
split_map f (x ∷ xs) (u ∷ us) y vs e = let s = split_map f xs us y vs (ap tail_of e) in (x ∷ s.0, s.1, s.2, ap (λ l. x ∷ l) s.3, s.4, s.5)

-- what is among these stands somewhere
place_of_any : (n : ℕ) (xs : List ℕ) → list_any (λ m. m == n) xs ≡ true → (q : ℕ) × (q < length xs) × (slice_get xs q ≡ Some n)
place_of_any n [] h = absurd (false≢true h)
place_of_any n (x ∷ xs) h = elim (or_cases (x == n) _ h) [
  | inl here ↦ (0, omega arith, ap Some (eqb-true x n here))
  | inr there ↦ let g = place_of_any n xs there in (suc g.0, (let lt = g.1 in omega arith), g.2)
]

place_before : {A : Type 0} (us vs : List A) (q : ℕ) (x : A) → slice_get us q ≡ Some x → slice_get (us ++ vs) q ≡ Some x
place_before [] vs q x g = cc
place_before (u ∷ us) vs zero x g = g
place_before (u ∷ us) vs (suc q) x g = place_before us vs q x g

distinct_apart : (does : Rule) (rows : List (Row (subject does))) → Distinct (subject does) (entries_of rows) → Apart (map (λ p. p.0.event.name.0) rows)
distinct_apart does [] h = tt
distinct_apart does (p ∷ rows) (h, hs) = (all_names rows h, distinct_apart does rows hs)
  where
    all_names : (qs : List (Row (subject does))) → AllByRecursion (λ a. name_of (subject does) a ≢ name_of (subject does) p.0) (entries_of qs) → AllByRecursion (λ m. m ≢ p.0.event.name.0) (map (λ q. q.0.event.name.0) qs)
    all_names [] g = tt
    all_names (q ∷ qs) (g, gs) = (g, all_names qs gs)

-- the number of what is told, and the last writer of a cell that is told
told_number : Told → ℕ
told_number t = t.event.name.0

told_writer : CellKey → Told → Option ℕ
told_writer k t = unwrap_or (found plain t.lasts k) None

module _ (does : Rule) (l : Laws (subject does)) {start : World} {next : ℕ} {rows : List (Row (subject does))} {items : List Item} {state : State cells} (h : ItemsStand does start next rows items state) where
  numbers_apart : Apart (map number items)
  unfolding told_number
  numbers_apart = subst Apart
      (sym (sym (map-map told_number told items) ∙ ap (map told_number) (items_told does rows items h.shows) ∙ map-reverse told_number (map (row_told does) rows) ∙ ap reverse (map-map told_number (row_told does) rows)))
      (apart_reversed (map (λ p. p.0.event.name.0) rows) (distinct_apart does rows h.stands.named.distinct))

  module _ (k : CellKey) (p : ℕ) (i : Item) (at : slice_get items p ≡ Some i) where
    -- the rows around that of the item
    rows_around : (us : List Item) (vs : List Item) → items ≡ us ++ i ∷ vs
        → (ws : List (Row (subject does))) × (r : Row (subject does)) × (zs : List (Row (subject does))) × (rows ≡ ws ++ r ∷ zs) × (row_told does r ≡ told i) × (map (row_told does) zs ≡ reverse (map told us))
    rows_around us vs is = split_map (row_told does) rows (reverse (map told vs)) (told i) (reverse (map told us))
        (h.shows ∙ ap (λ its. reverse (map told its)) is ∙ ap reverse (map-append told us (i ∷ vs))
        ∙ reverse-append (map told us) (told i ∷ map told vs)
        ∙ ap (λ ts. ts ++ reverse (map told us)) (reverse-append (told i ∷ []) (map told vs))
        ∙ append_assoc (reverse (map told vs)) (told i ∷ []) (reverse (map told us)))

    followed : (reached items k (Some (number i)) ≡ number i ∷ reached items k (writer_of i k)) × ((n : ℕ) → writer_of i k ≡ Some n → (q : ℕ) × (q < p) × (slice_get (map number items) q ≡ Some n))
    unfolding told_number told_writer
    followed =
        let s = split_at items p i at in
        let us = s.0 in
        let around = rows_around us s.1 s.2 in
        let r = around.1 in
        let zs = around.2 in
        let entries : entries_of rows ≡ entries_of around.0 ++ r.0 ∷ entries_of zs = ap entries_of around.3 ∙ map-append (λ (q : Row (subject does)). q.0) around.0 (r ∷ zs) in
        let c = chain_stands (subject does) l h.stands k (entries_of around.0) (entries_of zs) r.0 entries in
        let name : r.0.event.name.0 ≡ number i = ap told_number around.4 in
        let last : last_of (subject does) r.0 k ≡ writer_of i k = ap (told_writer k) around.4 in
        let back = reached_is does rows items h.shows k in (
          back (Some (number i)) ∙ ap (λ m. chain (subject does) k (Some m) (entries_of rows)) (sym name) ∙ c.0 ∙ ap₂ (λ m ns. m ∷ ns) name (ap (λ o. chain (subject does) k o (entries_of rows)) last ∙ sym (back (writer_of i k))),
          λ n writes.
              let any : list_any (λ m. m == n) (map number us) ≡ true =
              ap (list_any (λ m. m == n)) (sym (map-map told_number told us))
              ∙ any-map told_number (λ m. m == n) (map told us)
              ∙ list_any-IsPermutation (λ t. told_number t == n) (map told us) (reverse (map told us)) (IsPermutation-reverse (map told us))
              ∙ ap (list_any (λ t. told_number t == n)) (sym around.5)
              ∙ any-map (row_told does) (λ t. told_number t == n) zs
              ∙ sym (any-map (λ (q : Row (subject does)). q.0) (λ b. name_of (subject does) b == n) zs)
              ∙ c.1 n (last ∙ writes) in
              let g = place_of_any n (map number us) any in
              let short : length (map number us) ≡ length us = length-map us number in
              let count : length us ≡ p = s.3 in
              let lt : g.0 < length (map number us) = g.1 in (
                g.0,
                omega arith,
                ap (λ ms. slice_get ms g.0) (ap (map number) s.2 ∙ map-append number us (i ∷ s.1)) ∙ place_before (map number us) (map number (i ∷ s.1)) g.0 n g.2,
              ),
        )

  pub follows : Follows items
  follows = record { apart = numbers_apart; on = λ k p i at. (followed k p i at).0; older = λ k p i n at writes. (followed k p i at).1 n writes }
