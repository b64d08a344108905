-- The places of causes are collected along chains.
use Rattle.std.proofs.Common.{◌≡◌, ℕ, zero, suc, ◌+◌, ◌<◌, ◌≤◌, ◌==◌, Bool, true, false, cond, ◌||◌, List, [], ◌∷◌, ◌++◌, Option, Some, None, is_some, option_map, map, length, take, get_or, reverse, slice_get, take_all, append_assoc, Result, Ok, Err, IfOk, OnOk, refl, sym, ap, ap₂, ◌∙◌, subst, arith, eqb-true, eq-eqb, lt-ltb, ltb-true, true≢false}
use Rattle.std.proofs.Math.Bool.{Bool-set}
use Rattle.std.proofs.Math.Logic.{∥∥₁_elim}
use Rattle.std.specs.List.{list_any, AllByRecursion}
use Rattle.std.specs.List.Sorted.{IsStrictlySortedBy}
use Rattle.std.specs.Ordering.{nat_cmp}
use Rattle.std.specs.Option.{option_map_or}
use Rattle.std.specs.BTreeMap.{is_at}
use Rattle.std.specs.Cmp.{unsigned_ties}
use Rattle.std.proofs.lemmas.Bool.{or_left, or_right}
use Rattle.std.proofs.lemmas.List.{length-map, map-append}
use Rattle.std.proofs.lemmas.Option.{slice_get-map, slice_get_within, slice_get-get_or}
use Rattle.history.specs.Journal.{Entry, is_in}
use Rattle.history.specs.Chains.{chain}
use Rattle.history.proofs.Lists.{all_mapped, all_reversed}
use Rattle.history.proofs.Chaining.{chain_ends}
use Rattle.ids.specs.declared.names.EventName.{EventName}
use Rattle.ids.specs.declared.cells.CellKey.{CellKey}
use Rattle.journal.specs.Items.{Item, item_of, lasts_of, last_of, number_of}
use Rattle.journal.specs.Lines.{plain, bare, writer_of, wrote_cell, reached, is_cause, causes_in}
use Rattle.journal.specs.declared.entry.Entry as code
use Rattle.journal.specs.declared.entry.Touched.{Touched}
use Rattle.journal.proofs.Reversed.{map-map}
use Rattle.journal.proofs.Touching.{any-map}
use Rattle.event.specs.Events.{DoesNoted}
use Rattle.event.proofs.Law.{noted_laws}
use Rattle.causality.specs.Journals.{IsJournal}
use Rattle.causality.specs.Selections.{numbers}
use Rattle.causality.specs.Causes.{IsWriter, writer_place, has_place, passes_at, reached_at, number_at}
use Rattle.journal_links.specs.Places.{place_of, ArePlaces}
use Rattle.journal_links.specs.declared.places.Places.{Places}
use Rattle.journal.specs.Links.{names_of}
use Rattle.causality.proofs.Ascending.{ascending, named_ascending}
use Rattle.causality.proofs.Following.{number, named_place, one_place, here_or_on, all_place, Follows, follows}
use Rattle.causality.proofs.Numbered.{flipped}
use Rattle.causality.proofs.Placed.{within_by_place}

-- what holds of the item in each place holds of all
pub all_places : {A : Type 0} (P : A → Type 0) (xs : List A) → ((p : ℕ) (x : A) → slice_get xs p ≡ Some x → P x) → AllByRecursion P xs
all_places P [] h = tt
all_places P (x ∷ xs) h = (h 0 x refl, all_places P xs (λ p y g. h (suc p) y g))

-- nothing is reached from a name that no entry has
none_reached : (k : CellKey) (m : ℕ) (es : List (Entry plain)) → AllByRecursion (λ e. (m == e.event.name.0) ≡ false) es → chain plain k (Some m) es ≡ []
none_reached k m [] h = refl
none_reached k m (e ∷ es) (h, hs) = rw h (none_reached k m es hs)

module _ (items : List Item) (places : Places) where
  -- the number at a place is that of the name there
  number_there : (p : ℕ) → option_map number (slice_get items p) ≡ option_map (λ (e : EventName). e.0) (slice_get (names_of items) p)
  number_there p = sym (slice_get-map number items p) ∙ ap (λ ns. slice_get ns p) (sym (map-map (λ (e : EventName). e.0) (λ (i : Item). i.event.name) items)) ∙ slice_get-map (λ (e : EventName). e.0) (names_of items) p

  -- what is reached from the place of a writer is what is reached from the writer
  reached_place : ArePlaces places (names_of items) → (k : CellKey) (w : Option EventName) → reached items k (named_place items (writer_place places w)) ≡ reached items k (number_of w)
  reached_place are k None = refl
  reached_place are k (Some e) = by (place_of places e) refl
    where
      unnamed : place_of places e ≡ None → (p : ℕ) (i : Item) → slice_get items p ≡ Some i → (b : Bool) → (e.0 == number i) ≡ b → (e.0 == number i) ≡ false
      unnamed none p i at false is = is
      unnamed none p i at true is =
          let one : i.event.name ≡ e = λ j. record { 0 = sym (eqb-true e.0 (number i) is) j } in
          let there : slice_get (names_of items) p ≡ Some e = slice_get-map (λ (j : Item). j.event.name) items p ∙ ap (option_map (λ (j : Item). j.event.name)) at ∙ ap Some one in
          absurd (true≢false (sym ((are e).all p there) ∙ ap is_some none))

      by : (o : Option ℕ) → place_of places e ≡ o → reached items k (named_place items o) ≡ reached items k (Some e.0)
      by None none =
          chain_ends plain k (reverse (map bare items))
          ∙ sym (none_reached k e.0 (reverse (map bare items)) (all_reversed _ (map bare items) (all_mapped bare _ items (all_places _ items (λ p i at. unnamed none p i at (e.0 == number i) refl)))))
      by (Some p) found = ap (reached items k) (number_there p ∙ ap (option_map (λ (n : EventName). n.0)) ((are e).right p found))

module _ (items : List Item) (places : Places) (placed : ∥ ArePlaces places (names_of items) ∥₁) where
  pub reached_first : (k : CellKey) (w : Option EventName) (q : ℕ) → reached_at items k (named_place items (writer_place places w)) q ≡ reached_at items k (number_of w) q
  reached_first k w q = ∥∥₁_elim placed (Bool-set _ _) (λ are. ap (λ ns. passes_at (λ i. is_in ns (number i)) items q) (reached_place items places are k w))

  -- where a writer is found there is an item
  pub place_within : (w : Option EventName) (p : ℕ) → writer_place places w ≡ Some p → p < length items
  place_within None p h = cc
  place_within (Some e) p h = within_by_place places items placed e p h

  -- and it is whoever the writer is
  pub writer_wrote : (k : CellKey) (w : Option EventName) → IsWriter items k (number_of w) → (p : ℕ) → writer_place places w ≡ Some p → (i : Item) → slice_get items p ≡ Some i → wrote_cell i k ≡ true
  writer_wrote k None h p found i at = cc
  writer_wrote k (Some e) h p found i at = ∥∥₁_elim placed (Bool-set _ _) (λ are.
      (let named : Some e.0 ≡ Some (number i) = sym (number_there items places p ∙ ap (option_map (λ (n : EventName). n.0)) ((are e).right p found)) ∙ ap (option_map number) at in
      all_place _ items h p i at named))

  module _ (journal : IsJournal items) (k : CellKey) (here : ℕ) (i : Item) (at : slice_get items here ≡ Some i) (w : Option EventName) (writer : number_of w ≡ writer_of i k) where
    -- what was reached from a place is the place and what is reached from the writer before it
    pub reached_more : (old new : List ℕ) → ((q : ℕ) → list_any (is_at (nat_cmp q)) new ≡ cond (is_at (nat_cmp here) q) true (list_any (is_at (nat_cmp q)) old))
        → (q : ℕ) → (has_place new q || reached_at items k (named_place items (writer_place places w)) q) ≡ (has_place old q || reached_at items k (named_place items (Some here)) q)
    reached_more old new updates q = ∥∥₁_elim journal (Bool-set _ _) (λ j.
        let f : Follows items = follows DoesNoted noted_laws j.3 in
        ap₂ (λ a b. a || b) (added q) (reached_first k w q ∙ ap (λ n. reached_at items k n q) writer)
        ∙ turned (here == q) (has_place old q) _
        ∙ ap (λ b. has_place old q || b)
        (sym (ap (λ ns. passes_at (λ a. is_in ns (number a)) items q) (ap (λ o. reached items k (option_map number o)) at ∙ f.on k here i at) ∙ here_or_on items f.apart here i at (reached items k (writer_of i k)) q)))
      where
        at_place : (p r : ℕ) → is_at (nat_cmp p) r ≡ (r == p)
        at_place p r = sym (unsigned_ties p r) ∙ flipped p r

        members : (ks : List ℕ) (r : ℕ) → list_any (is_at (nat_cmp r)) ks ≡ has_place ks r
        members ks r = λ m. list_any (λ p. at_place r p m) ks

        added : (r : ℕ) → has_place new r ≡ cond (here == r) true (has_place old r)
        added r = sym (members new r) ∙ updates r ∙ (λ m. cond ((at_place here r ∙ flipped r here) m) true (members old r m))

        turned : (a b c : Bool) → (cond a true b || c) ≡ (b || (a || c))
        turned true true c = refl
        turned true false c = refl
        turned false b c = refl

    -- and the writer before it is older
    pub older_place : (p : ℕ) → writer_place places w ≡ Some p → p < here
    older_place p found = ltb-true p here (∥∥₁_elim placed (Bool-set _ _) (λ are. ∥∥₁_elim journal (Bool-set _ _) (λ j. lt-ltb p here (by are (follows DoesNoted noted_laws j.3) w writer found))))
      where
        by : ArePlaces places (names_of items) → Follows items → (v : Option EventName) → number_of v ≡ writer_of i k → writer_place places v ≡ Some p → p < here
        by are f None is g = cc
        by are f (Some e) is g =
            let o = f.older k here i e.0 at (sym is) in
            let there : slice_get (map number items) p ≡ Some e.0 = slice_get-map number items p ∙ number_there items places p ∙ ap (option_map (λ (n : EventName). n.0)) ((are e).right p g) in
            let same : p ≡ o.0 = one_place (map number items) f.apart p o.0 e.0 there o.2 in
            let lt : o.0 < here = o.1 in omega arith

-- the places of an item's causes
module _ (items : List Item) (i : Item) (ks : List ℕ) (has : (q : ℕ) → has_place ks q ≡ list_any (λ (t : CellKey × Option ℕ). reached_at items t.0 t.1 q) i.lasts) where
  cause_at : (q : ℕ) → has_place ks q ≡ passes_at (is_cause items i) items q
  cause_at q = has q ∙ by (slice_get items q)
    where
      never : (ts : List (CellKey × Option ℕ)) → list_any (λ (t : CellKey × Option ℕ). false) ts ≡ false
      never [] = refl
      never (t ∷ ts) = never ts

      by : (o : Option Item) → list_any (λ (t : CellKey × Option ℕ). option_map_or (λ a. is_in (reached items t.0 t.1) (number a)) o false) i.lasts ≡ option_map_or (is_cause items i) o false
      by None = never i.lasts
      by (Some a) = refl

  -- they are places of items
  pub places_within : AllByRecursion (λ p. p < length items) ks
  places_within = members ks (λ q h. within q (slice_get items q) refl (sym (cause_at q) ∙ h))
    where
      within : (q : ℕ) (o : Option Item) → slice_get items q ≡ o → option_map_or (is_cause items i) o false ≡ true → q < length items
      within q None e g = absurd (true≢false (sym g))
      within q (Some a) e g = slice_get_within items q a e

      members : (js : List ℕ) → ((q : ℕ) → has_place js q ≡ true → q < length items) → AllByRecursion (λ p. p < length items) js
      members [] h = tt
      members (j ∷ js) h = (h j (or_left _ _ (eq-eqb j j refl)), members js (λ q g. h q (or_right (j == q) _ g)))

  -- THE LEMMA: in ascending order their names are those of the causes
  pub names_of_causes : IsStrictlySortedBy nat_cmp ks → map (number_at items) ks ≡ causes_in items i
  names_of_causes sorted = named_ascending (is_cause items i) number items 0 ks (number_at items) (ascending ks sorted) (from_none ks)
      (λ q. (let e : 0 + q ≡ q = omega arith in ap (has_place ks) e) ∙ cause_at q)
      (λ q a at. (let e : 0 + q ≡ q = omega arith in ap (number_at items) e) ∙ ap (λ o. option_map_or number o 0) at)
    where
      from_none : (js : List ℕ) → AllByRecursion (λ k. 0 ≤ k) js
      from_none [] = tt
      from_none (j ∷ js) = ((let h : 0 ≤ j = omega arith in h), from_none js)

-- an item at a place of the entries
pub item_at : (xs : List code.Entry) (p : ℕ) (d : code.Entry) → p < length xs → slice_get (map item_of xs) p ≡ Some (item_of (get_or xs p d))
item_at xs p d h = slice_get-map item_of xs p ∙ ap (option_map item_of) (slice_get-get_or xs p d h)

pub items_length : (xs : List code.Entry) → length (map item_of xs) ≡ length xs
items_length xs = length-map xs item_of

-- a place that is nobody's, or before another one
pub place_falls : (new old : Option ℕ) (here : ℕ) → old ≡ Some here → ((p : ℕ) → new ≡ Some p → p < here) → option_map_or suc new 0 < option_map_or suc old 0
place_falls None old here is h = subst (λ o. 0 < option_map_or suc o 0) (sym is) (omega arith)
place_falls (Some p) old here is h = subst (λ o. suc p < option_map_or suc o 0) (sym is) (let lt : p < here = h p refl in omega arith)

-- from nobody no place is reached
pub none_more : (items : List Item) (k : CellKey) (ks : List ℕ) (q : ℕ) → has_place ks q ≡ (has_place ks q || reached_at items k (named_place items None) q)
none_more items k ks q = or_none (has_place ks q) ∙ ap (λ b. has_place ks q || b) (sym (ap (λ ns. passes_at (λ i. is_in ns (number i)) items q) (chain_ends plain k (reverse (map bare items))) ∙ none_at (slice_get items q)))
  where
    or_none : (b : Bool) → b ≡ (b || false)
    or_none true = refl
    or_none false = refl

    none_at : (o : Option Item) → option_map_or (λ i. is_in [] (number i)) o false ≡ false
    none_at None = refl
    none_at (Some i) = refl

-- a name more of the places that are left
pub named_more : (items : List Item) (old : List EventName) (n : EventName) (p : ℕ) (rest : List ℕ) → number_at items p ≡ n.0
    → numbers (old ++ n ∷ []) ++ map (number_at items) rest ≡ numbers old ++ map (number_at items) (p ∷ rest)
named_more items old n p rest is =
    ap (λ ns. ns ++ map (number_at items) rest) (map-append (λ (e : EventName). e.0) old (n ∷ []))
    ∙ append_assoc (numbers old) (n.0 ∷ []) (map (number_at items) rest)
    ∙ ap (λ m. numbers old ++ m ∷ map (number_at items) rest) (sym is)

-- all cells of an entry are gone through
pub all_cells : (items : List Item) (ts cs : List Touched) (i : ℕ) (ks : List ℕ) → cs ≡ ts → length cs ≤ i
    → ((q : ℕ) → has_place ks q ≡ list_any (λ t. reached_at items (last_of t).0 (last_of t).1 q) (take i cs)) → (q : ℕ) → has_place ks q ≡ list_any (λ (t : CellKey × Option ℕ). reached_at items t.0 t.1 q) (lasts_of ts)
all_cells items ts cs i ks is done has q =
    has q ∙ ap (list_any (λ t. reached_at items (last_of t).0 (last_of t).1 q)) (take_all i cs done ∙ is) ∙ sym (any-map last_of (λ (t : CellKey × Option ℕ). reached_at items t.0 t.1 q) ts)

-- two facts on what is returned
pub both_ok : {A E : Type 0} (P R : A → Type 0) (Q : Type 0) (r : Result A E) → IfOk r P → OnOk r Q → ((a : A) → P a → Q → R a) → IfOk r R
both_ok P R Q (Ok a) p q f = f a p q
both_ok P R Q (Err e) p q f = tt

-- an item stands at each place
pub some_there : {A : Type 0} (xs : List A) (p : ℕ) → p < length xs → (x : A) × (slice_get xs p ≡ Some x)
some_there [] p h = absurd (omega arith)
some_there (x ∷ xs) zero h = (x, refl)
some_there (x ∷ xs) (suc p) h = some_there xs p (omega arith)

-- items that stand before others, and those behind
pub before_there : {A : Type 0} (ss ys : List A) (p : ℕ) (x : A) → slice_get ss p ≡ Some x → slice_get (ss ++ ys) p ≡ Some x
before_there [] ys p x h = cc
before_there (s ∷ ss) ys zero x h = h
before_there (s ∷ ss) ys (suc p) x h = before_there ss ys p x h

pub behind_there : {A : Type 0} (ss ys : List A) (p : ℕ) → slice_get (ss ++ ys) (length ss + p) ≡ slice_get ys p
behind_there [] ys p = let e : 0 + p ≡ p = omega arith in ap (slice_get ys) e
behind_there (s ∷ ss) ys p = let e : length (s ∷ ss) + p ≡ suc (length ss + p) = omega arith in ap (slice_get (s ∷ (ss ++ ys))) e ∙ behind_there ss ys p

-- the number of the event at a place
pub number_is : (items : List Item) (p : ℕ) (e : EventName) → slice_get (map (λ i. i.event.name) items) p ≡ Some e → number_at items p ≡ e.0
number_is items p e h = by (slice_get items p) (sym (slice_get-map (λ (i : Item). i.event.name) items p) ∙ h)
  where
    by : (o : Option Item) → option_map (λ (i : Item). i.event.name) o ≡ Some e → option_map_or (λ (i : Item). i.event.name.0) o 0 ≡ e.0
    by None g = cc
    by (Some i) g = let one : i.event.name ≡ e = cc in ap (λ (n : EventName). n.0) one
