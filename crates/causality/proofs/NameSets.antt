-- On sets of names.
use Rattle.std.proofs.Common.{◌≡◌, ◌∙◌, ℕ, ◌+◌, ◌<◌, List, [], ◌∷◌, ◌++◌, Bool, true, false, cond, ◌&&◌, Some, length, map, take, get_or, slice_get, refl, sym, ap, eqb-true, eq-eqb, true≢false}
use Rattle.std.specs.Prelude.{◌||◌, ◌==◌}
use Rattle.std.specs.List.{list_any}
use Rattle.std.specs.Cmp.{unsigned_ties}
use Rattle.std.specs.BTreeMap.{is_at}
use Rattle.std.proofs.lemmas.Option.{slice_get_within, get_or_from_slice_get}
use Rattle.std.proofs.lemmas.List.Folds.{list_any-append, list_any_at, list_any_more}
use Rattle.history.specs.Journal.{is_in}
use Rattle.ids.specs.declared.names.EventName.{EventName}
use Rattle.ids.specs.contracts.names.EventNameOrd.TheImpl.{cmp-value}
use Rattle.journal.proofs.Touching.{any-map}
use Rattle.journal.specs.Items.{Item}
use Rattle.journal.specs.Lines.{line_of}
use Rattle.causality.specs.Names.{SameNames}
use Rattle.causality.specs.Selections.{numbers, is_entered}
use Rattle.causality.proofs.Numbered.{by_name}

among_is : (names : List EventName) (e : EventName) → is_in (numbers names) e.0 ≡ list_any (λ (n : EventName). n.0 == e.0) names
among_is names e = any-map (λ (n : EventName). n.0) (λ m. m == e.0) names

-- a set has the names that it finds
pub has_is : (keys : List EventName) (e : EventName) → list_any (is_at (cmp-value.it e)) keys ≡ is_in (numbers keys) e.0
has_is keys e = (λ i. list_any (λ n. by_name e n i) keys) ∙ sym (among_is keys e)

or_nothing : (b : Bool) → (b || false) ≡ b
or_nothing true = refl
or_nothing false = refl

either_or : (b c : Bool) → cond b true c ≡ (c || b)
either_or true true = refl
either_or true false = refl
either_or false true = refl
either_or false false = refl

by_at : (n e : EventName) → is_at (cmp-value.it n) e ≡ (n.0 == e.0)
by_at n e = sym (unsigned_ties n.0 e.0)

-- what is found in a set after a name was put into it
abbrev pub Put : EventName → List EventName → List EventName → Type 0
Put n old new = (q : EventName) → list_any (is_at (cmp-value.it q)) new ≡ cond (is_at (cmp-value.it n) q) true (list_any (is_at (cmp-value.it q)) old)

put_is : (n : EventName) (old new : List EventName) → Put n old new → (e : EventName) → is_in (numbers new) e.0 ≡ cond (n.0 == e.0) true (is_in (numbers old) e.0)
put_is n old new updates e = sym (has_is new e) ∙ updates e ∙ (λ k. cond (by_at n e k) true (has_is old e k))

-- one more name is in the set
pub one_more_name : (old new names : List EventName) (i : ℕ) (d : EventName) → i < length names → Put (get_or names i d) old new → SameNames old (take i names) → SameNames new (take (i + 1) names)
one_more_name old new names i d h updates before e =
    put_is (get_or names i d) old new updates e ∙ ap (cond ((get_or names i d).0 == e.0) true) (before e ∙ among_is (take i names) e)
    ∙ either_or ((get_or names i d).0 == e.0) (list_any (λ (n : EventName). n.0 == e.0) (take i names)) ∙ sym (list_any_more (λ n. n.0 == e.0) names i d h) ∙ sym (among_is (take (i + 1) names) e)

pub name_added : (old new names : List EventName) (n : EventName) → Put n old new → SameNames old names → SameNames new (names ++ n ∷ [])
name_added old new names n updates before e =
    put_is n old new updates e ∙ ap (cond (n.0 == e.0) true) (before e ∙ among_is names e)
    ∙ either_or (n.0 == e.0) (list_any (λ (m : EventName). m.0 == e.0) names) ∙ ap (λ b. list_any (λ (m : EventName). m.0 == e.0) names || b) (sym (or_nothing (n.0 == e.0)))
    ∙ sym (list_any-append (λ (m : EventName). m.0 == e.0) names (n ∷ [])) ∙ sym (among_is (names ++ n ∷ []) e)

-- a name at a place is one of the names
pub at_place : (names : List EventName) (i : ℕ) (d : EventName) → i < length names → is_in (numbers names) (get_or names i d).0 ≡ true
at_place names i d h = among_is names (get_or names i d) ∙ list_any_at (λ (n : EventName). n.0 == (get_or names i d).0) names i d h (eq-eqb (get_or names i d).0 (get_or names i d).0 refl)

-- the names of a set that are among these
abbrev pub in_names : List EventName → EventName → Bool
in_names xs e = list_any (λ x. x.0 == e.0) xs

abbrev pub Found : List EventName → List EventName → List EventName → Type 0
Found keys names xs = (e : EventName) → is_in (numbers keys) e.0 ≡ (is_in (numbers names) e.0 && in_names xs e)

pub found_none : (keys names : List EventName) → keys ≡ [] → Found keys names []
found_none keys names none e = ap (λ ks. is_in (numbers ks) e.0) none ∙ never (is_in (numbers names) e.0)
  where
    never : (b : Bool) → false ≡ (b && false)
    never true = refl
    never false = refl

module _ (old names : List EventName) (xs : List EventName) (i : ℕ) (x : EventName) (at : slice_get xs i ≡ Some x) where
  here : i < length xs
  here = slice_get_within xs i x at

  is : x ≡ get_or xs i x
  is = sym (get_or_from_slice_get xs i x x at)

  one_entry : (e : EventName) → in_names (take (i + 1) xs) e ≡ (in_names (take i xs) e || (x.0 == e.0))
  one_entry e = list_any_more (λ y. y.0 == e.0) xs i x here ∙ ap (λ (y : EventName). in_names (take i xs) e || (y.0 == e.0)) (sym is)

  same_name : (e : EventName) (b : Bool) → is_in (numbers names) x.0 ≡ b → (x.0 == e.0) ≡ true → is_in (numbers names) e.0 ≡ b
  same_name e b has same = ap (is_in (numbers names)) (sym (eqb-true x.0 e.0 same)) ∙ has

  pub found_more : (new : List EventName) → Put x old new → is_in (numbers names) x.0 ≡ true → Found old names (take i xs) → Found new names (take (i + 1) xs)
  found_more new updates has before e =
      put_is x old new updates e ∙ ap (cond (x.0 == e.0) true) (before e) ∙ by (x.0 == e.0) (is_in (numbers names) e.0) (in_names (take i xs) e) (same_name e true has) ∙ ap (λ b. is_in (numbers names) e.0 && b) (sym (one_entry e))
    where
      by : (b m y : Bool) → (b ≡ true → m ≡ true) → cond b true (m && y) ≡ (m && (y || b))
      by true true true h = refl
      by true true false h = refl
      by true false y h = sym (h refl)
      by false true true h = refl
      by false true false h = refl
      by false false y h = refl

  pub found_past : is_in (numbers names) x.0 ≡ false → Found old names (take i xs) → Found old names (take (i + 1) xs)
  found_past out before e =
      before e ∙ by (x.0 == e.0) (is_in (numbers names) e.0) (in_names (take i xs) e) (same_name e false out) ∙ ap (λ b. is_in (numbers names) e.0 && b) (sym (one_entry e))
    where
      by : (b m y : Bool) → (b ≡ true → m ≡ false) → (m && y) ≡ (m && (y || b))
      by true true y h = absurd (true≢false (h refl))
      by true false y h = refl
      by false true true h = refl
      by false true false h = refl
      by false false y h = refl

-- the journal has an event where an entry of it has its name
pub entered_is : (all items : List Item) (e : EventName) → is_entered (map (line_of all) items) e ≡ in_names (map (λ i. i.event.name) items) e
entered_is all items e = any-map (line_of all) (λ l. l.entry.event.name.0 == e.0) items ∙ sym (any-map (λ (i : Item). i.event.name) (λ n. n.0 == e.0) items)
