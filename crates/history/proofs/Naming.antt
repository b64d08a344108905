-- Names: the causes that are computed are the causes, and a new name is no older entry's cause.
use Rattle.std.proofs.Common.{◌≡◌, ◌≢◌, ℕ, ◌<◌, ◌≤◌, Bool, true, false, cond, ◌&&◌, ◌==◌, List, [], ◌∷◌, map, filter, reverse, Option, ◌∙◌, refl, sym, arith, ne_eqb, eq-eqb}
use Rattle.std.specs.List.{AllByRecursion}
use Rattle.std.proofs.lemmas.Bool.{or_left}
use Rattle.std.proofs.lemmas.List.Sorted.{list_any-IsPermutation, IsPermutation-reverse}
use Rattle.history.specs.Subject.{Subject, Laws, World, Foot, after, meets}
use Rattle.history.specs.Journal.{Entry, name_of, is_in, named, live_set, Good, Distinct, Below, Free, Named, causes_of, NamesCauses, new_entry}
use Rattle.history.proofs.Lists.{all_map, all_both, all_reversed}
use Rattle.history.proofs.Changes.{appended_good}

-- names below a number do not have it
above : (m : ℕ) (ns : List ℕ) → AllByRecursion (λ n. n < m) ns → is_in ns m ≡ false
above m [] h = refl
above m (n ∷ ns) (p, h) = rw (ne_eqb n m (λ q. omega (arith, p, q))) (above m ns h)

-- an order does not change what is named
pub named_reversed : (ns : List ℕ) (m : ℕ) → is_in (reverse ns) m ≡ is_in ns m
named_reversed ns m = sym (list_any-IsPermutation (λ n. n == m) ns (reverse ns) (IsPermutation-reverse ns))

module _ (s : Subject) where
  pub none_named : (p : Entry s → Bool) (m : ℕ) (es : List (Entry s)) → AllByRecursion (λ a. name_of s a ≢ m) es → is_in (map (name_of s) (filter p es)) m ≡ false
  none_named p m [] h = refl
  none_named p m (e ∷ es) (ne, h) = elim (p e) as (λ b. is_in (map (name_of s) (cond b (e ∷ filter p es) (filter p es))) m ≡ false) [
    | true ↦ rw (ne_eqb (name_of s e) m ne) (none_named p m es h)
    | false ↦ none_named p m es h
  ]

  -- an entry is named by the names of what passes a test exactly where it passes
  pub named_filter : (p : Entry s → Bool) (es : List (Entry s)) → Distinct s es → AllByRecursion (λ a. named s (map (name_of s) (filter p es)) a ≡ p a) es
  named_filter p [] h = tt
  named_filter p (e ∷ es) (ne, h) = (
    elim (p e) as (λ b. is_in (map (name_of s) (cond b (e ∷ filter p es) (filter p es))) (name_of s e) ≡ b) [
      | true ↦ or_left _ _ (eq-eqb (name_of s e) (name_of s e) refl)
      | false ↦ none_named p (name_of s e) es ne
    ],
    elim (p e) as (λ b. AllByRecursion (λ a. is_in (map (name_of s) (cond b (e ∷ filter p es) (filter p es))) (name_of s a) ≡ p a) es) [
      | true ↦ all_both _ _ _ es (λ a q ih. rw (ne_eqb (name_of s e) (name_of s a) (λ is. q (sym is))) ih) ne (named_filter p es h)
      | false ↦ named_filter p es h
    ],
  )

  filtered_below : (p : Entry s → Bool) (next : ℕ) (es : List (Entry s)) → Below s next es → AllByRecursion (λ n. n < next) (map (name_of s) (filter p es))
  filtered_below p next [] h = tt
  filtered_below p next (e ∷ es) (b, h) = elim (p e) as (λ b. AllByRecursion (λ n. n < next) (map (name_of s) (cond b (e ∷ filter p es) (filter p es)))) [
    | true ↦ (b.0, filtered_below p next es h)
    | false ↦ filtered_below p next es h
  ]

  -- the computed causes are the causes
  pub causes_named : {next : ℕ} {es : List (Entry s)} (f : Foot s) → Named s next es → NamesCauses s (causes_of s f es) f es
  causes_named {es = es} f h = named_filter (λ a. a.live && meets s a.foot f) es h.distinct

  pub causes_below : {next : ℕ} {es : List (Entry s)} (f : Foot s) → Named s next es → AllByRecursion (λ n. n < next) (causes_of s f es)
  causes_below {next = next} {es = es} f h = filtered_below (λ a. a.live && meets s a.foot f) next es h.below

  -- also the oldest first
  pub causes_named_reversed : {next : ℕ} {es : List (Entry s)} (f : Foot s) → Named s next es → NamesCauses s (reverse (causes_of s f es)) f es
  causes_named_reversed {es = es} f h = all_map _ _ es (λ a p. named_reversed (causes_of s f es) (name_of s a) ∙ p) (causes_named f h)

  pub causes_below_reversed : {next : ℕ} {es : List (Entry s)} (f : Foot s) → Named s next es → AllByRecursion (λ n. n < next) (reverse (causes_of s f es))
  causes_below_reversed {es = es} f h = all_reversed _ (causes_of s f es) (causes_below f h)

  -- names from the next one on are free
  pub free_from : (n next : ℕ) (es : List (Entry s)) → Below s next es → next ≤ n → Free s n es
  free_from n next es h le = all_map _ _ es (λ a b. (λ is. omega (arith, b.0, le, is), above n a.causes (all_map _ _ a.causes (λ m lt. omega (arith, lt, le)) b.1))) h

  -- what is free is no computed cause
  pub free_causes : (n : ℕ) (f : Foot s) (es : List (Entry s)) → Free s n es → is_in (causes_of s f es) n ≡ false
  free_causes n f es h = none_named (λ a. a.live && meets s a.foot f) n es (all_map _ _ es (λ a q. q.0) h)

  pub free_causes_reversed : (n : ℕ) (f : Foot s) (es : List (Entry s)) → Free s n es → is_in (reverse (causes_of s f es)) n ≡ false
  free_causes_reversed n f es h = named_reversed (causes_of s f es) n ∙ free_causes n f es h

  -- names stay apart at an append
  pub appended_named : {next later : ℕ} {es : List (Entry s)} (e : s.Event) (f : Foot s) (ns : List ℕ) (ls : List (s.Key × Option ℕ)) → Named s next es → Free s (s.name e) es → next ≤ later
      → s.name e < later → AllByRecursion (λ n. n < later) ns → is_in ns (s.name e) ≡ false → Named s later (new_entry s e f ns ls ∷ es)
  appended_named {es = es} e f ns ls h free le lt below other = record {
    distinct = (all_map _ _ es (λ a q. q.0) free, h.distinct);
    below = (
      (lt, below),
      all_map _ _ es (λ a b. (omega (arith, b.0, le), all_map _ _ a.causes (λ n m. omega (arith, m, le)) b.1)) h.below,
    );
    own = (other, h.own);
  }

module _ (s : Subject) (l : Laws s) where
  -- an event that is possible is appended with its footprint and the names of its causes
  pub appended : {start w : World s} {es : List (Entry s)} (e : s.Event) (f : Foot s) (ns : List ℕ) (ls : List (s.Key × Option ℕ)) → Good s start (live_set s) es w
      → s.Does e w f → Free s (s.name e) es → NamesCauses s ns f es →
      Good s start (live_set s) (new_entry s e f ns ls ∷ es) (after s f w)
  appended {es = es} e f ns ls g d free causes = appended_good s l e f ns ls g d causes (all_map _ _ es (λ a q. q.1) free)
