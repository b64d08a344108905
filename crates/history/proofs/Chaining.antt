-- What entries have of last writers leads to all their causes.
use Rattle.std.proofs.Common.{◌≡◌, ◌≢◌, ℕ, Bool, true, false, cond, ◌&&◌, ◌||◌, ◌==◌, List, [], ◌∷◌, ◌++◌, Option, Some, None, is_some, unwrap_or, option_map, map, filter, ◌⊎◌, inl, inr, refl, sym, ap, ◌∙◌, ne_eqb, eq-eqb, subst}
use Rattle.std.specs.List.{list_any, AllByRecursion}
use Rattle.std.proofs.lemmas.Bool.{false≢true, both_ways, or_left, or_right, or_cases}
use Rattle.history.specs.Subject.{Subject, Laws, World, found, new, touches, meets}
use Rattle.history.specs.Journal.{Entry, name_of, is_in, named, caused, mark, marked, HasCauses, Sound, Ordered, Distinct}
use Rattle.history.specs.Records.{Seen, left_by}
use Rattle.history.specs.Chains.{wrote, last_writer, last_of, is_name, chain, Linked, HasCells, Traced, Chained}
use Rattle.history.proofs.Lists.{all_map, all_both, all_of, all_at, all_mapped, all_swap, any_same, any_none, filter_same}
use Rattle.history.proofs.Naming.{named_filter}
use Rattle.history.proofs.Writing.{same_turned, wrote_touches, meets_new, one_writes}

and_false : (b : Bool) → (b && false) ≡ false
and_false true = refl
and_false false = refl

and_none : (x y w : Bool) → w ≡ false → (x && w) ≡ (y && w)
and_none x y w h = ap (λ b. x && b) h ∙ and_false x ∙ sym (and_false y) ∙ ap (λ b. y && b) (sym h)

and_true : (x y z : Bool) → (x && y) ≡ (z && y) → x ≡ true → y ≡ true → z ≡ true
and_true true true true h e f = refl
and_true true true false h e f = sym h
and_true true false z h e f = absurd (false≢true f)
and_true false y z h e f = absurd (false≢true e)

all_turn : {A : Type 0} (p q r : A → Bool) (xs : List A) → AllByRecursion (λ b. p b ≡ q b) xs → AllByRecursion (λ b. r b ≡ q b) xs → AllByRecursion (λ b. p b ≡ r b) xs
all_turn p q r xs h g = all_both _ _ _ xs (λ b x y. x ∙ sym y) h g

-- a choice that is not taken
not_taken : {X : Type 0} (b w : Bool) (m z : X) → w ≡ false → cond (b && w) m z ≡ z
not_taken true w m z h = ap (λ y. cond y m z) h
not_taken false w m z h = refl

not_chosen : {X : Type 0} (b w : Bool) (m z : X) → b ≡ false → cond (b && w) m z ≡ z
not_chosen b w m z h = ap (λ y. cond (y && w) m z) h

module _ (s : Subject) where
  -- a chain from nobody has no names
  pub chain_ends : (k : s.Key) (es : List (Entry s)) → chain s k None es ≡ []
  chain_ends k [] = refl
  chain_ends k (e ∷ es) = chain_ends k es

  -- a name that none of these has is not that of the last writer among them
  not_last : (k : s.Key) (t : Entry s → Bool) (n : ℕ) (es : List (Entry s)) → AllByRecursion (λ a. name_of s a ≢ n) es → is_name (last_writer s k t es) n ≡ false
  not_last k t n [] h = refl
  not_last k t n (a ∷ es) (h, hs) = choice (t a && wrote s k a) (not_last k t n es hs)
    where
      choice : (b : Bool) → is_name (last_writer s k t es) n ≡ false → is_name (cond b (Some (name_of s a)) (last_writer s k t es)) n ≡ false
      choice true ih = ne_eqb (name_of s a) n h
      choice false ih = ih

  -- the last writer is one of them
  last_among : (k : s.Key) (t : Entry s → Bool) (es : List (Entry s)) (n : ℕ) → last_writer s k t es ≡ Some n → list_any (λ b. name_of s b == n) es ≡ true
  last_among k t [] n h = cc
  last_among k t (a ∷ es) n h = choice (t a && wrote s k a) h (last_among k t es n)
    where
      choice : (b : Bool) → cond b (Some (name_of s a)) (last_writer s k t es) ≡ Some n → (last_writer s k t es ≡ Some n → list_any (λ b. name_of s b == n) es ≡ true)
          → ((name_of s a == n) || list_any (λ b. name_of s b == n) es) ≡ true
      choice true q ih = let e : name_of s a ≡ n = cc in or_left _ _ (eq-eqb (name_of s a) n e)
      choice false q ih = or_right (name_of s a == n) _ (ih q)

  -- sets that agree on those that wrote the cell
  last_same : (k : s.Key) (t r : Entry s → Bool) (es : List (Entry s)) → AllByRecursion (λ a. (t a && wrote s k a) ≡ (r a && wrote s k a)) es → last_writer s k t es ≡ last_writer s k r es
  last_same k t r [] h = refl
  last_same k t r (a ∷ es) (h, hs) = λ i. cond (h i) (Some (name_of s a)) (last_same k t r es hs i)

  linked_same : (k : s.Key) (t r : Entry s → Bool) (es : List (Entry s)) → AllByRecursion (λ a. (r a && wrote s k a) ≡ (t a && wrote s k a)) es → Linked s k t es → Linked s k r es
  linked_same k t r [] h m = tt
  linked_same k t r (a ∷ es) (h, hs) (m, ms) = (λ x y. all_turn _ _ _ es (m (and_true (r a) (wrote s k a) (t a) h x y) y) hs, linked_same k t r es hs ms)

  -- marks change no last writers, and no links
  last_marked : (t r : Entry s → Bool) (k : s.Key) (es : List (Entry s)) → last_writer s k r (marked s t es) ≡ last_writer s k (λ a. r (mark s t a)) es
  last_marked t r k [] = refl
  last_marked t r k (a ∷ es) = ap (cond (r (mark s t a) && wrote s k a) (Some (name_of s a))) (last_marked t r k es)

  linked_marked : (t r : Entry s → Bool) (k : s.Key) (es : List (Entry s)) → Linked s k (λ a. r (mark s t a)) es → Linked s k r (marked s t es)
  linked_marked t r k [] h = tt
  linked_marked t r k (a ∷ es) (h, hs) = (λ x y. all_mapped (mark s t) _ es (h x y), linked_marked t r k es hs)

  pub chained_marked : (t : Entry s → Bool) (es : List (Entry s)) → Chained s es → Chained s (marked s t es)
  chained_marked t [] h = tt
  chained_marked t (e ∷ es) (h, hs) = (
    record {
      cells = h.cells;
      lasts = all_map _ _ e.lasts (λ p q. q ∙ sym (last_marked t (caused s (mark s t e)) p.0 es)) h.lasts;
      met = all_mapped (mark s t) _ es h.met;
      linked = λ k touched. linked_marked t (caused s (mark s t e)) k es (h.linked k touched);
    },
    chained_marked t es hs,
  )

  -- the last writer that a state shows is the newest writer in the set
  pub left_last : (start : World s) (k : s.Key) (t : Entry s → Bool) (es : List (Entry s)) → (left_by s start t es k).1 ≡ last_writer s k t es
  left_last start k t [] = refl
  left_last start k t (e ∷ es) = step (t e) (new s e.foot k) _ _ (left_last start k t es)
    where
      step : (b : Bool) (o : Option s.Content) (x : Seen s) (m : Option ℕ) → x.1 ≡ m → (cond b (unwrap_or (option_map (λ v. (Some v, Some (name_of s e))) o) x) x).1 ≡ cond (b && is_some o) (Some (name_of s e)) m
      step true None x m h = h
      step true (Some v) x m h = refl
      step false o x m h = h

module _ (s : Subject) (l : Laws s) where
  -- what an entry has of a touched cell is what all items of that cell have
  last_found : (k : s.Key) (f : s.Key → Option ℕ) (ps : List (s.Key × Option ℕ)) → AllByRecursion (λ p. p.1 ≡ f p.0) ps → list_any (λ p. s.same k p.0) ps ≡ true → unwrap_or (found s ps k) None ≡ f k
  last_found k f [] h g = absurd (false≢true g)
  last_found k f (p ∷ ps) (h, hs) g = first (s.same p.0 k) refl (or_cases (s.same k p.0) _ g) (last_found k f ps hs)
    where
      first : (b : Bool) → s.same p.0 k ≡ b → (s.same k p.0 ≡ true) ⊎ (list_any (λ q. s.same k q.0) ps ≡ true) → (list_any (λ q. s.same k q.0) ps ≡ true → unwrap_or (found s ps k) None ≡ f k)
          → unwrap_or (cond b (Some p.1) (found s ps k)) None ≡ f k
      first true e g ih = h ∙ ap f (l.same_exact p.0 k e)
      first false e (inl q) ih = absurd (both_ways _ e (same_turned s l k p.0 q))
      first false e (inr q) ih = ih q

  last_is : (e : Entry s) (es : List (Entry s)) → Traced s e es → (k : s.Key) → touches s e.foot k ≡ true → last_of s e k ≡ last_writer s k (caused s e) es
  last_is e es h k touched = last_found k (λ q. last_writer s q (caused s e) es) e.lasts h.lasts (h.cells k ∙ touched)

  -- of those that wrote a cell that a touches, a's causes are the members of the set
  same_cause : (k : s.Key) (t : Entry s → Bool) (a b : Entry s) → touches s a.foot k ≡ true → caused s a b ≡ (t b && meets s b.foot a.foot) → (o : Option s.Content) → new s b.foot k ≡ o
      → (caused s a b && is_some o) ≡ (t b && is_some o)
  same_cause k t a b touched h None e = and_none (caused s a b) (t b) false refl
  same_cause k t a b touched h (Some v) e = ap (λ x. x && true) (h ∙ ap (λ m. t b && m) (meets_new s l b.foot a.foot k v e touched)) ∙ twice (t b)
    where
      twice : (x : Bool) → ((x && true) && true) ≡ (x && true)
      twice true = refl
      twice false = refl

  same_causes : (k : s.Key) (t : Entry s → Bool) (a : Entry s) (es : List (Entry s)) → touches s a.foot k ≡ true → HasCauses s t a es → AllByRecursion (λ b. (caused s a b && wrote s k b) ≡ (t b && wrote s k b)) es
  same_causes k t a es touched h = all_map _ _ es (λ b p. same_cause k t a b touched p (new s b.foot k) refl) h

  -- a sound set is linked
  linked_sound : (k : s.Key) (t : Entry s → Bool) (es : List (Entry s)) → Sound s t es → Linked s k t es
  linked_sound k t [] h = tt
  linked_sound k t (m ∷ es) (c, h) = (λ member w. same_causes k t m es (wrote_touches s l m.foot k (new s m.foot k) refl w) (c member), linked_sound k t es h)

  met_of : (x t m : Bool) → x ≡ (t && m) → x ≡ true → m ≡ true
  met_of x true m h q = sym h ∙ q
  met_of x false m h q = absurd (both_ways _ h q)

  -- an entry that has the last writers of a sound set, and its causes in it, is traced
  pub traced_new : (t : Entry s → Bool) (e : Entry s) (es : List (Entry s)) → Sound s t es → HasCauses s t e es → HasCells s e.foot e.lasts
      → AllByRecursion (λ p. p.1 ≡ last_writer s p.0 t es) e.lasts → Traced s e es
  traced_new t e es h c cells lasts = record {
    cells = cells;
    lasts = each e.lasts (λ k q. sym (cells k) ∙ q) lasts;
    met = all_map _ _ es (λ a p. met_of (caused s e a) (t a) _ p) c;
    linked = λ k touched. linked_same s k t (caused s e) es (same_causes k t e es touched c) (linked_sound k t es h);
  }
    where
      each : (ps : List (s.Key × Option ℕ)) → ((k : s.Key) → list_any (λ p. s.same k p.0) ps ≡ true → touches s e.foot k ≡ true) → AllByRecursion (λ p. p.1 ≡ last_writer s p.0 t es) ps
          → AllByRecursion (λ p. p.1 ≡ last_writer s p.0 (caused s e) es) ps
      each [] f h = tt
      each (p ∷ ps) f (h, hs) = (
        h ∙ sym (last_same s p.0 _ _ es (same_causes p.0 t e es (f p.0 (or_left _ _ (l.same_self p.0))) c)),
        each ps (λ k q. f k (or_right (s.same k p.0) _ q)) hs,
      )

  -- THE LEMMA: from the newest member that wrote the cell, the chain has the names of all members that wrote it
  chain_of_last : (k : s.Key) (es : List (Entry s)) (t : Entry s → Bool) → Distinct s es → Chained s es → Linked s k t es
      → chain s k (last_writer s k t es) es ≡ map (name_of s) (filter (λ a. t a && wrote s k a) es)
  chain_of_last k [] t d g m = refl
  chain_of_last k (a ∷ es) t (d, ds) (g, gs) (m, ms) = go (t a) (wrote s k a) refl refl (λ r n. chain_of_last k es r ds gs n)
    where
      go : (x y : Bool) → t a ≡ x → wrote s k a ≡ y
          → ((r : Entry s → Bool) → Linked s k r es → chain s k (last_writer s k r es) es ≡ map (name_of s) (filter (λ b. r b && wrote s k b) es))
          → cond (is_name (cond (x && y) (Some (name_of s a)) (last_writer s k t es)) (name_of s a)) (name_of s a ∷ chain s k (last_of s a k) es) (chain s k (cond (x && y) (Some (name_of s a)) (last_writer s k t es)) es)
          ≡ map (name_of s) (cond (x && y) (a ∷ filter (λ b. t b && wrote s k b) es) (filter (λ b. t b && wrote s k b) es))
      go true true e f ih =
          let touched = wrote_touches s l a.foot k (new s a.foot k) refl f in
          rw (eq-eqb (name_of s a) (name_of s a) refl) (ap (λ ns. name_of s a ∷ ns) (ap (λ o. chain s k o es) (last_is a es g k touched) ∙ ih (caused s a) (g.linked k touched) ∙ ap (map (name_of s)) (filter_same _ _ es (m e f))))
      go true false e f ih = rw (not_last s k t (name_of s a) es d) (ih t ms)
      go false y e f ih = rw (not_last s k t (name_of s a) es d) (ih t ms)

-- the chains of an entry have just its causes
module _ (s : Subject) (l : Laws s) where
  -- whether an entry is on the chains from what another has of last writers
  abbrev on_chains : List (s.Key × Option ℕ) → List (Entry s) → Entry s → Bool
  on_chains ps es a = list_any (λ p. named s (chain s p.0 p.1 es) a) ps

  -- the names on a chain are of these entries
  chain_unnamed : (k : s.Key) (n : ℕ) (es : List (Entry s)) (o : Option ℕ) → AllByRecursion (λ a. name_of s a ≢ n) es → is_in (chain s k o es) n ≡ false
  chain_unnamed k n [] o h = refl
  chain_unnamed k n (a ∷ es) o (h, hs) = choice (is_name o (name_of s a)) (chain_unnamed k n es (last_of s a k) hs) (chain_unnamed k n es o hs)
    where
      choice : (b : Bool) → is_in (chain s k (last_of s a k) es) n ≡ false → is_in (chain s k o es) n ≡ false → is_in (cond b (name_of s a ∷ chain s k (last_of s a k) es) (chain s k o es)) n ≡ false
      choice true ih other = rw (ne_eqb (name_of s a) n h) ih
      choice false ih other = other

  none_on_chains : (ps : List (s.Key × Option ℕ)) (es : List (Entry s)) (a : Entry s) → AllByRecursion (λ b. name_of s b ≢ name_of s a) es → on_chains ps es a ≡ false
  none_on_chains ps es a h = any_none _ ps (all_of _ ps (λ p. chain_unnamed p.0 (name_of s a) es p.1 h))

  -- what an entry has of last writers is not the name of what is not older
  lasts_apart : (n : ℕ) (es : List (Entry s)) → AllByRecursion (λ a. name_of s a ≢ n) es → Chained s es → AllByRecursion (λ e. AllByRecursion (λ p. is_name p.1 n ≡ false) e.lasts) es
  lasts_apart n [] h g = tt
  lasts_apart n (e ∷ es) (h, hs) (g, gs) = (all_map _ _ e.lasts (λ p q. ap (λ o. is_name o n) q ∙ not_last s p.0 (caused s e) n es hs) g.lasts, lasts_apart n es hs gs)

  lasts_not_own : (n : ℕ) (e : Entry s) (es : List (Entry s)) → AllByRecursion (λ a. name_of s a ≢ n) es → Traced s e es → AllByRecursion (λ p. is_name p.1 n ≡ false) e.lasts
  lasts_not_own n e es h g = all_map _ _ e.lasts (λ p q. ap (λ o. is_name o n) q ∙ not_last s p.0 (caused s e) n es h) g.lasts

  -- chains go past an entry that they do not begin with
  past : (ps : List (s.Key × Option ℕ)) (x : Entry s) (es : List (Entry s)) (a : Entry s) → AllByRecursion (λ p. is_name p.1 (name_of s x) ≡ false) ps → on_chains ps (x ∷ es) a ≡ on_chains ps es a
  past ps x es a h = any_same _ _ ps (all_map _ _ ps (λ p q. ap (λ b. named s (cond b (name_of s x ∷ chain s p.0 (last_of s x p.0) es) (chain s p.0 p.1 es)) a) q) h)

  -- where a cause wrote a cell that an entry touches, its chain of that cell has it
  cause_on_chain : (c : Bool) (a e : Entry s) (ps : List (s.Key × Option ℕ)) → HasCells s e.foot ps → (c ≡ true → meets s a.foot e.foot ≡ true) → list_any (λ p. c && wrote s p.0 a) ps ≡ c
  cause_on_chain false a e ps cells met = any_none _ ps (all_of _ ps (λ p. refl))
  cause_on_chain true a e ps cells met = some_wrote a.foot.writes (λ k h. h) (met refl)
    where
      at_key : (q : s.Key × s.Content) → wrote s q.0 a ≡ true → (rs : List (s.Key × Option ℕ)) → list_any (λ p. s.same q.0 p.0) rs ≡ true → list_any (λ p. true && wrote s p.0 a) rs ≡ true
      at_key q w [] h = absurd (false≢true h)
      at_key q w (r ∷ rs) h = elim (or_cases (s.same q.0 r.0) _ h) [
        | inl e ↦ or_left _ _ (subst (λ k. wrote s k a ≡ true) (l.same_exact q.0 r.0 e) w)
        | inr e ↦ or_right (wrote s r.0 a) _ (at_key q w rs e)
      ]

      own_write : (q : s.Key × s.Content) (qs : List (s.Key × s.Content)) → is_some (found s (q ∷ qs) q.0) ≡ true
      own_write q qs = ap (λ b. is_some (cond b (Some q.1) (found s qs q.0))) (l.same_self q.0)

      later : (q : s.Key × s.Content) (qs : List (s.Key × s.Content)) (k : s.Key) → is_some (found s qs k) ≡ true → is_some (found s (q ∷ qs) k) ≡ true
      later q qs k h = elim (s.same q.0 k) as (λ b. is_some (cond b (Some q.1) (found s qs k)) ≡ true) [ true ↦ refl | false ↦ h ]

      some_wrote : (qs : List (s.Key × s.Content)) → ((k : s.Key) → is_some (found s qs k) ≡ true → wrote s k a ≡ true) → list_any (λ q. touches s e.foot q.0) qs ≡ true → list_any (λ p. true && wrote s p.0 a) ps ≡ true
      some_wrote [] f h = absurd (false≢true h)
      some_wrote (q ∷ qs) f h = elim (or_cases (touches s e.foot q.0) _ h) [
        | inl t ↦ at_key q (f q.0 (own_write q qs)) ps (cells q.0 ∙ t)
        | inr t ↦ some_wrote qs (λ k w. f k (later q qs k w)) t
      ]

  -- among the older entries
  older_on_chains : (e : Entry s) (es : List (Entry s)) → Distinct s es → Traced s e es → Chained s es → AllByRecursion (λ a. caused s e a ≡ on_chains e.lasts es a) es
  older_on_chains e es d h g = all_both _ _ _ es (λ a p q. sym (any_same _ _ e.lasts p ∙ cause_on_chain (caused s e a) a e e.lasts h.cells q)) (turned e.lasts (λ k q. sym (h.cells k) ∙ q) h.lasts) h.met
    where
      all_pair : {A : Type 0} (P : A → Type 0) (Q : A → Type 0) (xs : List A) → AllByRecursion P xs → AllByRecursion Q xs → AllByRecursion (λ a. P a × Q a) xs
      all_pair P Q xs f g = all_both P Q _ xs (λ a p q. (p, q)) f g

      turned : (ps : List (s.Key × Option ℕ)) → ((k : s.Key) → list_any (λ p. s.same k p.0) ps ≡ true → touches s e.foot k ≡ true) → AllByRecursion (λ p. p.1 ≡ last_writer s p.0 (caused s e) es) ps
          → AllByRecursion (λ a. AllByRecursion (λ p. named s (chain s p.0 p.1 es) a ≡ (caused s e a && wrote s p.0 a)) ps) es
      turned [] f q = all_of _ es (λ a. tt)
      turned (p ∷ ps) f (q, qs) = all_pair _ _ es
          (all_map _ _ es (λ a n. ap (λ o. named s (chain s p.0 o es) a) q ∙ ap (λ ns. is_in ns (name_of s a)) (chain_of_last s l p.0 es (caused s e) d g (h.linked p.0 (f p.0 (or_left _ _ (l.same_self p.0))))) ∙ n) (named_filter s (λ a. caused s e a && wrote s p.0 a) es d))
          (turned ps (λ k r. f k (or_right (s.same k p.0) _ r)) qs)

  -- among these and a newer one
  abbrev OneMore : Entry s → List (Entry s) → Entry s → Type 0
  OneMore x es e = AllByRecursion (λ p. is_name p.1 (name_of s x) ≡ false) e.lasts → AllByRecursion (λ a. caused s e a ≡ on_chains e.lasts (x ∷ es) a) (x ∷ es)

  one_more : (x : Entry s) (es : List (Entry s)) (e : Entry s) → AllByRecursion (λ b. name_of s b ≢ name_of s x) es → caused s e x ≡ false → AllByRecursion (λ a. caused s e a ≡ on_chains e.lasts es a) es → OneMore x es e
  one_more x es e d none ih apart = (
    none ∙ sym (past e.lasts x es x apart ∙ none_on_chains e.lasts es x d),
    all_map _ _ es (λ a q. q ∙ sym (past e.lasts x es a apart)) ih,
  )

  -- among all entries
  pub causes_on_chains : (es : List (Entry s)) → Distinct s es → Ordered s es → AllByRecursion (λ a. caused s a a ≡ false) es → Chained s es
      → AllByRecursion (λ e. AllByRecursion (λ a. caused s e a ≡ on_chains e.lasts es a) es) es
  causes_on_chains [] d o own h = tt
  causes_on_chains (x ∷ es) (d, ds) (o, os) (mine, own) (h, hs) = (
    (
      mine ∙ sym (past x.lasts x es x (lasts_not_own (name_of s x) x es d h) ∙ none_on_chains x.lasts es x d),
      all_map _ _ es (λ a q. q ∙ sym (past x.lasts x es a (lasts_not_own (name_of s x) x es d h))) (older_on_chains x es ds h hs),
    ),
    all_both _ _ _ es (λ e apart rest. rest apart) (lasts_apart (name_of s x) es d hs) (all_both _ _ (OneMore x es) es (λ e none ih. one_more x es e d none ih) o (causes_on_chains es ds os own hs)),
  )

  -- the last writer that an entry has of the cell of an item is that of the item
  pub lasts_are_one : (e : Entry s) (es : List (Entry s)) → Traced s e es → AllByRecursion (λ p. last_of s e p.0 ≡ p.1) e.lasts
  lasts_are_one e es h = each e.lasts (λ k q. last_is s l e es h k (sym (h.cells k) ∙ q)) h.lasts
    where
      each : (ps : List (s.Key × Option ℕ)) → ((k : s.Key) → list_any (λ p. s.same k p.0) ps ≡ true → last_of s e k ≡ last_writer s k (caused s e) es)
          → AllByRecursion (λ p. p.1 ≡ last_writer s p.0 (caused s e) es) ps → AllByRecursion (λ p. last_of s e p.0 ≡ p.1) ps
      each [] f h = tt
      each (p ∷ ps) f (h, hs) = (f p.0 (or_left _ _ (l.same_self p.0)) ∙ sym h, each ps (λ k q. f k (or_right (s.same k p.0) _ q)) hs)

  pub lasts_at : (xs ys : List (Entry s)) (a : Entry s) → Chained s (xs ++ a ∷ ys) → AllByRecursion (λ p. last_of s a p.0 ≡ p.1) a.lasts
  lasts_at [] ys a (h, hs) = lasts_are_one a ys h
  lasts_at (x ∷ xs) ys a (h, hs) = lasts_at xs ys a hs

  -- a chain from what an entry has of last writers
  found_apart : (n : ℕ) (k : s.Key) (ps : List (s.Key × Option ℕ)) → AllByRecursion (λ p. is_name p.1 n ≡ false) ps → is_name (unwrap_or (found s ps k) None) n ≡ false
  found_apart n k [] h = refl
  found_apart n k (p ∷ ps) (h, hs) = elim (s.same p.0 k) as (λ b. is_name (unwrap_or (cond b (Some p.1) (found s ps k)) None) n ≡ false) [ true ↦ h | false ↦ found_apart n k ps hs ]

  found_gives : (P : ℕ → Type 0) (n : ℕ) (k : s.Key) (ps : List (s.Key × Option ℕ)) → AllByRecursion (λ p. p.1 ≡ Some n → P n) ps → unwrap_or (found s ps k) None ≡ Some n → P n
  found_gives P n k [] h q = cc
  found_gives P n k (p ∷ ps) (h, hs) q = elim (s.same p.0 k) as (λ b. unwrap_or (cond b (Some p.1) (found s ps k)) None ≡ Some n → P n) [ true ↦ h | false ↦ found_gives P n k ps hs ] q

  pub chain_followed : (k : s.Key) (xs ys : List (Entry s)) (a : Entry s) → Distinct s (xs ++ a ∷ ys) → Chained s (xs ++ a ∷ ys)
      → chain s k (Some (name_of s a)) (xs ++ a ∷ ys) ≡ name_of s a ∷ chain s k (last_of s a k) (xs ++ a ∷ ys)
  chain_followed k [] ys a (d, ds) (h, hs) =
      rw (eq-eqb (name_of s a) (name_of s a) refl, found_apart (name_of s a) k a.lasts (lasts_not_own (name_of s a) a ys d h)) refl
  chain_followed k (x ∷ xs) ys a (d, ds) (h, hs) =
      let apart : name_of s a ≢ name_of s x = all_at _ xs a ys d in
      rw (ne_eqb (name_of s a) (name_of s x) apart, found_apart (name_of s x) k a.lasts (all_at _ xs a ys (lasts_apart (name_of s x) (xs ++ a ∷ ys) d hs))) (chain_followed k xs ys a ds hs)

  pub last_older : (k : s.Key) (xs ys : List (Entry s)) (a : Entry s) → Chained s (xs ++ a ∷ ys) → (n : ℕ) → last_of s a k ≡ Some n → list_any (λ b. name_of s b == n) ys ≡ true
  last_older k [] ys a (h, hs) n q = found_gives (λ m. list_any (λ b. name_of s b == m) ys ≡ true) n k a.lasts (all_map _ _ a.lasts (λ p is e. last_among s p.0 (caused s a) ys n (sym is ∙ e)) h.lasts) q
  last_older k (x ∷ xs) ys a (h, hs) n q = last_older k xs ys a hs n q

-- neighbours that do not meet change places
module _ (s : Subject) (l : Laws s) (a b : Entry s) (ys : List (Entry s)) (ab : meets s a.foot b.foot ≡ false) where
  one_wrote : (k : s.Key) → (wrote s k a ≡ false) ⊎ (wrote s k b ≡ false)
  one_wrote k = elim (one_writes s l a.foot b.foot k ab _ _ refl refl) [ inl h ↦ inl (ap is_some h) | inr h ↦ inr (ap is_some h) ]

  turned : (p q v w : Bool) (m n z : Option ℕ) → (v ≡ false) ⊎ (w ≡ false) → cond (p && v) m (cond (q && w) n z) ≡ cond (q && w) n (cond (p && v) m z)
  turned p q v w m n z (inl h) = not_taken p v m _ h ∙ sym (ap (cond (q && w) n) (not_taken p v m z h))
  turned p q v w m n z (inr h) = ap (cond (p && v) m) (not_taken q w n z h) ∙ sym (not_taken q w n _ h)

  last_swap : (k : s.Key) (t : Entry s → Bool) (xs : List (Entry s)) → last_writer s k t (xs ++ a ∷ b ∷ ys) ≡ last_writer s k t (xs ++ b ∷ a ∷ ys)
  last_swap k t [] = turned (t a) (t b) _ _ (Some (name_of s a)) (Some (name_of s b)) _ (one_wrote k)
  last_swap k t (x ∷ xs) = ap (cond (t x && wrote s k x) (Some (name_of s x))) (last_swap k t xs)

  head_stays : (k : s.Key) (t : Entry s → Bool) → (wrote s k a ≡ false) ⊎ (wrote s k b ≡ false) → wrote s k b ≡ true → (caused s b a && wrote s k a) ≡ (t a && wrote s k a)
  head_stays k t (inl h) w = and_none (caused s b a) (t a) _ h
  head_stays k t (inr h) w = absurd (both_ways _ h w)

  linked_swap : (k : s.Key) (t : Entry s → Bool) (xs : List (Entry s)) → Linked s k t (xs ++ a ∷ b ∷ ys) → Linked s k t (xs ++ b ∷ a ∷ ys)
  linked_swap k t [] (g, (h, m)) = (λ x w. (head_stays k t (one_wrote k) w, h x w), (λ x w. (g x w).1, m))
  linked_swap k t (x ∷ xs) (g, m) = (λ y w. all_swap _ xs a b ys (g y w), linked_swap k t xs m)

  module _ (ba : meets s b.foot a.foot ≡ false) where
    not_met : (x : Bool) → (x ≡ true → meets s b.foot a.foot ≡ true) → x ≡ false
    not_met true h = absurd (both_ways _ ba (h refl))
    not_met false h = refl

    -- the newer one does not name the older one as a cause, live or undone
    pub no_cause : (xs : List (Entry s)) → Chained s (xs ++ a ∷ b ∷ ys) → caused s a b ≡ false
    no_cause [] (h, _) = not_met (caused s a b) h.met.0
    no_cause (x ∷ xs) (_, hs) = no_cause xs hs

    pub chained_swap : (xs : List (Entry s)) → Ordered s (xs ++ a ∷ b ∷ ys) → Chained s (xs ++ a ∷ b ∷ ys) → Chained s (xs ++ b ∷ a ∷ ys)
    chained_swap [] ((later, _), _) (h, (g, m)) = (
      record {
        cells = g.cells;
        lasts = all_map _ _ b.lasts (λ p q. q ∙ sym (not_chosen (caused s b a) (wrote s p.0 a) (Some (name_of s a)) _ later)) g.lasts;
        met = (λ q. absurd (both_ways _ later q), g.met);
        linked = λ k touched. (λ q. absurd (both_ways _ later q), g.linked k touched);
      },
      (
        record {
          cells = h.cells;
          lasts = all_map _ _ a.lasts (λ p q. q ∙ not_chosen (caused s a b) (wrote s p.0 b) (Some (name_of s b)) _ (not_met (caused s a b) h.met.0)) h.lasts;
          met = h.met.1;
          linked = λ k touched. (h.linked k touched).1;
        },
        m,
      ),
    )
    chained_swap (x ∷ xs) (_, o) (h, m) = (
      record {
        cells = h.cells;
        lasts = all_map _ _ x.lasts (λ p q. q ∙ last_swap p.0 (caused s x) xs) h.lasts;
        met = all_swap _ xs a b ys h.met;
        linked = λ k touched. linked_swap k (caused s x) xs (h.linked k touched);
      },
      chained_swap xs o m,
    )
