-- A set is sound where each member has the set's last writers.
use Rattle.std.proofs.Common.{◌≡◌, ◌≢◌, ℕ, Bool, true, false, cond, ◌&&◌, List, [], ◌∷◌, Option, Some, None, is_some, unwrap_or, ◌⊎◌, inl, inr, refl, sym, ap, ◌∙◌, ne_eqb, eq-eqb, eqb-true, subst}
use Rattle.std.specs.List.{list_any, AllByRecursion}
use Rattle.std.proofs.lemmas.Bool.{false≢true, both_ways, or_left, or_right, or_cases, and_right}
use Rattle.history.specs.Subject.{Subject, Laws, Foot, found, new, touches, meets}
use Rattle.history.specs.Journal.{Entry, name_of, is_in, caused, HasCauses, Sound, Distinct}
use Rattle.history.specs.Chains.{wrote, last_writer, last_of, is_name, Linked, HasCells, Traced, Chained}
use Rattle.history.proofs.Lists.{all_map, all_both}
use Rattle.history.proofs.Writing.{same_turned, wrote_touches, meets_new}
use Rattle.history_consequences.specs.Versions.{follows}
use Rattle.history_consequences.specs.Sets.{HasLastWriters}
use Rattle.history_consequences.proofs.Members.{In, all_in, in_all, in_any}

-- a factor that is true
drop_true : (x y w : Bool) → w ≡ true → (x && w) ≡ (y && w) → x ≡ (y && true)
drop_true true y true q h = h
drop_true false y true q h = h
drop_true x y false q h = absurd (false≢true q)

pub and_true : (x : Bool) → (x && true) ≡ x
and_true true = refl
and_true false = refl

-- a fact of a truth value that would be false
pub not_false : (x : Bool) → (x ≡ false → ⊥) → x ≡ true
not_false true f = refl
not_false false f = absurd (f refl)

module _ (s : Subject) where
  -- the last writer is none but these
  pub not_last : (k : s.Key) (t : Entry s → Bool) (n : ℕ) (es : List (Entry s)) → AllByRecursion (λ a. name_of s a ≢ n) es → is_name (last_writer s k t es) n ≡ false
  not_last k t n [] h = refl
  not_last k t n (a ∷ es) (h, hs) = choice (t a && wrote s k a) (not_last k t n es hs)
    where
      choice : (b : Bool) → is_name (last_writer s k t es) n ≡ false → is_name (cond b (Some (name_of s a)) (last_writer s k t es)) n ≡ false
      choice true ih = ne_eqb (name_of s a) n h
      choice false ih = ih

  -- it is a member that wrote the cell
  pub last_in : (k : s.Key) (t : Entry s → Bool) (es : List (Entry s)) (n : ℕ) → is_name (last_writer s k t es) n ≡ true
      → (b : Entry s) × In b es × (t b ≡ true) × (wrote s k b ≡ true) × (name_of s b ≡ n)
  last_in k t [] n h = absurd (false≢true h)
  last_in k t (a ∷ es) n h = choice (t a) (wrote s k a) refl refl h (last_in k t es n)
    where
      choice : (x w : Bool) → t a ≡ x → wrote s k a ≡ w → is_name (cond (x && w) (Some (name_of s a)) (last_writer s k t es)) n ≡ true
          → (is_name (last_writer s k t es) n ≡ true → (b : Entry s) × In b es × (t b ≡ true) × (wrote s k b ≡ true) × (name_of s b ≡ n))
          → (b : Entry s) × In b (a ∷ es) × (t b ≡ true) × (wrote s k b ≡ true) × (name_of s b ≡ n)
      choice true true e f q ih = (a, inl refl, e, f, eqb-true (name_of s a) n q)
      choice true false e f q ih = let r = ih q in (r.0, inr r.1, r.2, r.3, r.4)
      choice false w e f q ih = let r = ih q in (r.0, inr r.1, r.2, r.3, r.4)

  -- sets that agree on those that wrote the cell
  pub last_same : (k : s.Key) (t r : Entry s → Bool) (es : List (Entry s)) → AllByRecursion (λ a. (t a && wrote s k a) ≡ (r a && wrote s k a)) es → last_writer s k t es ≡ last_writer s k r es
  last_same k t r [] h = refl
  last_same k t r (a ∷ es) (h, hs) = λ i. cond (h i) (Some (name_of s a)) (last_same k t r es hs i)

  -- linked sets with one last writer of a cell agree on all that wrote it
  same_writers : (k : s.Key) (t r : Entry s → Bool) (es : List (Entry s)) → Distinct s es → Linked s k t es → Linked s k r es → last_writer s k t es ≡ last_writer s k r es
      → AllByRecursion (λ a. (t a && wrote s k a) ≡ (r a && wrote s k a)) es
  same_writers k t r [] d g h e = tt
  same_writers k t r (b ∷ es) (d, ds) (g, gs) (h, hs) e = go (t b) (r b) (wrote s k b) refl refl refl e (same_writers k t r es ds gs hs)
    where
      not_it : (u : Entry s → Bool) → Some (name_of s b) ≡ last_writer s k u es → ⊥
      not_it u q = both_ways _ (not_last k u (name_of s b) es d) (sym (ap (λ o. is_name o (name_of s b)) q) ∙ eq-eqb (name_of s b) (name_of s b) refl)

      go : (x y w : Bool) → t b ≡ x → r b ≡ y → wrote s k b ≡ w
          → cond (x && w) (Some (name_of s b)) (last_writer s k t es) ≡ cond (y && w) (Some (name_of s b)) (last_writer s k r es)
          → (last_writer s k t es ≡ last_writer s k r es → AllByRecursion (λ a. (t a && wrote s k a) ≡ (r a && wrote s k a)) es)
          → ((x && w) ≡ (y && w)) × AllByRecursion (λ a. (t a && wrote s k a) ≡ (r a && wrote s k a)) es
      go true true true tb rb wb q ih = (refl, all_both _ _ _ es (λ a u v. sym u ∙ v) (g tb wb) (h rb wb))
      go true false true tb rb wb q ih = absurd (not_it r q)
      go false true true tb rb wb q ih = absurd (not_it t (sym q))
      go true true false tb rb wb q ih = (refl, ih q)
      go true false false tb rb wb q ih = (refl, ih q)
      go false true false tb rb wb q ih = (refl, ih q)
      go false false w tb rb wb q ih = (refl, ih q)

-- what last writers have to do with causes
module _ (s : Subject) (l : Laws s) where
  -- what is listed of a cell is found there
  pub found_in : {X : Type 0} (q : s.Key × X) (qs : List (s.Key × X)) → In q qs → is_some (found s qs q.0) ≡ true
  found_in q [] i = absurd i
  found_in q (x ∷ qs) (inl e) = ap (λ b. is_some (cond b (Some x.1) (found s qs q.0))) (subst (λ y. s.same x.0 y.0 ≡ true) e (l.same_self x.0))
  found_in q (x ∷ qs) (inr i) = elim (s.same x.0 q.0) as (λ b. is_some (cond b (Some x.1) (found s qs q.0)) ≡ true) [ true ↦ refl | false ↦ found_in q qs i ]

  -- where an entry wrote what a footprint touches, it is at some cell
  pub meets_at : (a : Entry s) (g : Foot s) → meets s a.foot g ≡ true → (k : s.Key) × (wrote s k a ≡ true) × (touches s g k ≡ true)
  meets_at a g h = let r = in_any (λ q. touches s g q.0) a.foot.writes h in ((r.0).0, found_in r.0 a.foot.writes r.1, r.2)

  pub meets_wrote : (a : Entry s) (g : Foot s) (k : s.Key) → wrote s k a ≡ true → touches s g k ≡ true → meets s a.foot g ≡ true
  meets_wrote a g k w touched = go (new s a.foot k) refl w
    where
      go : (o : Option s.Content) → new s a.foot k ≡ o → is_some o ≡ true → meets s a.foot g ≡ true
      go None e q = absurd (false≢true q)
      go (Some v) e q = meets_new s l a.foot g k v e touched

  pub touched_of : (k : s.Key) (a : Entry s) → wrote s k a ≡ true → touches s a.foot k ≡ true
  touched_of k a w = wrote_touches s l a.foot k (new s a.foot k) refl w

  -- what an entry has of last writers is of cells that it touched, and it has something of each
  pub lasts_touched : (f : Foot s) (ls : List (s.Key × Option ℕ)) → HasCells s f ls → AllByRecursion (λ p. touches s f p.0 ≡ true) ls
  lasts_touched f ls h = each ls (λ k q. sym (h k) ∙ q)
    where
      each : (ps : List (s.Key × Option ℕ)) → ((k : s.Key) → list_any (λ p. s.same k p.0) ps ≡ true → touches s f k ≡ true) → AllByRecursion (λ p. touches s f p.0 ≡ true) ps
      each [] g = tt
      each (p ∷ ps) g = (g p.0 (or_left _ _ (l.same_self p.0)), each ps (λ k q. g k (or_right (s.same k p.0) _ q)))

  pub item_of : (f : Foot s) (ls : List (s.Key × Option ℕ)) → HasCells s f ls → (k : s.Key) → touches s f k ≡ true → (p : s.Key × Option ℕ) × In p ls × (k ≡ p.0)
  item_of f ls h k touched = let r = in_any (λ p. s.same k p.0) ls (h k ∙ touched) in (r.0, r.1, l.same_exact k (r.0).0 r.2)

  -- what an entry has of a touched cell is what all items of that cell have
  last_found : (k : s.Key) (f : s.Key → Option ℕ) (ps : List (s.Key × Option ℕ)) → AllByRecursion (λ p. p.1 ≡ f p.0) ps → list_any (λ p. s.same k p.0) ps ≡ true → unwrap_or (found s ps k) None ≡ f k
  last_found k f [] h g = absurd (false≢true g)
  last_found k f (p ∷ ps) (h, hs) g = first (s.same p.0 k) refl (or_cases (s.same k p.0) _ g) (last_found k f ps hs)
    where
      first : (b : Bool) → s.same p.0 k ≡ b → (s.same k p.0 ≡ true) ⊎ (list_any (λ q. s.same k q.0) ps ≡ true) → (list_any (λ q. s.same k q.0) ps ≡ true → unwrap_or (found s ps k) None ≡ f k)
          → unwrap_or (cond b (Some p.1) (found s ps k)) None ≡ f k
      first true e g ih = h ∙ ap f (l.same_exact p.0 k e)
      first false e (inl q) ih = absurd (both_ways _ e (same_turned s l k p.0 q))
      first false e (inr q) ih = ih q

  -- the last writer that an entry has of a touched cell
  pub last_is : (f : s.Key → Option ℕ) (e : Entry s) → HasCells s e.foot e.lasts → AllByRecursion (λ p. p.1 ≡ f p.0) e.lasts → (k : s.Key) → touches s e.foot k ≡ true → last_of s e k ≡ f k
  last_is f e cells lasts k touched = last_found k f e.lasts lasts (cells k ∙ touched)

  -- of those that wrote a cell that a touches, a's causes are the members of the set
  pub same_causes : (k : s.Key) (t : Entry s → Bool) (a : Entry s) (es : List (Entry s)) → touches s a.foot k ≡ true → HasCauses s t a es → AllByRecursion (λ b. (caused s a b && wrote s k b) ≡ (t b && wrote s k b)) es
  same_causes k t a es touched h = all_map _ _ es (λ b p. go b (wrote s k b) refl p) h
    where
      go : (b : Entry s) (w : Bool) → wrote s k b ≡ w → caused s a b ≡ (t b && meets s b.foot a.foot) → (caused s a b && w) ≡ (t b && w)
      go b true e p = and_true (caused s a b) ∙ p ∙ ap (λ m. t b && m) (meets_wrote b a.foot k e touched)
      go b false e p = and_right (caused s a b) false refl ∙ sym (and_right (t b) false refl)

  -- a sound set is linked
  pub linked_sound : (k : s.Key) (t : Entry s → Bool) (es : List (Entry s)) → Sound s t es → Linked s k t es
  linked_sound k t [] h = tt
  linked_sound k t (m ∷ es) (c, h) = (λ member w. same_causes k t m es (touched_of k m w) (c member), linked_sound k t es h)

  -- the members of a sound set have its last writers
  pub sound_last : (t : Entry s → Bool) (es : List (Entry s)) → Chained s es → Sound s t es → HasLastWriters s t es
  sound_last t [] g h = tt
  sound_last t (e ∷ es) (g, gs) (c, h) = (
    λ member. all_both _ _ _ e.lasts (λ p touched is. is ∙ last_same s p.0 (caused s e) t es (same_causes p.0 t e es touched (c member))) (lasts_touched e.foot e.lasts g.cells) g.lasts,
    sound_last t es gs h,
  )

  -- an entry that has the last writers of a sound set has its causes there
  causes_here : (t : Entry s → Bool) (e : Entry s) (es : List (Entry s)) → Distinct s es → Traced s e es → Sound s t es → AllByRecursion (λ p. p.1 ≡ last_writer s p.0 t es) e.lasts → HasCauses s t e es
  causes_here t e es d g sound lasts = in_all _ es (λ a i. cause a i (meets s a.foot e.foot) refl)
    where
      at_cell : (k : s.Key) → touches s e.foot k ≡ true → AllByRecursion (λ a. (caused s e a && wrote s k a) ≡ (t a && wrote s k a)) es
      at_cell k touched = same_writers s k (caused s e) t es d (g.linked k touched) (linked_sound k t es sound)
          (sym (last_is (λ q. last_writer s q (caused s e) es) e g.cells g.lasts k touched) ∙ last_is (λ q. last_writer s q t es) e g.cells lasts k touched)

      cause : (a : Entry s) → In a es → (m : Bool) → meets s a.foot e.foot ≡ m → caused s e a ≡ (t a && m)
      cause a i true q = let r = meets_at a e.foot q in drop_true (caused s e a) (t a) (wrote s r.0 a) r.1 (all_in _ es (at_cell r.0 r.2) a i)
      cause a i false q = none (caused s e a) refl ∙ sym (and_right (t a) false refl)
        where
          none : (x : Bool) → caused s e a ≡ x → x ≡ false
          none true f = absurd (both_ways _ q (all_in _ es g.met a i f))
          none false f = refl

  pub last_sound : (t : Entry s → Bool) (es : List (Entry s)) → Distinct s es → Chained s es → HasLastWriters s t es → Sound s t es
  last_sound t [] d g h = tt
  last_sound t (e ∷ es) (d, ds) (g, gs) (h, hs) = (λ member. causes_here t e es ds g (last_sound t es ds gs hs) (h member), last_sound t es ds gs hs)

  -- last writers are causes
  pub last_caused : (e : Entry s) (es : List (Entry s)) → Traced s e es → (n : ℕ) → follows s n e ≡ true → is_in e.causes n ≡ true
  last_caused e es g n h =
      let r = in_any (λ p. is_name p.1 n) e.lasts h in
      let b = last_in s (r.0).0 (caused s e) es n (sym (ap (λ o. is_name o n) (all_in _ e.lasts g.lasts r.0 r.1)) ∙ r.2) in
      subst (λ m. is_in e.causes m ≡ true) b.4 b.2

  pub lasts_caused : (es : List (Entry s)) → Chained s es → AllByRecursion (λ e. (n : ℕ) → follows s n e ≡ true → is_in e.causes n ≡ true) es
  lasts_caused [] g = tt
  lasts_caused (e ∷ es) (g, gs) = (last_caused e es g, lasts_caused es gs)
