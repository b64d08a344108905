-- The first missing cause is met by walking back from last writers.
use Rattle.std.proofs.Common.{◌≡◌, ◌≢◌, ℕ, Bool, true, false, cond, ◌&&◌, ◌||◌, ◌==◌, not, List, [], ◌∷◌, Option, Some, None, ◌⊎◌, inl, inr, refl, sym, ap, ap₂, ◌∙◌, ne_eqb, eq-eqb, eqb-true}
use Rattle.std.specs.List.{list_any, AllByRecursion}
use Rattle.std.proofs.lemmas.Bool.{false≢true, both_ways, or_left, and_from, and_parts, and_left, and_right, false_from_ne_true, not_from_true, not_from_false, not-true}
use Rattle.history.specs.Subject.{Subject, Laws, touches}
use Rattle.history.specs.Journal.{Entry, name_of, is_in, caused, Sound, Ordered, Distinct}
use Rattle.history.specs.Chains.{wrote, last_writer, last_of, is_name, chain, Chained}
use Rattle.history.proofs.Chaining.{causes_on_chains}
use Rattle.history_consequences.specs.Sets.{is_there, MissesNone}
use Rattle.history_consequences.specs.Refusals.{first_pair, missing, lacking, lacked}
use Rattle.history_consequences.proofs.Members.{In, all_in, in_all, any_in, any_each}
use Rattle.history_consequences.proofs.Writers.{not_false, not_last, item_of, last_is, touched_of}
use Rattle.history_consequences.proofs.Closing.{follows_older}
use Rattle.history_consequences.proofs.Crossing.{last_wrote}
use Rattle.history_consequences.proofs.Oldest.{none_older, oldest_none, oldest_each, pair_more, none_paired}

-- the first of some names is one of them
pub head_named : (n : ℕ) (ns : List ℕ) (m : ℕ) → n ≡ m → is_in (n ∷ ns) m ≡ true
head_named n ns m e = or_left _ _ (eq-eqb n m e)

-- a test and a truth value beside it
and_any : {A : Type 0} (p : A → Bool) (b : Bool) (xs : List A) → (list_any p xs && b) ≡ list_any (λ x. p x && b) xs
and_any p true [] = refl
and_any p false [] = refl
and_any p b (x ∷ xs) = spread (p x) (list_any p xs) b ∙ ap (λ q. (p x && b) || q) (and_any p b xs)
  where
    spread : (x y z : Bool) → ((x || y) && z) ≡ ((x && z) || (y && z))
    spread true y true = refl
    spread true true false = refl
    spread true false false = refl
    spread false y z = refl

module _ (s : Subject) where
  -- names on a chain, and those that are lacking, are of these entries
  chain_unnamed : (k : s.Key) (n : ℕ) (es : List (Entry s)) (o : Option ℕ) → AllByRecursion (λ a. name_of s a ≢ n) es → is_in (chain s k o es) n ≡ false
  chain_unnamed k n [] o h = refl
  chain_unnamed k n (a ∷ es) o (h, hs) = choice (is_name o (name_of s a)) (chain_unnamed k n es (last_of s a k) hs) (chain_unnamed k n es o hs)
    where
      choice : (b : Bool) → is_in (chain s k (last_of s a k) es) n ≡ false → is_in (chain s k o es) n ≡ false → is_in (cond b (name_of s a ∷ chain s k (last_of s a k) es) (chain s k o es)) n ≡ false
      choice true ih other = rw (ne_eqb (name_of s a) n h) ih
      choice false ih other = other

  pub lacking_unnamed : (t : Entry s → Bool) (k : s.Key) (n : ℕ) (es : List (Entry s)) (o : Option ℕ) → AllByRecursion (λ a. name_of s a ≢ n) es → is_in (lacking s t k o es) n ≡ false
  lacking_unnamed t k n [] o h = refl
  lacking_unnamed t k n (a ∷ es) o (h, hs) = choice (is_name o (name_of s a)) (t a) (lacking_unnamed t k n es (last_of s a k) hs) (lacking_unnamed t k n es o hs)
    where
      choice : (b m : Bool) → is_in (lacking s t k (last_of s a k) es) n ≡ false → is_in (lacking s t k o es) n ≡ false
          → is_in (cond b (cond m [] (name_of s a ∷ lacking s t k (last_of s a k) es)) (lacking s t k o es)) n ≡ false
      choice true true ih other = refl
      choice true false ih other = rw (ne_eqb (name_of s a) n h) ih
      choice false m ih other = other

  -- who is named and is no member is lacking
  lacking_head : (t : Entry s → Bool) (k : s.Key) (o : Option ℕ) (es : List (Entry s)) → Distinct s es → (b : Entry s) → In b es → is_name o (name_of s b) ≡ true → t b ≡ false → is_in (lacking s t k o es) (name_of s b) ≡ true
  lacking_head t k o [] d b i is out = absurd i
  lacking_head t k o (x ∷ es) (d, ds) b (inl e) is out =
      ap₂ (λ u v. is_in (cond u (cond v [] (name_of s x ∷ lacking s t k (last_of s x k) es)) (lacking s t k o es)) (name_of s b)) (ap (λ y. is_name o (name_of s y)) e ∙ is) (ap t e ∙ out)
      ∙ head_named (name_of s x) (lacking s t k (last_of s x k) es) (name_of s b) (ap (name_of s) e)
  lacking_head t k o (x ∷ es) (d, ds) b (inr i) is out = go o is (lacking_head t k o es ds b i is out)
    where
      go : (q : Option ℕ) → is_name q (name_of s b) ≡ true → is_in (lacking s t k q es) (name_of s b) ≡ true → is_in (lacking s t k q (x ∷ es)) (name_of s b) ≡ true
      go None f h = absurd (false≢true f)
      go (Some n) f h = rw (ne_eqb n (name_of s x) (λ q. all_in _ es d b i (sym (eqb-true n (name_of s b) f) ∙ q))) h

module _ (s : Subject) (l : Laws s) where
  -- the causes of an entry are on the chains of its last writers among the older ones
  on_chains : (e : Entry s) (es : List (Entry s)) → Distinct s (e ∷ es) → Ordered s (e ∷ es) → AllByRecursion (λ a. caused s a a ≡ false) (e ∷ es) → Chained s (e ∷ es)
      → (a : Entry s) → In a es → caused s e a ≡ list_any (λ p. is_in (chain s p.0 p.1 es) (name_of s a)) e.lasts
  on_chains e es (d, ds) o own (g, gs) a i = all_in _ es ((causes_on_chains s l (e ∷ es) (d, ds) o own (g, gs)).0).1 a i ∙ past e.lasts (in_all _ e.lasts (λ p j. ap (λ q. is_name q (name_of s e)) (all_in _ e.lasts g.lasts p j) ∙ not_last s p.0 (caused s e) (name_of s e) es d))
    where
      past : (ps : List (s.Key × Option ℕ)) → AllByRecursion (λ p. is_name p.1 (name_of s e) ≡ false) ps
          → list_any (λ p. is_in (chain s p.0 p.1 (e ∷ es)) (name_of s a)) ps ≡ list_any (λ p. is_in (chain s p.0 p.1 es) (name_of s a)) ps
      past [] h = refl
      past (p ∷ ps) (h, hs) = ap₂ (λ b c. b || c) (ap (λ b. is_in (cond b (name_of s e ∷ chain s p.0 (last_of s e p.0) es) (chain s p.0 p.1 es)) (name_of s a)) h) (past ps hs)

  -- who is on the chain from what an entry has of a touched cell is a cause of it
  chain_caused : (k : s.Key) (b : Entry s) (es : List (Entry s)) → Distinct s (b ∷ es) → Ordered s (b ∷ es) → AllByRecursion (λ a. caused s a a ≡ false) (b ∷ es) → Chained s (b ∷ es)
      → touches s b.foot k ≡ true → (a : Entry s) → In a es → is_in (chain s k (last_of s b k) es) (name_of s a) ≡ true → caused s b a ≡ true
  chain_caused k b es d o own g touched a i h =
      let p = item_of s l b.foot b.lasts (g.0).cells k touched in
      let is : (p.0).1 ≡ last_of s b k = all_in _ b.lasts (g.0).lasts p.0 p.1 ∙ ap (λ q. last_writer s q (caused s b) es) (sym p.2) ∙ sym (last_is s l (λ q. last_writer s q (caused s b) es) b (g.0).cells (g.0).lasts k touched) in
      on_chains b es d o own g a i ∙ any_in (λ p. is_in (chain s p.0 p.1 es) (name_of s a)) b.lasts p.0 p.1 (ap₂ (λ c q. is_in (chain s c q es) (name_of s a)) (sym p.2) is ∙ h)

  -- where the members among these have all their causes in the set, those on a chain that are no members are just those that are lacking
  module _ (t : Entry s → Bool) where
    abbrev HasAll : List (Entry s) → Type 0
    HasAll es = (b a : Entry s) → In b es → In a es → t b ≡ true → caused s b a ≡ true → t a ≡ true

    lacking_is : (k : s.Key) (es : List (Entry s)) (o : Option ℕ) → Distinct s es → Ordered s es → AllByRecursion (λ a. caused s a a ≡ false) es → Chained s es → HasAll es
        → ((b : Entry s) → In b es → is_name o (name_of s b) ≡ true → wrote s k b ≡ true)
        → (a : Entry s) → In a es → (is_in (chain s k o es) (name_of s a) && not (t a)) ≡ is_in (lacking s t k o es) (name_of s a)
    lacking_is k [] o d ord own g all w a i = absurd i
    lacking_is k (b ∷ es) o (d, ds) (ord, ords) (own, owns) (g, gs) all w a i =
        go (is_name o (name_of s b)) (t b) refl refl i (λ q f j. lacking_is k es q ds ords owns gs (λ x y u v. all x y (inr u) (inr v)) f a j)
      where
        apart : In a es → name_of s b ≢ name_of s a
        apart j q = all_in _ es d a j (sym q)

        later : wrote s k b ≡ true → (c : Entry s) → In c es → is_name (last_of s b k) (name_of s c) ≡ true → wrote s k c ≡ true
        later wb c j is =
            let p = item_of s l b.foot b.lasts g.cells k (touched_of s l k b wb) in
            let e : (p.0).1 ≡ last_of s b k = all_in _ b.lasts g.lasts p.0 p.1 ∙ ap (λ q. last_writer s q (caused s b) es) (sym p.2) ∙ sym (last_is s l (λ q. last_writer s q (caused s b) es) b g.cells g.lasts k (touched_of s l k b wb)) in
            ap (λ q. wrote s q c) p.2 ∙ last_wrote s l b es ds g p.0 p.1 c j (ap (λ q. is_name q (name_of s c)) e ∙ is)

        go : (x m : Bool) → is_name o (name_of s b) ≡ x → t b ≡ m → In a (b ∷ es)
            → ((q : Option ℕ) → ((c : Entry s) → In c es → is_name q (name_of s c) ≡ true → wrote s k c ≡ true) → In a es → (is_in (chain s k q es) (name_of s a) && not (t a)) ≡ is_in (lacking s t k q es) (name_of s a))
            → (is_in (cond x (name_of s b ∷ chain s k (last_of s b k) es) (chain s k o es)) (name_of s a) && not (t a))
            ≡ is_in (cond x (cond m [] (name_of s b ∷ lacking s t k (last_of s b k) es)) (lacking s t k o es)) (name_of s a)
        go true true is tb (inl e) ih = and_right _ (not (t a)) (not_from_true _ (ap t (sym e) ∙ tb))
        go true true is tb (inr j) ih = member (is_in (chain s k (last_of s b k) es) (name_of s a)) refl
          where
            member : (x : Bool) → is_in (chain s k (last_of s b k) es) (name_of s a) ≡ x → (is_in (name_of s b ∷ chain s k (last_of s b k) es) (name_of s a) && not (t a)) ≡ false
            member true q = and_right _ (not (t a)) (not_from_true _ (all b a (inl refl) (inr j) tb
                (chain_caused k b es (d, ds) (ord, ords) (own, owns) (g, gs) (touched_of s l k b (w b (inl refl) is)) a j q)))
            member false q = and_left _ (not (t a)) (rw (ne_eqb (name_of s b) (name_of s a) (apart j)) q)
        go true false is tb (inl e) ih =
            ap₂ (λ u v. u && not v) (head_named (name_of s b) (chain s k (last_of s b k) es) (name_of s a) (ap (name_of s) e)) (ap t (sym e) ∙ tb) ∙ sym (head_named (name_of s b) (lacking s t k (last_of s b k) es) (name_of s a) (ap (name_of s) e))
        go true false is tb (inr j) ih = rw (ne_eqb (name_of s b) (name_of s a) (apart j)) (ih (last_of s b k) (later (w b (inl refl) is)) j)
        go false m is tb (inl e) ih =
            ap (λ u. u && not (t a)) (ap (λ y. is_in (chain s k o es) (name_of s y)) (sym e) ∙ chain_unnamed s k (name_of s b) es o d)
            ∙ sym (ap (λ y. is_in (lacking s t k o es) (name_of s y)) (sym e) ∙ lacking_unnamed s t k (name_of s b) es o d)
        go false m is tb (inr j) ih = ih o (λ c u. w c (inr u)) j

    -- the missing causes of an entry
    missing_is : (e : Entry s) (es : List (Entry s)) → Distinct s (e ∷ es) → Ordered s (e ∷ es) → AllByRecursion (λ a. caused s a a ≡ false) (e ∷ es) → Chained s (e ∷ es) → HasAll es
        → missing s t e es ≡ lacked s t e es
    missing_is e es d o own g all = oldest_each s _ _ es (λ a i.
        ap (λ b. b && not (t a)) (on_chains e es d o own g a i) ∙ and_any (λ p. is_in (chain s p.0 p.1 es) (name_of s a)) (not (t a)) e.lasts
        ∙ any_each _ _ e.lasts (λ p j. lacking_is p.0 es p.1 d.1 o.1 own.1 g.1 all (λ b u is. last_wrote s l e es d.1 g.0 p j b u is) a i))

  -- THE FIRST MISSING CAUSE
  module _ (t r c : Entry s → Bool) (one : (a : Entry s) → t a ≡ true → (c a ≡ true) ⊎ (r a ≡ true)) (some : (a : Entry s) → c a ≡ true → t a ≡ true) (other : (a : Entry s) → r a ≡ true → t a ≡ true) where
    abbrev asked : Entry s → List (Entry s) → Option ℕ
    asked e es = cond (t e) (missing s t e es) None

    abbrev answered : Entry s → List (Entry s) → Option ℕ
    answered e es = cond (c e) (lacked s t e es) None

    -- where none is found missing, the members have all their causes
    none_missing : (es : List (Entry s)) → Ordered s es → AllByRecursion (λ a. caused s a a ≡ false) es → first_pair s asked es ≡ None → HasAll t es
    none_missing [] o own h b a i j tb cause = absurd i
    none_missing (x ∷ es) (o, os) (own, owns) h b a i j tb cause = go i j (none_missing es os owns (none_paired s asked x es h).0)
      where
        told : t x ≡ true → cond (t x) (missing s t x es) None ≡ None → missing s t x es ≡ None
        told tx q = sym (ap (λ u. cond u (missing s t x es) None) tx) ∙ q

        go : In b (x ∷ es) → In a (x ∷ es) → HasAll t es → t a ≡ true
        go (inl p) (inl q) ih = absurd (both_ways _ own (ap₂ (λ u v. caused s u v) p q ∙ cause))
        go (inl p) (inr v) ih = not_false (t a) (λ out. both_ways _
            (none_older s (λ a. caused s x a && not (t a)) es (told (ap t p ∙ tb) (none_paired s asked x es h).1) a v)
            (and_from _ _ (ap (λ y. caused s y a) p ∙ cause) (not_from_false _ out)))
        go (inr u) (inl q) ih = absurd (both_ways _ (all_in _ es o b u) (ap (caused s b) q ∙ cause))
        go (inr u) (inr v) ih = ih b a u v tb cause

    pub first_missing : (es : List (Entry s)) → Distinct s es → Ordered s es → AllByRecursion (λ a. caused s a a ≡ false) es → Chained s es → Sound s r es
        → first_pair s asked es ≡ first_pair s answered es
    first_missing [] d o own g live = refl
    first_missing (e ∷ es) (d, ds) (o, os) (own, owns) (g, gs) (causes, live) = pair_more s asked answered e es (first_missing es ds os owns gs live)
        (λ none. go (t e) (c e) refl refl (none_missing es os owns (first_missing es ds os owns gs live ∙ none)))
      where
        go : (x y : Bool) → t e ≡ x → c e ≡ y → HasAll t es → cond x (missing s t e es) None ≡ cond y (lacked s t e es) None
        go true true te ce all = missing_is t e es (d, ds) (o, os) (own, owns) (g, gs) all
        go true false te ce all = oldest_none s _ es (λ a i. elim (one e te) [
          | inl q ↦ absurd (both_ways _ ce q)
          | inr q ↦ false_from_ne_true _ (λ h. let u = and_parts (caused s e a) (not (t a)) h in
              both_ways _ (not-true _ u.1) (other a (and_parts (r a) _ (sym (all_in _ es (causes q) a i) ∙ u.0)).0))
        ])
        go false true te ce all = absurd (both_ways _ te (some e ce))
        go false false te ce all = refl

    -- where none is found lacking, the last writers are there
    pub none_lacked : (es : List (Entry s)) → Distinct s es → Chained s es → first_pair s answered es ≡ None → MissesNone s t c es
    none_lacked [] d g h = tt
    none_lacked (e ∷ es) (d, ds) (g, gs) h = (
      λ ce. in_all _ e.lasts (λ p i. there p i p.1 refl (none_older s (λ a. list_any (λ p. is_in (lacking s t p.0 p.1 es) (name_of s a)) e.lasts) es (sym (ap (λ u. cond u (lacked s t e es) None) ce) ∙ (none_paired s answered e es h).1))),
      none_lacked es ds gs (none_paired s answered e es h).0,
    )
      where
        there : (p : s.Key × Option ℕ) → In p e.lasts → (o : Option ℕ) → p.1 ≡ o → ((a : Entry s) → In a es → list_any (λ p. is_in (lacking s t p.0 p.1 es) (name_of s a)) e.lasts ≡ false) → is_there s t o es ≡ true
        there p i None is none = refl
        there p i (Some n) is none =
            let b = follows_older s l e es g n (any_in (λ p. is_name p.1 n) e.lasts p i (ap (λ o. is_name o n) is ∙ eq-eqb n n refl)) in
            any_in (λ a. t a && (name_of s a == n)) es b.0 b.1 (and_from _ _
            (not_false (t b.0) (λ out. both_ways _ (none b.0 b.1) (any_in (λ p. is_in (lacking s t p.0 p.1 es) (name_of s b.0)) e.lasts p i
            (lacking_head s t p.0 p.1 es ds b.0 b.1 (ap (λ o. is_name o (name_of s b.0)) is ∙ eq-eqb n (name_of s b.0) (sym b.3)) out))))
            (eq-eqb (name_of s b.0) n b.3))
