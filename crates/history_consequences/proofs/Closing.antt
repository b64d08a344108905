-- Closed sets and cones, by those that follow their members.
use Rattle.std.proofs.Common.{◌≡◌, ℕ, Bool, true, false, cond, ◌&&◌, ◌||◌, ◌==◌, List, [], ◌∷◌, Option, Some, ◌⊎◌, inl, inr, refl, sym, ap, ◌∙◌, eq-eqb, eqb-true}
use Rattle.std.specs.List.{list_any, AllByRecursion}
use Rattle.std.proofs.lemmas.Bool.{both_ways, or_left, or_right, or_cases, and_from, and_parts, false_from_ne_true}
use Rattle.history.proofs.Lists.{all_map}
use Rattle.history.specs.Subject.{Subject, Laws, touches, meets}
use Rattle.history.specs.Journal.{Entry, name_of, caused, Part, HasCauses, Sound, Ordered, Distinct, Closed, HasNoneOutside}
use Rattle.history.specs.Chains.{wrote, last_writer, is_name, Traced, Chained}
use Rattle.history.specs.Cone.{in_cone}
use Rattle.history.proofs.Cones.{cone_closed, cone_has_root, cone_least, closed_outside, outside_closed}
use Rattle.history_consequences.specs.Versions.{follows}
use Rattle.history_consequences.specs.Sets.{Unfollowed, Gathered}
use Rattle.history_consequences.proofs.Members.{In, all_in, in_all, any_in, in_any}
use Rattle.history_consequences.proofs.Writers.{not_false, last_in, meets_at, meets_wrote, touched_of, item_of, sound_last, lasts_caused}

module _ (s : Subject) where
  -- entries of one name are one
  pub one_named : (es : List (Entry s)) → Distinct s es → (a b : Entry s) → In a es → In b es → name_of s a ≡ name_of s b → a ≡ b
  one_named [] d a b i j e = absurd i
  one_named (x ∷ es) (d, ds) a b (inl p) (inl q) e = sym p ∙ q
  one_named (x ∷ es) (d, ds) a b (inl p) (inr j) e = absurd (all_in _ es d b j (sym e ∙ sym (ap (name_of s) p)))
  one_named (x ∷ es) (d, ds) a b (inr i) (inl q) e = absurd (all_in _ es d a i (e ∙ sym (ap (name_of s) q)))
  one_named (x ∷ es) (d, ds) a b (inr i) (inr j) e = one_named es ds a b i j e

  -- no member of t outside the set follows a member, told of each two
  abbrev pub NoneFollow : (Entry s → Bool) → (Entry s → Bool) → List (Entry s) → Type 0
  NoneFollow t c es = (a r : Entry s) → In a es → In r es → c a ≡ true → t r ≡ true → c r ≡ false → follows s (name_of s a) r ≡ false

  pub none_follow : (t c : Entry s → Bool) (es : List (Entry s)) → Unfollowed s t c es → NoneFollow t c es
  none_follow t c es h a r i j = λ ca. all_in _ es (all_in _ es h a i ca) r j

  -- no member outside has one of the set as a cause, told of each two
  abbrev pub NoneComes : (Entry s → Bool) → (Entry s → Bool) → List (Entry s) → Type 0
  NoneComes t c es = (e a : Entry s) → In e es → In a es → t e ≡ true → c e ≡ false → c a ≡ true → caused s e a ≡ false

  pub outside_of : (t c : Entry s → Bool) (es : List (Entry s)) → NoneComes t c es → HasNoneOutside s t c es
  outside_of t c es h = in_all _ es (λ e i te out. in_all _ es (λ a j ca. h e a i j te out ca))

  pub of_outside : (t c : Entry s → Bool) (es : List (Entry s)) → HasNoneOutside s t c es → NoneComes t c es
  of_outside t c es h e a i j te out ca = all_in _ es (all_in _ es h e i te out) a j ca

module _ (s : Subject) (l : Laws s) where
  -- a member that wrote the cell, which has this name, and which is a or has it as a cause
  abbrev Newest : s.Key → (Entry s → Bool) → Entry s → Option ℕ → List (Entry s) → Type 0
  Newest k t a o es = (n : Entry s) × In n es × (t n ≡ true) × (wrote s k n ≡ true) × (o ≡ Some (name_of s n)) × ((n ≡ a) ⊎ (caused s n a ≡ true))

  -- of those of a sound set that wrote a cell, the newest is the last writer, and the others are causes of it
  pub newest : (k : s.Key) (t : Entry s → Bool) (es : List (Entry s)) → Sound s t es → (a : Entry s) → In a es → t a ≡ true → wrote s k a ≡ true
      → Newest k t a (last_writer s k t es) es
  newest k t [] h a i ta wa = absurd i
  newest k t (b ∷ es) (c, h) a i ta wa = go (t b) (wrote s k b) refl refl i (newest k t es h a)
    where
      after : (j : In a es) → t b ≡ true → wrote s k b ≡ true → caused s b a ≡ true
      after j tb wb = all_in _ es (c tb) a j ∙ and_from (t a) _ ta (meets_wrote s l a b.foot k wa (touched_of s l k b wb))

      go : (x w : Bool) → t b ≡ x → wrote s k b ≡ w → In a (b ∷ es)
          → (In a es → t a ≡ true → wrote s k a ≡ true → Newest k t a (last_writer s k t es) es)
          → Newest k t a (cond (x && w) (Some (name_of s b)) (last_writer s k t es)) (b ∷ es)
      go true true tb wb (inl e) ih = (b, inl refl, tb, wb, refl, inl e)
      go true true tb wb (inr j) ih = (b, inl refl, tb, wb, refl, inr (after j tb wb))
      go true false tb wb (inl e) ih = absurd (both_ways _ (sym (ap (wrote s k) e) ∙ wb) wa)
      go true false tb wb (inr j) ih = let r = ih j ta wa in (r.0, inr r.1, r.2, r.3, r.4, r.5)
      go false w tb wb (inl e) ih = absurd (both_ways _ (sym (ap t e) ∙ tb) ta)
      go false w tb wb (inr j) ih = let r = ih j ta wa in (r.0, inr r.1, r.2, r.3, r.4, r.5)

  -- an entry follows the last writer of a cell that it touched
  pub follows_last : (t : Entry s → Bool) (e : Entry s) (es : List (Entry s)) → Traced s e es → AllByRecursion (λ p. p.1 ≡ last_writer s p.0 t es) e.lasts
      → (k : s.Key) (n : ℕ) → touches s e.foot k ≡ true → last_writer s k t es ≡ Some n → follows s n e ≡ true
  follows_last t e es g lasts k n touched is =
      let r = item_of s l e.foot e.lasts g.cells k touched in
      any_in (λ p. is_name p.1 n) e.lasts r.0 r.1 (ap (λ o. is_name o n) (all_in _ e.lasts lasts r.0 r.1 ∙ ap (λ q. last_writer s q t es) (sym r.2) ∙ is) ∙ eq-eqb n n refl)

  module _ (t c : Entry s → Bool) where
    -- the newest entry has none of the set as a cause, where those older have none
    head_none : (x : Entry s) (es : List (Entry s)) → Traced s x es → HasCauses s t x es → AllByRecursion (λ p. p.1 ≡ last_writer s p.0 t es) x.lasts → Sound s t es
        → NoneComes s t c es → NoneFollow s t c (x ∷ es) → t x ≡ true → c x ≡ false → (a : Entry s) → In a es → c a ≡ true → caused s x a ≡ true → ⊥
    head_none x es g causes lasts sound ih none tx cx a i ca cause =
        let both = and_parts (t a) (meets s a.foot x.foot) (sym (all_in _ es causes a i) ∙ cause) in
        let m = meets_at s l a x.foot both.1 in
        let n = newest m.0 t es sound a i both.0 m.1 in
        at (c n.0) n.0 refl n.1 n.2 (follows_last t x es g lasts m.0 (name_of s n.0) m.2 n.4) n.5
      where
        at : (b : Bool) (n : Entry s) → c n ≡ b → In n es → t n ≡ true → follows s (name_of s n) x ≡ true → (n ≡ a) ⊎ (caused s n a ≡ true) → ⊥
        at true n cn j tn f o = both_ways _ (none n x (inr j) (inl refl) cn tx cx) f
        at false n cn j tn f (inl e) = both_ways _ (ap c (sym e) ∙ cn) ca
        at false n cn j tn f (inr q) = both_ways _ (ih n a j i tn cn ca) q

    -- where no outsider follows a member, no outsider has a member as a cause
    pub none_comes : (es : List (Entry s)) → AllByRecursion (λ a. caused s a a ≡ false) es → Ordered s es → Chained s es → Sound s t es → NoneFollow s t c es → NoneComes s t c es
    none_comes [] own order g sound none = λ e a i j te ce ca. absurd i
    none_comes (x ∷ es) (mine, own) (newer, order) (g, gs) (causes, sound) none = told (none_comes es own order gs sound (λ a r i j. none a r (inr i) (inr j)))
      where
        told : NoneComes s t c es → NoneComes s t c (x ∷ es)
        told ih e a (inl p) (inl q) te ce ca = ap (λ y. caused s y a) (sym p) ∙ ap (caused s x) (sym q) ∙ mine
        told ih e a (inl p) (inr j) te ce ca = false_from_ne_true _ (λ is.
            head_none x es g (causes (ap t p ∙ te)) ((sound_last s l t (x ∷ es) (g, gs) (causes, sound)).0 (ap t p ∙ te)) sound ih none (ap t p ∙ te) (ap c p ∙ ce) a j ca (ap (λ y. caused s y a) p ∙ is))
        told ih e a (inr i) (inl q) te ce ca = ap (caused s e) (sym q) ∙ all_in _ es newer e i
        told ih e a (inr i) (inr j) te ce ca = ih e a i j te ce ca

    -- CLOSED IS UNFOLLOWED
    pub closed_of : (es : List (Entry s)) → AllByRecursion (λ a. caused s a a ≡ false) es → Ordered s es → Chained s es → Sound s t es → Unfollowed s t c es → Closed s t c es
    closed_of es own order g sound none = outside_closed s t c es (outside_of s t c es (none_comes es own order g sound (none_follow s t c es none)))

    pub unfollowed_of : (es : List (Entry s)) → AllByRecursion (λ a. caused s a a ≡ false) es → Ordered s es → Chained s es → Closed s t c es → Unfollowed s t c es
    unfollowed_of es own order g closed = in_all _ es (λ a i ca. in_all _ es (λ r j tr cr. false_from_ne_true _ (λ f.
        both_ways _ (of_outside s t c es (closed_outside s t c es own order closed) r a j i tr cr ca) (all_in _ es (lasts_caused s l es g) r j (name_of s a) f))))

  -- a follower stands behind what it follows
  pub follows_older : (e : Entry s) (es : List (Entry s)) → Traced s e es → (n : ℕ) → follows s n e ≡ true → (b : Entry s) × In b es × (caused s e b ≡ true) × (name_of s b ≡ n)
  follows_older e es g n h =
      let r = in_any (λ p. is_name p.1 n) e.lasts h in
      let b = last_in s (r.0).0 (caused s e) es n (sym (ap (λ o. is_name o n) (all_in _ e.lasts g.lasts r.0 r.1)) ∙ r.2) in
      (b.0, b.1, b.2, b.4)

  module _ (t c : Entry s → Bool) (root : ℕ) where
    -- what is gathered is in each set that has the root and that nothing outside comes of
    gathered_in : (d : Entry s → Bool) (all : List (Entry s)) → Distinct s all → NoneComes s t d all → AllByRecursion (λ e. name_of s e ≡ root → d e ≡ true) all
        → AllByRecursion (λ r. c r ≡ true → (name_of s r ≡ root) ⊎ ((t r ≡ true) × (list_any (λ a. c a && follows s (name_of s a) r) all ≡ true))) all
        → (es : List (Entry s)) → ((x : Entry s) → In x es → In x all) → Chained s es → (r : Entry s) → In r es → c r ≡ true → d r ≡ true
    gathered_in d all distinct none has others [] sub g r i cr = absurd i
    gathered_in d all distinct none has others (x ∷ es) sub (g, gs) r i cr = go i (λ b j cb. gathered_in d all distinct none has others es (λ y k. sub y (inr k)) gs b j cb)
      where
        came : ((b : Entry s) → In b es → c b ≡ true → d b ≡ true) → t x ≡ true → list_any (λ a. c a && follows s (name_of s a) x) all ≡ true → d x ≡ true
        came ih tx q =
            let a = in_any (λ a. c a && follows s (name_of s a) x) all q in
            let both = and_parts (c a.0) (follows s (name_of s a.0) x) a.2 in
            let b = follows_older x es g (name_of s a.0) both.1 in
            let cb : c b.0 ≡ true = ap c (one_named s all distinct b.0 a.0 (sub b.0 (inr b.1)) a.1 b.3) ∙ both.0 in
            not_false (d x) (λ out. both_ways _ (none x b.0 (sub x (inl refl)) (sub b.0 (inr b.1)) tx out (ih b.0 b.1 cb)) b.2)

        go : In r (x ∷ es) → ((b : Entry s) → In b es → c b ≡ true → d b ≡ true) → d r ≡ true
        go (inl e) ih = ap d (sym e) ∙ elim (all_in _ all others x (sub x (inl refl)) (ap c e ∙ cr)) [
          | inl q ↦ all_in _ all has x (sub x (inl refl)) q
          | inr q ↦ came ih q.0 q.1
        ]
        go (inr j) ih = ih r j cr

    -- THE CONE is what is gathered, where nothing outside follows it
    pub cone_gathered : (es : List (Entry s)) → Distinct s es → AllByRecursion (λ a. caused s a a ≡ false) es → Ordered s es → Chained s es → Sound s t es
        → Gathered s t c root es → Unfollowed s t c es → AllByRecursion (λ e. c e ≡ in_cone s t root es e) es
    cone_gathered es distinct own order g sound got none = in_all _ es (λ e i. same (c e) (in_cone s t root es e) (out e i) (all_in _ es inside e i))
      where
        inside : Part (in_cone s t root es) c es
        inside = cone_least s t c root es distinct (closed_of t c es own order g sound none) got.root_in

        out : (e : Entry s) → In e es → c e ≡ true → in_cone s t root es e ≡ true
        out e i ce = gathered_in (in_cone s t root es) es distinct
            (of_outside s t (in_cone s t root es) es (closed_outside s t (in_cone s t root es) es own order (cone_closed s t root es distinct)))
            (cone_has_root s t root es) got.others es (λ x j. j) g e i ce

        same : (x y : Bool) → (x ≡ true → y ≡ true) → (y ≡ true → x ≡ true) → x ≡ y
        same true y f h = sym (f refl)
        same false true f h = h refl
        same false false f h = refl

    -- an entry of the cone that is its root, or a member with a cause in the cone
    abbrev came_in : List (Entry s) → Entry s → Bool
    came_in es e = (name_of s e == root) || (t e && list_any (λ a. in_cone s t root es a && caused s e a) es)

    came_closed : (es : List (Entry s)) → Distinct s es → (fs : List (Entry s)) → ((x : Entry s) → In x fs → In x es) → Closed s t (in_cone s t root es) fs → Closed s t (λ e. in_cone s t root es e && came_in es e) fs
    came_closed es distinct [] sub h = tt
    came_closed es distinct (x ∷ fs) sub (h, hs) = (
      λ tx. in_all _ fs (λ a i ca cause.
          let ka = (and_parts (in_cone s t root es a) (came_in es a) ca).0 in
          and_from _ _ (all_in _ fs (h tx) a i ka cause) (or_right (name_of s x == root) _ (and_from _ _ tx (any_in (λ a. in_cone s t root es a && caused s x a) es a (sub a (inr i)) (and_from _ _ ka cause))))),
      came_closed es distinct fs (λ y j. sub y (inr j)) hs,
    )

    -- the cone is gathered so
    pub gathered_cone : (es : List (Entry s)) → Distinct s es → AllByRecursion (λ a. caused s a a ≡ false) es → Ordered s es → Chained s es → Sound s t es → Gathered s t (in_cone s t root es) root es
    gathered_cone es distinct own order g sound = record {
      root_in = cone_has_root s t root es;
      others = in_all _ es (λ e i ke. elim (or_cases (name_of s e == root) _ (and_parts (in_cone s t root es e) (came_in es e) (all_in _ es inside e i ke)).1) [
        | inl q ↦ inl (eqb-true (name_of s e) root q)
        | inr q ↦ let u = and_parts (t e) _ q in
            let a = in_any (λ a. in_cone s t root es a && caused s e a) es u.1 in
            let v = and_parts (in_cone s t root es a.0) (caused s e a.0) a.2 in
            inr (u.0, near es (λ x j. j) own order g sound e a.0 i a.1 u.0 v.0 v.1)
      ]);
    }
      where
        inside : Part (in_cone s t root es) (λ e. in_cone s t root es e && came_in es e) es
        inside = cone_least s t (λ e. in_cone s t root es e && came_in es e) root es distinct (came_closed es distinct es (λ x j. j) (cone_closed s t root es distinct))
            (all_map _ _ es (λ e k is. and_from _ _ (k is) (or_left _ _ (eq-eqb (name_of s e) root is))) (cone_has_root s t root es))

        none : NoneComes s t (in_cone s t root es) es
        none = of_outside s t (in_cone s t root es) es (closed_outside s t (in_cone s t root es) es own order (cone_closed s t root es distinct))

        -- the newest member that wrote the cell is in the cone too
        newer : (n a : Entry s) → In n es → In a es → t n ≡ true → in_cone s t root es a ≡ true → (n ≡ a) ⊎ (caused s n a ≡ true) → in_cone s t root es n ≡ true
        newer n a i j tn ka (inl e) = ap (in_cone s t root es) e ∙ ka
        newer n a i j tn ka (inr cause) = not_false _ (λ out. both_ways _ (none n a i j tn out ka) cause)

        near : (fs : List (Entry s)) → ((x : Entry s) → In x fs → In x es) → AllByRecursion (λ a. caused s a a ≡ false) fs → Ordered s fs → Chained s fs → Sound s t fs
            → (e a : Entry s) → In e fs → In a fs → t e ≡ true → in_cone s t root es a ≡ true → caused s e a ≡ true → list_any (λ n. in_cone s t root es n && follows s (name_of s n) e) es ≡ true
        near [] sub w o gs so e a i j te ka cause = absurd i
        near (x ∷ fs) sub (w, ws) (o, os) (gx, gs) (causes, so) e a (inl p) (inl q) te ka cause = absurd (both_ways _ w (ap (λ y. caused s y x) p ∙ ap (caused s e) q ∙ cause))
        near (x ∷ fs) sub (w, ws) (o, os) (gx, gs) (causes, so) e a (inr i) (inl q) te ka cause = absurd (both_ways _ (all_in _ fs o e i) (ap (caused s e) q ∙ cause))
        near (x ∷ fs) sub (w, ws) (o, os) (gx, gs) (causes, so) e a (inr i) (inr j) te ka cause = near fs (λ y k. sub y (inr k)) ws os gs so e a i j te ka cause
        near (x ∷ fs) sub (w, ws) (o, os) (gx, gs) (causes, so) e a (inl p) (inr j) te ka cause =
            let tx : t x ≡ true = ap t p ∙ te in
            let u = and_parts (t a) (meets s a.foot x.foot) (sym (all_in _ fs (causes tx) a j) ∙ ap (λ y. caused s y a) p ∙ cause) in
            let m = meets_at s l a x.foot u.1 in
            let n = newest m.0 t fs so a j u.0 m.1 in
            any_in (λ n. in_cone s t root es n && follows s (name_of s n) e) es n.0 (sub n.0 (inr n.1)) (and_from _ _
            (newer n.0 a (sub n.0 (inr n.1)) (sub a (inr j)) n.2 ka n.5)
            (ap (follows s (name_of s n.0)) (sym p) ∙ follows_last t x fs gx ((sound_last s l t (x ∷ fs) (gx, gs) (causes, so)).0 tx) m.0 (name_of s n.0) m.2 n.4))
