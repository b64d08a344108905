-- Entries go over to the base, and what the index lists is found.
use Rattle.std.proofs.Common.{◌≡◌, ◌≢◌, ℕ, Bool, true, false, cond, ◌&&◌, ◌||◌, ◌==◌, not, List, [], ◌∷◌, ◌++◌, Option, Some, ◌⊎◌, inl, inr, refl, sym, ap, ap₂, ◌∙◌, eq-eqb, eqb-true, subst}
use Rattle.std.specs.List.{list_any, AllByRecursion}
use Rattle.std.proofs.lemmas.Bool.{both_ways, or_left, or_right, or_cases, and_from, and_parts, false_from_ne_true, not_from_false, not-true}
use Rattle.history.specs.Subject.{Subject, Laws, touches}
use Rattle.history.specs.Journal.{Entry, name_of, caused, live_set, Sound, Ordered, Distinct, Closed}
use Rattle.history.specs.Chains.{wrote, last_writer, last_of, is_name, Traced, Chained}
use Rattle.history_consequences.specs.Versions.{Version, is_one, found_as, follows, follows_by, by_reading}
use Rattle.history_consequences.specs.Index.{Lists, Index, passes, is_among, from_base, AreRight, Indexed, Hands, Settles, lists, listed_at}
use Rattle.history_consequences.proofs.Members.{In, all_in, in_all, any_in, in_any}
use Rattle.history_consequences.proofs.Writers.{item_of, last_is}
use Rattle.history_consequences.proofs.Closing.{none_follow, closed_of, unfollowed_of}
use Rattle.history_consequences.proofs.Crossing.{one_same, one_self, name_same}
use Rattle.history_consequences.proofs.Indexing.{same_from, in_left, in_right, in_parts, passes_of, of_passes, passes_is, heir_or_reader, by_follows, not_following}

module _ (s : Subject) where
  pub distinct_left : (xs ys : List (Entry s)) → Distinct s (xs ++ ys) → Distinct s xs
  distinct_left [] ys d = tt
  distinct_left (x ∷ xs) ys (d, ds) = (in_all _ xs (λ a i. all_in _ (xs ++ ys) d a (in_left xs ys a i)), distinct_left xs ys ds)

  pub parts_apart : (xs ys : List (Entry s)) → Distinct s (xs ++ ys) → (a b : Entry s) → In a xs → In b ys → name_of s b ≢ name_of s a
  parts_apart [] ys d a b i j = absurd i
  parts_apart (x ∷ xs) ys (d, ds) a b (inl e) j = λ q. all_in _ (xs ++ ys) d b (in_right xs ys b j) (q ∙ sym (ap (name_of s) e))
  parts_apart (x ∷ xs) ys (d, ds) a b (inr i) j = parts_apart xs ys ds a b i j

  pub traced_in : (es : List (Entry s)) → Chained s es → (r : Entry s) → In r es → (older : List (Entry s)) × Traced s r older
  traced_in [] g r i = absurd i
  traced_in (x ∷ es) (g, gs) r (inl e) = (es, subst (λ y. Traced s y es) e g)
  traced_in (x ∷ es) (g, gs) r (inr i) = traced_in es gs r i

module _ (s : Subject) (l : Laws s) where
  -- nobody of the older part follows one of the newer part
  pub parts_unfollowed : (xs ys : List (Entry s)) → Distinct s (xs ++ ys) → Chained s (xs ++ ys) → (w r : Entry s) → In w xs → In r ys → follows s (name_of s w) r ≡ false
  parts_unfollowed [] ys d g w r i j = absurd i
  parts_unfollowed (x ∷ xs) ys (d, ds) (g, gs) w r (inl e) j =
      ap (λ y. follows s (name_of s y) r) (sym e) ∙ not_following s l (name_of s x) (xs ++ ys) d gs r (in_right xs ys r j)
  parts_unfollowed (x ∷ xs) ys (d, ds) (g, gs) w r (inr i) j = parts_unfollowed xs ys ds gs w r i j

  -- an entry has an item of each cell that it touched
  pub item_at : (es : List (Entry s)) → Chained s es → (r : Entry s) → In r es → (k : s.Key) → touches s r.foot k ≡ true → (p : s.Key × Option ℕ) × In p r.lasts × (k ≡ p.0) × (p.1 ≡ last_of s r k)
  item_at es g r i k touched =
      let t = traced_in s es g r i in
      let p = item_of s l r.foot r.lasts (t.1).cells k touched in
      (p.0, p.1, p.2, all_in _ r.lasts (t.1).lasts p.0 p.1 ∙ ap (λ q. last_writer s q (caused s r) t.0) (sym p.2) ∙ sym (last_is s l (λ q. last_writer s q (caused s r) t.0) r (t.1).cells (t.1).lasts k touched))

  -- who found a cell of a kind as an entry left it follows it by that
  by_at : (kind : s.Key → Entry s → Bool) (es : List (Entry s)) → Chained s es → (r : Entry s) → In r es → (k : s.Key) (n : ℕ) → touches s r.foot k ≡ true → last_of s r k ≡ Some n → kind k r ≡ true → follows_by s kind n r ≡ true
  by_at kind es g r i k n touched is of =
      let p = item_at es g r i k touched in
      any_in (λ p. is_name p.1 n && kind p.0 r) r.lasts p.0 p.1 (and_from _ _ (ap (λ o. is_name o n) (p.3 ∙ is) ∙ eq-eqb n n refl) (ap (λ c. kind c r) (sym p.2) ∙ of))

-- the lists of heirs, or those of readers
module _ (s : Subject) (l : Laws s) (kind : s.Key → Entry s → Bool) where
  -- entries go over to the base
  module _ (xs ys base : List (Entry s)) (d : Distinct s (xs ++ (ys ++ base))) (g : Chained s (xs ++ (ys ++ base))) (old : Lists s) (right : AreRight s kind old (xs ++ ys)) where
    apart : (a b : Entry s) → In a xs → In b ys → name_of s b ≢ name_of s a
    apart a b i j = parts_apart s xs (ys ++ base) d a b i (in_left ys base b j)

    -- what stays open lists what it listed
    open_stays : (w : Entry s) → In w xs → (n : ℕ) → old.at (name_of s w) n ≡ passes s (follows_by s kind (name_of s w)) n xs
    open_stays w i n = all_in _ (xs ++ ys) right.at w (in_left xs ys w i) n ∙ same_from _ _ forth back
      where
        forth : passes s (follows_by s kind (name_of s w)) n (xs ++ ys) ≡ true → passes s (follows_by s kind (name_of s w)) n xs ≡ true
        forth h = let r = of_passes s (follows_by s kind (name_of s w)) n (xs ++ ys) h in
            elim (in_parts xs ys r.0 r.1) [
              | inl j ↦ ap (λ m. passes s (follows_by s kind (name_of s w)) m xs) (sym r.2) ∙ passes_of s (follows_by s kind (name_of s w)) xs r.0 j r.3
              | inr j ↦ absurd (both_ways _ (by_follows s kind (name_of s w) r.0 (parts_unfollowed s l xs (ys ++ base) d g w r.0 i (in_left ys base r.0 j))) r.3)
            ]

        back : passes s (follows_by s kind (name_of s w)) n xs ≡ true → passes s (follows_by s kind (name_of s w)) n (xs ++ ys) ≡ true
        back h = let r = of_passes s (follows_by s kind (name_of s w)) n xs h in
            ap (λ m. passes s (follows_by s kind (name_of s w)) m (xs ++ ys)) (sym r.2) ∙ passes_of s (follows_by s kind (name_of s w)) (xs ++ ys) r.0 (in_left xs ys r.0 r.1) r.3

    module _ (k : s.Key) where
      abbrev found : Entry s → Entry s → Bool
      found w r = found_as s (k, Some (name_of s w)) r && kind k r

      abbrev left : Entry s → Bool
      left r = from_base s xs k r && kind k r

      abbrev was : Entry s → Bool
      was r = from_base s (xs ++ ys) k r && kind k r

      left_of : (r : Entry s) → In r xs → touches s r.foot k ≡ true → (is_among s (last_of s r k) xs ≡ true → ⊥) → kind k r ≡ true → passes s left (name_of s r) xs ≡ true
      left_of r i touched none kr = passes_of s left xs r i (and_from _ _ (and_from _ _ touched (not_from_false _ (false_from_ne_true _ none))) kr)

      stayed : (n : ℕ) → old.of k n ≡ true → not (list_any (λ a. name_of s a == n) ys) ≡ true → passes s left n xs ≡ true
      stayed n h other =
          let r = of_passes s was n (xs ++ ys) (sym (right.of k n) ∙ h) in
          let u = and_parts (from_base s (xs ++ ys) k r.0) (kind k r.0) r.3 in
          let v = and_parts (touches s (r.0).foot k) (not (is_among s (last_of s r.0 k) (xs ++ ys))) u.0 in
          elim (in_parts xs ys r.0 r.1) [
            | inl j ↦ ap (λ m. passes s left m xs) (sym r.2) ∙ left_of r.0 j v.0 (λ b. let w = in_any (λ b. is_name (last_of s r.0 k) (name_of s b)) xs b in
                both_ways _ (not-true _ v.1) (any_in (λ b. is_name (last_of s r.0 k) (name_of s b)) (xs ++ ys) w.0 (in_left xs ys w.0 w.1) w.2)) u.1
            | inr j ↦ absurd (both_ways _ (not-true _ other) (any_in (λ a. name_of s a == n) ys r.0 j (eq-eqb (name_of s r.0) n r.2)))
          ]

      came : (n : ℕ) → list_any (λ w. old.at (name_of s w) n && passes s (found w) n xs) ys ≡ true → passes s left n xs ≡ true
      came n h =
          let w = in_any (λ w. old.at (name_of s w) n && passes s (found w) n xs) ys h in
          let u = and_parts (old.at (name_of s w.0) n) (passes s (found w.0) n xs) w.2 in
          let r = of_passes s (found w.0) n xs u.1 in
          let v = and_parts (found_as s (k, Some (name_of s w.0)) r.0) (kind k r.0) r.3 in
          let x = and_parts (touches s (r.0).foot k) (is_one (last_of s r.0 k) (Some (name_of s w.0))) v.0 in
          ap (λ m. passes s left m xs) (sym r.2) ∙ left_of r.0 r.1 x.0 (λ b. let y = in_any (λ b. is_name (last_of s r.0 k) (name_of s b)) xs b in
          apart y.0 w.0 y.1 w.1 (eqb-true (name_of s w.0) (name_of s y.0) (sym (ap (λ o. is_name o (name_of s y.0)) (one_same (last_of s r.0 k) (Some (name_of s w.0)) x.1)) ∙ y.2))) v.1

      gone : (n : ℕ) → passes s left n xs ≡ true → ((old.of k n && not (list_any (λ a. name_of s a == n) ys)) || list_any (λ w. old.at (name_of s w) n && passes s (found w) n xs) ys) ≡ true
      gone n h =
          let r = of_passes s left n xs h in
          let u = and_parts (from_base s xs k r.0) (kind k r.0) r.3 in
          let v = and_parts (touches s (r.0).foot k) (not (is_among s (last_of s r.0 k) xs)) u.0 in
          by r.0 r.1 r.2 v.0 (not-true _ v.1) u.1 (is_among s (last_of s r.0 k) ys) refl
        where
          by : (r : Entry s) → In r xs → name_of s r ≡ n → touches s r.foot k ≡ true → is_among s (last_of s r k) xs ≡ false → kind k r ≡ true → (b : Bool) → is_among s (last_of s r k) ys ≡ b
              → ((old.of k n && not (list_any (λ a. name_of s a == n) ys)) || list_any (λ w. old.at (name_of s w) n && passes s (found w) n xs) ys) ≡ true
          by r i is touched out kr true e =
              let w = in_any (λ b. is_name (last_of s r k) (name_of s b)) ys e in
              let last : last_of s r k ≡ Some (name_of s w.0) = name_same (last_of s r k) (name_of s w.0) w.2 in
              or_right (old.of k n && not (list_any (λ a. name_of s a == n) ys)) _ (any_in (λ w. old.at (name_of s w) n && passes s (found w) n xs) ys w.0 w.1 (and_from _ _
              (all_in _ (xs ++ ys) right.at w.0 (in_right xs ys w.0 w.1) n ∙ ap (λ m. passes s (follows_by s kind (name_of s w.0)) m (xs ++ ys)) (sym is)
              ∙ passes_of s (follows_by s kind (name_of s w.0)) (xs ++ ys) r (in_left xs ys r i) (by_at s l kind (xs ++ (ys ++ base)) g r (in_left xs (ys ++ base) r i) k (name_of s w.0) touched last kr))
              (ap (λ m. passes s (found w.0) m xs) (sym is) ∙ passes_of s (found w.0) xs r i (and_from _ _ (and_from _ _ touched (ap (λ o. is_one o (Some (name_of s w.0))) last ∙ one_self (Some (name_of s w.0)))) kr))))
          by r i is touched out kr false e = or_left _ _ (and_from _ _
              (right.of k n ∙ ap (λ m. passes s was m (xs ++ ys)) (sym is) ∙ passes_of s was (xs ++ ys) r (in_left xs ys r i) (and_from _ _ (and_from _ _ touched (not_from_false _ (false_from_ne_true _ among))) kr))
              (not_from_false _ (false_from_ne_true _ (λ b. let a = in_any (λ a. name_of s a == n) ys b in apart r a.0 i a.1 (eqb-true (name_of s a.0) n a.2 ∙ sym is)))))
            where
              among : is_among s (last_of s r k) (xs ++ ys) ≡ true → ⊥
              among b =
                  let w = in_any (λ b. is_name (last_of s r k) (name_of s b)) (xs ++ ys) b in
                  elim (in_parts xs ys w.0 w.1) [
                    | inl j ↦ both_ways _ out (any_in (λ b. is_name (last_of s r k) (name_of s b)) xs w.0 j w.2)
                    | inr j ↦ both_ways _ e (any_in (λ b. is_name (last_of s r k) (name_of s b)) ys w.0 j w.2)
                  ]

      base_settled : (n : ℕ) → ((old.of k n && not (list_any (λ a. name_of s a == n) ys)) || list_any (λ w. old.at (name_of s w) n && passes s (found w) n xs) ys) ≡ passes s left n xs
      base_settled n = same_from _ _
          (λ h. elim (or_cases (old.of k n && not (list_any (λ a. name_of s a == n) ys)) _ h) [
            | inl b ↦ let u = and_parts (old.of k n) (not (list_any (λ a. name_of s a == n) ys)) b in stayed n u.0 u.1
            | inr b ↦ came n b
          ])
          (gone n)

    lists_handed : (new : Lists s) → Hands s kind old new xs ys → AreRight s kind new xs
    lists_handed new k = record {
      at = in_all _ xs (λ w i n. all_in _ xs k.at w i n ∙ open_stays w i n);
      of = λ c n. k.of c n ∙ base_settled c n;
    }

  -- who found a version is listed at it
  found_listed : (opens base : List (Entry s)) → Chained s (opens ++ base) → (names : Lists s) → AreRight s kind names opens → (v : Version s) (r : Entry s) → In r opens → found_as s v r ≡ true → kind v.0 r ≡ true
      → listed_at s names opens v (name_of s r) ≡ true
  found_listed opens base g names right v r i h of = by (is_among s v.1 opens) refl (and_parts (touches s r.foot v.0) (is_one (last_of s r v.0) v.1) h)
    where
      by : (b : Bool) → is_among s v.1 opens ≡ b → (touches s r.foot v.0 ≡ true) × (is_one (last_of s r v.0) v.1 ≡ true)
          → cond b (list_any (λ w. is_name v.1 (name_of s w) && names.at (name_of s w) (name_of s r)) opens) (names.of v.0 (name_of s r)) ≡ true
      by true e u =
          let w = in_any (λ b. is_name v.1 (name_of s b)) opens e in
          any_in (λ w. is_name v.1 (name_of s w) && names.at (name_of s w) (name_of s r)) opens w.0 w.1 (and_from _ _ w.2
          (all_in _ opens right.at w.0 w.1 (name_of s r) ∙ passes_of s (follows_by s kind (name_of s w.0)) opens r i
          (by_at s l kind (opens ++ base) g r (in_left opens base r i) v.0 (name_of s w.0) u.0 (one_same (last_of s r v.0) v.1 u.1 ∙ name_same v.1 (name_of s w.0) w.2) of)))
      by false e u = right.of v.0 (name_of s r) ∙ passes_of s (λ r. from_base s opens v.0 r && kind v.0 r) opens r i
          (and_from _ _ (and_from _ _ u.0 (not_from_false _ (ap (λ o. is_among s o opens) (one_same (last_of s r v.0) v.1 u.1) ∙ e))) of)

-- THE INDEX
module _ (s : Subject) (l : Laws s) where
  pub index_settled : (opens settled base : List (Entry s)) → Distinct s (opens ++ (settled ++ base)) → Chained s (opens ++ (settled ++ base)) → (old new : Index s) → Indexed s old (opens ++ settled) → Settles s old new opens settled → Indexed s new opens
  index_settled opens settled base d g old new h k = record {
    heirs = lists_handed s l (wrote s) opens settled base d g old.heirs h.heirs new.heirs k.heirs;
    readers = lists_handed s l (by_reading s) opens settled base d g old.readers h.readers new.readers k.readers;
  }

  -- an open entry lists just those that follow it
  pub lists_followers : (index : Index s) (opens base : List (Entry s)) → Distinct s (opens ++ base) → Chained s (opens ++ base) → Indexed s index opens
      → (w r : Entry s) → In w opens → In r (opens ++ base) → lists s index w r ≡ follows s (name_of s w) r
  lists_followers index opens base d g h w r i j = elim (in_parts opens base r j) [
    | inl k ↦ ap₂ (λ a b. a || b)
        (all_in _ opens h.heirs.at w i (name_of s r) ∙ passes_is s (follows_by s (wrote s) (name_of s w)) opens (distinct_left s opens base d) r k)
        (all_in _ opens h.readers.at w i (name_of s r) ∙ passes_is s (follows_by s (by_reading s) (name_of s w)) opens (distinct_left s opens base d) r k)
        ∙ heir_or_reader s (name_of s w) r
    | inr k ↦ ap₂ (λ a b. a || b)
        (all_in _ opens h.heirs.at w i (name_of s r) ∙ nobody (follows_by s (wrote s) (name_of s w)) k)
        (all_in _ opens h.readers.at w i (name_of s r) ∙ nobody (follows_by s (by_reading s) (name_of s w)) k)
        ∙ sym (parts_unfollowed s l opens base d g w r i k)
  ]
    where
      nobody : (test : Entry s → Bool) → In r base → passes s test (name_of s r) opens ≡ false
      nobody test k = false_from_ne_true _ (λ b. let a = of_passes s test (name_of s r) opens b in parts_apart s opens base d a.0 r a.1 k (sym a.2))

  pub versions_listed : (index : Index s) (opens base : List (Entry s)) → Chained s (opens ++ base) → Indexed s index opens → (v : Version s) (r : Entry s) → In r opens → found_as s v r ≡ true
      → (wrote s v.0 r ≡ true → listed_at s index.heirs opens v (name_of s r) ≡ true) × (wrote s v.0 r ≡ false → listed_at s index.readers opens v (name_of s r) ≡ true)
  versions_listed index opens base g h v r i found = (
    found_listed s l (wrote s) opens base g index.heirs h.heirs v r i found,
    λ out. found_listed s l (by_reading s) opens base g index.readers h.readers v r i found (not_from_false _ out),
  )

  -- a set of open entries is closed just where no member lists a live one outside it
  pub closed_unlisted : (index : Index s) (opens base : List (Entry s)) (c : Entry s → Bool) → Distinct s (opens ++ base) → AllByRecursion (λ a. caused s a a ≡ false) (opens ++ base)
      → Ordered s (opens ++ base) → Chained s (opens ++ base) → Sound s (live_set s) (opens ++ base) → Indexed s index opens → AllByRecursion (λ a. c a ≡ false) base
      → (Closed s (live_set s) c (opens ++ base) → AllByRecursion (λ a. c a ≡ true → AllByRecursion (λ r. r.live ≡ true → c r ≡ false → lists s index a r ≡ false) opens) opens)
      × (AllByRecursion (λ a. c a ≡ true → AllByRecursion (λ r. r.live ≡ true → c r ≡ false → lists s index a r ≡ false) opens) opens → Closed s (live_set s) c (opens ++ base))
  closed_unlisted index opens base c d own ord g sound right none = (
    λ closed. in_all _ opens (λ a i ca. in_all _ opens (λ r j live out. same a r i (in_left opens base r j)
        ∙ none_follow s (live_set s) c (opens ++ base) (unfollowed_of s l (live_set s) c (opens ++ base) own ord g closed) a r (in_left opens base a i) (in_left opens base r j) ca live out)),
    λ h. closed_of s l (live_set s) c (opens ++ base) own ord g sound (in_all _ (opens ++ base) (λ a i ca. in_all _ (opens ++ base) (λ r j live out.
        told h a r ca live out (in_parts opens base a i) (in_parts opens base r j)))),
  )
    where
      same : (a r : Entry s) → In a opens → In r (opens ++ base) → lists s index a r ≡ follows s (name_of s a) r
      same a r i j = lists_followers index opens base d g right a r i j

      told : AllByRecursion (λ a. c a ≡ true → AllByRecursion (λ r. r.live ≡ true → c r ≡ false → lists s index a r ≡ false) opens) opens
          → (a r : Entry s) → c a ≡ true → r.live ≡ true → c r ≡ false → In a opens ⊎ In a base → In r opens ⊎ In r base → follows s (name_of s a) r ≡ false
      told h a r ca live out (inl i) (inl j) = sym (same a r i (in_left opens base r j)) ∙ all_in _ opens (all_in _ opens h a i ca) r j live out
      told h a r ca live out (inl i) (inr j) = parts_unfollowed s l opens base d g a r i j
      told h a r ca live out (inr i) j = absurd (both_ways _ (all_in _ base none a i) ca)
