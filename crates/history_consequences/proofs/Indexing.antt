-- The index goes on listing just those that it is to list.
use Rattle.std.proofs.Common.{◌≡◌, ◌≢◌, ℕ, Bool, true, false, ◌&&◌, ◌||◌, ◌==◌, not, List, [], ◌∷◌, ◌++◌, map, Option, ◌⊎◌, inl, inr, refl, sym, ap, ap₂, ◌∙◌, eq-eqb, eqb-true}
use Rattle.std.specs.List.{list_any, AllByRecursion}
use Rattle.std.proofs.lemmas.Bool.{both_ways, and_from, and_parts, and_right, false_from_ne_true}
use Rattle.history.specs.Subject.{Subject, Laws, touches}
use Rattle.history.specs.Journal.{Entry, name_of, caused, mark, marked, Distinct}
use Rattle.history.specs.Chains.{wrote, last_writer, last_of, is_name, Traced, Chained}
use Rattle.history.proofs.Lists.{all_map, all_both, all_mapped, all_swap}
use Rattle.history_consequences.specs.Versions.{follows, follows_by, by_reading}
use Rattle.history_consequences.specs.Index.{Lists, Index, passes, is_among, from_base, AreRight, Indexed, Adds, Links}
use Rattle.history_consequences.proofs.Members.{In, all_in, any_in, in_any, none_in, any_each}
use Rattle.history_consequences.proofs.Writers.{not_last, last_is}
use Rattle.history_consequences.proofs.Closing.{one_named}
use Rattle.history_consequences.proofs.Crossing.{last_apart}

-- tests that imply each other are one
pub same_from : (x y : Bool) → (x ≡ true → y ≡ true) → (y ≡ true → x ≡ true) → x ≡ y
same_from true y f h = sym (f refl)
same_from false true f h = h refl
same_from false false f h = refl

any_map : {A B : Type 0} (f : A → B) (test : B → Bool) (xs : List A) → list_any test (map f xs) ≡ list_any (λ a. test (f a)) xs
any_map f test [] = refl
any_map f test (x ∷ xs) = ap (λ b. test (f x) || b) (any_map f test xs)

or_turned : (x y z : Bool) → (x || (y || z)) ≡ (y || (x || z))
or_turned true true z = refl
or_turned true false z = refl
or_turned false true z = refl
or_turned false false z = refl

any_turned : {A : Type 0} (p : A → Bool) (xs : List A) (a b : A) (ys : List A) → list_any p (xs ++ a ∷ b ∷ ys) ≡ list_any p (xs ++ b ∷ a ∷ ys)
any_turned p [] a b ys = or_turned (p a) (p b) (list_any p ys)
any_turned p (x ∷ xs) a b ys = ap (λ q. p x || q) (any_turned p xs a b ys)

pub in_left : {A : Type 0} (xs ys : List A) (a : A) → In a xs → In a (xs ++ ys)
in_left [] ys a i = absurd i
in_left (x ∷ xs) ys a (inl e) = inl e
in_left (x ∷ xs) ys a (inr i) = inr (in_left xs ys a i)

pub in_right : {A : Type 0} (xs ys : List A) (a : A) → In a ys → In a (xs ++ ys)
in_right [] ys a i = i
in_right (x ∷ xs) ys a i = inr (in_right xs ys a i)

pub in_parts : {A : Type 0} (xs ys : List A) (a : A) → In a (xs ++ ys) → In a xs ⊎ In a ys
in_parts [] ys a i = inr i
in_parts (x ∷ xs) ys a (inl e) = inl (inl e)
in_parts (x ∷ xs) ys a (inr i) = elim (in_parts xs ys a i) [ inl j ↦ inl (inr j) | inr j ↦ inr j ]

-- a test of one part of a whole
parts_follow : (x w : Bool) → ((x && w) || (x && not w)) ≡ x
parts_follow true true = refl
parts_follow true false = refl
parts_follow false w = refl

or_pairs : (a b c d : Bool) → ((a || b) || (c || d)) ≡ ((a || c) || (b || d))
or_pairs true b c d = refl
or_pairs false true true d = refl
or_pairs false true false d = refl
or_pairs false false true d = refl
or_pairs false false false d = refl

module _ (s : Subject) where
  -- the entry of a name passes a test, told by the entry
  pub passes_of : (test : Entry s → Bool) (es : List (Entry s)) (r : Entry s) → In r es → test r ≡ true → passes s test (name_of s r) es ≡ true
  passes_of test es r i h = any_in (λ a. (name_of s a == name_of s r) && test a) es r i (and_from _ _ (eq-eqb (name_of s r) (name_of s r) refl) h)

  pub of_passes : (test : Entry s → Bool) (n : ℕ) (es : List (Entry s)) → passes s test n es ≡ true → (r : Entry s) × In r es × (name_of s r ≡ n) × (test r ≡ true)
  of_passes test n es h =
      let r = in_any (λ a. (name_of s a == n) && test a) es h in
      let q = and_parts (name_of s r.0 == n) (test r.0) r.2 in
      (r.0, r.1, eqb-true (name_of s r.0) n q.0, q.1)

  pub passes_is : (test : Entry s → Bool) (es : List (Entry s)) → Distinct s es → (r : Entry s) → In r es → passes s test (name_of s r) es ≡ test r
  passes_is test es d r i = same_from _ _
      (λ h. let q = of_passes test (name_of s r) es h in ap test (sym (one_named s es d q.0 r q.1 i q.2)) ∙ q.3)
      (λ h. passes_of test es r i h)

  -- who follows is an heir or a reader
  pub heir_or_reader : (n : ℕ) (r : Entry s) → (follows_by s (wrote s) n r || follows_by s (by_reading s) n r) ≡ follows s n r
  heir_or_reader n r = each r.lasts
    where
      each : (ps : List (s.Key × Option ℕ)) → (list_any (λ p. is_name p.1 n && wrote s p.0 r) ps || list_any (λ p. is_name p.1 n && not (wrote s p.0 r)) ps) ≡ list_any (λ p. is_name p.1 n) ps
      each [] = refl
      each (p ∷ ps) = or_pairs _ (list_any (λ q. is_name q.1 n && wrote s q.0 r) ps) _ _ ∙ ap₂ (λ a b. a || b) (parts_follow (is_name p.1 n) (wrote s p.0 r)) (each ps)

  -- who follows by a cell of some kind follows
  pub by_follows : (kind : s.Key → Entry s → Bool) (n : ℕ) (r : Entry s) → follows s n r ≡ false → follows_by s kind n r ≡ false
  by_follows kind n r h = false_from_ne_true _ (λ q.
      let p = in_any (λ p. is_name p.1 n && kind p.0 r) r.lasts q in
      both_ways _ h (any_in (λ p. is_name p.1 n) r.lasts p.0 p.1 (and_parts (is_name (p.0).1 n) (kind (p.0).0 r) p.2).0))

module _ (s : Subject) (l : Laws s) where
  pub not_following_head : (n : ℕ) (e : Entry s) (es : List (Entry s)) → AllByRecursion (λ a. name_of s a ≢ n) es → Traced s e es → follows s n e ≡ false
  not_following_head n e es h g = none_in (λ p. is_name p.1 n) e.lasts (λ p i. ap (λ o. is_name o n) (all_in _ e.lasts g.lasts p i) ∙ not_last s p.0 (caused s e) n es h)

  -- nobody follows what is newer
  pub not_following : (n : ℕ) (es : List (Entry s)) → AllByRecursion (λ a. name_of s a ≢ n) es → Chained s es → (r : Entry s) → In r es → follows s n r ≡ false
  not_following n [] h g r i = absurd i
  not_following n (x ∷ es) (h, hs) (g, gs) r (inl e) = ap (follows s n) (sym e) ∙ not_following_head n x es hs g
  not_following n (x ∷ es) (h, hs) (g, gs) r (inr i) = not_following n es hs gs r i

  -- what an entry has of a touched cell is the last writer among its causes
  last_seen : (e : Entry s) (es : List (Entry s)) → Traced s e es → (k : s.Key) → touches s e.foot k ≡ true → last_of s e k ≡ last_writer s k (caused s e) es
  last_seen e es g k touched = last_is s l (λ c. last_writer s c (caused s e) es) e g.cells g.lasts k touched

-- the lists of heirs, or those of readers
module _ (s : Subject) (l : Laws s) (kind : s.Key → Entry s → Bool) where
  lists_begun : (lists : Lists s) → ((k : s.Key) (n : ℕ) → lists.of k n ≡ false) → AreRight s kind lists []
  lists_begun lists h = record { at = tt; of = h }

  -- an entry is put in front
  module _ (e : Entry s) (opens base : List (Entry s)) (d : Distinct s (e ∷ (opens ++ base))) (g : Chained s (e ∷ (opens ++ base))) where
    own_follower : (r : Entry s) → In r (e ∷ opens) → follows s (name_of s e) r ≡ false
    own_follower r (inl q) = ap (follows s (name_of s e)) (sym q) ∙ not_following_head s l (name_of s e) e (opens ++ base) d.0 g.0
    own_follower r (inr i) = not_following s l (name_of s e) (opens ++ base) d.0 g.1 r (in_left opens base r i)

    own_last : (k : s.Key) (r : Entry s) → In r (e ∷ opens) → touches s r.foot k ≡ true → is_name (last_of s r k) (name_of s e) ≡ false
    own_last k r (inl q) touched = ap (λ y. is_name (last_of s y k) (name_of s e)) (sym q)
        ∙ ap (λ o. is_name o (name_of s e)) (last_seen s l e (opens ++ base) g.0 k (ap (λ y. touches s y.foot k) q ∙ touched)) ∙ not_last s k (caused s e) (name_of s e) (opens ++ base) d.0
    own_last k r (inr i) touched = last_apart s l k (name_of s e) (opens ++ base) g.1 d.0 r (in_left opens base r i) touched

    same_base : (k : s.Key) (r : Entry s) → In r (e ∷ opens) → from_base s (e ∷ opens) k r ≡ from_base s opens k r
    same_base k r i = at (touches s r.foot k) refl
      where
        at : (b : Bool) → touches s r.foot k ≡ b → (b && not (is_name (last_of s r k) (name_of s e) || is_among s (last_of s r k) opens)) ≡ (b && not (is_among s (last_of s r k) opens))
        at true q = ap (λ x. not (x || is_among s (last_of s r k) opens)) (own_last k r i q)
        at false q = refl

    lists_added : (old new : Lists s) → AreRight s kind old opens → Adds s kind old new e opens → AreRight s kind new (e ∷ opens)
    lists_added old new h k = record {
      at = (
        λ n. k.none n ∙ sym (none_in (λ r. (name_of s r == n) && follows_by s kind (name_of s e) r) (e ∷ opens) (λ r i. and_right (name_of s r == n) _ (by_follows s kind (name_of s e) r (own_follower r i)))),
        all_both _ _ _ opens (λ w p q n. q n ∙ ap (λ b. ((name_of s e == n) && follows_by s kind (name_of s w) e) || b) (p n)) h.at k.at,
      );
      of = λ c n. k.of c n ∙ ap (λ b. ((name_of s e == n) && (from_base s opens c e && kind c e)) || b) (h.of c n)
          ∙ sym (any_each (λ r. (name_of s r == n) && (from_base s (e ∷ opens) c r && kind c r)) (λ r. (name_of s r == n) && (from_base s opens c r && kind c r)) (e ∷ opens)
          (λ r i. ap (λ b. (name_of s r == n) && (b && kind c r)) (same_base c r i)));
    }

  -- entries are marked, which the kind does not look at
  lists_marked : (t : Entry s → Bool) → ((k : s.Key) (r : Entry s) → kind k (mark s t r) ≡ kind k r) → (lists : Lists s) (opens : List (Entry s)) → AreRight s kind lists opens → AreRight s kind lists (marked s t opens)
  lists_marked t same lists opens h = record {
    at = all_mapped (mark s t) _ opens (all_map _ _ opens (λ w q n. q n ∙ sym (any_map (mark s t) (λ r. (name_of s r == n) && follows_by s kind (name_of s w) r) opens
        ∙ any_each (λ r. (name_of s r == n) && follows_by s kind (name_of s w) (mark s t r)) (λ r. (name_of s r == n) && follows_by s kind (name_of s w) r) opens
        (λ r i. ap (λ b. (name_of s r == n) && b) (any_each (λ p. is_name p.1 (name_of s w) && kind p.0 (mark s t r)) (λ p. is_name p.1 (name_of s w) && kind p.0 r) r.lasts (λ p j. ap (λ b. is_name p.1 (name_of s w) && b) (same p.0 r)))))) h.at);
    of = λ k n. h.of k n ∙ sym (any_map (mark s t) (λ r. (name_of s r == n) && (from_base s (marked s t opens) k r && kind k r)) opens
        ∙ any_each (λ r. (name_of s r == n) && (from_base s (marked s t opens) k (mark s t r) && kind k (mark s t r))) (λ r. (name_of s r == n) && (from_base s opens k r && kind k r)) opens
        (λ r i. ap₂ (λ b c. (name_of s r == n) && ((touches s r.foot k && not b) && c)) (any_map (mark s t) (λ b. is_name (last_of s r k) (name_of s b)) opens) (same k r)));
  }

  -- neighbours change places
  lists_exchanged : (lists : Lists s) (xs ys : List (Entry s)) (a b : Entry s) → AreRight s kind lists (xs ++ a ∷ b ∷ ys) → AreRight s kind lists (xs ++ b ∷ a ∷ ys)
  lists_exchanged lists xs ys a b h = record {
    at = all_swap _ xs a b ys (all_map _ _ (xs ++ a ∷ b ∷ ys) (λ w q n. q n ∙ any_turned (λ r. (name_of s r == n) && follows_by s kind (name_of s w) r) xs a b ys) h.at);
    of = λ k n. h.of k n ∙ any_turned (λ r. (name_of s r == n) && (from_base s (xs ++ a ∷ b ∷ ys) k r && kind k r)) xs a b ys
        ∙ any_each _ _ (xs ++ b ∷ a ∷ ys) (λ r i. ap (λ b. (name_of s r == n) && ((touches s r.foot k && not b) && kind k r)) (any_turned (λ c. is_name (last_of s r k) (name_of s c)) xs a b ys));
  }

-- THE INDEX
module _ (s : Subject) (l : Laws s) where
  pub index_begun : (index : Index s) → ((k : s.Key) (n : ℕ) → (index.heirs.of k n ≡ false) × (index.readers.of k n ≡ false)) → Indexed s index []
  index_begun index h = record { heirs = lists_begun s l (wrote s) index.heirs (λ k n. (h k n).0); readers = lists_begun s l (by_reading s) index.readers (λ k n. (h k n).1) }

  pub index_entered : (e : Entry s) (opens base : List (Entry s)) → Distinct s (e ∷ (opens ++ base)) → Chained s (e ∷ (opens ++ base)) → (old new : Index s) → Indexed s old opens → Links s old new e opens → Indexed s new (e ∷ opens)
  index_entered e opens base d g old new h k = record {
    heirs = lists_added s l (wrote s) e opens base d g old.heirs new.heirs h.heirs k.heirs;
    readers = lists_added s l (by_reading s) e opens base d g old.readers new.readers h.readers k.readers;
  }

  pub index_marked : (t : Entry s → Bool) (index : Index s) (opens : List (Entry s)) → Indexed s index opens → Indexed s index (marked s t opens)
  index_marked t index opens h = record {
    heirs = lists_marked s l (wrote s) t (λ k r. refl) index.heirs opens h.heirs;
    readers = lists_marked s l (by_reading s) t (λ k r. refl) index.readers opens h.readers;
  }

  pub index_exchanged : (index : Index s) (xs ys : List (Entry s)) (a b : Entry s) → Indexed s index (xs ++ a ∷ b ∷ ys) → Indexed s index (xs ++ b ∷ a ∷ ys)
  index_exchanged index xs ys a b h = record {
    heirs = lists_exchanged s l (wrote s) index.heirs xs ys a b h.heirs;
    readers = lists_exchanged s l (by_reading s) index.readers xs ys a b h.readers;
  }
