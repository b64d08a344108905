-- A cone is gathered from an event by those that follow each of its members.
use Rattle.std.proofs.Common.{Less, ◌≡◌, ◌≢◌, ◌∙◌, ℕ, zero, suc, ◌+◌, ◌-◌, ◌<◌, ◌≤◌, ◌==◌, Bool, true, false, cond, ◌&&◌, ◌||◌, List, [], ◌∷◌, ◌++◌, Option, Some, None, length, map, drop, slice_get, inl, inr, refl, sym, ap, ap₂, subst, arith, eqb-true, eq-eqb, ne_eqb, true≢false, nat_lt, ltb-true, lt-ltb}
use Rattle.std.specs.List.{list_any, All, AllByRecursion}
use Rattle.std.specs.Bool.{then_some}
use Rattle.std.specs.Ordering.{nat_cmp}
use Rattle.std.proofs.lemmas.List.Elements.{recursion_from_All}
use Rattle.std.specs.Option.{option_map, option_map_or}
use Rattle.std.proofs.Math.Bool.{Bool-set}
use Rattle.std.proofs.Math.Logic.{∥∥₁_elim}
use Rattle.std.proofs.lemmas.Bool.{or_left, or_right, or_cases, and_parts, ltb-false}
use Rattle.std.proofs.lemmas.List.{length-map, map-append, drop_all}
use Rattle.std.proofs.lemmas.List.Folds.{list_any-append}
use Rattle.std.proofs.lemmas.Option.{slice_get-map, slice_get_within}
use Rattle.history.specs.Chains.{is_name, last_writer, wrote, Chained}
use Rattle.history.specs.Journal.{Entry, name_of, is_in, caused, Distinct}
use Rattle.history.proofs.Lists.{all_map, any_gives, any_none, any_same, all_of}
use Rattle.ids.specs.declared.names.EventName.{EventName}
use Rattle.ids.specs.declared.cells.CellKey.{CellKey}
use Rattle.journal_links.specs.Places.{place_of, ArePlaces}
use Rattle.journal_links.specs.Followers.{followers_of, may_follow}
use Rattle.journal_links.specs.declared.places.Places.{Places}
use Rattle.journal_links.specs.declared.followers.Followers.{Followers}
use Rattle.journal.specs.Items.{Item, item_of}
use Rattle.journal.specs.Journals.{settled_item}
use Rattle.journal.specs.SettledView.{items_in}
use Rattle.journal.specs.Lines.{plain, Line, line_of, lines_of, entries_in}
use Rattle.journal.specs.Links.{lister, IsListed, AreFollowers, names_of, open_at}
use Rattle.journal.specs.declared.entry.Entry as code
use Rattle.journal.specs.declared.settled.Settled.{Settled}
use Rattle.journal.proofs.Touching.{any-map}
use Rattle.causality.specs.Causes.{has_place}
use Rattle.causality.specs.Journals.{IsJournal}
use Rattle.causality.specs.Names.{is_writer_in, wrote_last}
use Rattle.causality.specs.Placed.{follows, is_follower, kept_if, place_if}
use Rattle.causality.specs.Selections.{numbers}
use Rattle.causality.specs.Walks.{is_of, joins, joined_with, gathered}
use Rattle.causality.proofs.Ascending.{less}
use Rattle.causality.proofs.Behind.{gathered_past}
use Rattle.causality.proofs.Collecting.{some_there, before_there, behind_there}
use Rattle.causality.proofs.Following.{number, Apart, all_place}
use Rattle.causality.proofs.Numbered.{flipped}
use Rattle.causality.proofs.NameSets.{in_names}
use Rattle.causality.proofs.Pairs.{Pairs, pairs_from_end, all_from_end, pairs_unmapped, all_unmapped}
use Rattle.causality.proofs.Placed.{bool_same, one_name, self_name, any_found, any_in, is_named, named_is, kept_right, kept_some, place_there, within_by_place, apart_items}
use Rattle.causality.proofs.Writers.{any_or}
use Rattle.causality.proofs.Telling.{Tells, journal_tells}

pub false_by : (b : Bool) → (b ≡ true → ⊥) → b ≡ false
false_by true h = absurd (h refl)
false_by false h = refl

-- ---- who follows an event stands behind it

-- the entry has this as a last writer
abbrev comes_after : ℕ → Entry plain → Bool
comes_after n e = list_any (λ p. is_name p.1 n) e.lasts

no_last : (k : CellKey) (t : Entry plain → Bool) (es : List (Entry plain)) (n : ℕ) → AllByRecursion (λ a. name_of plain a ≢ n) es → is_name (last_writer plain k t es) n ≡ false
no_last k t [] n h = refl
no_last k t (e ∷ es) n (ne, nes) = by (t e && wrote plain k e) (no_last k t es n nes)
  where
    by : (b : Bool) → is_name (last_writer plain k t es) n ≡ false → is_name (cond b (Some (name_of plain e)) (last_writer plain k t es)) n ≡ false
    by true h = ne_eqb (name_of plain e) n ne
    by false h = h

none_after : (n : ℕ) (e : Entry plain) (es : List (Entry plain)) → AllByRecursion (λ a. name_of plain a ≢ n) es → AllByRecursion (λ p. p.1 ≡ last_writer plain p.0 (caused plain e) es) e.lasts → comes_after n e ≡ false
none_after n e es h lasts = any_none _ e.lasts (all_map _ _ e.lasts (λ p is. ap (λ o. is_name o n) is ∙ no_last p.0 (caused plain e) es n h) lasts)

none_come : (n : ℕ) (es : List (Entry plain)) → AllByRecursion (λ a. name_of plain a ≢ n) es → Chained plain es → AllByRecursion (λ a. comes_after n a ≡ false) es
none_come n [] h c = tt
none_come n (e ∷ es) (ne, nes) (traced, c) = (none_after n e es nes traced.lasts, none_come n es nes c)

older_pairs : (es : List (Entry plain)) → Distinct plain es → Chained plain es → Pairs (λ e a. comes_after (name_of plain e) a ≡ false) es
older_pairs [] d c = tt
older_pairs (e ∷ es) (ne, d) (traced, c) = (none_come (name_of plain e) es ne c, older_pairs es d c)

none_itself : (es : List (Entry plain)) → Distinct plain es → Chained plain es → AllByRecursion (λ e. comes_after (name_of plain e) e ≡ false) es
none_itself [] d c = tt
none_itself (e ∷ es) (ne, d) (traced, c) = (none_after (name_of plain e) e es ne traced.lasts, none_itself es d c)

pair_there : {A : Type 0} (R : A → A → Type 0) (xs : List A) → Pairs R xs → (p q : ℕ) (a b : A) → slice_get xs p ≡ Some a → slice_get xs q ≡ Some b → p < q → R a b
pair_there R [] h p q a b at there lt = cc
pair_there R (x ∷ xs) (h, hs) zero zero a b at there lt = absurd (omega arith)
pair_there R (x ∷ xs) (h, hs) zero (suc q) a b at there lt = let is : x ≡ a = cc in subst (λ y. R y b) is (all_place (R x) xs h q b there)
pair_there R (x ∷ xs) (h, hs) (suc p) zero a b at there lt = absurd (omega arith)
pair_there R (x ∷ xs) (h, hs) (suc p) (suc q) a b at there lt = pair_there R xs hs p q a b at there (omega arith)

-- THE LEMMA
pub follower_behind : (items : List Item) → Tells (lines_of items) → (p q : ℕ) (i j : Item) → slice_get items p ≡ Some i → slice_get items q ≡ Some j → follows (number i) j ≡ true → p < q
follower_behind items h p q i j at there after = by (nat_lt p q) refl
  where
    pairs : Pairs (λ a b. follows (number b) a ≡ false) items
    pairs = pairs_unmapped (line_of items) (λ l m. comes_after (name_of plain m.entry) l.entry ≡ false) items
        (pairs_from_end (λ (l : Line). l.entry) (λ e a. comes_after (name_of plain e) a ≡ false) (lines_of items) (older_pairs (entries_in (lines_of items)) h.lines_are.distinct h.chained))

    selves : AllByRecursion (λ a. follows (number a) a ≡ false) items
    selves = all_unmapped (line_of items) (λ l. comes_after (name_of plain l.entry) l.entry ≡ false) items
        (all_from_end (λ (l : Line). l.entry) (λ e. comes_after (name_of plain e) e ≡ false) (lines_of items) (none_itself (entries_in (lines_of items)) h.lines_are.distinct h.chained))

    same : p ≡ q → ⊥
    same is =
        let both : Some i ≡ Some j = sym at ∙ ap (slice_get items) is ∙ there in
        let one : i ≡ j = cc in
        true≢false (sym after ∙ ap (follows (number i)) (sym one) ∙ all_place _ items selves p i at)

    before : q < p → ⊥
    before lt = true≢false (sym after ∙ pair_there _ items pairs q p j i there at lt)

    not_before : (c : Bool) → nat_lt q p ≡ c → q ≤ p → ⊥
    not_before true lt le = before (ltb-true q p lt)
    not_before false ge le = let over : p ≤ q = ltb-false q p ge in same (omega (arith, le, over))

    by : (b : Bool) → nat_lt p q ≡ b → p < q
    by true e = ltb-true p q e
    by false e = absurd (not_before (nat_lt q p) refl (ltb-false p q e))

-- ---- what is open

open_before : (opens : List Item) (settled q : ℕ) → q < settled → open_at opens settled (Some q) ≡ None
open_before opens settled q lt = ap (λ b. cond b None (slice_get opens (q - settled))) (lt-ltb q settled lt)

pub open_behind : (ss : List Settled) (xs : List code.Entry) (q : ℕ) → length ss ≤ q → open_at (map item_of xs) (length ss) (Some q) ≡ slice_get (items_in ss xs) q
open_behind ss xs q le =
    let many = length-map ss settled_item in
    let r = q - length ss in
    let back : length (map settled_item ss) + r ≡ q = omega (arith, le, many) in
    let behind : nat_lt q (length ss) ≡ false = false_by _ (λ e. (let lt = ltb-true q (length ss) e in omega (arith, lt, le))) in
    ap (λ b. cond b None (slice_get (map item_of xs) r)) behind ∙ sym (behind_there (map settled_item ss) (map item_of xs) r) ∙ ap (slice_get (items_in ss xs)) back

module _ (ss : List Settled) (xs : List code.Entry) (n : ℕ) where
  abbrev is_it : ℕ → Bool
  is_it = is_follower n (map item_of xs) (length ss)

  abbrev joined_by : Item → Bool
  joined_by i = i.live && follows n i

  follower_is : (q : ℕ) (i : Item) → length ss ≤ q → slice_get (items_in ss xs) q ≡ Some i → is_it q ≡ joined_by i
  follower_is q i le at = ap (λ o. option_map_or joined_by o false) (open_behind ss xs q le ∙ at)

  -- what stands where a follower does
  follower_there : (q : ℕ) → is_it q ≡ true → (length ss ≤ q) × ((i : Item) × ((slice_get (items_in ss xs) q ≡ Some i) × (joined_by i ≡ true)))
  follower_there q h = by (nat_lt q (length ss)) refl
    where
      some : (o : Option Item) → slice_get (items_in ss xs) q ≡ o → option_map_or joined_by o false ≡ true → (i : Item) × ((slice_get (items_in ss xs) q ≡ Some i) × (joined_by i ≡ true))
      some None at g = absurd (true≢false (sym g))
      some (Some i) at g = (i, (at, g))

      by : (b : Bool) → nat_lt q (length ss) ≡ b → (length ss ≤ q) × ((i : Item) × ((slice_get (items_in ss xs) q ≡ Some i) × (joined_by i ≡ true)))
      by true e = absurd (true≢false (sym h ∙ ap (λ o. option_map_or joined_by o false) (open_before (map item_of xs) (length ss) q (ltb-true q (length ss) e))))
      by false e =
          let le : length ss ≤ q = ltb-false q (length ss) e in
          (le, some (slice_get (items_in ss xs) q) refl (sym (ap (λ o. option_map_or joined_by o false) (open_behind ss xs q le)) ∙ h))

-- what is asked of where an event stands is asked of what stands there
pub follower_kept : (places : Places) (opens : List Item) (settled n : ℕ) (e : EventName) (p : ℕ) (o : Option Item) → place_of places e ≡ Some p → o ≡ open_at opens settled (place_of places e)
    → then_some (option_map_or (λ i. i.live && follows n i) o false) p ≡ place_if places (is_follower n opens settled) e
follower_kept places opens settled n e p o there is =
    ap (λ r. then_some (option_map_or (λ i. i.live && follows n i) r false) p) (is ∙ ap (open_at opens settled) there)
    ∙ some_if (is_follower n opens settled p)
    ∙ sym (ap (kept_if (is_follower n opens settled)) there)
  where
    some_if : (b : Bool) → then_some b p ≡ cond b (Some p) None
    some_if true = refl
    some_if false = refl

-- ---- the lists have all followers

module _ (places : Places) (ss : List Settled) (xs : List code.Entry) (w : EventName) (are : ArePlaces places (names_of (items_in ss xs))) (apart : Apart (map number (items_in ss xs))) where
  abbrev follower : ℕ → Bool
  follower = is_follower w.0 (map item_of xs) (length ss)

  -- where all followers are among some names, their places are those of the names
  named_followers : (names : List EventName) → ((r : ℕ) (i : Item) → slice_get (map item_of xs) r ≡ Some i → follows w.0 i ≡ true → in_names names i.event.name ≡ true)
      → (q : ℕ) → list_any (λ e. is_name (place_if places follower e) q) names ≡ follower q
  named_followers names all q = bool_same _ _ forth back
    where
      forth : list_any (λ e. is_name (place_if places follower e) q) names ≡ true → follower q ≡ true
      forth some = let it = any_found (λ e. is_name (place_if places follower e) q) names some in (kept_right follower (place_of places it.0) q (named_is _ q it.1.1)).1

      back : follower q ≡ true → list_any (λ e. is_name (place_if places follower e) q) names ≡ true
      back is =
          let it = follower_there ss xs w.0 q is in
          let i = it.1.0 in
          let both = and_parts i.live (follows w.0 i) it.1.1.1 in
          let many = length-map ss settled_item in
          let le = it.0 in
          let there : length (map settled_item ss) + (q - length ss) ≡ q = omega (arith, le, many) in
          let at : slice_get (map item_of xs) (q - length ss) ≡ Some i = sym (behind_there (map settled_item ss) (map item_of xs) (q - length ss)) ∙ ap (slice_get (items_in ss xs)) there ∙ it.1.1.0 in
          any_in (λ e. is_name (place_if places follower e) q) names i.event.name (all (q - length ss) i at both.1)
          (is_named _ q (kept_some follower (place_of places i.event.name) q (place_there places (items_in ss xs) are apart q i it.1.1.0) is))

pub listed_followers : (places : Places) (followers : Followers) (ss : List Settled) (xs : List code.Entry) (w : EventName) (names : List EventName) → ∥ ArePlaces places (names_of (items_in ss xs)) ∥₁ → ∥ AreFollowers followers (map item_of xs) ∥₁
    → IsJournal (items_in ss xs) → followers_of followers w ≡ Some names → (q : ℕ) → list_any (λ e. is_name (place_if places (is_follower w.0 (map item_of xs) (length ss)) e) q) names ≡ is_follower w.0 (map item_of xs) (length ss) q
listed_followers places followers ss xs w names placed followed journal list q =
    ∥∥₁_elim placed (Bool-set _ _) (λ are. ∥∥₁_elim followed (Bool-set _ _) (λ follow. ∥∥₁_elim (apart_items (items_in ss xs) journal) (Bool-set _ _) (λ apart.
    named_followers places ss xs w are apart names (listed follow) q)))
  where
    listed : AreFollowers followers (map item_of xs) → (r : ℕ) (i : Item) → slice_get (map item_of xs) r ≡ Some i → follows w.0 i ≡ true → in_names names i.event.name ≡ true
    listed follow r i at after =
        sym (ap (λ o. option_map_or (λ es. list_any (λ (f : EventName). f.0 == i.event.name.0) es) o true) list)
        ∙ any_gives (may_follow followers w i.event.name ≡ true) (λ (p : CellKey × Option ℕ). is_name p.1 w.0) i.lasts after
        (all_map _ _ i.lasts (λ p h is. ap (λ o. may_follow followers (lister p.0 o) i.event.name) (sym (named_is p.1 w.0 is)) ∙ h) (all_place (λ (j : Item). IsListed (may_follow followers) j.event.name j.lasts) (map item_of xs) follow r i at))

pub any_followers : (places : Places) (ss : List Settled) (xs : List code.Entry) (w : EventName) → ∥ ArePlaces places (names_of (items_in ss xs)) ∥₁ → IsJournal (items_in ss xs)
    → (q : ℕ) → list_any (λ x. is_name (place_if places (is_follower w.0 (map item_of xs) (length ss)) x.event.name) q) xs ≡ is_follower w.0 (map item_of xs) (length ss) q
any_followers places ss xs w placed journal q =
    ∥∥₁_elim placed (Bool-set _ _) (λ are. ∥∥₁_elim (apart_items (items_in ss xs) journal) (Bool-set _ _) (λ apart.
    sym (any-map (λ (x : code.Entry). x.event.name) (λ e. is_name (place_if places (is_follower w.0 (map item_of xs) (length ss)) e) q) xs)
    ∙ named_followers places ss xs w are apart (map (λ (x : code.Entry). x.event.name) xs) (λ r i at after. at_in xs r i at) q))
  where
    at_in : (ys : List code.Entry) (r : ℕ) (i : Item) → slice_get (map item_of ys) r ≡ Some i → in_names (map (λ (x : code.Entry). x.event.name) ys) i.event.name ≡ true
    at_in [] r i at = cc
    at_in (y ∷ ys) zero i at = or_left _ _ (let is : item_of y ≡ i = cc in eq-eqb y.event.name.0 i.event.name.0 (ap number is))
    at_in (y ∷ ys) (suc r) i at = or_right (y.event.name.0 == i.event.name.0) _ (at_in ys r i at)

-- ---- gathering

-- those that have joined so far, and the places of those that wait: from some place on, what waits is what joins
pub record Gathering (items : List Item) (settled : ℕ) (root : EventName) (names : List EventName) (waiting : List ℕ) : Type 0 where
  pub from : ℕ
  pub behind : settled ≤ from
  pub within : (q : ℕ) → has_place waiting q ≡ true → (from ≤ q) × (q < length items)
  pub joining : (q : ℕ) (i : Item) → from ≤ q → slice_get items q ≡ Some i → has_place waiting q ≡ joins root (numbers names) i
  pub rest : gathered root names (drop from items) ≡ gathered root [] items

-- where nobody joins nothing is gathered
skipped : (root : EventName) (names : List EventName) (a b : ℕ) (xs : List Item) → a ≤ b → ((q : ℕ) (i : Item) → slice_get xs q ≡ Some i → a ≤ q → q < b → joins root (numbers names) i ≡ false)
    → gathered root names (drop a xs) ≡ gathered root names (drop b xs)
skipped root names zero zero xs le h = refl
skipped root names zero (suc b) [] le h = refl
skipped root names zero (suc b) (x ∷ xs) le h =
    ap (λ c. gathered root (joined_with c names x) xs) (h 0 x refl (omega arith) (omega arith))
    ∙ skipped root names zero b xs (omega arith) (λ q i at ge lt. h (suc q) i at (omega arith) (omega (arith, lt)))
skipped root names (suc a) zero xs le h = absurd (omega arith)
skipped root names (suc a) (suc b) [] le h = refl
skipped root names (suc a) (suc b) (x ∷ xs) le h = skipped root names a b xs (omega (arith, le)) (λ q i at ge lt. h (suc q) i at (omega (arith, ge)) (omega (arith, lt)))

taken_at : (root : EventName) (names : List EventName) (p : ℕ) (xs : List Item) (i : Item) → slice_get xs p ≡ Some i → joins root (numbers names) i ≡ true
    → gathered root names (drop p xs) ≡ gathered root (names ++ i.event.name ∷ []) (drop (p + 1) xs)
taken_at root names p [] i at h = cc
taken_at root names zero (x ∷ xs) i at h =
    let is : x ≡ i = cc in
    ap (λ c. gathered root (joined_with c names x) xs) (ap (joins root (numbers names)) is ∙ h)
    ∙ ap (λ (y : Item). gathered root (names ++ y.event.name ∷ []) xs) is
taken_at root names (suc p) (x ∷ xs) i at h =
    let e : suc p + 1 ≡ suc (p + 1) = omega arith in
    taken_at root names p xs i at h ∙ ap (λ k. gathered root (names ++ i.event.name ∷ []) (drop k (x ∷ xs))) (sym e)

pub or_nothing : (b : Bool) → (b || false) ≡ b
or_nothing true = refl
or_nothing false = refl

-- one more of the names that wrote last what an item touched
pub wrote_more : (names : List EventName) (e : EventName) (i : Item) → wrote_last (numbers (names ++ e ∷ [])) i ≡ (wrote_last (numbers names) i || follows e.0 i)
wrote_more names e i = any_same _ _ i.lasts (all_of _ i.lasts (λ p. one p.1)) ∙ any_or (λ (p : CellKey × Option ℕ). is_writer_in (numbers names) p.1) (λ p. is_name p.1 e.0) i.lasts
  where
    one : (o : Option ℕ) → is_writer_in (numbers (names ++ e ∷ [])) o ≡ (is_writer_in (numbers names) o || is_name o e.0)
    one None = refl
    one (Some n) =
        ap (λ ns. is_in ns n) (map-append (λ (x : EventName). x.0) names (e ∷ [])) ∙ list_any-append (λ m. m == n) (numbers names) (e.0 ∷ [])
        ∙ ap (λ b. is_in (numbers names) n || b) (or_nothing (e.0 == n) ∙ flipped e.0 n)

-- one more has joined
joins_more : (root : EventName) (names : List EventName) (e : EventName) (i : Item) → joins root (numbers (names ++ e ∷ [])) i ≡ (joins root (numbers names) i || (i.live && follows e.0 i))
joins_more root names e i = ap (λ b. (i.event.name.0 == root.0) || (i.live && b)) (wrote_more names e i) ∙ parts (i.event.name.0 == root.0) i.live (wrote_last (numbers names) i) (follows e.0 i)
  where
    parts : (r l w f : Bool) → (r || (l && (w || f))) ≡ ((r || (l && w)) || (l && f))
    parts true l w f = refl
    parts false true w f = refl
    parts false false w f = refl

name_there : (items : List Item) (p : ℕ) (i : Item) (name : EventName) → slice_get items p ≡ Some i → slice_get (names_of items) p ≡ Some name → i.event.name ≡ name
name_there items p i name at named =
    let both : Some i.event.name ≡ Some name = sym (slice_get-map (λ (j : Item). j.event.name) items p ∙ ap (option_map (λ (j : Item). j.event.name)) at) ∙ named in cc

-- THE STEP: the first of those that wait joins, and those that follow it wait
module _ (ss : List Settled) (xs : List code.Entry) (root : EventName) (h : Tells (lines_of (items_in ss xs))) (names : List EventName) (rest new : List ℕ) (p : ℕ) (i : Item)
    (g : Gathering (items_in ss xs) (length ss) root names (p ∷ rest)) (at : slice_get (items_in ss xs) p ≡ Some i) (above : (q : ℕ) → has_place rest q ≡ true → p < q)
    (added : (q : ℕ) → has_place new q ≡ (has_place rest q || is_follower (number i) (map item_of xs) (length ss) q)) where
  abbrev all : List Item
  all = items_in ss xs

  first_waits : has_place (p ∷ rest) p ≡ true
  first_waits = or_left _ _ (eq-eqb p p refl)

  first_behind : g.from ≤ p
  first_behind = (g.within p first_waits).0

  nobody : (q : ℕ) (j : Item) → slice_get all q ≡ Some j → g.from ≤ q → q < p → joins root (numbers names) j ≡ false
  nobody q j there ge lt = sym (g.joining q j ge there) ∙ false_by _ (λ has. elim (or_cases (p == q) (has_place rest q) has) [
    | inl here ↦ (let e = eqb-true p q here in omega (arith, e, lt))
    | inr waits ↦ (let gt = above q waits in omega (arith, gt, lt))
  ])

  within : (q : ℕ) → has_place new q ≡ true → (p + 1 ≤ q) × (q < length all)
  within q has = elim (or_cases (has_place rest q) (is_follower (number i) (map item_of xs) (length ss) q) (sym (added q) ∙ has)) [
    | inl waits ↦ (let gt = above q waits in (omega (arith, gt), (g.within q (or_right (p == q) _ waits)).1))
    | inr after ↦ (
        let it = follower_there ss xs (number i) q after in
        let gt = follower_behind all h p q i it.1.0 at it.1.1.0 (and_parts it.1.0.live (follows (number i) it.1.0) it.1.1.1).1 in
        (omega (arith, gt), slice_get_within all q it.1.0 it.1.1.0))
  ]

  joining : (q : ℕ) (j : Item) → p + 1 ≤ q → slice_get all q ≡ Some j → has_place new q ≡ joins root (numbers (names ++ i.event.name ∷ [])) j
  joining q j ge there =
      let le = g.behind in
      let lt = first_behind in
      let behind : length ss ≤ q = omega (arith, le, lt, ge) in
      let from : g.from ≤ q = omega (arith, lt, ge) in
      let ne : (p == q) ≡ false = ne_eqb p q (λ e. omega (arith, e, ge)) in
      added q
      ∙ ap₂ (λ a b. a || b) (sym (ap (λ b. b || has_place rest q) ne) ∙ g.joining q j from there) (follower_is ss xs (number i) q j behind there)
      ∙ sym (joins_more root names i.event.name j)

  gathering_step : (g : Gathering all (length ss) root (names ++ i.event.name ∷ []) new) × (p < g.from)
  gathering_step = (
    record {
      from = p + 1;
      behind = (let le = g.behind in let lt = first_behind in omega (arith, le, lt));
      within = within;
      joining = joining;
      rest = sym (taken_at root names p all i at (sym (g.joining p i first_behind at) ∙ first_waits))
          ∙ sym (skipped root names g.from p all first_behind nobody)
          ∙ g.rest;
    },
    omega arith,
  )

pub gathering_more : (ss : List Settled) (xs : List code.Entry) (root : EventName) → IsJournal (items_in ss xs) → (names : List EventName) (waiting rest new : List ℕ) (p : ℕ) (name : EventName) → Gathering (items_in ss xs) (length ss) root names waiting
    → waiting ≡ p ∷ rest → ((q : ℕ) → has_place rest q ≡ true → p < q) → slice_get (names_of (items_in ss xs)) p ≡ Some name
    → ((q : ℕ) → has_place new q ≡ (has_place rest q || is_follower name.0 (map item_of xs) (length ss) q)) → (g : Gathering (items_in ss xs) (length ss) root (names ++ name ∷ []) new) × (p < g.from)
gathering_more ss xs root journal names waiting rest new p name g is above named added = by (slice_get (items_in ss xs) p) refl
  where
    by : (o : Option Item) → slice_get (items_in ss xs) p ≡ o → (g : Gathering (items_in ss xs) (length ss) root (names ++ name ∷ []) new) × (p < g.from)
    by None at = absurd (let f : None ≡ Some name = sym (slice_get-map (λ (j : Item). j.event.name) (items_in ss xs) p ∙ ap (option_map (λ (j : Item). j.event.name)) at) ∙ named in cc)
    by (Some i) at =
        let one = name_there (items_in ss xs) p i name at named in
        subst (λ e. (g : Gathering (items_in ss xs) (length ss) root (names ++ e ∷ []) new) × (p < g.from)) one
        (gathering_step ss xs root (journal_tells (items_in ss xs) journal) names rest new p i (subst (Gathering (items_in ss xs) (length ss) root names) is g) at above
        (λ q. added q ∙ ap (λ (e : EventName). has_place rest q || is_follower e.0 (map item_of xs) (length ss) q) (sym one)))

-- whoever waits has an entry
pub waits_within : (items : List Item) (settled : ℕ) (root : EventName) (names : List EventName) (waiting rest : List ℕ) (p : ℕ) → Gathering items settled root names waiting → waiting ≡ p ∷ rest → p < length items
waits_within items settled root names waiting rest p g is = (g.within p (ap (λ ks. has_place ks p) is ∙ or_left _ _ (eq-eqb p p refl))).1

-- how many places there are from the first that waits on
abbrev pub left_from : ℕ → List ℕ → ℕ
left_from n [] = 0
left_from n (k ∷ ks) = n - k

pub fewer_left : (items : List Item) (settled : ℕ) (root : EventName) (names : List EventName) (p : ℕ) (old rest new : List ℕ) → old ≡ p ∷ rest → p < length items → (g : Gathering items settled root names new) × (p < g.from)
    → left_from (length items) new < left_from (length items) old
fewer_left items settled root names p old rest [] is lt g = subst (λ ks. 0 < left_from (length items) ks) (sym is) (omega (arith, lt))
fewer_left items settled root names p old rest (k ∷ ks) is lt (g, behind) =
    let le = (g.within k (or_left _ _ (eq-eqb k k refl))).0 in
    subst (λ js. length items - k < left_from (length items) js) (sym is) (omega (arith, le, behind, lt))

-- those behind the first that waited
pub all_behind : (p : ℕ) (ks : List ℕ) → All (λ k. nat_cmp p k ≡ Less) ks → (q : ℕ) → has_place ks q ≡ true → p < q
all_behind p ks h q has = any_gives (p < q) (λ k. k == q) ks has (all_map _ _ ks (λ k lt is. subst (λ m. p < m) (eqb-true k q is) (less p k lt)) (recursion_from_All (λ k. nat_cmp p k ≡ Less) ks h))

pub nobody_waits : (ks : List ℕ) → (0 < length ks → ⊥) → ks ≡ []
nobody_waits [] h = refl
nobody_waits (k ∷ ks) h = absurd (h (omega arith))

-- THE END: nobody waits
pub gathering_done : (items : List Item) (settled : ℕ) (root : EventName) (names : List EventName) (waiting : List ℕ) → Gathering items settled root names waiting → waiting ≡ [] → names ≡ gathered root [] items
gathering_done items settled root names waiting g none = by (nat_lt (length items) g.from) refl ∙ g.rest
  where
    nobody : (q : ℕ) (i : Item) → slice_get items q ≡ Some i → g.from ≤ q → q < length items → joins root (numbers names) i ≡ false
    nobody q i at ge lt = sym (g.joining q i ge at) ∙ ap (λ ks. has_place ks q) none

    by : (b : Bool) → nat_lt (length items) g.from ≡ b → names ≡ gathered root names (drop g.from items)
    by true e = ap (gathered root names) (sym (drop_all g.from items (let lt = ltb-true (length items) g.from e in omega (arith, lt))))
    by false e =
        sym (skipped root names g.from (length items) items (ltb-false (length items) g.from e) nobody
        ∙ ap (gathered root names) (drop_all (length items) items (omega arith)))

-- THE BEGINNING: the root waits
module _ (places : Places) (ss : List Settled) (xs : List code.Entry) (root : EventName) (none : AllByRecursion (λ i. is_of (root ∷ []) i ≡ false) (map settled_item ss)) where
  not_settled : (q : ℕ) → q < length ss → slice_get (names_of (items_in ss xs)) q ≡ Some root → ⊥
  not_settled q lt named =
      let many = length-map ss settled_item in
      let there = some_there (map settled_item ss) q (omega (arith, lt, many)) in
      let one = name_there (items_in ss xs) q there.0 root (before_there (map settled_item ss) (map item_of xs) q there.0 there.1) named in
      true≢false (sym (or_left _ false (eq-eqb root.0 (number there.0) (ap (λ (e : EventName). e.0) (sym one)))) ∙ all_place _ (map settled_item ss) none q there.0 there.1)

  root_behind : ∥ ArePlaces places (names_of (items_in ss xs)) ∥₁ → (q : ℕ) → place_of places root ≡ Some q → length ss ≤ q
  root_behind placed q is = ltb-false q (length ss) (∥∥₁_elim placed (Bool-set _ _) (λ are. false_by _ (λ e. not_settled q (ltb-true q (length ss) e) ((are root).right q is))))

  only_root : (i : Item) → joins root [] i ≡ (i.event.name.0 == root.0)
  only_root i = ap (λ b. (i.event.name.0 == root.0) || (i.live && b)) (any_none _ i.lasts (all_of _ i.lasts (λ p. nobody p.1))) ∙ parts (i.event.name.0 == root.0) i.live
    where
      nobody : (o : Option ℕ) → is_writer_in [] o ≡ false
      nobody None = refl
      nobody (Some n) = refl

      parts : (r l : Bool) → (r || (l && false)) ≡ r
      parts true l = refl
      parts false true = refl
      parts false false = refl

  root_there : ∥ ArePlaces places (names_of (items_in ss xs)) ∥₁ → IsJournal (items_in ss xs) → (q : ℕ) (i : Item) → slice_get (items_in ss xs) q ≡ Some i → is_name (place_of places root) q ≡ (i.event.name.0 == root.0)
  root_there placed journal q i at = ∥∥₁_elim placed (Bool-set _ _) (λ are. ∥∥₁_elim (apart_items (items_in ss xs) journal) (Bool-set _ _) (λ apart. bool_same _ _
      (λ named. self_name i.event.name root (name_there (items_in ss xs) q i root at ((are root).right q (named_is _ q named))))
      (λ same. is_named _ q (ap (place_of places) (sym (one_name i.event.name root same)) ∙ place_there places (items_in ss xs) are apart q i at))))

  opens_left : (ts : List Settled) (ys : List Item) → drop (length ts) (map settled_item ts ++ ys) ≡ ys
  opens_left [] ys = refl
  opens_left (t ∷ ts) ys = opens_left ts ys

  pub gathering_begins : ∥ ArePlaces places (names_of (items_in ss xs)) ∥₁ → IsJournal (items_in ss xs) → (names : List EventName) (waiting : List ℕ) → names ≡ [] → ((q : ℕ) → has_place waiting q ≡ is_name (place_of places root) q)
      → Gathering (items_in ss xs) (length ss) root names waiting
  gathering_begins placed journal names waiting empty is = record {
    from = length ss;
    behind = omega arith;
    within = λ q has. (let there = named_is _ q (sym (is q) ∙ has) in (root_behind placed q there, within_by_place places (items_in ss xs) placed root q there));
    joining = λ q i ge at. is q ∙ root_there placed journal q i at ∙ sym (ap (λ ns. joins root (numbers ns) i) empty ∙ only_root i);
    rest = ap (λ ns. gathered root ns (drop (length ss) (items_in ss xs))) empty ∙ ap (gathered root []) (opens_left ss (map item_of xs)) ∙ sym (gathered_past root (map settled_item ss) (map item_of xs) none);
  }
