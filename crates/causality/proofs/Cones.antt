-- A walk along the journal gathers the cone of an event.
use Rattle.std.proofs.Common.{◌≡◌, ◌≢◌, ℕ, List, [], ◌∷◌, ◌++◌, Bool, true, false, cond, refl, ap, sym, ◌∙◌, subst, map, filter, reverse, eq-eqb, ne_eqb}
use Rattle.std.specs.Prelude.{◌||◌, ◌&&◌, ◌==◌, Option, Some, None}
use Rattle.std.specs.List.{list_any, AllByRecursion}
use Rattle.std.proofs.lemmas.Bool.{or_left}
use Rattle.std.proofs.lemmas.List.{map-append, reverse-append, reverse-reverse}
use Rattle.std.proofs.lemmas.List.Sorted.{list_any-IsPermutation, IsPermutation-reverse}
use Rattle.history.specs.Chains.{Traced, Chained}
use Rattle.history.specs.Cone.{cone, in_cone}
use Rattle.history.specs.Journal.{Entry, name_of, is_in, caused, live_set, HasCauses, Distinct, Sound, Closed}
use Rattle.history.proofs.Cones.{cone_closed, cone_has_root, cone_least, cone_part}
use Rattle.history.proofs.Lists.{all_map, all_of, any_same, filter_same}
use Rattle.ids.specs.declared.names.EventName.{EventName}
use Rattle.journal.specs.Items.{Item}
use Rattle.journal.specs.Lines.{plain, Line, line_of, lines_of, entries_in}
use Rattle.journal.specs.declared.entry.Mark.TheVariants as mark
use Rattle.journal.proofs.Reversed.{map-map, map-reverse, filter-map, filter-reverse}
use Rattle.causality.specs.Exact.{Cone, ClosedIn}
use Rattle.causality.specs.Names.{is_writer_in, wrote_last}
use Rattle.causality.specs.Selections.{name_of as line_name, numbers, among, chosen, is_live, first_marked}
use Rattle.causality.specs.Walks.{joins, joined_with, gathered}
use Rattle.causality.proofs.Facts.{entry_at, same_entries}
use Rattle.causality.proofs.Firsts.{none_each}
use Rattle.causality.proofs.Gaps.{live_at}
use Rattle.causality.proofs.Pairs.{all_unmapped, all_from_end, all_to_end}
use Rattle.causality.proofs.Telling.{Tells}
use Rattle.causality.proofs.Writers.{last_tells, live_causes}

-- a test finds the same in either order
any_reversed : {A : Type 0} (p : A → Bool) (xs : List A) → list_any p (reverse xs) ≡ list_any p xs
any_reversed p xs = sym (list_any-IsPermutation p xs (reverse xs) (IsPermutation-reverse xs))

-- a set of numbers has the same last writers in either order
wrote_reversed : (ns : List ℕ) (i : Item) → wrote_last (reverse ns) i ≡ wrote_last ns i
wrote_reversed ns i = any_same _ _ i.lasts (all_of _ i.lasts (λ p. either p.1))
  where
    either : (o : Option ℕ) → is_writer_in (reverse ns) o ≡ is_writer_in ns o
    either None = refl
    either (Some n) = any_reversed (λ m. m == n) ns

-- the names of items, and their numbers
abbrev names_of : List Item → List EventName
names_of items = map (λ i. i.event.name) items

abbrev numbers_of : List Item → List ℕ
numbers_of items = map (λ i. i.event.name.0) items

numbers_reversed : (items : List Item) → numbers (names_of (reverse items)) ≡ reverse (numbers_of items)
numbers_reversed items = map-map (λ (e : EventName). e.0) (λ (i : Item). i.event.name) (reverse items) ∙ map-reverse (λ (i : Item). i.event.name.0) items

-- those that have joined, the newest first
abbrev taken : EventName → List Item → List Item
taken root [] = []
taken root (i ∷ older) = cond (joins root (numbers_of (taken root older)) i) (i ∷ taken root older) (taken root older)

gathered_on : (root : EventName) (joined : List EventName) (xs ys : List Item) → gathered root joined (xs ++ ys) ≡ gathered root (gathered root joined xs) ys
gathered_on root joined [] ys = refl
gathered_on root joined (x ∷ xs) ys = gathered_on root (joined_with (joins root (numbers joined) x) joined x) xs ys

gathered_taken : (root : EventName) (rs : List Item) → gathered root [] (reverse rs) ≡ names_of (reverse (taken root rs))
gathered_taken root [] = refl
gathered_taken root (r ∷ rs) =
    ap (gathered root []) (reverse-append (r ∷ []) rs) ∙ gathered_on root [] (reverse rs) (r ∷ []) ∙ ap (λ j. gathered root j (r ∷ [])) (gathered_taken root rs)
    ∙ ap (λ b. joined_with ((r.event.name.0 == root.0) || (r.live && b)) (names_of (reverse (taken root rs))) r) (ap (λ ns. wrote_last ns r) (numbers_reversed (taken root rs)) ∙ wrote_reversed (numbers_of (taken root rs)) r)
    ∙ last (joins root (numbers_of (taken root rs)) r) (taken root rs)
  where
    last : (b : Bool) (j : List Item) → joined_with b (names_of (reverse j)) r ≡ names_of (reverse (cond b (r ∷ j) j))
    last true j = sym (ap names_of (reverse-append (r ∷ []) j) ∙ map-append (λ (i : Item). i.event.name) (reverse j) (r ∷ []))
    last false j = refl

-- a name that is put before others names no other, and is there if it is put
skipped : (b : Bool) (ns : List ℕ) (m n : ℕ) → m ≢ n → is_in (cond b (m ∷ ns) ns) n ≡ is_in ns n
skipped true ns m n ne = ap (λ t. t || is_in ns n) (ne_eqb m n ne)
skipped false ns m n ne = refl

put : (b : Bool) (ns : List ℕ) (n : ℕ) → is_in ns n ≡ false → is_in (cond b (n ∷ ns) ns) n ≡ b
put true ns n h = or_left (n == n) _ (eq-eqb n n refl)
put false ns n h = h

module _ (all : List Item) (root : EventName) where
  -- whether an entry is in the cone of the root among those of these items, the newest first
  abbrev coned : List Item → Entry plain → Bool
  coned rs = in_cone plain (live_set plain) root.0 (map (entry_at all) rs)

  abbrev cone_names : List Item → List ℕ
  cone_names rs = cone plain (live_set plain) root.0 (map (entry_at all) rs)

  -- what decides on the newest
  abbrev decided : Item → List Item → Bool
  decided r rs = (r.event.name.0 == root.0) || (r.live && list_any (λ a. coned rs a && caused plain (entry_at all r) a) (map (entry_at all) rs))

  unnamed : (n : ℕ) (rs : List Item) → AllByRecursion (λ a. name_of plain a ≢ n) (map (entry_at all) rs) → is_in (cone_names rs) n ≡ false
  unnamed n [] h = refl
  unnamed n (r ∷ rs) (ne, h) = skipped (decided r rs) (cone_names rs) r.event.name.0 n ne ∙ unnamed n rs h

  -- the newest joins where it is in the cone
  joins_decided : (r : Item) (rs : List Item) → numbers_of (taken root rs) ≡ cone_names rs → Distinct plain (map (entry_at all) rs) → Traced plain (entry_at all r) (map (entry_at all) rs)
      → (r.live ≡ true → HasCauses plain (live_set plain) (entry_at all r) (map (entry_at all) rs)) → joins root (numbers_of (taken root rs)) r ≡ decided r rs
  joins_decided r rs names d traced causes = ap (λ ns. joins root ns r) names ∙ ap (λ b. (r.event.name.0 == root.0) || b) (by r.live causes)
    where
      by : (b : Bool) → (b ≡ true → HasCauses plain (live_set plain) (entry_at all r) (map (entry_at all) rs))
          → (b && wrote_last (cone_names rs) r) ≡ (b && list_any (λ a. coned rs a && caused plain (entry_at all r) a) (map (entry_at all) rs))
      by false h = refl
      by true h = sym (last_tells (cone_names rs) (live_set plain) (entry_at all r) (map (entry_at all) rs) traced (live_causes (entry_at all r) (map (entry_at all) rs) (h refl))
          (cone_closed plain (live_set plain) root.0 (map (entry_at all) rs) d))

  -- what has joined, the newest first, is the cone
  record IsCone (rs : List Item) : Type 0 where
    members : taken root rs ≡ filter (λ i. coned rs (entry_at all i)) rs
    names : numbers_of (taken root rs) ≡ cone_names rs

  is_cone : (rs : List Item) → Distinct plain (map (entry_at all) rs) → Sound plain (live_set plain) (map (entry_at all) rs) → Chained plain (map (entry_at all) rs) → IsCone rs
  is_cone [] d s c = record { members = refl; names = refl }
  is_cone (r ∷ rs) (ne, d) (causes, s) (traced, c) =
      let older = is_cone rs d s c in
      let same : joins root (numbers_of (taken root rs)) r ≡ decided r rs = joins_decided r rs older.names d traced causes in
      record {
        members =
            ap (λ b. cond b (r ∷ taken root rs) (taken root rs)) (same ∙ sym (put (decided r rs) (cone_names rs) r.event.name.0 (unnamed r.event.name.0 rs ne)))
            ∙ ap (λ t. cond (coned (r ∷ rs) (entry_at all r)) (r ∷ t) t) (older.members ∙ filter_same _ _ rs (all_unmapped (entry_at all) (λ a. coned rs a ≡ coned (r ∷ rs) a) rs
            (all_map _ _ (map (entry_at all) rs) (λ a n. sym (skipped (decided r rs) (cone_names rs) r.event.name.0 (name_of plain a) (λ e. n (sym e)))) ne)));
        names = ap (λ b. map (λ (i : Item). i.event.name.0) (cond b (r ∷ taken root rs) (taken root rs))) same ∙ mapped (decided r rs) older.names;
      }
    where
      mapped : (b : Bool) → map (λ i. i.event.name.0) (taken root rs) ≡ cone_names rs → map (λ (i : Item). i.event.name.0) (cond b (r ∷ taken root rs) (taken root rs)) ≡ cond b (r.event.name.0 ∷ cone_names rs) (cone_names rs)
      mapped true h = ap (λ ns. r.event.name.0 ∷ ns) h
      mapped false h = h

-- a test, for the cone of the root
record ConeBy (lines : List Line) (root : EventName) (c : Entry plain → Bool) : Type 0 where
  has_root : AllByRecursion (λ l. (line_name l).0 ≡ root.0 → c l.entry ≡ true) lines
  live : AllByRecursion (λ l. c l.entry ≡ true → l.entry.live ≡ true) lines
  closed : Closed plain (live_set plain) c (entries_in lines)
  least : (others : List EventName) → ClosedIn others lines → AllByRecursion (λ l. (line_name l).0 ≡ root.0 → chosen others l ≡ true) lines → AllByRecursion (λ l. c l.entry ≡ true → chosen others l ≡ true) lines

cone_by : (lines : List Line) (root : EventName) → Tells lines → AllByRecursion (λ a. name_of plain a ≡ root.0 → a.live ≡ true) (entries_in lines) → ConeBy lines root (in_cone plain (live_set plain) root.0 (entries_in lines))
cone_by lines root h l =
    let es = entries_in lines in
    let c = in_cone plain (live_set plain) root.0 es in
    let d = h.lines_are.distinct in
    record {
      has_root = all_from_end (λ (l : Line). l.entry) (λ a. name_of plain a ≡ root.0 → c a ≡ true) lines (cone_has_root plain (live_set plain) root.0 es);
      live = all_from_end (λ (l : Line). l.entry) (λ a. c a ≡ true → a.live ≡ true) lines (cone_part plain (live_set plain) root.0 es d l);
      closed = cone_closed plain (live_set plain) root.0 es d;
      least = λ others closed has. all_from_end (λ (l : Line). l.entry) (λ a. c a ≡ true → among others a ≡ true) lines
          (cone_least plain (live_set plain) (among others) root.0 es d closed (all_to_end (λ (l : Line). l.entry) (λ a. name_of plain a ≡ root.0 → among others a ≡ true) lines has));
    }

-- the root is live
root_live : (lines : List Line) (root : EventName) → first_marked mark.Undone (root ∷ []) lines ≡ None → AllByRecursion (λ a. name_of plain a ≡ root.0 → a.live ≡ true) (entries_in lines)
root_live lines root none = all_to_end (λ (l : Line). l.entry) (λ a. name_of plain a ≡ root.0 → a.live ≡ true) lines
    (all_map _ _ lines (λ l e is. live_at (chosen (root ∷ []) l) (is_live l) (line_name l) e (or_left _ false (eq-eqb root.0 (line_name l).0 (sym is)))) (none_each _ lines none))

module _ (all : List Item) (root : EventName) (h : Tells (lines_of all)) (none : first_marked mark.Undone (root ∷ []) (lines_of all) ≡ None) where
  whole : IsCone all root (reverse all)
  whole = is_cone all root (reverse all) (subst (Distinct plain) (sym (same_entries all)) h.lines_are.distinct) (subst (Sound plain (live_set plain)) (sym (same_entries all)) h.lines_are.sound)
      (subst (Chained plain) (sym (same_entries all)) h.chained)

  abbrev in_it : Entry plain → Bool
  in_it = in_cone plain (live_set plain) root.0 (entries_in (lines_of all))

  gathered_is : gathered root [] all ≡ names_of (reverse (taken root (reverse all)))
  gathered_is = ap (gathered root []) (sym (reverse-reverse all)) ∙ gathered_taken root (reverse all)

  among_is : among (gathered root [] all) ≡ in_it
  among_is = λ t e. here e t
    where
      here : (e : Entry plain) → among (gathered root [] all) e ≡ in_it e
      here e =
          ap (λ ns. is_in ns e.event.name.0)
          (ap numbers gathered_is ∙ numbers_reversed (taken root (reverse all)) ∙ ap reverse whole.names)
          ∙ any_reversed (λ n. n == e.event.name.0) (cone_names all root (reverse all))
          ∙ ap (λ es. in_cone plain (live_set plain) root.0 es e) (same_entries all)

  in_order : gathered root [] all ≡ map line_name (filter (λ l. in_it l.entry) (lines_of all))
  in_order =
      gathered_is ∙ ap names_of (ap reverse whole.members ∙ sym (filter-reverse (λ i. coned all root (reverse all) (entry_at all i)) (reverse all)) ∙ ap (filter (λ i. coned all root (reverse all) (entry_at all i))) (reverse-reverse all)
      ∙ ap (λ es. filter (λ i. in_cone plain (live_set plain) root.0 es (entry_at all i)) all) (same_entries all))
      ∙ sym (ap (map line_name) (filter-map (line_of all) (λ l. in_it l.entry) all) ∙ map-map line_name (line_of all) (filter (λ i. in_it (entry_at all i)) all))

  -- THE CONE: what has been gathered at the end
  gathered_cone : Cone (lines_of all) root (gathered root [] all)
  gathered_cone =
      let by = subst (ConeBy (lines_of all) root) (sym among_is) (cone_by (lines_of all) root h (root_live (lines_of all) root none)) in
      record {
        in_order = in_order ∙ ap (λ c. map line_name (filter (λ (l : Line). c l.entry) (lines_of all))) (sym among_is);
        has_root = by.has_root;
        live = by.live;
        closed = by.closed;
        least = by.least;
      }

  pub cone_of : (names : List EventName) → names ≡ gathered root [] all → Cone (lines_of all) root names
  cone_of names is = subst (Cone (lines_of all) root) (sym is) gathered_cone
