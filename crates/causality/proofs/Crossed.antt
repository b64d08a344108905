-- The first crossing of a set of which no cause is missing is found on the lists of heirs and followers.
use Rattle.std.proofs.Common.{◌≡◌, ◌∙◌, ℕ, zero, suc, ◌+◌, ◌-◌, ◌<◌, ◌≤◌, ◌==◌, Bool, true, false, cond, ◌&&◌, ◌||◌, List, [], ◌∷◌, ◌++◌, Option, Some, None, is_some, option_map, length, map, slice_get, inl, inr, ◌⊎◌, refl, sym, ap, subst, arith, true≢false, nat_lt, ltb-true, lt-ltb}
use Rattle.std.specs.Prelude.{not}
use Rattle.std.specs.List.{fold, AllByRecursion}
use Rattle.std.specs.Option.{option_map_or, option_and_then}
use Rattle.std.proofs.Props.{props}
use Rattle.std.proofs.Math.Logic.{∥∥₁_elim}
use Rattle.std.proofs.lemmas.Bool.{or_left, or_right, or_cases, and_parts, and_from, ltb-false}
use Rattle.std.proofs.lemmas.List.{length-map}
use Rattle.std.proofs.lemmas.Option.{slice_get-map, slice_get_within}
use Rattle.history.specs.Subject.{touches, meets}
use Rattle.history.specs.Journal.{Entry, caused, live_set, both}
use Rattle.history.specs.Chains.{is_name, wrote, last_of}
use Rattle.history_consequences.specs.Refusals.{first_pair, crossed, overtaken}
use Rattle.history_consequences.specs.Versions.{is_one, found_as, overtakes, wrote_over as wrote_over_in}
use Rattle.history_consequences.specs.Sets.{MissesNone}
use Rattle.history_consequences.proofs.Crossing.{one_of, one_same, one_self}
use Rattle.history_consequences.proofs.Heirs.{own_found}
use Rattle.history_consequences.proofs.Meeting.{first_crossed}
use Rattle.history_consequences.proofs.Members.{In, all_in, in_all, any_in, in_any}
use Rattle.history_consequences.proofs.Writers.{item_of as touched_item, touched_of, sound_last}
use Rattle.ids.specs.CellKeys.{same_key}
use Rattle.ids.specs.declared.names.EventName.{EventName}
use Rattle.ids.specs.declared.cells.CellKey.{CellKey}
use Rattle.ids.proofs.CellKeys.{same_exact, same_self}
use Rattle.journal_links.specs.Followers.{followers_of, is_one as is_listed}
use Rattle.journal_links.specs.Heirs.{heirs_of, is_heir}
use Rattle.journal_links.specs.Places.{place_of, ArePlaces}
use Rattle.journal_links.specs.declared.places.Places.{Places}
use Rattle.journal_links.specs.declared.followers.Followers.{Followers}
use Rattle.journal_links.specs.declared.heirs.Heirs.{Heirs}
use Rattle.journal_links.specs.Followers.{may_follow}
use Rattle.journal.specs.Items.{Item, item_of}
use Rattle.journal.specs.Lines.{plain, Line, line_of, lines_of, entries_in, writer_of}
use Rattle.journal.specs.Links.{lister, AreFollowers, AreHeirs, names_of, open_at}
use Rattle.journal.specs.SettledView.{settled_item, items_in}
use Rattle.journal.specs.declared.entry.Entry as code
use Rattle.journal.specs.declared.settled.Settled.{Settled}
use Rattle.journal.proofs.Touching.{any-map}
use Rattle.causality.specs.Causes.{passes_at}
use Rattle.causality.specs.Crossing.{wrote_key, wrote_over, is_version, found_so, hinders, hinders_at, heir_place, crossed_place, crossing_at, finds_at, listed_place, finder_place, crossing_place}
use Rattle.causality.specs.Journals.{IsJournal}
use Rattle.causality.specs.Placed.{kept_if, lesser_place, name_there}
use Rattle.causality.specs.Selections.{among, gap, first_missing_cause, first_crossing}
use Rattle.causality.specs.Walks.{is_of, stays, first_item}
use Rattle.causality.specs.declared.selection.Gap.{Gap}
use Rattle.causality.proofs.Collecting.{behind_there, before_there}
use Rattle.causality.proofs.Facts.{entry_at, cells_items}
use Rattle.causality.proofs.FirstPairs.{pair_gap, first_pairs}
use Rattle.causality.proofs.FirstPlace.{IsFirst, first_turned, first_either, first_fold, first_then, first_if, first_kept, first_placed, first_named, item_none, stands_before}
use Rattle.causality.proofs.Following.{number, Apart, all_place}
use Rattle.causality.proofs.Gathering.{open_behind}
use Rattle.causality.proofs.LeastAnswer.{answer_first, along_at}
use Rattle.causality.proofs.Missed.{member_behind, none_misses}
use Rattle.causality.proofs.Overwritten.{wrote_is, listed_at}
use Rattle.causality.proofs.Pairs.{all_unmapped, all_from_end}
use Rattle.causality.proofs.Placed.{one_name, self_name, place_there, apart_items, fold_right, least_within, named_is}
use Rattle.causality.proofs.Redoing.{crossing_walked}
use Rattle.causality.proofs.Telling.{Tells, journal_tells}
use Rattle.causality.proofs.Writers.{plain_laws}

pair_is : (p q : CellKey × Option ℕ) → p.0 ≡ q.0 → p.1 ≡ q.1 → p ≡ q
pair_is p q h g = λ j. (h j, g j)

name_in : (ys : List Item) (r : ℕ) (i : Item) → slice_get ys r ≡ Some i → In i.event.name (names_of ys)
name_in [] r i at = cc
name_in (y ∷ ys) zero i at = inl (let is : y ≡ i = cc in ap (λ (j : Item). j.event.name) is)
name_in (y ∷ ys) (suc r) i at = inr (name_in ys r i at)

-- those that are listed, or where no list is kept, all
abbrev listed_or : List Item → Option (List EventName) → List EventName
listed_or opens None = names_of opens
listed_or opens (Some es) = es

module _ (places : Places) (followers : Followers) (heirs : Heirs) (ss : List Settled) (xs : List code.Entry) (names : List EventName) (are : ArePlaces places (names_of (items_in ss xs))) (apart : Apart (map number (items_in ss xs)))
    (tells : Tells (lines_of (items_in ss xs))) (follow : AreFollowers followers (map item_of xs)) (inherit : AreHeirs heirs (items_in ss xs))
    (none : AllByRecursion (λ i. is_of names i ≡ false) (map settled_item ss)) where
  abbrev items : List Item
  items = items_in ss xs

  abbrev opens : List Item
  opens = map item_of xs

  abbrev at : Item → Entry plain
  at = entry_at items

  abbrev entries : List (Entry plain)
  entries = entries_in (lines_of items)

  abbrev stay : Entry plain → Bool
  stay = both (live_set plain) (among names)

  abbrev answer : ℕ → Option Gap
  answer = crossing_at places heirs names opens (length ss) items

  place_is : (p : ℕ) (i : Item) → slice_get items p ≡ Some i → place_of places i.event.name ≡ Some p
  place_is p i there = place_there places items are apart p i there

  open_is : (p : ℕ) (i : Item) → slice_get items p ≡ Some i → length ss ≤ p → open_at opens (length ss) (Some p) ≡ Some i
  open_is p i there le = open_behind ss xs p le ∙ there

  -- what is open at a place stands there, and is not settled
  open_there : (p : ℕ) (i : Item) → open_at opens (length ss) (Some p) ≡ Some i → (slice_get items p ≡ Some i) × (length ss ≤ p)
  open_there p i is = by (nat_lt p (length ss)) refl
    where
      by : (b : Bool) → nat_lt p (length ss) ≡ b → (slice_get items p ≡ Some i) × (length ss ≤ p)
      by true e = absurd (let nothing : None ≡ Some i = sym (ap (λ b. cond b None (slice_get opens (p - length ss))) e) ∙ is in cc)
      by false e = (let le = ltb-false p (length ss) e in (sym (open_behind ss xs p le) ∙ is, le))

  member_is : (e : EventName) (i : Item) → In e names → e ≡ i.event.name → is_of names i ≡ true
  member_is e i listed is = any-map (λ (x : EventName). x.0) (λ n. n == i.event.name.0) names ∙ any_in (λ (x : EventName). x.0 == i.event.name.0) names e listed (self_name e i.event.name is)

  member_in : (i : Item) → is_of names i ≡ true → (e : EventName) × In e names × (e ≡ i.event.name)
  member_in i member =
      let it = in_any (λ (x : EventName). x.0 == i.event.name.0) names (sym (any-map (λ (x : EventName). x.0) (λ n. n == i.event.name.0) names) ∙ member) in
      (it.0, it.1, one_name it.0 i.event.name it.2)

  item_named : (e : EventName) (p : ℕ) (i : Item) → place_of places e ≡ Some p → slice_get items p ≡ Some i → e ≡ i.event.name
  item_named e p i is there =
      let same : Some e ≡ Some i.event.name = sym ((are e).right p is) ∙ slice_get-map (λ (j : Item). j.event.name) items p ∙ ap (option_map (λ (j : Item). j.event.name)) there in
      cc

  -- ---- who is in the way

  -- the theory's: the first is in the way of the second
  abbrev crosses : Item → Item → Bool
  crosses i f = (stays names f && (is_of names i || is_of names f)) && overtakes plain (at f) (at i)

  over_in : (f : Item) (c : CellKey × Option ℕ) → wrote_over c f ≡ true → wrote_over_in plain c (at f) ≡ true
  over_in f c h =
      let parts = and_parts (is_one (writer_of f c.0) c.1) (wrote_key c.0 f) h in
      let did : wrote plain c.0 (at f) ≡ true = sym (wrote_is c.0 f.kept) ∙ parts.1 in
      and_from (found_as plain c (at f)) _ (and_from (touches plain (at f).foot c.0) _ (touched_of plain plain_laws c.0 (at f) did) parts.0) did

  over_out : (f : Item) (c : CellKey × Option ℕ) → wrote_over_in plain c (at f) ≡ true → wrote_over c f ≡ true
  over_out f c h =
      let parts = and_parts (found_as plain c (at f)) (wrote plain c.0 (at f)) h in
      and_from (is_one (writer_of f c.0) c.1) _ (and_parts (touches plain (at f).foot c.0) _ parts.0).1 (wrote_is c.0 f.kept ∙ parts.1)

  -- whoever wrote over a version is listed as its heir
  heir_listed : (q : ℕ) (f : Item) (c : CellKey × Option ℕ) → slice_get items q ≡ Some f → wrote_over c f ≡ true → (e : EventName) × In e (heirs_of heirs (lister c.0 c.1)) × (e ≡ f.event.name)
  heir_listed q f c there over =
      let parts = and_parts (is_one (writer_of f c.0) c.1) (wrote_key c.0 f) over in
      let on_list : is_heir heirs (lister c.0 c.1) f.event.name ≡ true =
      ap (λ o. is_heir heirs (lister c.0 o) f.event.name) (sym (one_same (writer_of f c.0) c.1 parts.0)) ∙ listed_at (is_heir heirs) f.event.name (writer_of f) c.0 f.kept (all_place _ items inherit q f there) parts.1 in
      let it = in_any (λ (x : EventName). x.0 == f.event.name.0) (heirs_of heirs (lister c.0 c.1)) on_list in
      (it.0, it.1, one_name it.0 f.event.name it.2)

  item_passing : (test : Item → Bool) (q : ℕ) → passes_at test items q ≡ true → (f : Item) × (slice_get items q ≡ Some f) × (test f ≡ true)
  item_passing test q h = by (slice_get items q) refl h
    where
      by : (o : Option Item) → slice_get items q ≡ o → option_map_or test o false ≡ true → (f : Item) × (slice_get items q ≡ Some f) × (test f ≡ true)
      by None e g = absurd (true≢false (sym g))
      by (Some f) e g = (f, e, g)

  crossed_first : (p : ℕ) (i : Item) → IsFirst (λ q. (f : Item) × (slice_get items q ≡ Some f) × ((nat_lt q p && crosses i f) ≡ true)) (crossed_place places heirs names items p i)
  crossed_first p i = first_turned
      (λ q. (c : CellKey × Option ℕ) × In c i.lasts × ((e : EventName) × In e (heirs_of heirs (lister c.0 c.1)) × ((place_of places e ≡ Some q) × (hinders_at names items p i c q ≡ true))))
      (λ q. (f : Item) × (slice_get items q ≡ Some f) × ((nat_lt q p && crosses i f) ≡ true))
      (crossed_place places heirs names items p i)
      (λ q h.
      (let parts = and_parts (nat_lt q p) (passes_at (hinders names i h.0) items q) h.2.2.1 in
      let it = item_passing (hinders names i h.0) q parts.1 in
      let both_parts = and_parts (stays names it.0 && (is_of names i || is_of names it.0)) (wrote_over h.0 it.0) it.2 in (
        it.0,
        it.1,
        and_from (nat_lt q p) _ parts.0 (and_from (stays names it.0 && (is_of names i || is_of names it.0)) _ both_parts.0
            (any_in (λ v. wrote_over_in plain v (at it.0)) i.lasts h.0 h.1 (over_in it.0 h.0 both_parts.1))),
      )))
      (λ q h.
      (let parts = and_parts (nat_lt q p) (crosses i h.0) h.2 in
      let both_parts = and_parts (stays names h.0 && (is_of names i || is_of names h.0)) (overtakes plain (at h.0) (at i)) parts.1 in
      let c = in_any (λ v. wrote_over_in plain v (at h.0)) i.lasts both_parts.1 in
      let over = over_out h.0 c.0 c.2 in
      let e = heir_listed q h.0 c.0 h.1 over in (
        c.0,
        c.1,
        (
          e.0,
          e.1,
          (
            ap (place_of places) e.2 ∙ place_is q h.0 h.1,
            and_from (nat_lt q p) _ parts.0 (ap (λ o. option_map_or (hinders names i c.0) o false) h.1 ∙ and_from (stays names h.0 && (is_of names i || is_of names h.0)) _ both_parts.0 over),
          ),
        ),
      )))
      (first_fold (λ (c : CellKey × Option ℕ) q. (e : EventName) × In e (heirs_of heirs (lister c.0 c.1)) × ((place_of places e ≡ Some q) × (hinders_at names items p i c q ≡ true))) (heir_place places heirs names items p i) i.lasts
      (λ c touched. first_placed places (hinders_at names items p i c) (heirs_of heirs (lister c.0 c.1))))

  -- ---- what is answered at a place

  abbrev crossed_along : List Item → Item → Option Gap
  crossed_along us i = cond (stays names i) (option_map (gap i.event.name) (first_item (crosses i) us)) None

  module _ (us : List Item) (i : Item) (later : List Item) (is : items ≡ us ++ i ∷ later) where
    here : slice_get items (length us) ≡ Some i
    here =
        let e : length us ≡ length us + 0 = omega arith in
        ap (slice_get items) e ∙ ap (λ l. slice_get l (length us + 0)) is ∙ behind_there us (i ∷ later) 0

    crossed_named : name_there items (crossed_place places heirs names items (length us) i) ≡ first_item (crosses i) us
    crossed_named =
        ap (λ l. name_there l (crossed_place places heirs names items (length us) i)) is
        ∙ first_named (crosses i) us (i ∷ later) (crossed_place places heirs names items (length us) i)
        (first_turned
        (λ q. (f : Item) × (slice_get items q ≡ Some f) × ((nat_lt q (length us) && crosses i f) ≡ true))
        (λ q. (f : Item) × (slice_get us q ≡ Some f) × (crosses i f ≡ true))
        (crossed_place places heirs names items (length us) i)
        (λ q h. (let parts = and_parts (nat_lt q (length us)) (crosses i h.0) h.2 in (h.0, stands_before us (i ∷ later) q h.0 (ap (λ l. slice_get l q) (sym is) ∙ h.1) (ltb-true q (length us) parts.0), parts.1)))
        (λ q h. (h.0, ap (λ l. slice_get l q) is ∙ before_there us (i ∷ later) q h.0 h.1, and_from (nat_lt q (length us)) _ (lt-ltb q (length us) (slice_get_within us q h.0 h.1)) h.2))
        (crossed_first (length us) i))

    -- in the way of what is settled nobody is
    none_settled : length us < length ss → first_item (crosses i) us ≡ None
    none_settled lt = item_none (crosses i) us (λ q f there fine.
        (let parts = and_parts (stays names f && (is_of names i || is_of names f)) (overtakes plain (at f) (at i)) fine in
        elim (or_cases (is_of names i) (is_of names f) (and_parts (stays names f) _ parts.0).1) [
          | inl member ↦ (let le = member_behind ss xs names none (length us) i here member in absurd (omega (arith, le, lt)))
          | inr member ↦ (
              let le = member_behind ss xs names none q f (ap (λ l. slice_get l q) is ∙ before_there us (i ∷ later) q f there) member in
              let before = slice_get_within us q f there in
              absurd (omega (arith, le, lt, before)))
        ]))

    answer_is : crossed_along us i ≡ cond (stays names i) (answer (length us)) None
    answer_is = ap (λ o. cond (stays names i) o None) (by (nat_lt (length us) (length ss)) refl)
      where
        by : (b : Bool) → nat_lt (length us) (length ss) ≡ b → option_map (gap i.event.name) (first_item (crosses i) us) ≡ answer (length us)
        by true e =
            ap (option_map (gap i.event.name)) (none_settled (ltb-true (length us) (length ss) e))
            ∙ sym (ap (λ b. option_and_then (λ j. option_map (gap j.event.name) (name_there items (crossed_place places heirs names items (length us) j))) (cond b None (slice_get opens (length us - length ss)))) e)
        by false e =
            ap (option_map (gap i.event.name)) (sym crossed_named)
            ∙ sym (ap (option_and_then (λ j. option_map (gap j.event.name) (name_there items (crossed_place places heirs names items (length us) j)))) (open_is (length us) i here (ltb-false (length us) (length ss) e)))

  -- ---- where something is answered

  -- there is an answer at the place of what is open and crosses
  answered : (p q : ℕ) (f j : Item) → slice_get items p ≡ Some f → open_at opens (length ss) (Some q) ≡ Some j → nat_lt p q ≡ true → crosses j f ≡ true → is_some (answer q) ≡ true
  answered p q f j there unsettled lt fine =
      let least = (crossed_first q j).below p (f, there, and_from (nat_lt p q) _ lt fine) in
      let it = (crossed_first q j).right least.0 least.1.0 in
      ap (λ o. is_some (option_and_then (λ k. option_map (gap k.event.name) (name_there items (crossed_place places heirs names items q k))) o)) unsettled
      ∙ ap (λ o. is_some (option_map (gap j.event.name) (name_there items o))) least.1.0
      ∙ ap (λ o. is_some (option_map (gap j.event.name) o)) (slice_get-map (λ (k : Item). k.event.name) items least.0 ∙ ap (option_map (λ (k : Item). k.event.name)) it.1)

  -- and where there is one, what stands there crosses
  answers : (q : ℕ) (i : Item) → slice_get items q ≡ Some i → is_some (answer q) ≡ true → (open_at opens (length ss) (Some q) ≡ Some i) × ((p : ℕ) × ((f : Item) × (slice_get items p ≡ Some f) × ((nat_lt p q && crosses i f) ≡ true)))
  answers q i there some = by (open_at opens (length ss) (Some q)) refl some
    where
      crossed_some : (j : Item) (o : Option ℕ) → crossed_place places heirs names items q j ≡ o → is_some (option_map (gap j.event.name) (name_there items o)) ≡ true → (p : ℕ) × ((f : Item) × (slice_get items p ≡ Some f) × ((nat_lt p q && crosses j f) ≡ true))
      crossed_some j None e g = absurd (true≢false (sym g))
      crossed_some j (Some p) e g = (p, (crossed_first q j).right p e)

      by : (o : Option Item) → open_at opens (length ss) (Some q) ≡ o → is_some (option_and_then (λ j. option_map (gap j.event.name) (name_there items (crossed_place places heirs names items q j))) o) ≡ true
          → (open_at opens (length ss) (Some q) ≡ Some i) × ((p : ℕ) × ((f : Item) × (slice_get items p ≡ Some f) × ((nat_lt p q && crosses i f) ≡ true)))
      by None e g = absurd (true≢false (sym g))
      by (Some j) e g =
          let both_are : Some j ≡ Some i = sym (open_there q j e).0 ∙ there in
          let one : j ≡ i = cc in
          (e ∙ both_are, subst (λ k. (p : ℕ) × ((f : Item) × (slice_get items p ≡ Some f) × ((nat_lt p q && crosses k f) ≡ true))) one (crossed_some j (crossed_place places heirs names items q j) refl g))

  -- what an entry has of a touched cell is its last writer
  owned : AllByRecursion (λ i. AllByRecursion (λ p. writer_of i p.0 ≡ p.1) i.lasts) items
  owned = all_unmapped (line_of items) (λ (l : Line). AllByRecursion (λ p. last_of plain l.entry p.0 ≡ p.1) l.entry.lasts) items
      (all_from_end (λ (l : Line). l.entry) (λ e. AllByRecursion (λ p. last_of plain e p.0 ≡ p.1) e.lasts) (lines_of items)
      (in_all _ entries (λ r i. in_all _ r.lasts (λ p j. (own_found plain plain_laws entries tells.chained r i p j).1))))

  -- whoever wrote over a version found it
  found_it : (q : ℕ) (f : Item) (c : CellKey × Option ℕ) → slice_get items q ≡ Some f → wrote_over c f ≡ true → In c f.lasts
  found_it q f c there over =
      let parts = and_parts (is_one (writer_of f c.0) c.1) (wrote_key c.0 f) over in
      let cells_f = all_place _ items (cells_items items tells) q f there in
      let own = touched_item plain plain_laws (at f).foot f.lasts cells_f c.0 (touched_of plain plain_laws c.0 (at f) (sym (wrote_is c.0 f.kept) ∙ parts.1)) in
      let last = all_in (λ (d : CellKey × Option ℕ). writer_of f d.0 ≡ d.1) f.lasts (all_place _ items owned q f there) own.0 own.1 in
      subst (λ (d : CellKey × Option ℕ). In d f.lasts) (pair_is own.0 c (sym own.2) (sym last ∙ ap (writer_of f) (sym own.2) ∙ one_same (writer_of f c.0) c.1 parts.0)) own.1

  -- whoever found a version, and is open, is listed as a follower of it, where a list is kept
  finder_listed : (q : ℕ) (i : Item) (c : CellKey × Option ℕ) → slice_get items q ≡ Some i → length ss ≤ q → In c i.lasts → (o : Option (List EventName)) → followers_of followers (lister c.0 c.1) ≡ o → (e : EventName) × In e (listed_or opens o) × (e ≡ i.event.name)
  finder_listed q i c there low touched = by
    where
      there_open : slice_get opens (q - length ss) ≡ Some i
      there_open =
          let many = length-map ss settled_item in
          let back : length (map settled_item ss) + (q - length ss) ≡ q = omega (arith, low, many) in
          sym (behind_there (map settled_item ss) opens (q - length ss)) ∙ ap (slice_get items) back ∙ there

      by : (o : Option (List EventName)) → followers_of followers (lister c.0 c.1) ≡ o → (e : EventName) × In e (listed_or opens o) × (e ≡ i.event.name)
      by None e = (i.event.name, name_in opens (q - length ss) i there_open, refl)
      by (Some es) e =
          let on_list : is_listed es i.event.name ≡ true =
          sym (ap (λ o. option_map_or (λ fs. is_listed fs i.event.name) o true) e)
          ∙ all_in (λ (d : CellKey × Option ℕ). may_follow followers (lister d.0 d.1) i.event.name ≡ true) i.lasts (all_place _ opens follow (q - length ss) i there_open) c touched in
          let it = in_any (λ (x : EventName). x.0 == i.event.name.0) es on_list in
          (it.0, it.1, one_name it.0 i.event.name it.2)

  -- ---- the first place

  abbrev Found : ℕ → Item → ℕ → Type 0
  Found p i q = (c : CellKey × Option ℕ) × In c i.lasts × ((wrote_key c.0 i ≡ true) × ((e : EventName) × In e (listed_or opens (followers_of followers (lister c.0 c.1))) × ((place_of places e ≡ Some q) × (finds_at names opens (length ss) p c q ≡ true))))

  listed_first : (p : ℕ) (c : CellKey × Option ℕ) (o : Option (List EventName))
      → IsFirst (λ q. (e : EventName) × In e (listed_or opens o) × ((place_of places e ≡ Some q) × (finds_at names opens (length ss) p c q ≡ true))) (listed_place places names opens (length ss) p c o)
  listed_first p c None = first_placed places (finds_at names opens (length ss) p c) (names_of opens)
  listed_first p c (Some es) = first_placed places (finds_at names opens (length ss) p c) es

  found_first : (p : ℕ) (i : Item) → IsFirst (Found p i) (finder_place places followers names opens (length ss) p i)
  found_first p i = first_fold
      (λ (c : CellKey × Option ℕ) q. (wrote_key c.0 i ≡ true) × ((e : EventName) × In e (listed_or opens (followers_of followers (lister c.0 c.1))) × ((place_of places e ≡ Some q) × (finds_at names opens (length ss) p c q ≡ true))))
      (λ c. cond (wrote_key c.0 i) (listed_place places names opens (length ss) p c (followers_of followers (lister c.0 c.1))) None) i.lasts
      (λ c touched. first_if (wrote_key c.0 i)
      (λ q. (e : EventName) × In e (listed_or opens (followers_of followers (lister c.0 c.1))) × ((place_of places e ≡ Some q) × (finds_at names opens (length ss) p c q ≡ true)))
      (listed_place places names opens (length ss) p c (followers_of followers (lister c.0 c.1)))
      (listed_first p c (followers_of followers (lister c.0 c.1))))

  abbrev Asked : ℕ → Item → ℕ → Type 0
  Asked p i q = ((Some p ≡ Some q) × (is_some (answer q) ≡ true)) ⊎ Found p i q

  abbrev AskedAt : ℕ → ℕ → Type 0
  AskedAt p q = (i : Item) × (open_at opens (length ss) (Some p) ≡ Some i) × Asked p i q

  abbrev AskedOf : EventName → ℕ → Type 0
  AskedOf e q = (p : ℕ) × (place_of places e ≡ Some p) × AskedAt p q

  abbrev own_or_found : ℕ → Item → Option ℕ
  own_or_found p i = lesser_place (kept_if (λ q. is_some (answer q)) (Some p)) (finder_place places followers names opens (length ss) p i)

  abbrev wanted : Option ℕ
  wanted = fold lesser_place None (map (crossing_place places followers heirs names opens (length ss) items) names)

  asked_first : IsFirst (λ q. (e : EventName) × In e names × AskedOf e q) wanted
  asked_first = first_fold AskedOf (crossing_place places followers heirs names opens (length ss) items) names (λ e listed.
      first_then AskedAt (λ p. option_and_then (own_or_found p) (open_at opens (length ss) (Some p))) (place_of places e) (λ p.
      first_then (Asked p) (own_or_found p) (open_at opens (length ss) (Some p)) (λ i.
      first_either (λ q. (Some p ≡ Some q) × (is_some (answer q) ≡ true)) (Found p i) (kept_if (λ q. is_some (answer q)) (Some p)) (finder_place places followers names opens (length ss) p i)
      (first_kept (λ q. is_some (answer q)) (Some p)) (found_first p i))))

  -- who is asked of crosses
  asked_crosses : (q : ℕ) → (e : EventName) × In e names × AskedOf e q → (i : Item) × (slice_get items q ≡ Some i) × ((stays names i && is_some (answer q)) ≡ true)
  asked_crosses q h =
      let p = h.2.0 in
      let i = h.2.2.0 in
      let there = open_there p i h.2.2.1 in
      let member = member_is h.0 i h.1 (item_named h.0 p i h.2.1 there.0) in
      by p i there.0 member h.2.2.2
    where
      by : (p : ℕ) (i : Item) → slice_get items p ≡ Some i → is_of names i ≡ true → Asked p i q → (j : Item) × (slice_get items q ≡ Some j) × ((stays names j && is_some (answer q)) ≡ true)
      by p i there member (inl own) =
          let one : p ≡ q = (let same : Some p ≡ Some q = own.0 in cc) in
          (i, ap (slice_get items) (sym one) ∙ there, and_from (stays names i) _ (or_right i.live _ member) own.1)
      by p i there member (inr f) =
          let parts = and_parts (nat_lt p q) (option_map_or (λ k. stays names k && found_so f.0 k) (open_at opens (length ss) (Some q)) false) f.2.1.2.1 in
          finds (open_at opens (length ss) (Some q)) refl parts.1
        where
          finds : (o : Option Item) → open_at opens (length ss) (Some q) ≡ o → option_map_or (λ k. stays names k && found_so f.0 k) o false ≡ true → (j : Item) × (slice_get items q ≡ Some j) × ((stays names j && is_some (answer q)) ≡ true)
          finds None e g = absurd (true≢false (sym g))
          finds (Some j) e g =
              let c = f.0 in
              let lt = (and_parts (nat_lt p q) (option_map_or (λ k. stays names k && found_so c k) (open_at opens (length ss) (Some q)) false) f.2.1.2.1).0 in
              let parts = and_parts (stays names j) (found_so c j) g in
              let d = in_any (is_version c) j.lasts parts.1 in
              let version = and_parts (same_key d.0.0 c.0) (is_one d.0.1 c.1) d.2 in
              let touched : In c j.lasts = subst (λ (v : CellKey × Option ℕ). In v j.lasts) (pair_is d.0 c (same_exact d.0.0 c.0 version.0) (one_same d.0.1 c.1 version.1)) d.1 in
              let own : writer_of i c.0 ≡ c.1 = all_in (λ (v : CellKey × Option ℕ). writer_of i v.0 ≡ v.1) i.lasts (all_place _ items owned p i there) c f.1 in
              let over : wrote_over c i ≡ true = and_from (is_one (writer_of i c.0) c.1) _ (ap (λ o. is_one o c.1) own ∙ one_self c.1) f.2.0 in
              let cross : crosses j i ≡ true =
              and_from (stays names i && (is_of names j || is_of names i)) _ (and_from (stays names i) _ (or_right i.live _ member) (or_right (is_of names j) _ member))
              (any_in (λ v. wrote_over_in plain v (at i)) j.lasts c touched (over_in i c over)) in
              (j, (open_there q j e).0, and_from (stays names j) _ parts.0 (answered p q i j there e lt cross))

  -- who crosses is asked of
  crosses_asked : (q : ℕ) → (i : Item) × (slice_get items q ≡ Some i) × ((stays names i && is_some (answer q)) ≡ true) → (e : EventName) × In e names × AskedOf e q
  crosses_asked q h =
      let i = h.0 in
      let parts = and_parts (stays names i) (is_some (answer q)) h.2 in
      let it = answers q i h.1 parts.1 in
      let p = it.1.0 in
      let f = it.1.1.0 in
      let before = and_parts (nat_lt p q) (crosses i f) it.1.1.2 in
      let cross = and_parts (stays names f && (is_of names i || is_of names f)) (overtakes plain (at f) (at i)) before.1 in
      by i h.1 parts.0 parts.1 it.0 p f it.1.1.1 before.0 cross.1 (or_cases (is_of names i) (is_of names f) (and_parts (stays names f) _ cross.0).1)
    where
      by : (i : Item) → slice_get items q ≡ Some i → stays names i ≡ true → is_some (answer q) ≡ true → open_at opens (length ss) (Some q) ≡ Some i → (p : ℕ) (f : Item) → slice_get items p ≡ Some f → nat_lt p q ≡ true
          → overtakes plain (at f) (at i) ≡ true → (is_of names i ≡ true) ⊎ (is_of names f ≡ true) → (e : EventName) × In e names × AskedOf e q
      by i there stays_i some unsettled p f old lt over (inl member) =
          let e = member_in i member in
          (e.0, e.1, (q, ap (place_of places) e.2 ∙ place_is q i there, (i, unsettled, inl (refl, some))))
      by i there stays_i some unsettled p f old lt over (inr member) =
          let e = member_in f member in
          let low = member_behind ss xs names none p f old member in
          let c = in_any (λ v. wrote_over_in plain v (at f)) i.lasts over in
          let did = over_out f c.0 c.2 in
          let listed = finder_listed q i c.0 there (open_there q i unsettled).1 c.1 (followers_of followers (lister c.0.0 c.0.1)) refl in
          let seen : found_so c.0 i ≡ true = any_in (is_version c.0) i.lasts c.0 c.1 (and_from (same_key c.0.0 c.0.0) _ (same_self c.0.0) (one_self c.0.1)) in
          let finds : finds_at names opens (length ss) p c.0 q ≡ true =
          and_from (nat_lt p q) _ lt (ap (λ o. option_map_or (λ k. stays names k && found_so c.0 k) o false) unsettled ∙ and_from (stays names i) _ stays_i seen) in (
            e.0,
            e.1,
            (
              p,
              ap (place_of places) e.2 ∙ place_is p f old,
              (
                f,
                open_is p f old low,
                inr (c.0, found_it p f c.0 old did, ((and_parts (is_one (writer_of f c.0.0) c.0.1) (wrote_key c.0.0 f) did).1, (listed.0, listed.1, (ap (place_of places) listed.2 ∙ place_is q i there, finds)))),
              ),
            ),
          )

  -- THE FIRST CROSSING, by places
  module _ (misses : MissesNone plain stay (among names) entries) where
    -- by the law
    pairs_same : first_pair plain (λ e es. cond (stay e) (crossed plain stay e es) None) entries ≡ first_pair plain (λ e es. cond (stay e) (overtaken plain stay (among names) e es) None) entries
    pairs_same = first_crossed plain plain_laws stay (live_set plain) (among names) (λ a. one_of a.live (among names a)) (λ a q. or_left a.live (among names a) q)
        entries tells.lines_are.distinct tells.chained (sound_last plain plain_laws (live_set plain) entries tells.chained tells.lines_are.sound) misses

    by_place : option_and_then answer wanted ≡ first_crossing names (lines_of items)
    by_place =
        answer_first (stays names) answer items wanted (first_turned (λ q. (e : EventName) × In e names × AskedOf e q) (λ q. (i : Item) × (slice_get items q ≡ Some i) × ((stays names i && is_some (answer q)) ≡ true)) wanted asked_crosses crosses_asked asked_first)
        ∙ sym (along_at crossed_along (stays names) answer items answer_is [] items refl)
        ∙ sym (first_pairs items stay (λ e es f. (stay f && (among names e || among names f)) && overtakes plain f e))
        ∙ ap (option_map pair_gap) (sym pairs_same)
        ∙ first_pairs items stay (λ e es f. stay f && (meets plain f.foot e.foot && not (caused plain e f)))
        ∙ sym (crossing_walked names items)

gaps_set : (x y : Option Gap) → IsProp (x ≡ y)
gaps_set = hlevel props

pub crossing_found : (places : Places) (followers : Followers) (heirs : Heirs) (ss : List Settled) (xs : List code.Entry) (names : List EventName)
    → ∥ ArePlaces places (names_of (items_in ss xs)) ∥₁ → ∥ AreFollowers followers (map item_of xs) ∥₁ → ∥ AreHeirs heirs (items_in ss xs) ∥₁ → IsJournal (items_in ss xs)
    → AllByRecursion (λ i. is_of names i ≡ false) (map settled_item ss) → first_missing_cause names (lines_of (items_in ss xs)) ≡ None
    → option_and_then (crossing_at places heirs names (map item_of xs) (length ss) (items_in ss xs)) (fold lesser_place None (map (crossing_place places followers heirs names (map item_of xs) (length ss) (items_in ss xs)) names))
    ≡ first_crossing names (lines_of (items_in ss xs))
crossing_found places followers heirs ss xs names placed followed inherited journal none whole =
    let told = journal_tells (items_in ss xs) journal in
    ∥∥₁_elim placed (gaps_set _ _) (λ are. ∥∥₁_elim (apart_items (items_in ss xs) journal) (gaps_set _ _) (λ apart. ∥∥₁_elim followed (gaps_set _ _) (λ follow. ∥∥₁_elim inherited (gaps_set _ _) (λ inherit.
    by_place places followers heirs ss xs names are apart told follow inherit none (none_misses names (items_in ss xs) told whole)))))

-- what is in the way of an item stands among the items
pub crossed_within : (places : Places) (heirs : Heirs) (names : List EventName) (all : List Item) → ∥ ArePlaces places (names_of all) ∥₁ → (p : ℕ) (i : Item) (q : ℕ) → crossed_place places heirs names all p i ≡ Some q → q < length all
crossed_within places heirs names all placed p i q is = elim (fold_right (map (heir_place places heirs names all p i) i.lasts) None q is) [
  | inl nothing ↦ absurd (let e : None ≡ Some q = nothing in cc)
  | inr some ↦ (
      let c = in_any (λ (d : CellKey × Option ℕ). is_name (heir_place places heirs names all p i d) q) i.lasts (sym (any-map (heir_place places heirs names all p i) (λ o. is_name o q) i.lasts) ∙ some) in
      least_within places all (hinders_at names all p i c.0) (heirs_of heirs (lister c.0.0 c.0.1)) placed q (named_is _ q c.2))
]
