-- The first missing cause of a set is met on the way back along last writers.
use Rattle.std.proofs.Common.{◌≡◌, ◌≢◌, ◌∙◌, ℕ, suc, ◌+◌, ◌<◌, ◌≤◌, ◌==◌, Bool, true, false, cond, ◌&&◌, ◌||◌, List, [], ◌∷◌, ◌++◌, append_assoc, Option, Some, None, is_some, option_map, length, map, reverse, slice_get, inl, inr, ◌⊎◌, refl, sym, ap, subst, arith, eq-eqb, ne_eqb, true≢false, nat_lt, ltb-true, lt-ltb}
use Rattle.std.specs.Prelude.{not}
use Rattle.std.specs.List.{list_any, AllByRecursion}
use Rattle.std.specs.Option.{option_map_or, option_and_then, option_or}
use Rattle.std.proofs.Props.{props}
use Rattle.std.proofs.Math.Bool.{Bool-set}
use Rattle.std.proofs.Math.Logic.{∥∥₁_elim, ∥∥₁_map}
use Rattle.std.proofs.lemmas.Bool.{ltb-false, or_left, or_right}
use Rattle.std.proofs.lemmas.List.{length-map, length-reverse, length-append, reverse-append, reverse-reverse, map-append}
use Rattle.std.proofs.lemmas.Option.{slice_get-map, slice_get_within}
use Rattle.history.specs.Chains.{is_name}
use Rattle.history.specs.Journal.{Entry, name_of, is_in, caused, live_set, both, Distinct}
use Rattle.history.proofs.Lists.{all_map, all_reversed}
use Rattle.history_consequences.specs.Refusals.{first_pair, lacking, lacked, missing}
use Rattle.history_consequences.specs.Sets.{MissesNone}
use Rattle.history_consequences.proofs.Crossing.{one_of}
use Rattle.history_consequences.proofs.Members.{In, any_in, in_any}
use Rattle.history_consequences.proofs.Missing.{first_missing, none_lacked, lacking_unnamed}
use Rattle.ids.specs.declared.cells.CellKey.{CellKey}
use Rattle.ids.specs.declared.names.EventName.{EventName}
use Rattle.event.specs.Events.{DoesNoted}
use Rattle.event.proofs.Law.{noted_laws}
use Rattle.journal_links.specs.Places.{place_of, ArePlaces}
use Rattle.journal_links.specs.declared.places.Places.{Places}
use Rattle.journal.specs.Items.{Item, item_of, number_of}
use Rattle.journal.specs.Lines.{plain, lines_of, entries_in, writer_of, wrote_cell}
use Rattle.journal.specs.Links.{names_of}
use Rattle.journal.specs.SettledView.{settled_item, items_in}
use Rattle.journal.specs.declared.entry.Entry as code
use Rattle.journal.specs.declared.settled.Settled.{Settled}
use Rattle.journal.proofs.Touching.{any-map}
use Rattle.causality.specs.Causes.{passes_at}
use Rattle.causality.specs.Journals.{IsJournal}
use Rattle.causality.specs.Missing.{absent_place, met_back, missed_place, missing_at}
use Rattle.causality.specs.Placed.{kept_if, least_place, name_there}
use Rattle.causality.specs.Selections.{among, gap, first_missing_cause}
use Rattle.causality.specs.Walks.{is_of, stays, first_item}
use Rattle.causality.specs.declared.selection.Gap.{Gap}
use Rattle.causality.proofs.Behind.{settled_live}
use Rattle.causality.proofs.Collecting.{all_places, some_there, before_there, behind_there}
use Rattle.causality.proofs.Facts.{entry_at, same_entries}
use Rattle.causality.proofs.FirstPairs.{pair_gap, first_pairs}
use Rattle.causality.proofs.FirstPlace.{false_by, IsFirst, first_turned, first_fold, first_named}
use Rattle.causality.proofs.Firsts.{cond_same}
use Rattle.causality.proofs.Following.{number, named_place, Apart, all_place, one_place, split_at, Follows, follows}
use Rattle.causality.proofs.Gathering.{follower_behind, open_behind}
use Rattle.causality.proofs.LeastAnswer.{along_at, least_answer}
use Rattle.causality.proofs.Pairs.{all_unmapped}
use Rattle.causality.proofs.Placed.{apart_items, fold_right, kept_right, named_is}
use Rattle.causality.proofs.Redoing.{missing_walked}
use Rattle.causality.proofs.Telling.{Tells, journal_tells}
use Rattle.causality.proofs.Writers.{plain_laws}

not_so : (b : Bool) → not b ≡ true → b ≡ false
not_so true h = absurd (true≢false (sym h))
not_so false h = refl

not_mapped : {A B : Type 0} (f : A → B) (o : Option A) → option_map f o ≡ None → o ≡ None
not_mapped f None h = refl
not_mapped f (Some x) h = cc

-- a member of a set of which none is settled stands behind what is settled
pub member_behind : (ss : List Settled) (xs : List code.Entry) (names : List EventName) → AllByRecursion (λ i. is_of names i ≡ false) (map settled_item ss) → (p : ℕ) (i : Item) → slice_get (items_in ss xs) p ≡ Some i → is_of names i ≡ true → length ss ≤ p
member_behind ss xs names none p i there member = by (nat_lt p (length ss)) refl
  where
    by : (b : Bool) → nat_lt p (length ss) ≡ b → length ss ≤ p
    by false e = ltb-false p (length ss) e
    by true e =
        let lt = ltb-true p (length ss) e in
        let many = length-map ss settled_item in
        let old = some_there (map settled_item ss) p (omega (arith, lt, many)) in
        let both_are : Some old.0 ≡ Some i = sym (before_there (map settled_item ss) (map item_of xs) p old.0 old.1) ∙ there in
        let one : old.0 ≡ i = cc in
        absurd (true≢false (sym (ap (is_of names) one ∙ member) ∙ all_place _ (map settled_item ss) none p old.0 old.1))

-- ---- the oldest place of an item that passes a test, where the newest comes first

abbrev oldest_place : (Item → Bool) → List Item → Option ℕ
oldest_place test [] = None
oldest_place test (a ∷ older) = option_or (oldest_place test older) (cond (test a) (Some (length older)) None)

oldest_none : (test : Item → Bool) (es : List Item) → AllByRecursion (λ a. test a ≡ false) es → oldest_place test es ≡ None
oldest_none test [] h = refl
oldest_none test (a ∷ es) (h, hs) = λ t. option_or (oldest_none test es hs t) (cond (h t) (Some (length es)) None)

oldest_same : (p q : Item → Bool) (es : List Item) → AllByRecursion (λ a. p a ≡ q a) es → oldest_place p es ≡ oldest_place q es
oldest_same p q [] h = refl
oldest_same p q (a ∷ es) (h, hs) = λ t. option_or (oldest_same p q es hs t) (cond (h t) (Some (length es)) None)

oldest_first : (test : Item → Bool) (es : List Item) → IsFirst (λ q. (f : Item) × (slice_get (reverse es) q ≡ Some f) × (test f ≡ true)) (oldest_place test es)
oldest_first test [] = record {
  right = λ p is. cc;
  below = λ q it. (let none : None ≡ Some it.0 = it.1 in cc);
}
oldest_first test (a ∷ es) = by (oldest_place test es) (test a) refl (oldest_first test es)
  where
    turned : reverse (a ∷ es) ≡ reverse es ++ a ∷ []
    turned = reverse-append (a ∷ []) es

    -- the newest stands behind the others
    last_is : slice_get (reverse es ++ a ∷ []) (length es) ≡ Some a
    last_is =
        let many = length-reverse es in
        let e : length es ≡ length (reverse es) + 0 = omega (arith, many) in
        ap (slice_get (reverse es ++ a ∷ [])) e ∙ behind_there (reverse es) (a ∷ []) 0

    where_is : (q : ℕ) (f : Item) → slice_get (reverse es ++ a ∷ []) q ≡ Some f → (slice_get (reverse es) q ≡ Some f) ⊎ ((q ≡ length es) × (a ≡ f))
    where_is q f at = choose (nat_lt q (length es)) refl
      where
        choose : (b : Bool) → nat_lt q (length es) ≡ b → (slice_get (reverse es) q ≡ Some f) ⊎ ((q ≡ length es) × (a ≡ f))
        choose true e =
            let lt = ltb-true q (length es) e in
            let many = length-reverse es in
            let it = some_there (reverse es) q (omega (arith, lt, many)) in
            let same : Some it.0 ≡ Some f = sym (before_there (reverse es) (a ∷ []) q it.0 it.1) ∙ at in
            inl (it.1 ∙ same)
        choose false e =
            let le = ltb-false q (length es) e in
            let many = length-reverse es in
            let both_long = length-append (reverse es) (a ∷ []) in
            let lt = slice_get_within (reverse es ++ a ∷ []) q f at in
            let is : q ≡ length es = omega (arith, le, many, both_long, lt) in
            let same : Some a ≡ Some f = sym last_is ∙ ap (slice_get (reverse es ++ a ∷ [])) (sym is) ∙ at in
            inr (is, (let one : a ≡ f = cc in one))

    by : (o : Option ℕ) (b : Bool) → test a ≡ b → IsFirst (λ q. (f : Item) × (slice_get (reverse es) q ≡ Some f) × (test f ≡ true)) o
        → IsFirst (λ q. (f : Item) × (slice_get (reverse (a ∷ es)) q ≡ Some f) × (test f ≡ true)) (option_or o (cond b (Some (length es)) None))
    by (Some x) b e h = record {
      right = λ p is. (let it = h.right p is in (it.0, ap (λ l. slice_get l p) turned ∙ before_there (reverse es) (a ∷ []) p it.0 it.1, it.2));
      below = λ q it. elim (where_is q it.0 (ap (λ l. slice_get l q) (sym turned) ∙ it.1)) [
        | inl there ↦ h.below q (it.0, there, it.2)
        | inr last ↦ (
            let old = h.right x refl in
            let lt = slice_get_within (reverse es) x old.0 old.1 in
            let many = length-reverse es in
            let is = last.0 in
            (x, (refl, omega (arith, lt, many, is))))
      ];
    }
    by None true e h = record {
      right = λ p is. (let one : length es ≡ p = cc in (a, ap (λ l. slice_get l p) turned ∙ ap (slice_get (reverse es ++ a ∷ [])) (sym one) ∙ last_is, e));
      below = λ q it. elim (where_is q it.0 (ap (λ l. slice_get l q) (sym turned) ∙ it.1)) [
        | inl there ↦ absurd (let r = h.below q (it.0, there, it.2) in let none : None ≡ Some r.0 = r.1.0 in cc)
        | inr last ↦ (let is = last.0 in (length es, (refl, omega (arith, is))))
      ];
    }
    by None false e h = record {
      right = λ p is. cc;
      below = λ q it. elim (where_is q it.0 (ap (λ l. slice_get l q) (sym turned) ∙ it.1)) [
        | inl there ↦ absurd (let r = h.below q (it.0, there, it.2) in let none : None ≡ Some r.0 = r.1.0 in cc)
        | inr last ↦ absurd (true≢false (sym it.2 ∙ ap test (sym last.1) ∙ e))
      ];
    }

-- ---- the way back

module _ (passes : Item → Bool) (k : CellKey) where
  -- nobody is met from nobody, and from whoever none of these is
  pub met_apart : (o : Option ℕ) (es : List Item) → AllByRecursion (λ a. is_name o (number a) ≡ false) es → met_back passes k o es ≡ None
  met_apart o [] h = refl
  met_apart o (a ∷ es) (h, hs) =
      ap (λ b. cond b (cond (passes a) None (option_or (met_back passes k (writer_of a k) es) (Some (length es)))) (met_back passes k o es)) h ∙ met_apart o es hs

  pub met_nobody : (es : List Item) → met_back passes k None es ≡ None
  met_nobody [] = refl
  met_nobody (a ∷ es) = met_nobody es

  -- whoever is named otherwise is passed by
  pub met_past : (o : Option ℕ) (newer older : List Item) → AllByRecursion (λ a. is_name o (number a) ≡ false) newer → met_back passes k o (newer ++ older) ≡ met_back passes k o older
  met_past o [] older h = refl
  met_past o (a ∷ newer) older (h, hs) =
      ap (λ b. cond b (cond (passes a) None (option_or (met_back passes k (writer_of a k) (newer ++ older)) (Some (length (newer ++ older))))) (met_back passes k o (newer ++ older))) h
      ∙ met_past o newer older hs

distinct_behind : (xs ys : List (Entry plain)) → Distinct plain (xs ++ ys) → Distinct plain ys
distinct_behind [] ys h = h
distinct_behind (x ∷ xs) ys (h, hs) = distinct_behind xs ys hs

module _ (names : List EventName) (all : List Item) where
  abbrev at : Item → Entry plain
  at = entry_at all

  abbrev members : Entry plain → Bool
  members = both (live_set plain) (among names)

  abbrev lacks : CellKey → Option ℕ → List Item → Item → Bool
  lacks k o es f = is_in (lacking plain members k o (map at es)) (number f)

  -- who is met on the way back are those that the theory has as lacking
  met_is : (k : CellKey) (es : List Item) (o : Option ℕ) → Distinct plain (map at es) → met_back (stays names) k o es ≡ oldest_place (lacks k o es) es
  met_is k [] o d = refl
  met_is k (a ∷ es) o (d, ds) = by (is_name o (number a)) (stays names a) (met_is k es (writer_of a k) ds) (met_is k es o ds)
    where
      never : (xs : List Item) → AllByRecursion (λ f. false ≡ false) xs
      never [] = tt
      never (x ∷ xs) = (refl, never xs)

      alone : (x : Option ℕ) → x ≡ option_or x None
      alone None = refl
      alone (Some n) = refl

      others : AllByRecursion (λ f. ((number a == number f) || lacks k (writer_of a k) es f) ≡ lacks k (writer_of a k) es f) es
      others = all_map _ _ es (λ f ne. ap (λ b. b || lacks k (writer_of a k) es f) (ne_eqb (number a) (number f) (λ is. ne (sym is)))) (all_unmapped at (λ e. name_of plain e ≢ number a) es d)

      by : (b c : Bool) → met_back (stays names) k (writer_of a k) es ≡ oldest_place (lacks k (writer_of a k) es) es → met_back (stays names) k o es ≡ oldest_place (lacks k o es) es
          → cond b (cond c None (option_or (met_back (stays names) k (writer_of a k) es) (Some (length es)))) (met_back (stays names) k o es)
          ≡ oldest_place (λ f. is_in (cond b (cond c [] (number a ∷ lacking plain members k (writer_of a k) (map at es))) (lacking plain members k o (map at es))) (number f)) (a ∷ es)
      by true true ih jh = sym (oldest_none (λ f. false) (a ∷ es) (never (a ∷ es)))
      by true false ih jh =
          ap (λ x. option_or x (Some (length es))) (ih ∙ sym (oldest_same (λ f. (number a == number f) || lacks k (writer_of a k) es f) (lacks k (writer_of a k) es) es others))
          ∙ ap (λ t. option_or (oldest_place (λ f. (number a == number f) || lacks k (writer_of a k) es f) es) (cond t (Some (length es)) None))
          (sym (or_left (number a == number a) (lacks k (writer_of a k) es a) (eq-eqb (number a) (number a) refl)))
      by false c ih jh =
          jh ∙ alone (oldest_place (lacks k o es) es)
          ∙ ap (λ t. option_or (oldest_place (lacks k o es) es) (cond t (Some (length es)) None)) (sym (lacking_unnamed plain members k (number a) (map at es) o d))

  module _ (tells : Tells (lines_of all)) (us : List Item) (i : Item) (later : List Item) (is : all ≡ us ++ i ∷ later) where
    here : slice_get all (length us) ≡ Some i
    here =
        let e : length us ≡ length us + 0 = omega arith in
        ap (slice_get all) e ∙ ap (λ l. slice_get l (length us + 0)) is ∙ behind_there us (i ∷ later) 0

    turned_before : reverse all ≡ reverse (i ∷ later) ++ reverse us
    turned_before = ap reverse is ∙ reverse-append us (i ∷ later)

    apart_before : Distinct plain (map at (reverse us))
    apart_before = distinct_behind (map at (reverse (i ∷ later))) (map at (reverse us))
        (subst (Distinct plain) (sym (same_entries all) ∙ ap (map at) turned_before ∙ map-append at (reverse (i ∷ later)) (reverse us)) tells.lines_are.distinct)

    -- no last writer of an item is the item, or behind it
    writers_before : (c : CellKey × Option ℕ) → In c i.lasts → AllByRecursion (λ a. is_name c.1 (number a) ≡ false) (i ∷ later)
    writers_before c touched = all_places _ (i ∷ later) (λ r a there. false_by _ (λ named.
        (let before = follower_behind all tells (length us + r) (length us) a i (ap (λ l. slice_get l (length us + r)) is ∙ behind_there us (i ∷ later) r ∙ there) here
        (any_in (λ (p : CellKey × Option ℕ). is_name p.1 (number a)) i.lasts c touched named) in
        absurd (omega (arith, before)))))

    abbrev lacked_by : Item → Bool
    lacked_by f = list_any (λ (c : CellKey × Option ℕ). lacks c.0 c.1 (reverse us) f) i.lasts

    cell_first : (c : CellKey × Option ℕ) → In c i.lasts → IsFirst (λ q. (f : Item) × (slice_get us q ≡ Some f) × (lacks c.0 c.1 (reverse us) f ≡ true)) (met_back (stays names) c.0 c.1 (reverse all))
    cell_first c touched =
        let met : met_back (stays names) c.0 c.1 (reverse all) ≡ oldest_place (lacks c.0 c.1 (reverse us)) (reverse us) =
        ap (met_back (stays names) c.0 c.1) turned_before ∙ met_past (stays names) c.0 c.1 (reverse (i ∷ later)) (reverse us) (all_reversed _ (i ∷ later) (writers_before c touched))
        ∙ met_is c.0 (reverse us) c.1 apart_before in
        subst (IsFirst (λ q. (f : Item) × (slice_get us q ≡ Some f) × (lacks c.0 c.1 (reverse us) f ≡ true))) (sym met)
        (subst (λ l. IsFirst (λ q. (f : Item) × (slice_get l q ≡ Some f) × (lacks c.0 c.1 (reverse us) f ≡ true)) (oldest_place (lacks c.0 c.1 (reverse us)) (reverse us))) (reverse-reverse us)
        (oldest_first (lacks c.0 c.1 (reverse us)) (reverse us)))

    missed_first : IsFirst (λ q. (f : Item) × (slice_get us q ≡ Some f) × (lacked_by f ≡ true)) (missed_place names all i)
    missed_first = first_turned
        (λ q. (c : CellKey × Option ℕ) × In c i.lasts × ((f : Item) × (slice_get us q ≡ Some f) × (lacks c.0 c.1 (reverse us) f ≡ true)))
        (λ q. (f : Item) × (slice_get us q ≡ Some f) × (lacked_by f ≡ true))
        (missed_place names all i)
        (λ q h. (h.2.0, h.2.1, any_in (λ (p : CellKey × Option ℕ). lacks p.0 p.1 (reverse us) h.2.0) i.lasts h.0 h.1 h.2.2))
        (λ q h. (let c = in_any (λ (p : CellKey × Option ℕ). lacks p.0 p.1 (reverse us) h.0) i.lasts h.2 in (c.0, c.1, (h.0, h.1, c.2))))
        (first_fold (λ (c : CellKey × Option ℕ) q. (f : Item) × (slice_get us q ≡ Some f) × (lacks c.0 c.1 (reverse us) f ≡ true)) (λ c. met_back (stays names) c.0 c.1 (reverse all)) i.lasts cell_first)

    -- what an item misses is the first that is lacking
    pub missed_named : name_there all (missed_place names all i) ≡ first_item lacked_by us
    missed_named = ap (λ l. name_there l (missed_place names all i)) is ∙ first_named lacked_by us (i ∷ later) (missed_place names all i) missed_first

met_within : (passes : Item → Bool) (k : CellKey) (o : Option ℕ) (es : List Item) (p : ℕ) → met_back passes k o es ≡ Some p → p < length es
met_within passes k o [] p h = cc
met_within passes k o (a ∷ es) p h = by (is_name o (number a)) (passes a) (met_back passes k (writer_of a k) es) refl h (met_within passes k (writer_of a k) es p) (met_within passes k o es p)
  where
    by : (b c : Bool) (x : Option ℕ) → met_back passes k (writer_of a k) es ≡ x → cond b (cond c None (option_or x (Some (length es)))) (met_back passes k o es) ≡ Some p
        → (met_back passes k (writer_of a k) es ≡ Some p → p < length es) → (met_back passes k o es ≡ Some p → p < length es) → p < length (a ∷ es)
    by true true x e g ih jh = cc
    by true false (Some n) e g ih jh = let lt = ih (e ∙ g) in omega (arith, lt)
    by true false None e g ih jh = let is : length es ≡ p = cc in omega (arith, is)
    by false c x e g ih jh = let lt = jh g in omega (arith, lt)

-- what an item misses stands among the items
pub missed_within : (names : List EventName) (all : List Item) (i : Item) (p : ℕ) → missed_place names all i ≡ Some p → p < length all
missed_within names all i p h = elim (fold_right (map (λ (c : CellKey × Option ℕ). met_back (stays names) c.0 c.1 (reverse all)) i.lasts) None p h) [
  | inl nothing ↦ absurd (let e : None ≡ Some p = nothing in cc)
  | inr some ↦ (
      let c = in_any (λ (c : CellKey × Option ℕ). is_name (met_back (stays names) c.0 c.1 (reverse all)) p) i.lasts
      (sym (any-map (λ (c : CellKey × Option ℕ). met_back (stays names) c.0 c.1 (reverse all)) (λ o. is_name o p) i.lasts) ∙ some) in
      let lt = met_within (stays names) c.0.0 c.0.1 (reverse all) p (named_is _ p c.2) in
      let many = length-reverse all in
      omega (arith, lt, many))
]

-- ---- one step on the way back

module _ (places : Places) (all : List Item) (are : ArePlaces places (names_of all)) where
  item_at : (p : ℕ) (e : EventName) → place_of places e ≡ Some p → (i : Item) × ((slice_get all p ≡ Some i) × (i.event.name ≡ e))
  item_at p e there = by (slice_get all p) refl
    where
      named : (o : Option Item) → slice_get all p ≡ o → option_map (λ (j : Item). j.event.name) o ≡ Some e
      named o at = sym (slice_get-map (λ (j : Item). j.event.name) all p ∙ ap (option_map (λ (j : Item). j.event.name)) at) ∙ (are e).right p there

      by : (o : Option Item) → slice_get all p ≡ o → (i : Item) × ((slice_get all p ≡ Some i) × (i.event.name ≡ e))
      by None at = absurd (let none : None ≡ Some e = named None at in cc)
      by (Some i) at = (i, (at, (let same : Some i.event.name ≡ Some e = named (Some i) at in cc)))

  -- who is absent stands somewhere, and does not stay
  absent_is : (names : List EventName) (w : Option EventName) (q : ℕ) → absent_place places names all w ≡ Some q → (i : Item) × (slice_get all q ≡ Some i) × (stays names i ≡ false)
  absent_is names None q there = cc
  absent_is names (Some e) q there =
      let kept = kept_right (λ r. not (passes_at (stays names) all r)) (place_of places e) q there in
      let i = item_at q e kept.0 in
      (i.0, i.1.0, not_so (stays names i.0) (sym (ap (λ o. not (option_map_or (stays names) o false)) i.1.0) ∙ kept.1))

module _ (places : Places) (all : List Item) (are : ArePlaces places (names_of all)) (f : Follows all) (names : List EventName) (k : CellKey) where
  abbrev met_from : Option ℕ → Option ℕ
  met_from o = met_back (stays names) k o (reverse all)

  numbered : (q : ℕ) (a : Item) → slice_get all q ≡ Some a → slice_get (map number all) q ≡ Some (number a)
  numbered q a at = slice_get-map number all q ∙ ap (option_map number) at

  module _ (p : ℕ) (i : Item) (at : slice_get all p ≡ Some i) where
    abbrev parts : (us : List Item) × (vs : List Item) × (all ≡ us ++ i ∷ vs) × (length us ≡ p)
    parts = split_at all p i at

    abbrev front : List Item
    front = parts.0

    abbrev rest : List Item
    rest = parts.1

    turned_there : reverse all ≡ reverse rest ++ i ∷ reverse front
    turned_there = ap reverse parts.2 ∙ reverse-append front (i ∷ rest) ∙ ap (λ l. l ++ reverse front) (reverse-append (i ∷ []) rest) ∙ append_assoc (reverse rest) (i ∷ []) (reverse front)

    -- what stands at the place, or behind it
    behind : (r : ℕ) (a : Item) → slice_get (i ∷ rest) r ≡ Some a → slice_get all (p + r) ≡ Some a
    behind r a there =
        let at_us = parts.3 in
        let e : p + r ≡ length front + r = omega (arith, at_us) in
        ap (slice_get all) e ∙ ap (λ l. slice_get l (length front + r)) parts.2 ∙ behind_there front (i ∷ rest) r ∙ there

    unlike : AllByRecursion (λ a. (number i == number a) ≡ false) rest
    unlike = all_places _ rest (λ r a there. ne_eqb (number i) (number a) (λ is.
        (let one = one_place (map number all) f.apart p (p + suc r) (number a) (numbered p i at ∙ ap Some is) (numbered (p + suc r) a (behind (suc r) a there)) in
        omega (arith, one))))

    -- the way back from who stands there
    from_there : met_from (Some (number i)) ≡ cond (stays names i) None (option_or (met_back (stays names) k (writer_of i k) (reverse front)) (Some p))
    from_there =
        let many = length-reverse front in
        let at_us = parts.3 in
        let long : length (reverse front) ≡ p = omega (arith, many, at_us) in
        ap (met_back (stays names) k (Some (number i))) turned_there
        ∙ met_past (stays names) k (Some (number i)) (reverse rest) (i ∷ reverse front) (all_reversed _ rest unlike)
        ∙ ap (λ b. cond b (cond (stays names i) None (option_or (met_back (stays names) k (writer_of i k) (reverse front)) (Some (length (reverse front))))) (met_back (stays names) k (Some (number i)) (reverse front))) (eq-eqb (number i) (number i) refl)
        ∙ ap (λ n. cond (stays names i) None (option_or (met_back (stays names) k (writer_of i k) (reverse front)) (Some n))) long

    writer_older : AllByRecursion (λ a. is_name (writer_of i k) (number a) ≡ false) (i ∷ rest)
    writer_older = all_places _ (i ∷ rest) (λ r a there. false_by _ (λ named.
        (let q = f.older k p i (number a) at (named_is (writer_of i k) (number a) named) in
        let one = one_place (map number all) f.apart q.0 (p + r) (number a) q.2 (numbered (p + r) a (behind r a there)) in
        let lt = q.1 in
        absurd (omega (arith, one, lt)))))

    -- is the way back from the writer before, and it is met itself
    from_writer : stays names i ≡ false → met_from (Some (number i)) ≡ option_or (met_from (writer_of i k)) (Some p)
    from_writer out =
        from_there
        ∙ ap (λ b. cond b None (option_or (met_back (stays names) k (writer_of i k) (reverse front)) (Some p))) out
        ∙ ap (λ o. option_or o (Some p))
        (sym (ap (met_back (stays names) k (writer_of i k)) (ap reverse parts.2 ∙ reverse-append front (i ∷ rest)) ∙ met_past (stays names) k (writer_of i k) (reverse (i ∷ rest)) (reverse front) (all_reversed _ (i ∷ rest) writer_older)))

    from_staying : stays names i ≡ true → met_from (Some (number i)) ≡ None
    from_staying fine = from_there ∙ ap (λ b. cond b None (option_or (met_back (stays names) k (writer_of i k) (reverse front)) (Some p))) fine

    writer_falls : (w : Option EventName) → number_of w ≡ writer_of i k → (q : ℕ) → absent_place places names all w ≡ Some q → q < p
    writer_falls None is q there = cc
    writer_falls (Some e) is q there =
        let kept = kept_right (λ r. not (passes_at (stays names) all r)) (place_of places e) q there in
        let old = f.older k p i e.0 at (sym is) in
        let here = item_at places all are q e kept.0 in
        let one = one_place (map number all) f.apart old.0 q e.0 old.2 (numbered q here.0 here.1.0 ∙ ap (λ (n : EventName). Some n.0) here.1.1) in
        let lt = old.1 in
        omega (arith, one, lt)

  -- from a writer the same is met as from where it stands, if it is absent
  from_absent : (w : Option EventName) → met_from (named_place all (absent_place places names all w)) ≡ met_from (number_of w)
  from_absent None = refl
  from_absent (Some e) = by (place_of places e) refl
    where
      unnamed : place_of places e ≡ None → AllByRecursion (λ a. (e.0 == number a) ≡ false) all
      unnamed none = all_places _ all (λ q a there. ne_eqb e.0 (number a) (λ is.
          (let one : a.event.name ≡ e = λ t. record { 0 = sym is t } in
          absurd (true≢false (sym ((are e).all q (slice_get-map (λ (j : Item). j.event.name) all q ∙ ap (option_map (λ (j : Item). j.event.name)) there ∙ ap Some one)) ∙ ap is_some none)))))

      by : (o : Option ℕ) → place_of places e ≡ o → met_from (named_place all (kept_if (λ r. not (passes_at (stays names) all r)) (place_of places e))) ≡ met_from (Some e.0)
      by None none =
          ap (λ o. met_from (named_place all (kept_if (λ r. not (passes_at (stays names) all r)) o))) none ∙ met_nobody (stays names) k (reverse all)
          ∙ sym (met_apart (stays names) k (Some e.0) (reverse all) (all_reversed _ all (unnamed none)))
      by (Some p) there = ap (λ o. met_from (named_place all (kept_if (λ r. not (passes_at (stays names) all r)) o))) there ∙ choose (item_at places all are p e there)
        where
          choose : (i : Item) × ((slice_get all p ≡ Some i) × (i.event.name ≡ e)) → met_from (named_place all (cond (not (passes_at (stays names) all p)) (Some p) None)) ≡ met_from (Some e.0)
          choose (i, (at, one)) = stay (stays names i) refl
            where
              stay : (b : Bool) → stays names i ≡ b → met_from (named_place all (cond (not (passes_at (stays names) all p)) (Some p) None)) ≡ met_from (Some e.0)
              stay true fine =
                  ap (λ c. met_from (named_place all (cond (not c) (Some p) None))) (ap (λ o. option_map_or (stays names) o false) at ∙ fine)
                  ∙ met_nobody (stays names) k (reverse all)
                  ∙ sym (ap (λ (n : EventName). met_from (Some n.0)) (sym one) ∙ from_staying p i at fine)
              stay false out =
                  ap (λ c. met_from (named_place all (cond (not c) (Some p) None))) (ap (λ o. option_map_or (stays names) o false) at ∙ out)
                  ∙ ap (λ o. met_from (option_map number o)) at ∙ ap (λ (n : EventName). met_from (Some n.0)) one

met_set : (x y : Option ℕ) → IsProp (x ≡ y)
met_set = hlevel props

-- what the loop keeps: what is met so far, and from here on, is what is wanted; who stands here is absent
pub record Going (names : List EventName) (all : List Item) (k : CellKey) (place oldest wanted : Option ℕ) : Type 0 where
  pub met : option_or (met_back (stays names) k (named_place all place) (reverse all)) oldest ≡ wanted
  pub absent : (p : ℕ) → place ≡ Some p → ∥ ((i : Item) × (slice_get all p ≡ Some i) × (stays names i ≡ false)) ∥₁

module _ (places : Places) (all : List Item) (names : List EventName) (k : CellKey) (placed : ∥ ArePlaces places (names_of all) ∥₁) (journal : IsJournal all) where
  -- both at once
  known : {P : Type 0} → IsProp P → (ArePlaces places (names_of all) → Follows all → P) → P
  known prop f = ∥∥₁_elim placed prop (λ are. ∥∥₁_elim journal prop (λ j. f are (follows DoesNoted noted_laws j.3)))

  or_nothing : (x : Option ℕ) → option_or x None ≡ x
  or_nothing None = refl
  or_nothing (Some n) = refl

  absent_known : (w : Option EventName) (q : ℕ) → absent_place places names all w ≡ Some q → ∥ ((i : Item) × (slice_get all q ≡ Some i) × (stays names i ≡ false)) ∥₁
  absent_known w q there = ∥∥₁_map placed (λ are. absent_is places all are names w q there)

  pub going_in : (w : Option EventName) → Going names all k (absent_place places names all w) None (met_back (stays names) k (number_of w) (reverse all))
  going_in w = record {
    met = or_nothing _ ∙ known (met_set _ _) (λ are f. from_absent places all are f names k w);
    absent = absent_known w;
  }

  pub going_on : (here : ℕ) (w : Option EventName) (place oldest wanted : Option ℕ) → place ≡ Some here → ((i : Item) → slice_get all here ≡ Some i → number_of w ≡ writer_of i k) → Going names all k place oldest wanted
      → Going names all k (absent_place places names all w) (Some here) wanted
  going_on here w place oldest wanted is writer g = record {
    met = known (met_set _ _) (λ are f. ∥∥₁_elim (g.absent here is) (met_set _ _) (λ (i, at, out).
        ap (λ o. option_or o (Some here)) (from_absent places all are f names k w ∙ ap (λ o. met_back (stays names) k o (reverse all)) (writer i at))
        ∙ sym (settled (met_back (stays names) k (writer_of i k) (reverse all)) oldest)
        ∙ ap (λ o. option_or o oldest) (sym (ap (λ o. met_back (stays names) k (named_place all o) (reverse all)) is ∙ ap (λ o. met_back (stays names) k (option_map number o) (reverse all)) at ∙ from_writer places all are f names k here i at out))
        ∙ g.met));
    absent = absent_known w;
  }
    where
      settled : (x o : Option ℕ) → option_or (option_or x (Some here)) o ≡ option_or x (Some here)
      settled None o = refl
      settled (Some n) o = refl

  pub goes_down : (here : ℕ) (w : Option EventName) (place oldest wanted : Option ℕ) → place ≡ Some here → ((i : Item) → slice_get all here ≡ Some i → number_of w ≡ writer_of i k) → Going names all k place oldest wanted
      → (q : ℕ) → absent_place places names all w ≡ Some q → q < here
  goes_down here w place oldest wanted is writer g q there = ltb-true q here (known (Bool-set _ _) (λ are f. ∥∥₁_elim (g.absent here is) (Bool-set _ _) (λ (i, at, out).
      lt-ltb q here (writer_falls places all are f names k here i at w (writer i at) q there))))

pub gone : (names : List EventName) (all : List Item) (k : CellKey) (place oldest wanted : Option ℕ) → place ≡ None → Going names all k place oldest wanted → oldest ≡ wanted
gone names all k place oldest wanted is g = sym (ap (λ o. option_or (met_back (stays names) k (named_place all o) (reverse all)) oldest) is ∙ ap (λ o. option_or o oldest) (met_nobody (stays names) k (reverse all))) ∙ g.met

pub going_within : (names : List EventName) (all : List Item) (k : CellKey) (place oldest wanted : Option ℕ) (here : ℕ) → place ≡ Some here → Going names all k place oldest wanted → here < length all
going_within names all k place oldest wanted here is g = ltb-true here (length all) (∥∥₁_elim (g.absent here is) (Bool-set _ _) (λ (i, at, out). lt-ltb here (length all) (slice_get_within all here i at)))

-- what is settled stays
pub going_open : (names : List EventName) (ss : List Settled) (ys : List Item) (k : CellKey) (place oldest wanted : Option ℕ) (here : ℕ) → place ≡ Some here → Going names (map settled_item ss ++ ys) k place oldest wanted
    → (j : Item) → slice_get (map settled_item ss) here ≡ Some j → wrote_cell j k ≡ true
going_open names ss ys k place oldest wanted here is g j at = ∥∥₁_elim (g.absent here is) (Bool-set _ _) (λ (i, there, out).
    (let both_are : Some j ≡ Some i = sym (before_there (map settled_item ss) ys here j at) ∙ there in
    let one : j ≡ i = cc in
    absurd (true≢false (sym (or_left j.live (is_of names j) (all_place _ (map settled_item ss) (settled_live ss) here j at)) ∙ ap (stays names) one ∙ out))))

-- ---- the first missing cause

module _ (places : Places) (ss : List Settled) (xs : List code.Entry) (names : List EventName) (are : ArePlaces places (names_of (items_in ss xs))) (apart : Apart (map number (items_in ss xs))) (tells : Tells (lines_of (items_in ss xs)))
    (none : AllByRecursion (λ i. is_of names i ≡ false) (map settled_item ss)) where
  abbrev items : List Item
  items = items_in ss xs

  abbrev opens : List Item
  opens = map item_of xs

  abbrev entries : List (Entry plain)
  entries = entries_in (lines_of items)

  abbrev answer : ℕ → Option Gap
  answer = missing_at names opens (length ss) items

  abbrev stay : Entry plain → Bool
  stay = both (live_set plain) (among names)

  abbrev lacking_along : List Item → Item → Option Gap
  lacking_along us i = cond (is_of names i) (option_map (gap i.event.name) (first_item (λ f. list_any (λ (c : CellKey × Option ℕ). lacks names items c.0 c.1 (reverse us) f) i.lasts) us)) None

  answer_is : (us : List Item) (i : Item) (later : List Item) → items ≡ us ++ i ∷ later → lacking_along us i ≡ cond (is_of names i) (answer (length us)) None
  answer_is us i later is = cond_same (is_of names i) _ _ None (λ member.
      (let at = here names items tells us i later is in
      sym (ap (option_and_then (λ j. option_map (gap j.event.name) (name_there items (missed_place names items j)))) (open_behind ss xs (length us) (member_behind ss xs names none (length us) i at member) ∙ at)
      ∙ ap (option_map (gap i.event.name)) (missed_named names items tells us i later is))))

  abbrev lacked_pair : Option (ℕ × ℕ)
  lacked_pair = first_pair plain (λ e es. cond (among names e) (lacked plain stay e es) None) entries

  -- by the law
  pairs_same : first_pair plain (λ e es. cond (stay e) (missing plain stay e es) None) entries ≡ lacked_pair
  pairs_same = first_missing plain plain_laws stay (live_set plain) (among names) (λ a. one_of a.live (among names a)) (λ a. or_right a.live (among names a)) (λ a q. or_left a.live (among names a) q)
      entries tells.lines_are.distinct tells.lines_are.ordered tells.lines_are.own tells.chained tells.lines_are.sound

  law_pair : first_missing_cause names (lines_of items) ≡ option_map pair_gap lacked_pair
  law_pair =
      missing_walked names items tells
      ∙ sym (first_pairs items stay (λ e es f. caused plain e f && not (stay f)))
      ∙ ap (option_map pair_gap) pairs_same

  -- THE FIRST MISSING CAUSE, by places
  by_place : option_and_then answer (least_place places (λ p. is_some (answer p)) names) ≡ first_missing_cause names (lines_of items)
  by_place =
      least_answer names answer places items are apart
      ∙ sym (along_at lacking_along (is_of names) answer items answer_is [] items refl)
      ∙ sym (first_pairs items (among names) (λ e es f. list_any (λ (c : CellKey × Option ℕ). is_in (lacking plain stay c.0 c.1 es) (name_of plain f)) e.lasts))
      ∙ sym law_pair

gaps_set : (x y : Option Gap) → IsProp (x ≡ y)
gaps_set = hlevel props

pub missing_found : (places : Places) (ss : List Settled) (xs : List code.Entry) (names : List EventName) → ∥ ArePlaces places (names_of (items_in ss xs)) ∥₁ → IsJournal (items_in ss xs) → AllByRecursion (λ i. is_of names i ≡ false) (map settled_item ss)
    → option_and_then (missing_at names (map item_of xs) (length ss) (items_in ss xs)) (least_place places (λ p. is_some (missing_at names (map item_of xs) (length ss) (items_in ss xs) p)) names) ≡ first_missing_cause names (lines_of (items_in ss xs))
missing_found places ss xs names placed journal none =
    ∥∥₁_elim placed (gaps_set _ _) (λ are. ∥∥₁_elim (apart_items (items_in ss xs) journal) (gaps_set _ _) (λ apart.
    by_place places ss xs names are apart (journal_tells (items_in ss xs) journal) none))

-- where no cause is missing, all last writers of the set are there
pub none_misses : (names : List EventName) (all : List Item) → Tells (lines_of all) → first_missing_cause names (lines_of all) ≡ None → MissesNone plain (both (live_set plain) (among names)) (among names) (entries_in (lines_of all))
none_misses names all tells whole =
    let stay : Entry plain → Bool = both (live_set plain) (among names) in
    let es = entries_in (lines_of all) in
    none_lacked plain plain_laws stay (live_set plain) (among names) (λ a. one_of a.live (among names a)) (λ a. or_right a.live (among names a)) (λ a q. or_left a.live (among names a) q) es
    tells.lines_are.distinct tells.chained
    (sym (first_missing plain plain_laws stay (live_set plain) (among names) (λ a. one_of a.live (among names a)) (λ a. or_right a.live (among names a)) (λ a q. or_left a.live (among names a) q)
    es tells.lines_are.distinct tells.lines_are.ordered tells.lines_are.own tells.chained tells.lines_are.sound)
    ∙ not_mapped pair_gap _ (first_pairs all stay (λ e es f. caused plain e f && not (stay f)) ∙ sym (missing_walked names all tells) ∙ whole))
