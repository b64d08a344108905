-- The first gap of a set is found by the places of its members and of those that follow them.
use Rattle.std.proofs.Common.{◌≡◌, ◌∙◌, ℕ, suc, ◌+◌, ◌-◌, ◌<◌, ◌≤◌, Bool, true, false, cond, ◌&&◌, List, [], ◌∷◌, ◌++◌, append_assoc, Option, Some, None, is_some, option_map, length, map, slice_get, refl, sym, ap, ap₂, arith, true≢false, nat_lt, ltb-true, lt-ltb}
use Rattle.std.specs.Prelude.{not}
use Rattle.std.specs.List.{AllByRecursion}
use Rattle.std.specs.Option.{option_map_or, option_and_then, option_or}
use Rattle.std.proofs.lemmas.Bool.{ltb-false, and_parts}
use Rattle.std.proofs.lemmas.List.{length-map, length-append}
use Rattle.ids.specs.declared.names.EventName.{EventName}
use Rattle.journal_links.specs.Places.{ArePlaces}
use Rattle.journal_links.specs.declared.places.Places.{Places}
use Rattle.journal.specs.Items.{Item, item_of}
use Rattle.journal.specs.Journals.{settled_item}
use Rattle.journal.specs.SettledView.{items_in}
use Rattle.journal.specs.Lines.{line_of, lines_of}
use Rattle.journal.specs.declared.entry.Mark.TheVariants as mark
use Rattle.std.proofs.Props.{props}
use Rattle.std.proofs.Math.Logic.{∥∥₁_elim}
use Rattle.history.proofs.Lists.{all_map}
use Rattle.journal.specs.Links.{names_of, open_at}
use Rattle.journal.specs.declared.entry.Entry as code
use Rattle.journal.specs.declared.settled.Settled.{Settled}
use Rattle.causality.specs.Names.{wrote_last}
use Rattle.causality.specs.Parting.{parts_from, parts_at, parting, gap_at}
use Rattle.causality.specs.Placed.{least_place}
use Rattle.causality.specs.Journals.{IsJournal}
use Rattle.causality.specs.Selections.{name_of, is_live, chosen, numbers, gap, first_marked, first_gap}
use Rattle.causality.specs.Walks.{is_of, first_item, follower, first_followed}
use Rattle.causality.specs.declared.selection.Gap.{Gap}
use Rattle.causality.proofs.Collecting.{all_places, some_there, before_there, behind_there}
use Rattle.causality.proofs.Firsts.{cond_same, none_each}
use Rattle.causality.proofs.Following.{number, Apart, all_place}
use Rattle.causality.proofs.Gaps.{live_at, gap_walked}
use Rattle.causality.proofs.Gathering.{open_behind}
use Rattle.causality.proofs.Pairs.{all_unmapped}
use Rattle.causality.proofs.FirstOutside.{listed_first}
use Rattle.causality.proofs.LeastAnswer.{first_at, least_answer}
use Rattle.causality.proofs.Placed.{first_good, least_first, apart_items}
use Rattle.causality.proofs.Telling.{Tells, journal_tells}

-- ---- the first of a set at a good place

module _ (names : List EventName) (good : ℕ → Bool) where
  good_item : (test : Item → Bool) (n : ℕ) (ys : List Item) → ((q : ℕ) (j : Item) → slice_get ys q ≡ Some j → good (n + q) ≡ test j) → first_good names good n ys ≡ first_item (λ j. is_of names j && test j) ys
  good_item test n [] h = refl
  good_item test n (j ∷ js) h =
      ap₂ (λ b o. option_or (cond (is_of names j && b) (Some j.event.name) None) o) (here ∙ h 0 j refl)
      (good_item test (n + 1) js (λ q k at. on q ∙ h (suc q) k at))
    where
      here : good n ≡ good (n + 0)
      here = let e : n ≡ n + 0 = omega arith in ap good e

      on : (q : ℕ) → good ((n + 1) + q) ≡ good (n + suc q)
      on q = let e : (n + 1) + q ≡ n + suc q = omega arith in ap good e

  good_skip : (n : ℕ) (us ys : List Item) → ((q : ℕ) → q < n + length us → good q ≡ false) → first_good names good n (us ++ ys) ≡ first_good names good (n + length us) ys
  good_skip n [] ys h = let e : n ≡ n + 0 = omega arith in ap (λ k. first_good names good k ys) e
  good_skip n (u ∷ us) ys h =
      let e : (n + 1) + length us ≡ n + length (u ∷ us) = omega arith in
      ap (λ b. option_or (cond b (Some u.event.name) None) (first_good names good (n + 1) (us ++ ys))) (ap (λ b. is_of names u && b) (h n (omega arith)) ∙ never (is_of names u))
      ∙ good_skip (n + 1) us ys (λ q lt. h q (omega (arith, lt)))
      ∙ ap (λ k. first_good names good k ys) e
    where
      never : (b : Bool) → (b && false) ≡ false
      never true = refl
      never false = refl

false_by : (b : Bool) → (b ≡ true → ⊥) → b ≡ false
false_by true h = absurd (h refl)
false_by false h = refl

module _ (places : Places) (ss : List Settled) (xs : List code.Entry) (names listed : List EventName) (are : ArePlaces places (names_of (items_in ss xs))) (apart : Apart (map number (items_in ss xs))) (h : Tells (lines_of (items_in ss xs)))
    (all_listed : AllByRecursion (λ j. j.live ≡ true → is_of names j ≡ false → wrote_last (numbers names) j ≡ true → is_of listed j ≡ true) (map item_of xs)) where
  abbrev items : List Item
  items = items_in ss xs

  abbrev opens : List Item
  opens = map item_of xs

  part_before : (i : Item) (p q : ℕ) → q ≤ p → parts_at names opens (length ss) i p q ≡ false
  part_before i p q le = ap (λ b. b && option_map_or (parts_from names i) (open_at opens (length ss) (Some q)) false) (false_by (nat_lt p q) (λ e. (let lt = ltb-true p q e in omega (arith, lt, le))))

  part_behind : (i j : Item) (p q : ℕ) → length ss ≤ p → p < q → slice_get items q ≡ Some j → parts_at names opens (length ss) i p q ≡ parts_from names i j
  part_behind i j p q le lt at =
      ap₂ (λ b o. b && option_map_or (parts_from names i) o false) (lt-ltb p q lt) (open_behind ss xs q (omega (arith, le, lt)) ∙ at)

  one_more : (us : List Item) (i : Item) → length (us ++ i ∷ []) ≡ length us + 1
  one_more us i = let both = length-append us (i ∷ []) in omega (arith, both)

  -- THE FIRST that parts a member from the set, by places
  first_behind : (us : List Item) (i : Item) (later : List Item) → items ≡ us ++ i ∷ later → length ss ≤ length us → is_of names i ≡ true → i.live ≡ true
      → parting places listed names opens (length ss) items i (length us) ≡ follower names i later
  first_behind us i later is behind member alive =
      least_first listed (parts_at names opens (length ss) i (length us)) places items are apart
      ∙ ap (first_good listed (parts_at names opens (length ss) i (length us)) 0) split
      ∙ good_skip listed (parts_at names opens (length ss) i (length us)) 0 (us ++ i ∷ []) later (λ q lt. (let many = one_more us i in part_before i (length us) q (omega (arith, lt, many))))
      ∙ good_item listed (parts_at names opens (length ss) i (length us)) (parts_from names i) (0 + length (us ++ i ∷ [])) later
      (λ q j at. (let many = one_more us i in part_behind i j (length us) (0 + length (us ++ i ∷ []) + q) behind (omega (arith, many)) (there q j at)))
      ∙ listed_first names items h us i member alive (is_of listed) [] later is tt (all_places (λ j. parts_from names i j ≡ true → wrote_last (numbers names) j ≡ true → is_of listed j ≡ true) later in_list)
    where
      split : items ≡ (us ++ i ∷ []) ++ later
      split = is ∙ sym (append_assoc us (i ∷ []) later)

      there : (q : ℕ) (j : Item) → slice_get later q ≡ Some j → slice_get items (0 + length (us ++ i ∷ []) + q) ≡ Some j
      there q j at =
          let e : 0 + length (us ++ i ∷ []) + q ≡ length (us ++ i ∷ []) + q = omega arith in
          ap (slice_get items) e ∙ ap (λ l. slice_get l (length (us ++ i ∷ []) + q)) split ∙ behind_there (us ++ i ∷ []) later q ∙ at

      not_so : (b : Bool) → not b ≡ true → b ≡ false
      not_so true g = sym g
      not_so false g = refl

      in_list : (q : ℕ) (j : Item) → slice_get later q ≡ Some j → parts_from names i j ≡ true → wrote_last (numbers names) j ≡ true → is_of listed j ≡ true
      in_list q j at parts follows =
          let many = one_more us i in
          let count = length-map ss settled_item in
          let p = 0 + length (us ++ i ∷ []) + q in
          let back : length (map settled_item ss) + (p - length ss) ≡ p = omega (arith, behind, many, count) in
          let open_there : slice_get opens (p - length ss) ≡ Some j = sym (behind_there (map settled_item ss) opens (p - length ss)) ∙ ap (slice_get items) back ∙ there q j at in
          let both = and_parts j.live _ parts in
          all_place _ opens all_listed (p - length ss) j open_there both.0 (not_so (is_of names j) (and_parts (not (is_of names j)) _ both.1).0) follows

  -- the gap at a place
  abbrev answer : ℕ → Option Gap
  answer = gap_at places listed names opens (length ss) items

  answer_is : (us : List Item) (i : Item) (later : List Item) → items ≡ us ++ i ∷ later → length ss ≤ length us → answer (length us) ≡ option_map (gap i.event.name) (parting places listed names opens (length ss) items i (length us))
  answer_is us i later is behind =
      let here : slice_get items (length us) ≡ Some i = (let e : length us ≡ length us + 0 = omega arith in ap (slice_get items) e ∙ ap (λ l. slice_get l (length us + 0)) is ∙ behind_there us (i ∷ later) 0) in
      ap (option_and_then (λ j. option_map (gap j.event.name) (parting places listed names opens (length ss) items j (length us)))) (open_behind ss xs (length us) behind ∙ here)

  module _ (none : AllByRecursion (λ i. is_of names i ≡ false) (map settled_item ss)) (living : AllByRecursion (λ i. is_of names i ≡ true → i.live ≡ true) items) where
    not_settled : (us : List Item) (i : Item) (later : List Item) → items ≡ us ++ i ∷ later → is_of names i ≡ true → length ss ≤ length us
    not_settled us i later is member = by (nat_lt (length us) (length ss)) refl
      where
        here : slice_get items (length us) ≡ Some i
        here = let e : length us ≡ length us + 0 = omega arith in ap (slice_get items) e ∙ ap (λ l. slice_get l (length us + 0)) is ∙ behind_there us (i ∷ later) 0

        by : (b : Bool) → nat_lt (length us) (length ss) ≡ b → length ss ≤ length us
        by false e = ltb-false (length us) (length ss) e
        by true e =
            let lt = ltb-true (length us) (length ss) e in
            let many = length-map ss settled_item in
            let there = some_there (map settled_item ss) (length us) (omega (arith, lt, many)) in
            let both : Some there.0 ≡ Some i = sym (before_there (map settled_item ss) opens (length us) there.0 there.1) ∙ here in
            let one : there.0 ≡ i = cc in
            absurd (true≢false (sym (ap (is_of names) one ∙ member) ∙ all_place _ (map settled_item ss) none (length us) there.0 there.1))

    followed_from : (us rest : List Item) → items ≡ us ++ rest → AllByRecursion (λ i. is_of names i ≡ true → i.live ≡ true) rest → first_at (is_of names) answer (length us) rest ≡ first_followed names rest
    followed_from us [] is alive = refl
    followed_from us (i ∷ rest) is (l, ls) =
        ap₂ option_or
        (cond_same (is_of names i) (answer (length us)) (option_map (gap i.event.name) (follower names i rest)) None
        (λ member. (let behind = not_settled us i rest is member in answer_is us i rest is behind ∙ ap (option_map (gap i.event.name)) (first_behind us i rest is behind member (l member)))))
        (ap (λ n. first_at (is_of names) answer n rest) (sym (one_more us i)) ∙ followed_from (us ++ i ∷ []) rest (is ∙ sym (append_assoc us (i ∷ []) rest)) ls)

    -- THE FIRST GAP
    gap_by_place : option_and_then answer (least_place places (λ p. is_some (answer p)) names) ≡ first_followed names items
    gap_by_place = least_answer names answer places items are apart ∙ followed_from [] items refl living

gaps_set : (x y : Option Gap) → IsProp (x ≡ y)
gaps_set = hlevel props

members_live : (names : List EventName) (all : List Item) → first_marked mark.Undone names (lines_of all) ≡ None → AllByRecursion (λ i. is_of names i ≡ true → i.live ≡ true) all
members_live names all none =
    all_unmapped (line_of all) (λ l. chosen names l ≡ true → is_live l ≡ true) all (all_map _ _ (lines_of all) (λ l e. live_at (chosen names l) (is_live l) (name_of l) e) (none_each _ (lines_of all) none))

-- THE FIRST GAP of a set that is live, and not settled
pub gap_found : (places : Places) (ss : List Settled) (xs : List code.Entry) (names listed : List EventName) → ∥ ArePlaces places (names_of (items_in ss xs)) ∥₁ → IsJournal (items_in ss xs)
    → AllByRecursion (λ j. j.live ≡ true → is_of names j ≡ false → wrote_last (numbers names) j ≡ true → is_of listed j ≡ true) (map item_of xs) → AllByRecursion (λ i. is_of names i ≡ false) (map settled_item ss)
    → first_marked mark.Undone names (lines_of (items_in ss xs)) ≡ None
    → option_and_then (gap_at places listed names (map item_of xs) (length ss) (items_in ss xs)) (least_place places (λ p. is_some (gap_at places listed names (map item_of xs) (length ss) (items_in ss xs) p)) names) ≡ first_gap names (lines_of (items_in ss xs))
gap_found places ss xs names listed placed journal all_listed none live =
    let told = journal_tells (items_in ss xs) journal in
    ∥∥₁_elim placed (gaps_set _ _) (λ are. ∥∥₁_elim (apart_items (items_in ss xs) journal) (gaps_set _ _) (λ apart.
    gap_by_place places ss xs names listed are apart told all_listed none (members_live names (items_in ss xs) live)))
    ∙ sym (gap_walked names (items_in ss xs) told live)
