-- The first answer of those that pass a test is found by places.
use Rattle.std.proofs.Common.{◌≡◌, ◌∙◌, ℕ, zero, suc, ◌+◌, ◌≤◌, Bool, true, false, cond, ◌&&◌, List, [], ◌∷◌, ◌++◌, append_assoc, Option, Some, None, is_some, length, map, slice_get, refl, sym, ap, ap₂, arith, true≢false}
use Rattle.std.specs.Option.{option_and_then, option_or}
use Rattle.std.proofs.lemmas.List.{length-append}
use Rattle.ids.specs.declared.names.EventName.{EventName}
use Rattle.journal_links.specs.Places.{ArePlaces}
use Rattle.journal_links.specs.declared.places.Places.{Places}
use Rattle.journal.specs.Items.{Item}
use Rattle.journal.specs.Links.{names_of}
use Rattle.causality.specs.Placed.{least_place}
use Rattle.causality.specs.Walks.{is_of, first_along}
use Rattle.causality.proofs.FirstPlace.{IsFirst, false_by, members_first}
use Rattle.causality.proofs.Following.{number, Apart}

-- the first answer at the places of items that pass a test, counted from n
abbrev pub first_at : {B : Type 0} → (Item → Bool) → (ℕ → Option B) → ℕ → List Item → Option B
first_at who answer n [] = None
first_at who answer n (i ∷ items) = option_or (cond (who i) (answer n) None) (first_at who answer (n + 1) items)

module _ {B : Type 0} (who : Item → Bool) (answer : ℕ → Option B) where
  passed : (b : Bool) (o : Option B) → (b && is_some o) ≡ false → cond b o None ≡ None
  passed true None h = refl
  passed true (Some x) h = absurd (true≢false h)
  passed false o h = refl

  answers_none : (n : ℕ) (xs : List Item) → ((q : ℕ) (i : Item) → slice_get xs q ≡ Some i → (who i && is_some (answer (n + q))) ≡ false) → first_at who answer n xs ≡ None
  answers_none n [] h = refl
  answers_none n (i ∷ xs) h =
      ap₂ option_or (passed (who i) (answer n) ((let e : n ≡ n + 0 = omega arith in ap (λ k. who i && is_some (answer k)) e) ∙ h 0 i refl))
      (answers_none (n + 1) xs (λ q j at. (let e : (n + 1) + q ≡ n + suc q = omega arith in ap (λ k. who j && is_some (answer k)) e ∙ h (suc q) j at)))

  answers_found : (n : ℕ) (xs : List Item) (r : ℕ) (i : Item) → slice_get xs r ≡ Some i → (who i && is_some (answer (n + r))) ≡ true
      → ((q : ℕ) (j : Item) → slice_get xs q ≡ Some j → (who j && is_some (answer (n + q))) ≡ true → r ≤ q) → first_at who answer n xs ≡ answer (n + r)
  answers_found n [] r i at h least = cc
  answers_found n (x ∷ xs) zero i at h least =
      let is : x ≡ i = cc in
      let e : n + 0 ≡ n = omega arith in
      found (who x) (answer n) (ap (λ y. who y && is_some (answer n)) is ∙ ap (λ k. who i && is_some (answer k)) (sym e) ∙ h) (first_at who answer (n + 1) xs) ∙ ap answer (sym e)
    where
      found : (b : Bool) (o : Option B) → (b && is_some o) ≡ true → (rest : Option B) → option_or (cond b o None) rest ≡ o
      found true None h rest = absurd (true≢false (sym h))
      found true (Some y) h rest = refl
      found false o h rest = absurd (true≢false (sym h))
  answers_found n (x ∷ xs) (suc r) i at h least =
      ap (λ o. option_or o (first_at who answer (n + 1) xs)) (passed (who x) (answer n) (not_here (who x && is_some (answer n)) refl))
      ∙ answers_found (n + 1) xs r i at (ap (λ k. who i && is_some (answer k)) (on r) ∙ h) (λ q j there g. (let le = least (suc q) j there (ap (λ k. who j && is_some (answer k)) (sym (on q)) ∙ g) in omega (arith, le)))
      ∙ ap answer (on r)
    where
      on : (q : ℕ) → (n + 1) + q ≡ n + suc q
      on q = omega arith

      not_here : (b : Bool) → (who x && is_some (answer n)) ≡ b → (who x && is_some (answer n)) ≡ false
      not_here false e = e
      not_here true e = absurd (let le = least 0 x refl (let f : n + 0 ≡ n = omega arith in ap (λ k. who x && is_some (answer k)) f ∙ e) in omega (arith, le))

  -- THE LEMMA: the answer at the first place where there is one
  pub answer_first : (items : List Item) (m : Option ℕ) → IsFirst (λ q. (i : Item) × (slice_get items q ≡ Some i) × ((who i && is_some (answer q)) ≡ true)) m → option_and_then answer m ≡ first_at who answer 0 items
  answer_first items None h = sym (answers_none 0 items (λ q i at. false_by _ (λ fine.
      (let e : 0 + q ≡ q = omega arith in
      let p = h.below q (i, at, ap (λ k. who i && is_some (answer k)) (sym e) ∙ fine) in
      let none : None ≡ Some p.0 = p.1.0 in cc))))
  answer_first items (Some p) h =
      let it = h.right p refl in
      let e : 0 + p ≡ p = omega arith in
      ap answer (sym e)
      ∙ sym (answers_found 0 items p it.0 it.1 (ap (λ k. who it.0 && is_some (answer k)) e ∙ it.2) (λ q j at fine.
      (let f : q ≡ 0 + q = omega arith in
      let r = h.below q (j, at, ap (λ k. who j && is_some (answer k)) f ∙ fine) in
      let same : Some p ≡ Some r.0 = r.1.0 in
      let one : p ≡ r.0 = cc in
      let le = r.1.1 in
      omega (arith, one, le))))

-- so it is the answer at the least place of a set
pub least_answer : {B : Type 0} (names : List EventName) (answer : ℕ → Option B) (places : Places) (items : List Item) → ArePlaces places (names_of items) → Apart (map number items)
    → option_and_then answer (least_place places (λ p. is_some (answer p)) names) ≡ first_at (is_of names) answer 0 items
least_answer names answer places items are apart = answer_first (is_of names) answer items _ (members_first names (λ p. is_some (answer p)) places items are apart)

-- what is answered item by item, by those before it, is answered place by place
pub along_at : {B : Type 0} (one : List Item → Item → Option B) (who : Item → Bool) (answer : ℕ → Option B) (all : List Item)
    → ((us : List Item) (i : Item) (later : List Item) → all ≡ us ++ i ∷ later → one us i ≡ cond (who i) (answer (length us)) None)
    → (us rest : List Item) → all ≡ us ++ rest → first_along one us rest ≡ first_at who answer (length us) rest
along_at one who answer all same us [] is = refl
along_at one who answer all same us (i ∷ rest) is =
    let both = length-append us (i ∷ []) in
    let on : length (us ++ i ∷ []) ≡ length us + 1 = omega (arith, both) in
    ap₂ option_or (same us i rest is)
    (along_at one who answer all same (us ++ i ∷ []) rest (is ∙ sym (append_assoc us (i ∷ []) rest)) ∙ ap (λ n. first_at who answer n rest) on)
