-- The first live event outside a set that came of a member follows a member.
use Rattle.std.proofs.Common.{◌≡◌, ◌∙◌, ℕ, Bool, true, false, cond, ◌&&◌, List, [], ◌∷◌, ◌++◌, append_assoc, Option, Some, None, is_some, map, reverse, inl, inr, ◌⊎◌, refl, sym, ap, ap₂, subst, true≢false, eq-eqb}
use Rattle.std.specs.Prelude.{not}
use Rattle.std.specs.List.{list_any, AllByRecursion}
use Rattle.std.proofs.lemmas.Bool.{or_left, or_right, and_parts, and_from}
use Rattle.std.specs.Option.{option_or}
use Rattle.std.proofs.lemmas.List.{reverse-append, map-append}
use Rattle.history.specs.Subject.{new, meets}
use Rattle.history.specs.Journal.{Entry, name_of, named, caused, live_set, Sound, HasCauses}
use Rattle.history.specs.Chains.{wrote, last_writer, is_name, HasCells, Traced, Chained}
use Rattle.history.proofs.Lists.{all_both, all_append, all_mapped, all_reversed, any_gives}
use Rattle.history.proofs.Writing.{one_writes}
use Rattle.ids.specs.declared.names.EventName.{EventName}
use Rattle.ids.specs.declared.cells.CellKey.{CellKey}
use Rattle.journal.specs.Items.{Item, wrote_one_of}
use Rattle.journal.specs.Lines.{plain, lines_of}
use Rattle.causality.specs.Names.{is_writer_in, wrote_last}
use Rattle.causality.specs.Parting.{parts_from}
use Rattle.causality.specs.Selections.{numbers}
use Rattle.causality.specs.Walks.{is_of, first_item}
use Rattle.causality.proofs.Facts.{entry_at, same_entries, cells_items, wrote_meets}
use Rattle.causality.proofs.Placed.{named_is}
use Rattle.causality.proofs.Telling.{Tells}
use Rattle.causality.proofs.Writers.{plain_laws, meets_any, live_causes}

some_wrote : (o : Option (Unit {0})) → is_some o ≡ true → o ≡ None → ⊥
some_wrote None h none = true≢false (sym h)
some_wrote (Some v) h none = cc

-- who writes a cell that another wrote meets it
meets_writers : (e a : Entry plain) (k : CellKey) → wrote plain k e ≡ true → wrote plain k a ≡ true → meets plain e.foot a.foot ≡ true
meets_writers e a k we wa = by (meets plain e.foot a.foot) refl
  where
    by : (b : Bool) → meets plain e.foot a.foot ≡ b → meets plain e.foot a.foot ≡ true
    by true h = h
    by false h = elim (one_writes plain plain_laws e.foot a.foot k h (new plain e.foot k) (new plain a.foot k) refl refl) [
      | inl none ↦ absurd (some_wrote _ we none)
      | inr none ↦ absurd (some_wrote _ wa none)
    ]

-- the newest writer of a cell is one that wrote it, or one behind it
newest : (k : CellKey) (t : Entry plain → Bool) (ahead : List (Entry plain)) (e : Entry plain) (bs : List (Entry plain)) (o : Option ℕ) → o ≡ last_writer plain k t (ahead ++ e ∷ bs) → t e ≡ true → wrote plain k e ≡ true
    → (o ≡ Some (name_of plain e)) ⊎ (list_any (λ a. (t a && wrote plain k a) && is_name o (name_of plain a)) ahead ≡ true)
newest k t [] e bs o is te we = inl (is ∙ ap (λ b. cond b (Some (name_of plain e)) (last_writer plain k t bs)) (and_from (t e) (wrote plain k e) te we))
newest k t (a ∷ ahead) e bs o is te we = by (t a && wrote plain k a) refl (λ h. newest k t ahead e bs o h te we)
  where
    named_so : o ≡ Some (name_of plain a) → is_name o (name_of plain a) ≡ true
    named_so h = ap (λ p. is_name p (name_of plain a)) h ∙ eq-eqb (name_of plain a) (name_of plain a) refl

    by : (b : Bool) → (t a && wrote plain k a) ≡ b → (o ≡ last_writer plain k t (ahead ++ e ∷ bs) → (o ≡ Some (name_of plain e)) ⊎ (list_any (λ c. (t c && wrote plain k c) && is_name o (name_of plain c)) ahead ≡ true))
        → (o ≡ Some (name_of plain e)) ⊎ (list_any (λ c. (t c && wrote plain k c) && is_name o (name_of plain c)) (a ∷ ahead) ≡ true)
    by true h rest = inr (or_left _ _ (and_from _ _ h (named_so (is ∙ ap (λ b. cond b (Some (name_of plain a)) (last_writer plain k t (ahead ++ e ∷ bs))) h))))
    by false h rest = elim (rest (is ∙ ap (λ b. cond b (Some (name_of plain a)) (last_writer plain k t (ahead ++ e ∷ bs))) h)) [
      | inl x ↦ inl x
      | inr y ↦ inr (or_right _ _ y)
    ]

amid : {A : Type 0} (P : A → Type 0) (ahead : List A) (e : A) (bs : List A) → AllByRecursion P (ahead ++ e ∷ bs) → AllByRecursion P ahead × P e
amid P [] e bs h = (tt, h.0)
amid P (a ∷ ahead) e bs h = let rest = amid P ahead e bs h.1 in ((h.0, rest.0), rest.1)

-- THE LEMMA: an entry has a member e as a cause; where all live ones between that meet e are members, it follows one
follows_member : (ns : List ℕ) (r e : Entry plain) (ahead bs : List (Entry plain)) → Traced plain r (ahead ++ e ∷ bs) → AllByRecursion (λ a. caused plain r a ≡ true → a.live ≡ true) ahead → caused plain r e ≡ true → named plain ns e ≡ true
    → AllByRecursion (λ a. a.live ≡ true → meets plain e.foot a.foot ≡ true → named plain ns a ≡ true) ahead → list_any (λ p. is_writer_in ns p.1) r.lasts ≡ true
follows_member ns r e ahead bs h live cause member between =
    any_gives _ (λ (p : CellKey × Option ℕ). wrote plain p.0 e) r.lasts (sym (meets_any e r h.cells) ∙ (amid _ ahead e bs h.met).1 cause)
    (found r.lasts h.lasts (λ test. λ g. g))
  where
    writer : (p : CellKey × Option ℕ) → p.1 ≡ last_writer plain p.0 (caused plain r) (ahead ++ e ∷ bs) → wrote plain p.0 e ≡ true → is_writer_in ns p.1 ≡ true
    writer p is we = elim (newest p.0 (caused plain r) ahead e bs p.1 is cause we) [
      | inl itself ↦ ap (is_writer_in ns) itself ∙ member
      | inr some ↦ any_gives _ (λ a. (caused plain r a && wrote plain p.0 a) && is_name p.1 (name_of plain a)) ahead some
          (all_both _ _ _ ahead (λ a alive among h. (
          let parts = and_parts _ (is_name p.1 (name_of plain a)) h in
          let did = and_parts (caused plain r a) (wrote plain p.0 a) parts.0 in
          ap (is_writer_in ns) (named_is p.1 (name_of plain a) parts.1) ∙ among (alive did.0) (meets_writers e a p.0 we did.1))) live between)
    ]

    found : (ps : List (CellKey × Option ℕ)) → AllByRecursion (λ p. p.1 ≡ last_writer plain p.0 (caused plain r) (ahead ++ e ∷ bs)) ps
        → ((test : CellKey × Option ℕ → Bool) → list_any test ps ≡ true → list_any test r.lasts ≡ true)
        → AllByRecursion (λ p. wrote plain p.0 e ≡ true → list_any (λ q. is_writer_in ns q.1) r.lasts ≡ true) ps
    found [] is sub = tt
    found (p ∷ ps) (is, more) sub = (
      λ we. sub (λ q. is_writer_in ns q.1) (or_left _ _ (writer p is we)),
      found ps more (λ test g. sub test (or_right (test p) _ g)),
    )

-- ---- the same of items

turned : (all us : List Item) (i : Item) (vs : List Item) → map (entry_at all) (reverse (us ++ i ∷ vs)) ≡ map (entry_at all) (reverse vs) ++ entry_at all i ∷ map (entry_at all) (reverse us)
turned all us i vs =
    ap (map (entry_at all)) (reverse-append us (i ∷ vs) ∙ ap (λ l. l ++ reverse us) (reverse-append (i ∷ []) vs) ∙ append_assoc (reverse vs) (i ∷ []) (reverse us))
    ∙ map-append (entry_at all) (reverse vs) (i ∷ reverse us)

-- an item is traced among those before it, and live ones have their causes
record Among (all before : List Item) (j : Item) : Type 0 where
  traced : Traced plain (entry_at all j) (map (entry_at all) (reverse before))
  causes : j.live ≡ true → HasCauses plain (live_set plain) (entry_at all j) (map (entry_at all) (reverse before))

among_all : (all before : List Item) (j : Item) (behind : List Item) → Tells (lines_of all) → all ≡ before ++ j ∷ behind → Among all before j
among_all all before j behind h is =
    let same = sym (same_entries all) ∙ ap (λ xs. map (entry_at all) (reverse xs)) is ∙ turned all before j behind in
    let older = map (entry_at all) (reverse before) in
    record {
      traced = traced_in (map (entry_at all) (reverse behind)) (entry_at all j) older (subst (Chained plain) same h.chained);
      causes = causes_in (map (entry_at all) (reverse behind)) (entry_at all j) older (subst (Sound plain (live_set plain)) same h.lines_are.sound);
    }
  where
    traced_in : (xs : List (Entry plain)) (e : Entry plain) (es : List (Entry plain)) → Chained plain (xs ++ e ∷ es) → Traced plain e es
    traced_in [] e es c = c.0
    traced_in (x ∷ xs) e es c = traced_in xs e es c.1

    causes_in : (xs : List (Entry plain)) (e : Entry plain) (es : List (Entry plain)) → Sound plain (live_set plain) (xs ++ e ∷ es) → e.live ≡ true → HasCauses plain (live_set plain) e es
    causes_in [] e es c = c.0
    causes_in (x ∷ xs) e es c = causes_in xs e es c.1

behind_all : {A : Type 0} (P : A → Type 0) (ahead : List A) (e : A) (bs : List A) → AllByRecursion P (ahead ++ e ∷ bs) → AllByRecursion P bs
behind_all P [] e bs h = h.1
behind_all P (a ∷ ahead) e bs h = behind_all P ahead e bs h.1

module _ (names : List EventName) (all : List Item) (h : Tells (lines_of all)) (us : List Item) (i : Item) (member : is_of names i ≡ true) (alive : i.live ≡ true) where
  abbrev pub parts : Item → Bool
  parts = parts_from names i

  -- the first that parts a member from the set follows one of it
  follows_one : (vs : List Item) (j : Item) (ws : List Item) → all ≡ us ++ i ∷ (vs ++ j ∷ ws) → AllByRecursion (λ v. parts v ≡ false) vs → parts j ≡ true → wrote_last (numbers names) j ≡ true
  follows_one vs j ws is none parting =
      let place : all ≡ (us ++ i ∷ vs) ++ j ∷ ws = is ∙ sym (append_assoc us (i ∷ vs) (j ∷ ws)) in
      let m = among_all all (us ++ i ∷ vs) j ws h place in
      let live = (and_parts j.live _ parting).0 in
      let met = (and_parts (not (is_of names j)) _ (and_parts j.live _ parting).1).1 in
      let split = subst (Traced plain (entry_at all j)) (turned all us i vs) m.traced in
      let causes = subst (HasCauses plain (live_set plain) (entry_at all j)) (turned all us i vs) (m.causes live) in
      let ahead = map (entry_at all) (reverse vs) in
      let bs = map (entry_at all) (reverse us) in
      let cause : caused plain (entry_at all j) (entry_at all i) ≡ true =
      (amid _ ahead (entry_at all i) bs causes).1 ∙ ap₂ (λ a b. a && b) alive (wrote_meets all i j split.cells ∙ met) in
      follows_member (numbers names) (entry_at all j) (entry_at all i) ahead bs split
      (amid _ ahead (entry_at all i) bs (live_causes (entry_at all j) (ahead ++ entry_at all i ∷ bs) causes)).0 cause member
      (all_mapped (entry_at all) _ (reverse vs) (all_reversed _ vs (all_both _ _ _ vs (λ v cells out up meets. inside v.live (is_of names v) (wrote_one_of i v) out up (sym (wrote_meets all i v cells) ∙ meets))
      (amid _ vs j ws (behind_all _ us i (vs ++ j ∷ ws) (subst (AllByRecursion (λ v. HasCells plain (entry_at all v).foot v.lasts)) is (cells_items all h)))).0 none)))
    where
      inside : (l c w : Bool) → (l && (not c && w)) ≡ false → l ≡ true → w ≡ true → c ≡ true
      inside true true w g p q = refl
      inside true false true g p q = cc
      inside true false false g p q = absurd (true≢false (sym q))
      inside false c w g p q = absurd (true≢false (sym p))

  -- so it is the first of those that are listed
  pub listed_first : (listed : Item → Bool) (vs later : List Item) → all ≡ us ++ i ∷ (vs ++ later) → AllByRecursion (λ v. parts v ≡ false) vs → AllByRecursion (λ j. parts j ≡ true → wrote_last (numbers names) j ≡ true → listed j ≡ true) later
      → first_item (λ j. listed j && parts j) later ≡ first_item parts later
  listed_first listed vs [] is none l = refl
  listed_first listed vs (j ∷ js) is none (l, ls) = by (parts j) refl (λ out. listed_first listed (vs ++ j ∷ []) js (is ∙ ap (λ ys. us ++ i ∷ ys) (sym (append_assoc vs (j ∷ []) js))) (all_append _ vs (j ∷ []) none (out, tt)) ls)
    where
      by : (b : Bool) → parts j ≡ b → (parts j ≡ false → first_item (λ j. listed j && parts j) js ≡ first_item parts js) → first_item (λ j. listed j && parts j) (j ∷ js) ≡ first_item parts (j ∷ js)
      by true e rest =
          ap (λ b. option_or (cond b (Some j.event.name) None) (first_item (λ j. listed j && parts j) js)) (and_from (listed j) (parts j) (l e (follows_one vs j js is none e)) e)
          ∙ sym (ap (λ b. option_or (cond b (Some j.event.name) None) (first_item parts js)) e)
      by false e rest =
          ap (λ b. option_or (cond b (Some j.event.name) None) (first_item (λ j. listed j && parts j) js)) (ap (λ b. listed j && b) e ∙ never (listed j))
          ∙ rest e ∙ sym (ap (λ b. option_or (cond b (Some j.event.name) None) (first_item parts js)) e)
        where
          never : (b : Bool) → (b && false) ≡ false
          never true = refl
          never false = refl
