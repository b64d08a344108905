-- What the lines of a journal tell.
use Rattle.std.proofs.Common.{◌≡◌, ◌≢◌, ◌∙◌, ℕ, Bool, true, false, cond, ◌&&◌, List, [], ◌∷◌, Option, Some, map, refl, sym, ap₂, subst}
use Rattle.std.proofs.Math.Bool.{Bool-set}
use Rattle.std.proofs.Props.{props}
use Rattle.std.proofs.Math.Logic.{∥∥₁_elim}
use Rattle.std.specs.List.{list_any, AllByRecursion}
use Rattle.history.specs.Subject.{meets, touches}
use Rattle.history.specs.Chains.{wrote, last_writer, Linked, Traced, Chained}
use Rattle.history.specs.Journal.{Entry, name_of, caused, live_set, Distinct, Ordered, Sound}
use Rattle.history.specs.Records.{State, Row, Fits, entries_of}
use Rattle.history.proofs.Lists.{all_map, all_both, all_mapped}
use Rattle.ids.specs.declared.cells.CellKey.{CellKey}
use Rattle.world_cells.specs.Theory.{cells}
use Rattle.world_cells.specs.World.{empty}
use Rattle.event.specs.Events.{DoesNoted, noted_events}
use Rattle.event.proofs.Law.{noted_laws}
use Rattle.journal.specs.Items.{Item}
use Rattle.journal.proofs.Lifting.{PlainJournal}
use Rattle.journal.specs.Lines.{plain, Line, lines_of, entries_in}
use Rattle.journal.specs.Standing.{ItemsStand}
use Rattle.journal.proofs.Alike.{SameCauses, SameMeets, SameSet}
use Rattle.journal.proofs.Lifting.{plain_journal as lines_plain}
use Rattle.journal.proofs.Reversed.{all_unmapped, all_zip, fewer_pairs}
use Rattle.journal.proofs.Telling.{told_entry, entries_told, same_causes, same_meets}
use Rattle.journal.proofs.Touching.{told_new, told_touches}
use Rattle.causality.specs.Journals.{IsJournal}

-- what the lines of a journal tell: they are plain, and what entries have of last writers leads to their causes
pub record Tells (lines : List Line) : Type 0 where
  pub lines_are : PlainJournal lines
  pub chained : Chained plain (entries_in lines)

-- what rows tell of last writers is what is so among the rows
module _ (older : List (Entry noted_events)) where
  abbrev told : Row noted_events → Entry plain
  told = told_entry DoesNoted older

  abbrev Fit : List (Row noted_events) → Type 0
  Fit rows = AllByRecursion (λ p. Fits noted_events p.0.foot p.1) rows

  wrote_told : (k : CellKey) (p : Row noted_events) → Fits noted_events p.0.foot p.1 → wrote plain k (told p) ≡ wrote noted_events k p.0
  wrote_told k p f = told_new DoesNoted noted_laws p.0.foot p.0.lasts p.1 f k

  last_told : (k : CellKey) (t : Entry plain → Bool) (r : Entry noted_events → Bool) (rows : List (Row noted_events)) → SameSet plain noted_events told (λ p. p.0) t r rows → Fit rows
      → last_writer plain k t (map told rows) ≡ last_writer noted_events k r (entries_of rows)
  last_told k t r [] h f = refl
  last_told k t r (p ∷ rows) (h, hs) (f, fs) = λ i. cond (h i && wrote_told k p f i) (Some (p.0.event.name.0)) (last_told k t r rows hs fs i)

  linked_told : (k : CellKey) (t : Entry plain → Bool) (r : Entry noted_events → Bool) (rows : List (Row noted_events)) → SameSet plain noted_events told (λ p. p.0) t r rows → SameCauses plain noted_events told (λ p. p.0) rows → Fit rows
      → Linked noted_events k r (entries_of rows) → Linked plain k t (map told rows)
  linked_told k t r [] h causes f m = tt
  linked_told k t r (p ∷ rows) (h, hs) causes (f, fs) (m, ms) = (
    λ member w. all_mapped told _ rows
        (all_both _ _ _ rows (λ q both old. ap₂ (λ a b. a && b) both.0 (wrote_told k q both.1.1) ∙ old ∙ sym (ap₂ (λ a b. a && b) both.1.0 (wrote_told k q both.1.1)))
        (all_zip _ _ rows causes.0.1 (all_zip _ _ rows hs fs))
        (all_unmapped (λ (q : Row noted_events). q.0) _ rows (m (sym h ∙ member) (sym (wrote_told k p f) ∙ w)))),
    linked_told k t r rows hs (fewer_pairs _ p rows causes) fs ms,
  )

  chained_told : (rows : List (Row noted_events)) → SameCauses plain noted_events told (λ p. p.0) rows → SameMeets plain noted_events told (λ p. p.0) rows → Fit rows → Chained noted_events (entries_of rows) → Chained plain (map told rows)
  chained_told [] causes met f h = tt
  chained_told (p ∷ rows) causes met (f, fs) (h, hs) = (
    record {
      cells = λ k. h.cells k ∙ sym (touched k);
      lasts = all_map _ _ p.0.lasts (λ x q. q ∙ sym (last_told x.0 (caused plain (told p)) (caused noted_events p.0) rows causes.0.1 fs)) h.lasts;
      met = all_mapped told _ rows (all_both _ _ _ rows (λ q both old named. both.1 ∙ old (sym both.0 ∙ named))
          (all_zip _ _ rows causes.0.1 met.0.1) (all_unmapped (λ (q : Row noted_events). q.0) _ rows h.met));
      linked = λ k is. linked_told k (caused plain (told p)) (caused noted_events p.0) rows causes.0.1 (fewer_pairs _ p rows causes) fs (h.linked k (sym (touched k) ∙ is));
    },
    chained_told rows (fewer_pairs _ p rows causes) (fewer_pairs _ p rows met) fs hs,
  )
    where
      touched : (k : CellKey) → touches plain (told p).foot k ≡ touches noted_events p.0.foot k
      touched k = told_touches DoesNoted noted_laws p.0.foot p.0.lasts p.1 h.cells f k

tells : (next : ℕ) (rows : List (Row noted_events)) (state : State cells) (items : List Item) → ItemsStand DoesNoted empty next rows items state → Tells (lines_of items)
tells next rows state items h = record {
  lines_are = lines_plain DoesNoted noted_laws h;
  chained = subst (Chained plain) (sym (entries_told DoesNoted noted_laws h))
      (chained_told (entries_of rows) rows (same_causes DoesNoted noted_laws h) (same_meets DoesNoted noted_laws h) h.stands.follows.fit h.stands.chained);
}

-- that they tell it is a proposition
all_prop : {A : Type 0} (P : A → Type 0) → ((a : A) → IsProp (P a)) → (xs : List A) → IsProp (AllByRecursion P xs)
all_prop P h [] a b = refl
all_prop P h (x ∷ xs) (p, q) (r, s) = λ i. (h x p r i, all_prop P h xs q s i)

no_prop : {A : Type 0} → IsProp (A → ⊥)
no_prop a b = λ i x. same (a x) (b x) i
  where
    same : (x y : ⊥) → x ≡ y
    same x y = absurd x

same_prop : (x y : Bool) → IsProp (x ≡ y)
same_prop x y = Bool-set x y

then_prop : {A : Type 0} (x y : Bool) → IsProp (A → x ≡ y)
then_prop x y a b = λ i p. Bool-set x y (a p) (b p) i

distinct_prop : (es : List (Entry plain)) → IsProp (Distinct plain es)
distinct_prop [] a b = refl
distinct_prop (e ∷ es) (p, q) (r, s) = λ i. (all_prop (λ a. name_of plain a ≢ name_of plain e) (λ a. no_prop) es p r i, distinct_prop es q s i)

ordered_prop : (es : List (Entry plain)) → IsProp (Ordered plain es)
ordered_prop [] a b = refl
ordered_prop (e ∷ es) (p, q) (r, s) = λ i. (all_prop (λ a. caused plain a e ≡ false) (λ a. same_prop (caused plain a e) false) es p r i, ordered_prop es q s i)

sound_prop : (t : Entry plain → Bool) (es : List (Entry plain)) → IsProp (Sound plain t es)
sound_prop t [] a b = refl
sound_prop t (e ∷ es) (p, q) (r, s) = λ i. (
  λ m. all_prop (λ a. caused plain e a ≡ (t a && meets plain a.foot e.foot)) (λ a. same_prop (caused plain e a) (t a && meets plain a.foot e.foot)) es (p m) (r m) i,
  sound_prop t es q s i,
)

writer_prop : (x y : Option ℕ) → IsProp (x ≡ y)
writer_prop = hlevel props

linked_prop : (k : CellKey) (t : Entry plain → Bool) (es : List (Entry plain)) → IsProp (Linked plain k t es)
linked_prop k t [] a b = refl
linked_prop k t (e ∷ es) (p, q) (r, s) = λ i. (
  λ m w. all_prop (λ a. (caused plain e a && wrote plain k a) ≡ (t a && wrote plain k a)) (λ a. same_prop (caused plain e a && wrote plain k a) (t a && wrote plain k a)) es (p m w) (r m w) i,
  linked_prop k t es q s i,
)

traced_prop : (e : Entry plain) (es : List (Entry plain)) → IsProp (Traced plain e es)
traced_prop e es a b = λ i. record {
  cells = λ k. Bool-set (list_any (λ p. plain.same k p.0) e.lasts) (touches plain e.foot k) (a.cells k) (b.cells k) i;
  lasts = all_prop (λ p. p.1 ≡ last_writer plain p.0 (caused plain e) es) (λ p. writer_prop p.1 (last_writer plain p.0 (caused plain e) es)) e.lasts a.lasts b.lasts i;
  met = all_prop (λ c. caused plain e c ≡ true → meets plain c.foot e.foot ≡ true) (λ c. then_prop (meets plain c.foot e.foot) true) es a.met b.met i;
  linked = λ k touched. linked_prop k (caused plain e) es (a.linked k touched) (b.linked k touched) i;
}

chained_prop : (es : List (Entry plain)) → IsProp (Chained plain es)
chained_prop [] a b = refl
chained_prop (e ∷ es) (p, q) (r, s) = λ i. (traced_prop e es p r i, chained_prop es q s i)

plain_prop : (lines : List Line) → IsProp (PlainJournal lines)
plain_prop lines a b = λ i. record {
  distinct = distinct_prop (entries_in lines) a.distinct b.distinct i;
  ordered = ordered_prop (entries_in lines) a.ordered b.ordered i;
  own = all_prop (λ e. caused plain e e ≡ false) (λ e. same_prop (caused plain e e) false) (entries_in lines) a.own b.own i;
  sound = sound_prop (live_set plain) (entries_in lines) a.sound b.sound i;
}

tells_prop : (lines : List Line) → IsProp (Tells lines)
tells_prop lines a b = λ i. record {
  lines_are = plain_prop lines a.lines_are b.lines_are i;
  chained = chained_prop (entries_in lines) a.chained b.chained i;
}

-- THE LEMMA: a journal tells this
pub journal_tells : (items : List Item) → IsJournal items → Tells (lines_of items)
journal_tells items h = ∥∥₁_elim h (tells_prop (lines_of items)) (λ (next, rows, state, stands). tells next rows state items stands)
