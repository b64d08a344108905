-- The lines of a set of events: their places, and what is told of them that nothing refuses.
use Rattle.std.proofs.Common.{◌≡◌, ℕ, zero, suc, ◌+◌, ◌<◌, Bool, true, false, cond, List, [], ◌∷◌, length, map, Option, Some, None, set, refl, sym, ap, ◌∙◌, subst, arith}
use Rattle.std.specs.Prelude.{◌&&◌}
use Rattle.std.specs.List.{AllByRecursion, All, filter, slice_get}
use Rattle.std.specs.Option.{option_map, option_map_or}
use Rattle.std.proofs.Math.Logic.{∥∥₁_elim, ∥∥₁_prop}
use Rattle.std.proofs.lemmas.List.{length-map}
use Rattle.std.proofs.lemmas.List.Elements.{All-from_recursion}
use Rattle.history.specs.Subject.{empty}
use Rattle.history.specs.Journal.{Entry, is_in}
use Rattle.history.specs.Records.{State, Row}
use Rattle.history.specs.Walks.{step_at, walk}
use Rattle.history.proofs.Lists.{all_map, all_mapped, all_reversed}
use Rattle.ids.specs.declared.names.EventName.{EventName}
use Rattle.world_cells.specs.World.{World}
use Rattle.world_cells.specs.Theory.{cells}
use Rattle.event.specs.Events.{DoesNoted, noted_events}
use Rattle.journal.specs.Items.{Item, swap_item}
use Rattle.journal.specs.Lines.{plain, Line, entries_in, lines_of}
use Rattle.journal.specs.Standing.{ItemsStand}
use Rattle.journal.specs.declared.entry.Mark.TheVariants as mark
use Rattle.journal.proofs.Placing.{places_where, places_told}
use Rattle.causality.specs.Selections.{numbers, chosen, is_live, name_of, first_marked, places_from}
use Rattle.causality.proofs.Firsts.{none_each}
use Rattle.causality.proofs.Gaps.{live_at}
use Rattle.causality.specs.Journals.{IsJournal}
use Rattle.undo.specs.CoreView.{items_of, state_of}
use Rattle.undo.specs.Standing.{CoreStands, places}
use Rattle.undo.specs.declared.undoing.Core.{Core}
use Rattle.desk.specs.Desks.{Lent}
use Rattle.book_refusals.specs.Refusals.{Refusal, first}
use Rattle.book.specs.Standing.{Stands}

-- neither refuses
pub neither : (a b : Option Refusal) → first a b ≡ None → (a ≡ None) × (b ≡ None)
neither None b e = (refl, e)
neither (Some refusal) b e = cc

-- nothing is told of nothing alone
pub not_mapped : {A B : Type 0} (f : A → B) (o : Option A) → option_map f o ≡ None → o ≡ None
not_mapped f None e = refl
not_mapped f (Some a) e = cc

-- rows that stand make a journal, and so does a core that stands
pub journal_of : {next : ℕ} {rows : List (Row noted_events)} (core : Core) → CoreStands DoesNoted (empty noted_events) next rows core → IsJournal (items_of core)
journal_of {next = next} {rows = rows} core h = ∣ (next, rows, state_of core, h) ∣₁

pub stands_journal : (core : Core) (next : ℕ) (out : List Lent) → Stands core next out → IsJournal (items_of core)
stands_journal core next out h = ∥∥₁_elim h ∥∥₁_prop (λ k. journal_of core k.stands)

-- the rows of the events of a set
abbrev pub of_rows : List EventName → Entry noted_events → Bool
of_rows names e = is_in (numbers names) e.event.name.0

-- the places that the program counts are those of the rows
places_same : (n : ℕ) (names : List EventName) (lines : List Line) → places_where n (chosen names) lines ≡ places_from n names lines
places_same n names [] = refl
places_same n names (l ∷ lines) = ap (λ ps. cond (chosen names l) (n ∷ ps) ps) (places_same (n + 1) names lines)

pub places_are : {start : World} {next : ℕ} {rows : List (Row noted_events)} {items : List Item} {state : State cells} → ItemsStand DoesNoted start next rows items state → (names : List EventName)
    → places_from 0 names (lines_of items) ≡ places DoesNoted (of_rows names) rows
places_are {items = items} h names = sym (places_same 0 names (lines_of items)) ∙ places_told DoesNoted h (is_in (numbers names))

-- there are as many as lines of the set
pub places_count : (n : ℕ) (names : List EventName) (lines : List Line) → length (places_from n names lines) ≡ length (filter (chosen names) lines)
places_count n names [] = refl
places_count n names (l ∷ lines) = one (chosen names l) (places_from (n + 1) names lines) (filter (chosen names) lines) (places_count (n + 1) names lines)
  where
    one : (b : Bool) (ps : List ℕ) (ls : List Line) → length ps ≡ length ls → length (cond b (n ∷ ps) ps) ≡ length (cond b (l ∷ ls) ls)
    one true ps ls h = ap suc h
    one false ps ls h = h

-- and each is within the journal
within : (n : ℕ) (names : List EventName) (lines : List Line) → AllByRecursion (λ p. p < n + length lines) (places_from n names lines)
within n names [] = tt
within n names (l ∷ lines) = one (chosen names l) (all_map _ _ (places_from (n + 1) names lines) (λ p lt. omega (arith, lt)) (within (n + 1) names lines))
  where
    one : (b : Bool) → AllByRecursion (λ p. p < n + length (l ∷ lines)) (places_from (n + 1) names lines) → AllByRecursion (λ p. p < n + length (l ∷ lines)) (cond b (n ∷ places_from (n + 1) names lines) (places_from (n + 1) names lines))
    one true h = (omega arith, h)
    one false h = h

pub places_within : (names : List EventName) (items : List Item) (ps : List ℕ) → ps ≡ places_from 0 names (lines_of items) → All (λ p. p < length items) ps
places_within names items ps is = All-from_recursion _ ps (subst (AllByRecursion (λ p. p < length items)) (sym is)
    (all_map _ _ (places_from 0 names (lines_of items)) (λ p lt. (let e = length-map items (λ i. i) in omega (arith, lt, lines))) (within 0 names (lines_of items))))
  where
    lines : length (lines_of items) ≡ length items
    lines = length-map items _

-- each line of the set is live, or none is
pub chosen_live : (names : List EventName) (lines : List Line) → first_marked mark.Undone names lines ≡ None → AllByRecursion (λ l. chosen names l ≡ true → is_live l ≡ true) lines
chosen_live names lines none = all_map _ _ lines (λ l e. live_at (chosen names l) (is_live l) (name_of l) e) (none_each _ lines none)

dead_at : (c live : Bool) (e : EventName) → cond (c && live) (Some e) None ≡ None → c ≡ true → live ≡ false
dead_at true false n h e = refl
dead_at true true n h e = cc
dead_at false live n h e = cc

pub chosen_undone : (names : List EventName) (lines : List Line) → first_marked mark.Live names lines ≡ None → AllByRecursion (λ l. chosen names l ≡ true → is_live l ≡ false) lines
chosen_undone names lines none = all_map _ _ lines (λ l e. dead_at (chosen names l) (is_live l) (name_of l) e) (none_each _ lines none)

-- what holds of each line's entry holds of each entry
pub all_entries : (P : Entry plain → Type 0) (lines : List Line) → AllByRecursion (λ l. P l.entry) lines → AllByRecursion P (entries_in lines)
all_entries P lines h = all_reversed P (map (λ l. l.entry) lines) (all_mapped (λ (l : Line). l.entry) P lines h)

-- items that are exchanged with a state keep their seats
set_same : {A B : Type 0} (f : A → B) (xs : List A) (p : ℕ) (x y : A) → slice_get xs p ≡ Some x → f y ≡ f x → map f (set xs p y) ≡ map f xs
set_same f [] p x y is same = refl
set_same f (z ∷ xs) zero x y is same = (let e : z ≡ x = cc in ap (λ a. a ∷ map f xs) (same ∙ sym (ap f e)))
set_same f (z ∷ xs) (suc p) x y is same = ap (λ l. f z ∷ l) (set_same f xs p x y is same)

module _ (live : Bool) where
  step_seats : (p : ℕ) (j : List Item × State cells) → map (λ i. i.seat) (step_at (swap_item live) p j).0 ≡ map (λ i. i.seat) j.0
  step_seats p j = by (slice_get j.0 p) refl
    where
      by : (o : Option Item) → slice_get j.0 p ≡ o → map (λ i. i.seat) (option_map_or (λ x. (set j.0 p (swap_item live x j.1).0, (swap_item live x j.1).1)) o j).0 ≡ map (λ i. i.seat) j.0
      by None is = refl
      by (Some x) is = set_same (λ (i : Item). i.seat) j.0 p x (swap_item live x j.1).0 is refl

  pub walk_seats : (ps : List ℕ) (j : List Item × State cells) → map (λ i. i.seat) (walk (swap_item live) ps j).0 ≡ map (λ i. i.seat) j.0
  walk_seats [] j = refl
  walk_seats (p ∷ ps) j = walk_seats ps (step_at (swap_item live) p j) ∙ step_seats p j
