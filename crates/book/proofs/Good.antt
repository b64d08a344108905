-- What stands is good.
use Rattle.std.proofs.Common.{◌≡◌, ℕ, ◌+◌, ◌<◌, ◌≤◌, ◌==◌, Bool, true, false, cond, ◌||◌, List, [], ◌∷◌, map, filter, length, refl, sym, ap, ◌∙◌, subst, ne_eqb, eq-eqb, arith}
use Rattle.std.proofs.Math.Logic.{∥∥₁_elim, ∥∥₁_map}
use Rattle.std.proofs.Props.{props}
use Rattle.std.proofs.lemmas.Bool.{or_left, or_right, false≢true}
use Rattle.std.proofs.lemmas.List.{length-append, length-map}
use Rattle.std.specs.List.{AllByRecursion}
use Rattle.history.specs.Subject.{empty}
use Rattle.history.specs.Journal.{Entry, name_of, is_in, live_set, Ordered, NoneNamesItself, Runs, runs_none, runs_more}
use Rattle.history.specs.Chains.{Chained}
use Rattle.history.specs.Records.{Row, Fits, contents, entries_of}
use Rattle.history.proofs.Changes.{good_runs}
use Rattle.history.proofs.Lists.{all_map, all_both, all_of, all_mapped, all_reversed}
use Rattle.history.proofs.Naming.{named_reversed}
use Rattle.world_cells.specs.Events.{Noted}
use Rattle.world_cells.specs.World.{World}
use Rattle.world_cells.specs.Theory.{cells}
use Rattle.event.specs.Events.{DoesNoted, noted_events}
use Rattle.event.proofs.Law.{noted_laws}
use Rattle.journal.specs.Items.{Item}
use Rattle.journal.specs.Lines.{plain, Line, entries_in, is_cause, causes_in, line_of, lines_of}
use Rattle.journal.proofs.Reversed.{map-map, map-reverse, all_unmapped}
use Rattle.journal.proofs.Telling.{told_entry, entries_told}
use Rattle.journal.proofs.Touching.{told_new, told_touches}
use Rattle.causality.proofs.Telling.{journal_tells}
use Rattle.desk.specs.Desks.{Lent}
use Rattle.journal.specs.Journals.{settled_item}
use Rattle.causality.proofs.Behind.{lines_taken, settled_live}
use Rattle.undo.specs.CoreView.{items_of, open_of, settled_of, state_of}
use Rattle.undo.specs.declared.undoing.Core.{Core}
use Rattle.book.specs.Good as with_cells
use Rattle.book.specs.Good.{CausesAreOlder, HasFoot, RunsWithCells, IsGood}
use Rattle.book.specs.Standing.{Stands}
use Rattle.book.specs.declared.book.TheConstants.{MOST_ENTRIES}
use Rattle.book.proofs.Blank.{stands_journal}
use Rattle.book.proofs.Entering.{book_with}

both_false : (a b : Bool) → (a || b) ≡ false → (a ≡ false) × (b ≡ false)
both_false true b h = absurd (false≢true (sym h))
both_false false b h = (refl, h)

second_true : (a b : Bool) → (a || b) ≡ true → a ≡ false → b ≡ true
second_true true b h e = absurd (false≢true (sym e))
second_true false b h e = h

other_order : (m n : ℕ) → (n == m) ≡ false → (m == n) ≡ false
other_order m n h = ne_eqb m n (λ e. false≢true (sym h ∙ eq-eqb n m (sym e)))

-- numbers that are among others, and of which none is the first of those, are among the rest
among_rest : (m : ℕ) (ms ns : List ℕ) → is_in ns m ≡ false → AllByRecursion (λ n. is_in (m ∷ ms) n ≡ true) ns → AllByRecursion (λ n. is_in ms n ≡ true) ns
among_rest m ms [] none h = tt
among_rest m ms (n ∷ ns) none (here, h) =
    let apart = both_false (n == m) (is_in ns m) none in
    (second_true (m == n) (is_in ms n) here (other_order m n apart.0), among_rest m ms ns apart.1 h)

-- causes are older where they are entries, and none is newer or the entry itself
causes_older : (es : List (Entry plain)) → AllByRecursion (λ e. AllByRecursion (λ n. is_in (map (name_of plain) es) n ≡ true) e.causes) es → Ordered plain es → NoneNamesItself plain es → CausesAreOlder es
causes_older [] h ordered own = tt
causes_older (e ∷ es) (here, h) (newest, ordered) (itself, own) = (
  among_rest (name_of plain e) (map (name_of plain) es) e.causes itself here,
  causes_older es (all_both _ _ _ es (λ a named not. among_rest (name_of plain e) (map (name_of plain) es) a.causes not named) h newest) ordered own,
)

-- what passes a test is among all
among_all : {A : Type 0} (number : A → ℕ) (test : A → Bool) (xs : List A) → AllByRecursion (λ n. is_in (map number xs) n ≡ true) (map number (filter test xs))
among_all number test [] = tt
among_all number test (x ∷ xs) =
    let rest = all_map _ (λ n. is_in (map number (x ∷ xs)) n ≡ true) (map number (filter test xs)) (λ n h. or_right (number x == n) _ h) (among_all number test xs) in
    elim (test x) as (λ b. AllByRecursion (λ n. is_in (map number (x ∷ xs)) n ≡ true) (map number (cond b (x ∷ filter test xs) (filter test xs)))) [
      | true ↦ (or_left _ _ (eq-eqb (number x) (number x) refl), rest)
      | false ↦ rest
    ]

-- the names of items are those of the entries that their lines tell
names_told : (items : List Item) (n : ℕ) → is_in (map (name_of plain) (entries_in (lines_of items))) n ≡ is_in (map (λ i. i.event.name.0) items) n
names_told items n =
    ap (λ ns. is_in ns n) (map-reverse (name_of plain) (map (λ (l : Line). l.entry) (lines_of items)))
    ∙ named_reversed (map (name_of plain) (map (λ (l : Line). l.entry) (lines_of items))) n
    ∙ ap (λ ns. is_in ns n) (map-map (name_of plain) (λ (l : Line). l.entry) (lines_of items) ∙ map-map (λ (l : Line). name_of plain l.entry) (line_of items) items)

causes_told : (items : List Item) → AllByRecursion (λ e. AllByRecursion (λ n. is_in (map (name_of plain) (entries_in (lines_of items))) n ≡ true) e.causes) (entries_in (lines_of items))
causes_told items =
    all_reversed _ (map (λ (l : Line). l.entry) (lines_of items)) (all_mapped (λ (l : Line). l.entry) _ (lines_of items) (all_mapped (line_of items) _ items (all_of _ items (λ i.
    all_map _ _ (causes_in items i) (λ n h. names_told items n ∙ h) (among_all (λ (a : Item). a.event.name.0) (is_cause items i) items)))))

-- an event of a run, with the cells of its entry, if it is live
run_step : (b : Bool) (e : Entry noted_events) (a : Entry plain) (es : List (Entry noted_events)) (lines : List (Entry plain)) → a.event ≡ e.event → HasFoot a e.foot
    → ((w : World) → Runs noted_events (empty noted_events) es w → RunsWithCells lines w) → (w : World) → Runs noted_events (empty noted_events) (cond b (e ∷ es) es) w → RunsWithCells (cond b (a ∷ lines) lines) w
run_step true e a es lines same foot rest w (runs_more {w = v} r d) = with_cells.runs_more (rest v r) (subst (λ (x : Noted). DoesNoted x v e.foot) (sym same) d) foot
run_step false e a es lines same foot rest w r = rest w r

runs_told : (all : List (Entry noted_events)) (rows : List (Row noted_events)) → Chained noted_events (entries_of rows) → AllByRecursion (λ p. Fits noted_events p.0.foot p.1) rows
    → (w : World) → Runs noted_events (empty noted_events) (filter (live_set noted_events) (entries_of rows)) w → RunsWithCells (filter (live_set plain) (map (told_entry DoesNoted all) rows)) w
runs_told all [] chained fit w runs_none = with_cells.runs_none
runs_told all (p ∷ rows) (traced, chained) (fits, fit) w r =
    run_step p.0.live p.0 (told_entry DoesNoted all p) (filter (live_set noted_events) (entries_of rows)) (filter (live_set plain) (map (told_entry DoesNoted all) rows)) refl
    (record { touched = told_touches DoesNoted noted_laws p.0.foot p.0.lasts p.1 traced.cells fits; written = told_new DoesNoted noted_laws p.0.foot p.0.lasts p.1 fits })
    (runs_told all rows chained fit) w r

less_prop : (m n : ℕ) → IsProp (m < n)
less_prop m n = hlevel props

drawn_prop : (next : ℕ) (es : List (Entry plain)) → IsProp (AllByRecursion (λ e. name_of plain e < next) es)
drawn_prop next [] a b = refl
drawn_prop next (e ∷ es) (p, q) (r, s) = λ i. (less_prop (name_of plain e) next p r i, drawn_prop next es q s i)

-- THE LEMMA
pub stands_good : (core : Core) (next : ℕ) (out : List Lent) → Stands core next out → length (items_of core) ≤ settled_of core + MOST_ENTRIES → IsGood (book_with core next out)
stands_good core next out h within =
    let items = items_of core in
    let lines = (journal_tells items (stands_journal core next out h)).lines_are in
    let many : length (lines_of items) ≡ length items = length-map items (line_of items) in
    let all : length items ≡ settled_of core + length (open_of core) = length-append (map settled_item core.settled.items) (open_of core) ∙ ap (λ n. n + length (open_of core)) (length-map core.settled.items settled_item) in
    record {
      distinct = lines.distinct;
      drawn = ∥∥₁_elim h (drawn_prop next (entries_in (lines_of items))) (λ k.
          subst (AllByRecursion (λ e. name_of plain e < next)) (sym (entries_told DoesNoted noted_laws k.stands))
          (all_mapped (told_entry DoesNoted (entries_of k.rows)) _ k.rows (all_map (λ (p : Row noted_events). (name_of noted_events p.0 < next) × AllByRecursion (λ n. n < next) p.0.causes) _ k.rows (λ p below. below.0) (all_unmapped (λ (p : Row noted_events). p.0) _ k.rows k.stands.stands.named.below))));
      older = causes_older (entries_in (lines_of items)) (causes_told items) lines.ordered lines.own;
      sound = lines.sound;
      footprints = ∥∥₁_map h (λ k.
          subst (λ es. RunsWithCells (filter (live_set plain) es) (contents cells (state_of core))) (sym (entries_told DoesNoted noted_laws k.stands))
          (runs_told (entries_of k.rows) k.rows k.stands.stands.chained k.stands.stands.follows.fit (contents cells (state_of core)) (good_runs noted_events noted_laws k.stands.stands.good)));
      base = omega (arith, many, all);
      settled = subst (AllByRecursion (λ (l : Line). l.entry.live ≡ true)) (sym (lines_taken (line_of items) core.settled.items _)) (all_mapped (line_of items) _ (map settled_item core.settled.items) (settled_live core.settled.items));
      within = omega (arith, many, within);
    }
