-- An undo of a closed set of live events leaves a book that stands, with the plain run of the rest.
use Rattle.std.proofs.Common.{◌≡◌, ℕ, Bool, true, false, cond, List, [], ◌∷◌, None, map, reverse, refl, sym, ap, ◌∙◌, subst}
use Rattle.std.specs.Prelude.{◌&&◌, not}
use Rattle.std.specs.List.{AllByRecursion, filter}
use Rattle.std.proofs.Math.Logic.{∥∥₁_elim, ∥∥₁_prop}
use Rattle.history.specs.Subject.{empty}
use Rattle.history.specs.Journal.{Free, Closed, Part, is_in, live_set, without}
use Rattle.history.specs.Records.{State, Row, contents, entries_of, undo_rows}
use Rattle.history.specs.Walks.{walk}
use Rattle.history.proofs.Lists.{all_map}
use Rattle.history.proofs.Marks.{free_marked}
use Rattle.history.proofs.Standing.{entries_undone}
use Rattle.ids.specs.declared.names.EventName.{EventName}
use Rattle.world_cells.specs.Events.{event_in}
use Rattle.world_cells.specs.Theory.{cells}
use Rattle.event.specs.Events.{DoesNoted, noted_events}
use Rattle.event.proofs.Law.{noted_laws}
use Rattle.journal.specs.Items.{Item, swap_item}
use Rattle.journal.specs.Lines.{plain, Line, lines_of}
use Rattle.journal.proofs.Lifting.{SameMembers, named_members, live_members, without_members, closed_of_lines, part_of_lines}
use Rattle.journal.proofs.Marking.{lines_undone}
use Rattle.causality.specs.Selections.{numbers, among, chosen, is_live, first_gap, places_from}
use Rattle.causality.proofs.Exactness.{closed_of_gaps}
use Rattle.undo.specs.CoreView.{items_of, settled_of, state_of, shown}
use Rattle.undo.specs.Standing.{CoreStands}
use Rattle.undo.specs.declared.undoing.Core.{Core}
use Rattle.undo.proofs.Standing.{undoes}
use Rattle.desk.specs.Desks.{Lent}
use Rattle.event.specs.Runs.{PlainRun}
use Rattle.book_refusals.specs.Refusals.{not_live, not_closed}
use Rattle.book_refusals.specs.Checks.{closed_refusal, undone_refusal, undo_refusal, gap_refusal}
use Rattle.book.specs.Calls.{Undoes, undone_in, live_events, rest_of}
use Rattle.book.specs.Standing.{Kept, Stands}
use Rattle.book.proofs.Entering.{book_with}
use Rattle.book.proofs.Sets.{Lines-set}
use Rattle.book.proofs.Choosing.{neither, not_mapped, of_rows, places_are, chosen_live, all_entries, walk_seats}
use Rattle.book.proofs.Running.{plain_run}

one_event : (b : Bool) (l m : Line) (ls ms : List Line) → l.entry.event ≡ m.entry.event → map (λ x. event_in x.entry.event) ls ≡ map (λ x. event_in x.entry.event) ms
    → map (λ x. event_in x.entry.event) (cond b (l ∷ ls) ls) ≡ map (λ x. event_in x.entry.event) (cond b (m ∷ ms) ms)
one_event true l m ls ms e h = λ i. event_in (e i) ∷ h i
one_event false l m ls ms e h = h

-- what an undo leaves live is the rest
pub rest_left : (names : List EventName) (lines : List Line) → live_events (undone_in names lines) ≡ rest_of names lines
rest_left names [] = refl
rest_left names (l ∷ lines) =
    one_event (is_live l && not (chosen names l)) (record l { entry = record (l.entry) { live = is_live l && not (chosen names l) } }) l
    (filter is_live (undone_in names lines)) (filter (λ m. is_live m && not (chosen names m)) lines) refl (rest_left names lines)

-- the parts of an undo that nothing refuses
pub live_set_of : (names : List EventName) (n : ℕ) (lines : List Line) → undo_refusal n lines names ≡ None → AllByRecursion (λ l. chosen names l ≡ true → is_live l ≡ true) lines
live_set_of names n lines ok = chosen_live names lines (not_mapped not_live _ (neither (undone_refusal names lines) _ (neither (closed_refusal names n lines) _ ok).1).0)

no_gap : (names : List EventName) (n : ℕ) (lines : List Line) → undo_refusal n lines names ≡ None → first_gap names lines ≡ None
no_gap names n lines ok = not_mapped (gap_refusal not_closed) _ (neither (undone_refusal names lines) _ (neither (closed_refusal names n lines) _ ok).1).1

module _ (old new : Core) (next : ℕ) (out : List Lent) (names : List EventName) (ps : List ℕ) (ok : undo_refusal (settled_of old) (lines_of (items_of old)) names ≡ None)
    (at : ps ≡ places_from 0 names (lines_of (items_of old))) (is : shown new ≡ walk (swap_item false) (reverse ps) (shown old)) where
  module _ (rows : List (Row noted_events)) (h : CoreStands DoesNoted (empty noted_events) next rows old) where
    members : SameMembers DoesNoted (among names) (of_rows names) rows
    members = named_members DoesNoted (is_in (numbers names)) rows

    closed : Closed noted_events (live_set noted_events) (of_rows names) (entries_of rows)
    closed = closed_of_lines DoesNoted noted_laws h (live_set plain) (among names) (live_set noted_events) (of_rows names) (live_members DoesNoted rows) members
        (closed_of_gaps names (lines_of (items_of old)) (no_gap names (settled_of old) (lines_of (items_of old)) ok))

    part : Part (of_rows names) (live_set noted_events) (entries_of rows)
    part = part_of_lines DoesNoted noted_laws h (live_set plain) (among names) (live_set noted_events) (of_rows names) (live_members DoesNoted rows) members
        (all_entries (λ e. among names e ≡ true → e.live ≡ true) (lines_of (items_of old)) (live_set_of names (settled_of old) (lines_of (items_of old)) ok))

    abbrev after : List (Row noted_events)
    after = undo_rows noted_events (of_rows names) rows (state_of old)

    stood : CoreStands DoesNoted (empty noted_events) next after new
    stood = (undoes DoesNoted noted_laws (empty noted_events) next (of_rows names) rows old new ps h (at ∙ places_are h names) closed part is).0

    seats : map (λ i. i.seat) (items_of new) ≡ map (λ i. i.seat) (items_of old)
    seats = ap (λ (j : List Item × State cells). map (λ (i : Item). i.seat) j.0) is ∙ walk_seats false (reverse ps) (shown old)

    lines : lines_of (items_of new) ≡ undone_in names (lines_of (items_of old))
    lines = lines_undone DoesNoted noted_laws h (without (live_set plain) (among names)) (of_rows names) stood
        (without_members DoesNoted (live_set plain) (among names) (live_set noted_events) (of_rows names) rows (live_members DoesNoted rows) members) seats

    still_free : (n : ℕ) → Free noted_events n (entries_of rows) → Free noted_events n (entries_of after)
    still_free n free = subst (Free noted_events n) (sym (entries_undone noted_events (of_rows names) rows (state_of old))) (free_marked noted_events (without (live_set noted_events) (of_rows names)) n (entries_of rows) free)

    run : PlainRun (rest_of names (lines_of (items_of old))) (contents cells (state_of new))
    run = subst (λ es. PlainRun es (contents cells (state_of new))) (ap live_events lines ∙ rest_left names (lines_of (items_of old))) (plain_run stood)

  kept : Kept old next out → Kept new next out
  kept k = record {
    rows = after k.rows k.stands;
    stands = stood k.rows k.stands;
    free = all_map _ _ out (λ t q. still_free k.rows k.stands t.number.0 q) k.free;
    drawn = k.drawn;
    apart = k.apart;
  }

  module _ (h : Stands old next out) where
    -- THE LEMMAS: the book stands, and the undo is done
    pub undone_stands : Stands new next out
    undone_stands = ∥∥₁_elim h ∥∥₁_prop (λ k. ∣ kept k ∣₁)

    pub book_undone : settled_of new ≡ settled_of old → Undoes names (book_with old next out) (book_with new next out)
    book_undone many = record {
      rest = ∥∥₁_elim h ∥∥₁_prop (λ k. run k.rows k.stands);
      marked = ∥∥₁_elim h (Lines-set _ _) (λ k. lines k.rows k.stands);
      same_settled = many;
      same_next = refl;
      same_out = refl;
    }
