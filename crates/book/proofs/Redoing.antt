-- A redo of undone events that are sound together with what is live leaves a book that stands, with these events live where they stand.
use Rattle.std.proofs.Common.{◌≡◌, ℕ, true, false, List, None, map, sym, ap, refl, ◌∙◌, subst}
use Rattle.std.specs.List.{AllByRecursion}
use Rattle.std.proofs.Math.Logic.{∥∥₁_elim, ∥∥₁_prop}
use Rattle.history.specs.Subject.{empty}
use Rattle.history.specs.Journal.{Free, Sound, is_in, live_set, both}
use Rattle.history.specs.Records.{State, Row, contents, entries_of, redo_rows}
use Rattle.history.specs.Walks.{walk}
use Rattle.history.proofs.Lists.{all_map}
use Rattle.history.proofs.Marks.{free_marked}
use Rattle.history.proofs.Standing.{entries_redone}
use Rattle.ids.specs.declared.names.EventName.{EventName}
use Rattle.world_cells.specs.Theory.{cells}
use Rattle.event.specs.Events.{DoesNoted, noted_events}
use Rattle.event.proofs.Law.{noted_laws}
use Rattle.journal.specs.Items.{Item, swap_item}
use Rattle.journal.specs.Lines.{plain, Line, lines_of}
use Rattle.journal.proofs.Lifting.{SameMembers, named_members, live_members, both_members, sound_of_lines, dead_of_lines}
use Rattle.journal.proofs.Marking.{lines_redone}
use Rattle.causality.specs.Selections.{numbers, among, chosen, is_live, first_missing_cause, first_crossing, places_from}
use Rattle.causality.proofs.Exactness.{sound_of_lacks}
use Rattle.causality.proofs.Telling.{journal_tells}
use Rattle.undo.specs.CoreView.{items_of, settled_of, state_of, shown}
use Rattle.undo.specs.Standing.{CoreStands}
use Rattle.undo.specs.declared.undoing.Core.{Core}
use Rattle.undo.proofs.Standing.{redoes}
use Rattle.desk.specs.Desks.{Lent}
use Rattle.event.specs.Runs.{PlainRun}
use Rattle.book_refusals.specs.Refusals.{still_live, cause_missing, crossed}
use Rattle.book_refusals.specs.Checks.{closed_refusal, live_refusal, redo_refusal, gap_refusal}
use Rattle.book.specs.Calls.{Redoes, redone_in, live_events}
use Rattle.book.specs.Standing.{Kept, Stands}
use Rattle.book.proofs.Entering.{book_with}
use Rattle.book.proofs.Sets.{Lines-set}
use Rattle.book.proofs.Choosing.{neither, not_mapped, of_rows, journal_of, places_are, chosen_undone, all_entries, walk_seats}
use Rattle.book.proofs.Running.{plain_run}

-- the parts of a redo that nothing refuses
dead_set : (names : List EventName) (n : ℕ) (lines : List Line) → redo_refusal n lines names ≡ None → AllByRecursion (λ l. chosen names l ≡ true → is_live l ≡ false) lines
dead_set names n lines ok = chosen_undone names lines (not_mapped still_live _ (neither (live_refusal names lines) _ (neither (closed_refusal names n lines) _ ok).1).0)

no_lack : (names : List EventName) (n : ℕ) (lines : List Line) → redo_refusal n lines names ≡ None → (first_missing_cause names lines ≡ None) × (first_crossing names lines ≡ None)
no_lack names n lines ok =
    let rest = neither _ _ (neither (live_refusal names lines) _ (neither (closed_refusal names n lines) _ ok).1).1 in
    (not_mapped (gap_refusal cause_missing) _ rest.0, not_mapped (gap_refusal crossed) _ rest.1)

module _ (old new : Core) (next : ℕ) (out : List Lent) (names : List EventName) (ps : List ℕ) (ok : redo_refusal (settled_of old) (lines_of (items_of old)) names ≡ None)
    (at : ps ≡ places_from 0 names (lines_of (items_of old))) (is : shown new ≡ walk (swap_item true) ps (shown old)) where
  module _ (rows : List (Row noted_events)) (h : CoreStands DoesNoted (empty noted_events) next rows old) where
    members : SameMembers DoesNoted (among names) (of_rows names) rows
    members = named_members DoesNoted (is_in (numbers names)) rows

    members_both : SameMembers DoesNoted (both (live_set plain) (among names)) (both (live_set noted_events) (of_rows names)) rows
    members_both = both_members DoesNoted (live_set plain) (among names) (live_set noted_events) (of_rows names) rows (live_members DoesNoted rows) members

    sound : Sound noted_events (both (live_set noted_events) (of_rows names)) (entries_of rows)
    sound = sound_of_lines DoesNoted noted_laws h (both (live_set plain) (among names)) (both (live_set noted_events) (of_rows names)) members_both
        (sound_of_lacks names (lines_of (items_of old)) (journal_tells (items_of old) (journal_of old h)) (no_lack names (settled_of old) (lines_of (items_of old)) ok))

    dead : AllByRecursion (λ e. of_rows names e ≡ true → e.live ≡ false) (entries_of rows)
    dead = dead_of_lines DoesNoted noted_laws h (among names) (of_rows names) members
        (all_entries (λ e. among names e ≡ true → e.live ≡ false) (lines_of (items_of old)) (dead_set names (settled_of old) (lines_of (items_of old)) ok))

    abbrev after : List (Row noted_events)
    after = redo_rows noted_events (of_rows names) rows (state_of old)

    stood : CoreStands DoesNoted (empty noted_events) next after new
    stood = (redoes DoesNoted noted_laws (empty noted_events) next (of_rows names) rows old new ps h (at ∙ places_are h names) dead sound is).0

    seats : map (λ i. i.seat) (items_of new) ≡ map (λ i. i.seat) (items_of old)
    seats = ap (λ (j : List Item × State cells). map (λ (i : Item). i.seat) j.0) is ∙ walk_seats true ps (shown old)

    lines : lines_of (items_of new) ≡ redone_in names (lines_of (items_of old))
    lines = lines_redone DoesNoted noted_laws h (both (live_set plain) (among names)) (of_rows names) stood members_both seats

    still_free : (n : ℕ) → Free noted_events n (entries_of rows) → Free noted_events n (entries_of after)
    still_free n free = subst (Free noted_events n) (sym (entries_redone noted_events (of_rows names) rows (state_of old))) (free_marked noted_events (both (live_set noted_events) (of_rows names)) n (entries_of rows) free)

    run : PlainRun (live_events (redone_in names (lines_of (items_of old)))) (contents cells (state_of new))
    run = subst (λ es. PlainRun es (contents cells (state_of new))) (ap live_events lines) (plain_run stood)

  kept : Kept old next out → Kept new next out
  kept k = record {
    rows = after k.rows k.stands;
    stands = stood k.rows k.stands;
    free = all_map _ _ out (λ t q. still_free k.rows k.stands t.number.0 q) k.free;
    drawn = k.drawn;
    apart = k.apart;
  }

  module _ (h : Stands old next out) where
    -- THE LEMMAS: the book stands, and the redo is done
    pub redone_stands : Stands new next out
    redone_stands = ∥∥₁_elim h ∥∥₁_prop (λ k. ∣ kept k ∣₁)

    pub book_redone : settled_of new ≡ settled_of old → Redoes names (book_with old next out) (book_with new next out)
    book_redone many = record {
      run = ∥∥₁_elim h ∥∥₁_prop (λ k. run k.rows k.stands);
      marked = ∥∥₁_elim h (Lines-set _ _) (λ k. lines k.rows k.stands);
      same_settled = many;
      same_next = refl;
      same_out = refl;
    }
