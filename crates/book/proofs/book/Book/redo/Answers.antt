use Rattle.std.proofs.Common.{rules, arith, true, ◌≡◌, ◌∙◌, ℕ, ◌≤◌, List, Option, All, None, length, filter, ◌+◌, ◌%◌, ◌^◌, sym, ap, ap₂, subst}
use Rattle.std.specs.Vec.{vec_len}
use Rattle.history.specs.Walks.{walk}
use Rattle.history.specs.Records.{contents}
use Rattle.ids.specs.declared.names.EventName.{EventName}
use Rattle.ids.specs.declared.cells.CellKey.{CellKey}
use Rattle.world_cells.specs.Theory.{cells}
use Rattle.journal.specs.Items.{Item, records_at, swap_item}
use Rattle.journal.specs.Lines.{lines_of}
use Rattle.causality.specs.Journals.{IsJournal}
use Rattle.causality.specs.Selections.{chosen, first_settled, places_from}
use Rattle.journal.specs.Journals.{items_of as journal_items}
use Rattle.undo.specs.CoreView.{items_of, settled_of, state_of, shown}
use Rattle.undo.specs.Written.{written_at}
use Rattle.desk.specs.DeskView.{out_of}
use Rattle.book_refusals.specs.Checks.{redo_refusal}
use Rattle.book.specs.Books.{Book}
use Rattle.book.specs.BookView.{book_of}
use Rattle.book.specs.Calls.{Redoes, redone}
use Rattle.book.specs.Counting.{written_in}
use Rattle.book.proofs.Counting.{records_chosen}
use Rattle.book.proofs.Choosing.{stands_journal, places_count}
use Rattle.book.proofs.Entering.{book_with}
use Rattle.book.proofs.Redoing.{redone_stands, book_redone}
use Rattle.book_agenda.specs.Agendas.{AlikeBut}
use Rattle.book_agenda.specs.declared.agenda.Agenda.{Agenda}
use Rattle.book.proofs.Noting.{Noted, noted_next, redone_alike}
use Rattle.book.proofs.Within.{within_marked}
use Rattle.book.proofs.book.Book.redo.Goals as goal

pub check_redo-requires : goal.check_redo-requires
check_redo-requires c =
    let b = c.args.self.now in
    subst IsJournal (sym c.journal-journal.ensures.items) (stands_journal b.core b.next (out_of b.desk) b.stands)

pub returns-in_err-check_redo-clause-err : goal.returns-in_err-check_redo-clause-err
returns-in_err-check_redo-clause-err c = rw (← c.journal-journal.ensures.items, ← c.journal-journal.ensures.settled, ← c.in_ok-names.ensures) (search rules)

pub make_ready-requires : goal.make_ready-requires
make_ready-requires c = sym (ap₂ (λ n (items : List Item). first_settled c.in_ok-names.names n (lines_of items)) c.journal-journal.ensures.settled c.journal-journal.ensures.items) ∙ c.in_ok-check_redo.ensures.open

pub redo-requires-clause-behind : goal.redo-requires-clause-behind
redo-requires-clause-behind c = subst (λ (ps : List ℕ). All (λ p. settled_of c.make_ready.new.self.core ≤ p) ps) (sym c.deref.ensures.value) c.in_ok-positions.ensures.behind

pub invariant_of-self : goal.invariant_of-self
invariant_of-self c =
    let b = c.make_ready.new.self in
    let events = c.args.events.now in
    let same : c.in_ok-names.names ≡ events = c.in_ok-names.ensures in
    let ok : redo_refusal (settled_of b.core) (lines_of (items_of b.core)) events ≡ None =
    ap (λ (m : Book). redo_refusal m.settled m.journal events) c.make_ready.ensures.unchanged
    ∙ ap₂ (λ n (items : List Item). redo_refusal n (lines_of items) events) (sym c.journal-journal.ensures.settled) (sym c.journal-journal.ensures.items)
    ∙ ap (λ (names : List EventName). redo_refusal (length c.journal-journal.result.settled.now) (lines_of (journal_items c.journal-journal.result)) names) (sym same) ∙ c.in_ok-check_redo.ensures.ok in
    let at : c.deref.result.now ≡ places_from 0 events (lines_of (items_of b.core)) =
    c.deref.ensures.value ∙ c.in_ok-positions.ensures.places ∙ ap (λ (names : List EventName). places_from 0 names (lines_of (items_of b.core))) same in
    let is : shown c.redo.new.self ≡ walk (swap_item true) c.deref.result.now (shown b.core) = c.redo.ensures.shown in
    let many : settled_of c.redo.new.self ≡ settled_of b.core = c.redo.ensures.settled in
    record {
      in_range = b.in_range;
      stands = redone_stands b.core c.redo.new.self b.next (out_of b.desk) events c.deref.result.now ok at is b.stands;
      within = within_marked b.core c.redo.new.self (redone events) (book_redone b.core c.redo.new.self b.next (out_of b.desk) events c.deref.result.now ok at is b.stands many).marked many b.within;
      noted = noted_next b.core c.redo.new.self c.take.result c.noted.result c.world.result.now c.deref-2.result.now c.world.ensures c.noted.ensures
          (subst (λ (written : List CellKey). AlikeBut written (contents cells (state_of b.core)) (contents cells (state_of c.redo.new.self))) (sym (c.deref-2.ensures.value ∙ c.in_ok-positions.ensures.written ∙ ap (written_at (items_of b.core)) (sym c.deref.ensures.value)))
          (redone_alike b.core c.redo.new.self c.deref.result.now is))
          (subst (λ (agenda : Option Agenda). Noted agenda (state_of b.core)) (sym c.take.ensures.value) b.noted);
    }

pub returns-clause-ok : goal.returns-clause-ok
returns-clause-ok c =
    let b = c.make_ready.new.self in
    let events = c.args.events.now in
    let same : c.in_ok-names.names ≡ events = c.in_ok-names.ensures in
    let old = book_of c.args.self.now in
    let first : redo_refusal old.settled old.journal events ≡ None =
    ap₂ (λ n (items : List Item). redo_refusal n (lines_of items) events) (sym c.journal-journal.ensures.settled) (sym c.journal-journal.ensures.items)
    ∙ ap (λ (names : List EventName). redo_refusal (length c.journal-journal.result.settled.now) (lines_of (journal_items c.journal-journal.result)) names) (sym same) ∙ c.in_ok-check_redo.ensures.ok in
    let ok : redo_refusal (settled_of b.core) (lines_of (items_of b.core)) events ≡ None = ap (λ (m : Book). redo_refusal m.settled m.journal events) c.make_ready.ensures.unchanged ∙ first in
    let at : c.deref.result.now ≡ places_from 0 events (lines_of (items_of b.core)) =
    c.deref.ensures.value ∙ c.in_ok-positions.ensures.places ∙ ap (λ (names : List EventName). places_from 0 names (lines_of (items_of b.core))) same in
    let is : shown c.redo.new.self ≡ walk (swap_item true) c.deref.result.now (shown b.core) = c.redo.ensures.shown in
    let many : vec_len c.in_ok-positions.positions ≡ length c.in_ok-positions.positions.items = omega (arith, c.in_ok-positions.positions.ok.0) in (
      first,
      subst (λ (m : Book). Redoes events m (book_with c.redo.new.self b.next (out_of b.desk))) c.make_ready.ensures.unchanged (book_redone b.core c.redo.new.self b.next (out_of b.desk) events c.deref.result.now ok at is b.stands c.redo.ensures.settled),
      c.len.ensures ∙ many ∙ ap length (sym c.deref.ensures.value ∙ at) ∙ places_count 0 events (lines_of (items_of b.core)) ∙ ap (λ (m : Book). length (filter (chosen events) m.journal)) c.make_ready.ensures.unchanged,
    )

pub returns-clause-counted : goal.returns-clause-counted
returns-clause-counted c =
    let b = c.make_ready.new.self in
    let events = c.args.events.now in
    let at : c.deref.result.now ≡ places_from 0 events (lines_of (items_of b.core)) =
    c.deref.ensures.value ∙ c.in_ok-positions.ensures.places ∙ ap (λ (names : List EventName). places_from 0 names (lines_of (items_of b.core))) c.in_ok-names.ensures in
    c.redo.ensures.counted
    ∙ ap₂ (λ s n. (s + n) % 2 ^ 64) c.make_ready.ensures.counted
    (ap (records_at (items_of b.core)) at ∙ records_chosen events (items_of b.core) ∙ ap (λ (m : Book). written_in (filter (chosen events) m.journal)) c.make_ready.ensures.unchanged)
