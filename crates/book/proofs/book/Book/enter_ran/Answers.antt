use Rattle.std.proofs.Common.{rules, ◌≡◌, ◌∙◌, List, Option, length, map, refl, ap, sym, subst}
use Rattle.ids.specs.declared.cells.CellKey.{CellKey}
use Rattle.book_agenda.specs.Agendas.{AlikeBut}
use Rattle.book_agenda.specs.declared.agenda.Agenda.{Agenda}
use Rattle.std.proofs.lemmas.List.{length-map}
use Rattle.history.specs.Records.{contents}
use Rattle.desk.specs.DeskView.{out_of}
use Rattle.journal.specs.Items.{entered}
use Rattle.eval_rules.specs.Outbox.{Note}
use Rattle.eval_rules.specs.OutboxView.{note_of, outbox_of}
use Rattle.world_cells.specs.Events as world
use Rattle.world_cells.specs.Events.{Event, turn, with_notes}
use Rattle.world_cells.specs.Theory.{cells, kept_of, kepts_of}
use Rattle.world_cells.specs.View.{world_of, RisesBy}
use Rattle.undo.specs.CoreView.{shown, state_of, swaps_of}
use Rattle.book.specs.BookView.{book_of}
use Rattle.book.specs.Standing.{Stands}
use Rattle.book.proofs.Entering.{stands_same}
use Rattle.book.proofs.Committing.{committed_turn, committed_stands, sent_new}
use Rattle.book.proofs.Freshness.{brought}
use Rattle.book.proofs.Counting.{entered_counts}
use Rattle.book.proofs.Noting.{Noted, noted_same, noted_next, written_alike}
use Rattle.book.proofs.Within.{within_same, within_entered, one_more}
use Rattle.book.proofs.book.Book.enter_ran.Goals as goal

pub invariant_of-self : goal.invariant_of-self
invariant_of-self c =
    let b = c.args.self.now in
    record {
      in_range = b.in_range;
      stands = stands_same b.core _ b.next (out_of b.desk) c.in_err-enter.ensures.err b.stands;
      within = within_same b.core c.enter.new.self c.in_err-enter.ensures.err c.enter.ensures.settled b.within;
      noted = noted_same b.core c.enter.new.self b.agenda c.in_err-enter.ensures.err b.noted;
    }

pub invariant_of-self-2 : goal.invariant_of-self-2
invariant_of-self-2 c =
    let b = c.args.self.now in
    let r = c.args.ran.now in
    let e : Event = record { name = r.carried.event; act = turn r.carried.vat r.carried.name r.carried.budget } in
    let n : world.Noted = with_notes e (outbox_of r.outcome.out).notes in
    let same : world_of c.world.result.now ≡ (book_of b).world = ap (contents cells) c.world.ensures in
    let brings = brought (book_of b) (world_of c.world.result.now) same r c.args.way.now c.in_ok-touched.field-0 c.in_ok-touched.ensures c.requires.fresh (sent_new b.core b.next (out_of b.desk) b.stands r c.requires.known) c.requires.way in
    let it = c.in_ok-touched.field-0 in
    let entered_as : shown c.enter.new.self ≡ entered (with_notes e (map note_of c.in_ok-touched.notes.items)) r.carried.seat c.deref-2.result.now (kepts_of c.in_ok-touched.records.items) (shown b.core) = search rules in
    let is : shown c.enter.new.self ≡ entered n r.carried.seat it.touched.items (kepts_of it.records.items) (shown b.core) =
    entered_as ∙ ap (λ touched. entered (with_notes e (map note_of c.in_ok-touched.notes.items)) r.carried.seat touched (kepts_of c.in_ok-touched.records.items) (shown b.core)) c.deref-2.ensures.value
    ∙ ap (λ records. entered (with_notes e (map note_of c.in_ok-touched.notes.items)) r.carried.seat it.touched.items (kepts_of records.items) (shown b.core)) (sym c.in_ok-touched.records-is)
    ∙ ap (λ notes. entered (with_notes e (map note_of notes.items)) r.carried.seat it.touched.items (kepts_of it.records.items) (shown b.core)) (sym c.in_ok-touched.notes-is)
    ∙ ap (λ (notes : List Note). entered (with_notes e notes) r.carried.seat it.touched.items (kepts_of it.records.items) (shown b.core)) brings.noted in
    record {
      in_range = b.in_range;
      stands = subst (Stands c.enter.new.self b.next) (sym c.remove.ensures.rest)
          (committed_stands b.core c.enter.new.self b.next (out_of b.desk) r c.in_ok-touched.field-0 brings is c.requires.known c.requires.fresh b.stands);
      within = within_entered b.core c.enter.new.self n r.carried.seat c.in_ok-touched.field-0.touched.items (kepts_of c.in_ok-touched.field-0.records.items) is c.enter.ensures.settled (one_more (book_of b) c.requires.room);
      noted = noted_next b.core c.enter.new.self c.take.result c.noted.result c.world-2.result.now c.deref-3.result.now c.world-2.ensures c.noted.ensures
          (subst (λ (written : List CellKey). AlikeBut written (contents cells (state_of b.core)) (contents cells (state_of c.enter.new.self)))
          (sym (c.deref-3.ensures.value ∙ c.in_ok-written.ensures ∙ ap (λ l. map (λ r. r.0) (kepts_of l)) c.deref.ensures.value))
          (written_alike b.core c.enter.new.self n r.carried.seat it.touched.items (kepts_of it.records.items) is))
          (subst (λ (agenda : Option Agenda). Noted agenda (state_of b.core)) (sym c.take.ensures.value) b.noted);
    }

pub returns-clause-ok : goal.returns-clause-ok
returns-clause-ok c =
    let b = c.args.self.now in
    let r = c.args.ran.now in
    let e : Event = record { name = r.carried.event; act = turn r.carried.vat r.carried.name r.carried.budget } in
    let n : world.Noted = with_notes e (outbox_of r.outcome.out).notes in
    let same : world_of c.world.result.now ≡ (book_of b).world = ap (contents cells) c.world.ensures in
    let brings = brought (book_of b) (world_of c.world.result.now) same r c.args.way.now c.in_ok-touched.field-0 c.in_ok-touched.ensures c.requires.fresh (sent_new b.core b.next (out_of b.desk) b.stands r c.requires.known) c.requires.way in
    let it = c.in_ok-touched.field-0 in
    let entered_as : shown c.enter.new.self ≡ entered (with_notes e (map note_of c.in_ok-touched.notes.items)) r.carried.seat c.deref-2.result.now (kepts_of c.in_ok-touched.records.items) (shown b.core) = search rules in
    let is : shown c.enter.new.self ≡ entered n r.carried.seat it.touched.items (kepts_of it.records.items) (shown b.core) =
    entered_as ∙ ap (λ touched. entered (with_notes e (map note_of c.in_ok-touched.notes.items)) r.carried.seat touched (kepts_of c.in_ok-touched.records.items) (shown b.core)) c.deref-2.ensures.value
    ∙ ap (λ records. entered (with_notes e (map note_of c.in_ok-touched.notes.items)) r.carried.seat it.touched.items (kepts_of records.items) (shown b.core)) (sym c.in_ok-touched.records-is)
    ∙ ap (λ notes. entered (with_notes e (map note_of notes.items)) r.carried.seat it.touched.items (kepts_of it.records.items) (shown b.core)) (sym c.in_ok-touched.notes-is)
    ∙ ap (λ (notes : List Note). entered (with_notes e notes) r.carried.seat it.touched.items (kepts_of it.records.items) (shown b.core)) brings.noted in
    record {
      known = c.requires.known;
      fresh = c.requires.fresh;
      room = c.requires.room;
      enters = committed_turn b.core c.enter.new.self b.next (out_of b.desk) r c.in_ok-touched.field-0 brings is c.requires.known c.requires.fresh b.stands _;
      same_settled = c.enter.ensures.settled;
      same_next = refl;
      out = c.remove.ensures.rest;
    }

pub returns-clause-counted : goal.returns-clause-counted
returns-clause-counted c =
    let b = c.args.self.now in
    let r = c.args.ran.now in
    let e : Event = record { name = r.carried.event; act = turn r.carried.vat r.carried.name r.carried.budget } in
    let n : world.Noted = with_notes e (map note_of c.in_ok-touched.notes.items) in
    let records = c.in_ok-touched.records.items in
    let entered_as : shown c.enter.new.self ≡ entered n r.carried.seat c.deref-2.result.now (kepts_of records) (shown b.core) = search rules in
    let counted : RisesBy (length records) (swaps_of b.core) (swaps_of c.enter.new.self) = search rules in
    entered_counts b.core c.enter.new.self n r.carried.seat c.deref-2.result.now (kepts_of records) (length records) (swaps_of b.core) (swaps_of c.enter.new.self) entered_as (sym (length-map records kept_of)) counted
