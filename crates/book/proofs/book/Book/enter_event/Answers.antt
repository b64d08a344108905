use Rattle.std.proofs.Common.{◌≡◌, List, [], Option, length, map, ap, sym, subst, ◌∙◌}
use Rattle.std.proofs.lemmas.List.{length-map}
use Rattle.history.specs.Records.{contents}
use Rattle.ids.specs.declared.cells.CellKey.{CellKey}
use Rattle.book_agenda.specs.Agendas.{AlikeBut}
use Rattle.book_agenda.specs.declared.agenda.Agenda.{Agenda}
use Rattle.eval_rules.specs.OutboxView.{note_of}
use Rattle.eval_rules.specs.declared.outbox.Note.{Note}
use Rattle.world_cells.specs.Events.{with_notes}
use Rattle.world_cells.specs.EventView.{event_of}
use Rattle.world_cells.specs.Theory.{cells, kept_of, kepts_of}
use Rattle.journal.specs.Items.{entered}
use Rattle.desk.specs.DeskView.{out_of}
use Rattle.undo.specs.CoreView.{shown, state_of, swaps_of}
use Rattle.book.proofs.Entering.{stands_same, quiet_does, next_stands, next_enters}
use Rattle.book.proofs.Counting.{entered_counts}
use Rattle.book.proofs.Noting.{Noted, noted_same, noted_next, written_alike}
use Rattle.book.specs.BookView.{book_of}
use Rattle.book.proofs.Within.{within_same, within_entered, one_more, room_for_names}
use Rattle.book.proofs.book.Book.enter_event.Goals as goal

pub invariant_of-self : goal.invariant_of-self
invariant_of-self c = record { in_range = c.args.self.now.in_range; stands = stands_same c.args.self.now.core c.enter.new.self c.args.self.now.next (out_of c.args.self.now.desk) c.in_err-enter.ensures.err c.args.self.now.stands; within = within_same c.args.self.now.core c.enter.new.self c.in_err-enter.ensures.err c.enter.ensures.settled c.args.self.now.within; noted = noted_same c.args.self.now.core c.enter.new.self c.args.self.now.agenda c.in_err-enter.ensures.err c.args.self.now.noted }

pub invariant_of-self-2-clause-stands : goal.invariant_of-self-2-clause-stands
invariant_of-self-2-clause-stands c =
    let old = c.args.self.now.core in
    let e = event_of c.args.event in
    let kept = kepts_of c.args.effects.records.items in
    let is : shown c.enter.new.self ≡ entered (with_notes e []) c.args.seat c.args.effects.touched.items kept (shown old) =
    c.in_ok-enter.ensures.ok ∙ ap (λ t. entered (with_notes e (map note_of c.args.effects.notes.items)) c.args.seat t kept (shown old)) c.deref-2.ensures.value
    ∙ ap (λ (ns : List Note). entered (with_notes e (map note_of ns)) c.args.seat c.args.effects.touched.items kept (shown old)) c.requires.quiet in
    let h = c.requires.possible in
    next_stands old c.enter.new.self c.args.self.now.next (out_of c.args.self.now.desk) e c.args.seat c.args.effects.touched.items kept h.0 h.1.brings is c.requires.named c.args.self.now.stands (quiet_does h.1 c.requires.quiet)

pub invariant_of-self-2-clause-noted : goal.invariant_of-self-2-clause-noted
invariant_of-self-2-clause-noted c =
    let old = c.args.self.now.core in
    let e = event_of c.args.event in
    let kept = kepts_of c.args.effects.records.items in
    let is : shown c.enter.new.self ≡ entered (with_notes e []) c.args.seat c.args.effects.touched.items kept (shown old) =
    c.in_ok-enter.ensures.ok ∙ ap (λ t. entered (with_notes e (map note_of c.args.effects.notes.items)) c.args.seat t kept (shown old)) c.deref-2.ensures.value
    ∙ ap (λ (ns : List Note). entered (with_notes e (map note_of ns)) c.args.seat c.args.effects.touched.items kept (shown old)) c.requires.quiet in
    let written : c.deref-3.result.now ≡ map (λ r. r.0) kept = c.deref-3.ensures.value ∙ c.in_ok-written.ensures ∙ ap (λ l. map (λ r. r.0) (kepts_of l)) c.deref.ensures.value in
    noted_next old c.enter.new.self c.take.result c.noted.result c.world.result.now c.deref-3.result.now c.world.ensures c.noted.ensures
    (subst (λ (keys : List CellKey). AlikeBut keys (contents cells (state_of old)) (contents cells (state_of c.enter.new.self))) (sym written) (written_alike old c.enter.new.self (with_notes e []) c.args.seat c.args.effects.touched.items kept is))
    (subst (λ (agenda : Option Agenda). Noted agenda (state_of old)) (sym c.take.ensures.value) c.args.self.now.noted)

pub invariant_of-self-2-clause-within : goal.invariant_of-self-2-clause-within
invariant_of-self-2-clause-within c =
    let old = c.args.self.now.core in
    let e = event_of c.args.event in
    let kept = kepts_of c.args.effects.records.items in
    let is : shown c.enter.new.self ≡ entered (with_notes e []) c.args.seat c.args.effects.touched.items kept (shown old) =
    c.in_ok-enter.ensures.ok ∙ ap (λ t. entered (with_notes e (map note_of c.args.effects.notes.items)) c.args.seat t kept (shown old)) c.deref-2.ensures.value
    ∙ ap (λ (ns : List Note). entered (with_notes e (map note_of ns)) c.args.seat c.args.effects.touched.items kept (shown old)) c.requires.quiet in
    within_entered old c.enter.new.self (with_notes e []) c.args.seat c.args.effects.touched.items kept is c.enter.ensures.settled (one_more (book_of c.args.self.now) (room_for_names (book_of c.args.self.now) c.requires.room))

pub returns-clause-ok : goal.returns-clause-ok
returns-clause-ok c = λ f h.
    let old = c.args.self.now.core in
    let e = event_of c.args.event in
    let kept = kepts_of c.args.effects.records.items in
    let is : shown c.enter.new.self ≡ entered (with_notes e []) c.args.seat c.args.effects.touched.items kept (shown old) =
    c.in_ok-enter.ensures.ok ∙ ap (λ t. entered (with_notes e (map note_of c.args.effects.notes.items)) c.args.seat t kept (shown old)) c.deref-2.ensures.value
    ∙ ap (λ (ns : List Note). entered (with_notes e (map note_of ns)) c.args.seat c.args.effects.touched.items kept (shown old)) c.requires.quiet in
    next_enters old c.enter.new.self c.args.self.now.next (out_of c.args.self.now.desk) e c.args.seat c.args.effects.touched.items kept f h.brings is c.requires.named c.args.self.now.stands (quiet_does h c.requires.quiet) c.enter.ensures.settled

pub returns-clause-counted : goal.returns-clause-counted
returns-clause-counted c =
    let old = c.args.self.now.core in
    let notes = with_notes (event_of c.args.event) (map note_of c.args.effects.notes.items) in
    let records = c.args.effects.records.items in
    entered_counts old c.enter.new.self notes c.args.seat c.deref-2.result.now (kepts_of records) (length records) (swaps_of old) (swaps_of c.enter.new.self) c.in_ok-enter.ensures.ok (sym (length-map records kept_of)) c.in_ok-enter.ensures.counted
