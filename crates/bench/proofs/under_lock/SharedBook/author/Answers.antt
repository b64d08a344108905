use Rattle.std.proofs.Common.{◌≡◌, ℕ, ◌∙◌, ap, arith, subst, Option, Some, None}
use Rattle.std.specs.Prelude.{slice_set}
use Rattle.crossbeam_utils.specs.Seq.{cell_view}
use Rattle.ids.specs.declared.names.EventName.{EventName}
use Rattle.world_cells.specs.Events.{Event}
use Rattle.book.specs.BookView.{book_of}
use Rattle.bench_pact.specs.declared.Act.{Act}
use Rattle.bench_pact.specs.Agree.{after, entered_by, knower}
use Rattle.bench.specs.Author.{Obeys}
use Rattle.bench.specs.SharedBookView.{SharedView}
use Rattle.book_crew.specs.Work.{is_turn}
use Rattle.bench.proofs.Acts.{Entering, entering, mark_enters_none}
use Rattle.bench.proofs.Agrees.{shared_entered, counted_more, counted_same, few_events}
use Rattle.bench.proofs.Moves.{journal_within, marked, one_open, refused_marked}
use Rattle.bench.proofs.under_lock.SharedBook.author.Goals as goal

pub note-requires-clause-room : goal.note-requires-clause-room
note-requires-clause-room g c = λ at. few_events _ _ _ _ _ (book_of c.self.inside.book) _ c.self.invariant.2 (journal_within c.self.inside.book) at

pub note-requires-in-Ok-None-clause-room : goal.note-requires-in-Ok-None-clause-room
note-requires-in-Ok-None-clause-room g c = λ at. few_events _ _ _ _ _ (book_of c.self.inside.book) _ c.self.invariant.2 (journal_within c.self.inside.book) at

pub note-requires-in-Err-clause-room : goal.note-requires-in-Err-clause-room
note-requires-in-Err-clause-room g c = λ at. few_events _ _ _ _ _ (book_of c.self.inside.book) _ c.self.invariant.2 (journal_within c.self.inside.book) at

pub last_event-entered-requires : goal.last_event-entered-requires
last_event-entered-requires g c =
    let old = book_of c.self.inside.book in
    let now = book_of c.obey.new.book in
    let h : Obeys c.args.instruction c.number.result (Some c.in-Ok-Some.event) old now = subst (λ (o : Option EventName). Obeys c.args.instruction c.number.result o old now) c.in-Ok-Some.field-0-is c.in-Ok-Some.ensures.ok in
    let it : Entering c.args.instruction c.in-Ok-Some.event c.number.result old now = entering _ _ _ old now h in
    one_open c.self.inside.book now it.grows it.same_settled

pub note-requires-clause-fit : goal.note-requires-clause-fit
note-requires-clause-fit g c =
    let old = book_of c.self.inside.book in
    let now = book_of c.obey.new.book in
    let h : Obeys c.args.instruction c.number.result (Some c.in-Ok-Some.event) old now = subst (λ (o : Option EventName). Obeys c.args.instruction c.number.result o old now) c.in-Ok-Some.field-0-is c.in-Ok-Some.ensures.ok in
    let it : Entering c.args.instruction c.in-Ok-Some.event c.number.result old now = entering _ _ _ old now h in
    ap (λ (x : Event). is_turn x.act) (c.last_event-entered.ensures _ _ it.grows.journal) ∙ it.no_turn

pub invariant_of-self : goal.invariant_of-self
invariant_of-self g c =
    let i = c.self.invariant in
    let n = c.note.ensures in
    let old = book_of c.self.inside.book in
    let now = book_of c.obey.new.book in
    let h : Obeys c.args.instruction c.number.result (Some c.in-Ok-Some.event) old now = subst (λ (o : Option EventName). Obeys c.args.instruction c.number.result o old now) c.in-Ok-Some.field-0-is c.in-Ok-Some.ensures.ok in
    let it : Entering c.args.instruction c.in-Ok-Some.event c.number.result old now = entering _ _ _ old now h in
    let event = c.last_event-entered.ensures _ _ it.grows.journal in
    let seat = c.number.ensures.is ∙ n.agreed.0 in
    (n.keeper.0, i.1, shared_entered _ _ _ _ _ _ old now _ _ _ i.2 n.agreed.1 seat event it.grows it.same_out n.keeper.1, counted_more _ _ _ _ old now i.3 n.total it.grows, i.4, i.5, i.6)

pub returns-in-Ok-Some-clause-ok : goal.returns-in-Ok-Some-clause-ok
returns-in-Ok-Some-clause-ok g c =
    let old = book_of c.self.inside.book in
    let now = book_of c.obey.new.book in
    let h : Obeys c.args.instruction c.number.result (Some c.in-Ok-Some.event) old now = subst (λ (o : Option EventName). Obeys c.args.instruction c.number.result o old now) c.in-Ok-Some.field-0-is c.in-Ok-Some.ensures.ok in
    let it : Entering c.args.instruction c.in-Ok-Some.event c.number.result old now = entering _ _ _ old now h in
    let event = c.last_event-entered.ensures _ _ it.grows.journal in
    let P : ℕ × SharedView → Type 0 = λ p. Obeys c.args.instruction p.0 (Some c.in-Ok-Some.event) (book_of p.1.book) now in
    (subst P (λ j. (c.number.ensures.is j, c.self.view_is j)) h, (it.act, it.of_instruction, record { added = c.last_event-entered.result.value; event = event; seat = c.note.ensures.seat }))

pub invariant_of-self-in-Ok-None : goal.invariant_of-self-in-Ok-None
invariant_of-self-in-Ok-None g c =
    let i = c.self.invariant in
    let n = c.note-in-Ok-None.ensures in
    let old = book_of c.self.inside.book in
    let now = book_of c.obey.new.book in
    let all = (cell_view c.self.inside.keeper).all in
    let place = c.args.seat.now.place in
    let deeds = c.args.seat.now.deeds in
    let h : Obeys c.args.instruction c.number.result None old now = subst (λ (o : Option EventName). Obeys c.args.instruction c.number.result o old now) c.in-Ok-None.field-0-is c.in-Ok-None.ensures.ok in
    let keeper = n.keeper.1 ∙ ap (λ (a : Act). knower (slice_set all place (after a deeds))) c.mark-mark.ensures in
    let none = ap entered_by c.mark-mark.ensures ∙ mark_enters_none c.args.instruction in
    let total = n.total in
    let same : c.note-in-Ok-None.new.entries.total ≡ c.self.inside.entries.total = omega (arith, none, total) in
    let m = marked c.args.instruction _ _ _ _ _ _ old now deeds i.2 n.agreed.1 h.0 h.1 keeper in
    (n.keeper.0, i.1, m.0, counted_same _ _ _ old now i.3 same m.1, i.4, i.5, i.6)

pub invariant_of-self-in-Err : goal.invariant_of-self-in-Err
invariant_of-self-in-Err g c =
    let i = c.self.invariant in
    let n = c.note-in-Err.ensures in
    let old = book_of c.self.inside.book in
    let now = book_of c.obey.new.book in
    let all = (cell_view c.self.inside.keeper).all in
    let place = c.args.seat.now.place in
    let deeds = c.args.seat.now.deeds in
    let keeper = n.keeper.1 ∙ ap (λ (a : Act). knower (slice_set all place (after a deeds))) c.mark-mark.ensures in
    let none = ap entered_by c.mark-mark.ensures ∙ mark_enters_none c.args.instruction in
    let total = n.total in
    let same : c.note-in-Err.new.entries.total ≡ c.self.inside.entries.total = omega (arith, none, total) in
    let m = refused_marked c.args.instruction c.in-Err.fault _ _ _ _ _ _ old now deeds i.2 n.agreed.1 c.in-Err.ensures.err c.in-Err.ensures.unchanged keeper in
    (n.keeper.0, i.1, m.0, counted_same _ _ _ old now i.3 same m.1, i.4, i.5, i.6)
