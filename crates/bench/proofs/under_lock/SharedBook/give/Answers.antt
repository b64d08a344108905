use Rattle.std.proofs.Common.{◌∙◌, ap, sym, subst}
use Rattle.ids.specs.declared.names.EventName.{EventName}
use Rattle.world_cells.specs.Events.{Event}
use Rattle.turn.specs.declared.ticket.Ran.{Ran}
use Rattle.book.specs.Calls.{Commits}
use Rattle.bench.specs.Author.{turn_of}
use Rattle.book.specs.TurnFaults.{TellsCommit}
use Rattle.bench.specs.SharedBook.{Returns, refused}
use Rattle.bench.specs.SharedBookView.{SharedView}
use Rattle.bench.proofs.Acts.{returned}
use Rattle.book.specs.BookView.{book_of}
use Rattle.desk.specs.Desks.{without}
use Rattle.bench.proofs.Agrees.{shared_given, counted_more, few_events}
use Rattle.bench.proofs.Moves.{grows, journal_within, one_open}
use Rattle.book_crew.specs.Work.{is_turn}
use Rattle.bench.proofs.under_lock.SharedBook.give.Goals as goal

pub last_event-given-requires : goal.last_event-given-requires
last_event-given-requires g c =
    let old = book_of c.self.inside.book in
    let g' = grows _ _ _ old (book_of c.enter_turn.new.self) c.in-Ok.ensures.ok.enters.enters in
    one_open c.self.inside.book (book_of c.enter_turn.new.self) g' c.in-Ok.ensures.ok.same_settled

pub note-requires-clause-fit : goal.note-requires-clause-fit
note-requires-clause-fit g c =
    let old = book_of c.self.inside.book in
    let g' = grows _ _ _ old (book_of c.enter_turn.new.self) c.in-Ok.ensures.ok.enters.enters in
    ap (λ e. is_turn e.act) (c.last_event-given.ensures _ _ g'.journal)

pub note-requires-clause-room : goal.note-requires-clause-room
note-requires-clause-room g c = λ at. few_events _ _ _ _ _ (book_of c.self.inside.book) _ c.self.invariant.2 (journal_within c.self.inside.book) at

pub invariant_of-self : goal.invariant_of-self
invariant_of-self g c =
    let i = c.self.invariant in
    let n = c.note.ensures in
    let ok = c.in-Ok.ensures.ok in
    let old = book_of c.self.inside.book in
    let now = book_of c.enter_turn.new.self in
    let g' = grows _ _ _ old now ok.enters.enters in
    let event = c.last_event-given.ensures _ _ g'.journal in
    let seat = c.if-ran-number.false ∙ c.number.ensures.is ∙ n.agreed.0 in
    let out = ok.out ∙ ap (λ (m : EventName). without m old.out) (sym (ap (λ (e : Event). e.name) event)) in
    (n.keeper.0, i.1, shared_given _ _ _ _ _ _ old now _ _ _ i.2 n.agreed.1 seat event g' _ out n.keeper.1, counted_more _ _ _ _ old now i.3 n.total g', i.4, i.5, i.6)

pub returns-in-Ok-clause-ok : goal.returns-in-Ok-clause-ok
returns-in-Ok-clause-ok g c =
    let ok = c.in-Ok.ensures.ok in
    let same = c.ran-ran.ensures in
    let ran = c.ran-ran.result.now in
    let old = book_of c.self.inside.book in
    let now = book_of c.enter_turn.new.self in
    let g' = grows _ _ _ old now ok.enters.enters in
    let event = c.last_event-given.ensures _ _ g'.journal in
    let seat = sym (ap (λ (r : Ran). r.carried.seat) same) ∙ c.if-ran-number.false ∙ c.number.ensures.is in
    let P : SharedView → Type 0 = λ d. Commits c.args.ticket.now (book_of d.book) now in
    let T : Ran → Type 0 = λ r. Commits r old now in
    let B : Ran → Type 0 = λ r. Returns (turn_of r) c.args.seat.now c.note.new.self in
    (ap (λ (r : Ran). r.carried.event) same, seat, subst P c.self.view_is (subst T same ok), subst B same (returned (turn_of ran) c.last_event-given.result.value c.args.seat.now c.note.new.self event c.note.ensures.seat))

pub returns-in-Err-clause-err : goal.returns-in-Err-clause-err
returns-in-Err-clause-err g c =
    let same = c.ran-ran.ensures in
    let fault = c.in-Err.fault in
    let T : Ran → Type 0 = λ r. TellsCommit fault (book_of c.self.inside.book) r in
    let P : SharedView → Type 0 = λ d. TellsCommit fault (book_of d.book) c.args.ticket.now in
    (c.let_stale_go.ensures.seat ∙ ap (λ (r : Ran). refused fault r.carried.event c.args.seat.now) same, λ at. subst P c.self.view_is (subst T same c.in-Err.ensures.err))
