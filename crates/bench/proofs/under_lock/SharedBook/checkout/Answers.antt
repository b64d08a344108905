use Rattle.std.proofs.Common.{◌≡◌, ℕ, ◌∙◌, ap, arith, subst, refl}
use Rattle.std.specs.Prelude.{slice_set}
use Rattle.crossbeam_utils.specs.Seq.{cell_view}
use Rattle.world_cells.specs.Events.{Event}
use Rattle.turn.specs.declared.ticket.Task.{Task}
use Rattle.book.specs.Books.{Book}
use Rattle.book.specs.BookView.{book_of}
use Rattle.book.specs.Calls.{lent_of}
use Rattle.bench_pact.specs.Agree.{after, knower}
use Rattle.bench_pact.specs.declared.Act.TheVariants.{Opens}
use Rattle.bench.specs.declared.pick.Pick.{Pick}
use Rattle.bench.specs.declared.pick.Pick.TheVariants as pick
use Rattle.bench.specs.Author.{Picks}
use Rattle.bench.specs.SharedBookView.{SharedView}
use Rattle.book_crew.specs.Work.{is_turn}
use Rattle.bench.proofs.Acts.{Moving, moving}
use Rattle.bench.proofs.Agrees.{shared_entered, shared_opened, rests_same, counted_more, counted_same, few_events}
use Rattle.bench.proofs.Moves.{journal_within, one_open}
use Rattle.bench.proofs.under_lock.SharedBook.checkout.Goals as goal

pub note-requires-clause-room : goal.note-requires-clause-room
note-requires-clause-room g c = λ at. few_events _ _ _ _ _ (book_of c.self.inside.book) _ c.self.invariant.2 (journal_within c.self.inside.book) at

pub note-requires-in-Turn-clause-room : goal.note-requires-in-Turn-clause-room
note-requires-in-Turn-clause-room g c = λ at. few_events _ _ _ _ _ (book_of c.self.inside.book) _ c.self.invariant.2 (journal_within c.self.inside.book) at

pub last_event-moved-requires : goal.last_event-moved-requires
last_event-moved-requires g c =
    let old = book_of c.self.inside.book in
    let now = book_of c.pick_first.new.book in
    let b = c.self.inside.budget in
    let h : Picks b c.number.result (pick.Moved c.in-Moved.event) old now = subst (λ (p : Pick). Picks b c.number.result p old now) c.in-Moved.is c.in_ok-pick_first.ensures.ok in
    let it : Moving c.in-Moved.event c.number.result old now = moving b _ _ old now h in
    one_open c.self.inside.book now it.grows it.same_settled

pub note-requires-clause-fit : goal.note-requires-clause-fit
note-requires-clause-fit g c =
    let old = book_of c.self.inside.book in
    let now = book_of c.pick_first.new.book in
    let b = c.self.inside.budget in
    let h : Picks b c.number.result (pick.Moved c.in-Moved.event) old now = subst (λ (p : Pick). Picks b c.number.result p old now) c.in-Moved.is c.in_ok-pick_first.ensures.ok in
    let it : Moving c.in-Moved.event c.number.result old now = moving b _ _ old now h in
    ap (λ (x : Event). is_turn x.act) (c.last_event-moved.ensures _ _ it.grows.journal) ∙ it.no_turn

pub invariant_of-self-in-Moved : goal.invariant_of-self-in-Moved
invariant_of-self-in-Moved g c =
    let i = c.self.invariant in
    let n = c.note.ensures in
    let old = book_of c.self.inside.book in
    let now = book_of c.pick_first.new.book in
    let b = c.self.inside.budget in
    let h : Picks b c.number.result (pick.Moved c.in-Moved.event) old now = subst (λ (p : Pick). Picks b c.number.result p old now) c.in-Moved.is c.in_ok-pick_first.ensures.ok in
    let it : Moving c.in-Moved.event c.number.result old now = moving b _ _ old now h in
    let event = c.last_event-moved.ensures _ _ it.grows.journal in
    let seat = c.number.ensures.is ∙ n.agreed.0 in
    (n.keeper.0, i.1, shared_entered _ _ _ _ _ _ old now _ _ _ i.2 n.agreed.1 seat event it.grows it.same_out n.keeper.1, counted_more _ _ _ _ old now i.3 n.total it.grows, i.4, i.5, i.6)

pub returns-in-Moved-clause-ok : goal.returns-in-Moved-clause-ok
returns-in-Moved-clause-ok g c =
    let old = book_of c.self.inside.book in
    let now = book_of c.pick_first.new.book in
    let b = c.self.inside.budget in
    let h : Picks b c.number.result (pick.Moved c.in-Moved.event) old now = subst (λ (p : Pick). Picks b c.number.result p old now) c.in-Moved.is c.in_ok-pick_first.ensures.ok in
    let it : Moving c.in-Moved.event c.number.result old now = moving b _ _ old now h in
    let event = c.last_event-moved.ensures _ _ it.grows.journal in
    let P : ℕ × SharedView → Type 0 = λ p. Picks p.1.budget p.0 (pick.Moved c.in-Moved.event) (book_of p.1.book) now in
    (subst P (λ j. (c.number.ensures.is j, c.self.view_is j)) h, (it.move, record { added = c.last_event-moved.result.value; event = event; seat = c.note.ensures.seat }))

pub invariant_of-self-in-Turn : goal.invariant_of-self-in-Turn
invariant_of-self-in-Turn g c =
    let i = c.self.invariant in
    let n = c.note-in-Turn.ensures in
    let old = book_of c.self.inside.book in
    let now = book_of c.pick_first.new.book in
    let b = c.self.inside.budget in
    let t = c.in-Turn.ticket in
    let all = (cell_view c.self.inside.keeper).all in
    let place = c.args.seat.now.place in
    let deeds = c.args.seat.now.deeds in
    let h : Picks b c.number.result (pick.Turn t) old now = subst (λ (p : Pick). Picks b c.number.result p old now) c.in-Turn.is c.in_ok-pick_first.ensures.ok in
    let lends = h.2 in
    let seat = lends.same_seat ∙ c.number.ensures.is ∙ n.agreed.0 in
    let rests = rests_same old now (ap (λ (x : Book). x.journal) lends.lent) in
    let keeper = n.keeper.1 ∙ ap (λ (o : Task). knower (slice_set all place (after (Opens o.event) deeds))) c.carried.ensures in
    let total = n.total in
    let same : c.note-in-Turn.new.entries.total ≡ c.self.inside.entries.total = omega (arith, total) in
    (n.keeper.0, i.1, shared_opened _ _ _ _ _ _ old now deeds i.2 n.agreed.1 rests (lent_of t.carried) seat (ap (λ (x : Book). x.out) lends.lent) keeper, counted_same _ _ _ old now i.3 same rests, i.4, i.5, i.6)

pub returns-in-Nothing-clause-ok : goal.returns-in-Nothing-clause-ok
returns-in-Nothing-clause-ok g c =
    let old = book_of c.self.inside.book in
    let now = book_of c.pick_first.new.book in
    let b = c.self.inside.budget in
    let h : Picks b c.number.result pick.Nothing old now = subst (λ (p : Pick). Picks b c.number.result p old now) c.in-Nothing.is c.in_ok-pick_first.ensures.ok in
    let P : SharedView → Type 0 = λ d. Picks d.budget c.number.result pick.Nothing (book_of d.book) now in
    (subst P c.self.view_is h, refl)
