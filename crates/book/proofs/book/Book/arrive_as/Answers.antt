use Rattle.std.proofs.Common.{[], refl}
use Rattle.post.specs.MessageView.{message_of}
use Rattle.world_cells.specs.Events.{arrive}
use Rattle.event.specs.Events.{moved_foot}
use Rattle.event.specs.Effects.{Happens}
use Rattle.event.proofs.Noted.{quietly}
use Rattle.book.specs.BookView.{book_of}
use Rattle.book.proofs.Admitting.{arrival_does, room_for_arrival}
use Rattle.book.proofs.book.Book.arrive_as.Goals as goal

pub enter_event-requires-clause-possible : goal.enter_event-requires-clause-possible
enter_event-requires-clause-possible c =
    let b = book_of c.args.self.now in
    let h = message_of c.in_ok-event.arrived in
    (moved_foot [] c.args.name h, record { does = ∣ quietly (arrival_does b c.args.name c.in_ok-event.event h c.in_ok-event.ensures.ok) refl _ c.in_ok-effects.ensures.quiet ∣₁; brings = c.in_ok-effects.ensures.brings })

pub enter_event-requires-clause-room : goal.enter_event-requires-clause-room
enter_event-requires-clause-room c = room_for_arrival (book_of c.args.self.now) c.args.name c.in_ok-event.ensures.ok.refusal

pub returns-clause-ok : goal.returns-clause-ok
returns-clause-ok c =
    let b = book_of c.args.self.now in
    let e = c.in_ok-event.event in
    let h = message_of c.in_ok-event.arrived in
    let f = moved_foot [] c.args.name h in
    let happens : Happens (record { name = e; act = arrive c.args.name }) f b.world c.in_ok-effects.effects = record { does = ∣ quietly (arrival_does b c.args.name e h c.in_ok-event.ensures.ok) refl _ c.in_ok-effects.ensures.quiet ∣₁; brings = c.in_ok-effects.ensures.brings } in
    (c.in_ok-event.ensures.ok.refusal, (f, c.in_ok-enter_event.ensures.ok f happens))
