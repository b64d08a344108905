use Rattle.std.proofs.Common.{List, map, refl, subst}
use Rattle.ids.specs.declared.names.PromId.{PromId}
use Rattle.ids.specs.declared.cells.CellKey.TheVariants as key
use Rattle.post.specs.MessageView.{message_of}
use Rattle.world_cells.specs.Events.{forward}
use Rattle.world_cells.specs.Theory.{kepts_of}
use Rattle.event.specs.Events.{moved_foot}
use Rattle.event.specs.Effects.{Brings, Happens}
use Rattle.event.proofs.Noted.{quietly}
use Rattle.book.specs.BookView.{book_of}
use Rattle.book.proofs.Admitting.{forward_does, room_for_forward}
use Rattle.book.proofs.book.Book.forward_as.Goals as goal

pub enter_event-requires-clause-possible : goal.enter_event-requires-clause-possible
enter_event-requires-clause-possible c =
    let b = book_of c.args.self.now in
    let e = c.in_ok-event.event in
    let h = message_of c.in_ok-event.forwarded in
    let ps = c.in_ok-event.through.items in
    let brings : Brings e (moved_foot (map key.Board ps) c.args.name h) c.in_ok-effects.effects.touched.items (kepts_of c.in_ok-effects.effects.records.items) =
    subst (λ (through : List PromId). Brings e (moved_foot (map key.Board through) c.args.name h) c.in_ok-effects.effects.touched.items (kepts_of c.in_ok-effects.effects.records.items)) c.deref.ensures.value c.in_ok-effects.ensures.brings in
    (moved_foot (map key.Board ps) c.args.name h, record { does = ∣ quietly (forward_does b c.args.name e h ps c.in_ok-event.ensures.ok) refl _ c.in_ok-effects.ensures.quiet ∣₁; brings = brings })

pub enter_event-requires-clause-room : goal.enter_event-requires-clause-room
enter_event-requires-clause-room c = room_for_forward (book_of c.args.self.now) c.args.name c.in_ok-event.ensures.ok.refusal

pub returns-clause-ok : goal.returns-clause-ok
returns-clause-ok c =
    let b = book_of c.args.self.now in
    let e = c.in_ok-event.event in
    let h = message_of c.in_ok-event.forwarded in
    let ps = c.in_ok-event.through.items in
    let f = moved_foot (map key.Board ps) c.args.name h in
    let brings : Brings e f c.in_ok-effects.effects.touched.items (kepts_of c.in_ok-effects.effects.records.items) =
    subst (λ (through : List PromId). Brings e (moved_foot (map key.Board through) c.args.name h) c.in_ok-effects.effects.touched.items (kepts_of c.in_ok-effects.effects.records.items)) c.deref.ensures.value c.in_ok-effects.ensures.brings in
    let happens : Happens (record { name = e; act = forward c.args.name }) f b.world c.in_ok-effects.effects = record { does = ∣ quietly (forward_does b c.args.name e h ps c.in_ok-event.ensures.ok) refl _ c.in_ok-effects.ensures.quiet ∣₁; brings = brings } in
    (c.in_ok-event.ensures.ok.refusal, (f, c.in_ok-enter_event.ensures.ok f happens))
