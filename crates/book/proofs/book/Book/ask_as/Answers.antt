use Rattle.std.proofs.Common.{refl, sym, subst}
use Rattle.code.specs.View.{trees_of_codes}
use Rattle.kernele.specs.View.{program_of}
use Rattle.kernele.specs.Tree.{Name, Trees}
use Rattle.world_cells.specs.Events.{ask}
use Rattle.ids.specs.declared.names.VatNo.{VatNo}
use Rattle.event.specs.Events.{Does, ask_foot, asks}
use Rattle.book.specs.BookView.{book_of}
use Rattle.event.specs.Effects.{Happens}
use Rattle.event.proofs.Noted.{quietly}
use Rattle.book.specs.Calls.{EntersNext}
use Rattle.book.proofs.Within.{room_for_ask}
use Rattle.book.proofs.book.Book.ask_as.Goals as goal

pub enter_event-requires-clause-possible : goal.enter_event-requires-clause-possible
enter_event-requires-clause-possible c =
    let e = c.in_ok-event.event in
    let q = trees_of_codes c.in_ok-question.question.items.value.items in
    let w = (book_of c.args.self.now).world in
    let f = ask_foot e c.args.name.now c.in_ok-event.vat q in
    let does : Does (record { name = e; act = ask c.args.name.now q }) w f = subst (λ (v : VatNo). Does (record { name = e; act = ask c.args.name.now q }) w (ask_foot e c.args.name.now v q)) c.in_ok-event.ensures.ok.2.2 (asks c.in_ok-event.ensures.ok.2.1) in
    (f, subst (λ (x : Name). Happens (record { name = e; act = ask x q }) f w c.in_ok-effects.effects) (sym c.in_ok-share.ensures) (record { does = ∣ quietly does refl c.in_ok-effects.effects.notes.items c.in_ok-effects.ensures.quiet ∣₁; brings = c.in_ok-effects.ensures.brings }))

pub enter_event-requires-clause-room : goal.enter_event-requires-clause-room
enter_event-requires-clause-room c =
    let b = book_of c.args.self.now in
    let p = program_of c.args.program in
    room_for_ask b c.args.name.now p _ c.in_ok-event.ensures.ok.2.1 c.in_ok-event.ensures.ok.3

pub returns-clause-ok : goal.returns-clause-ok
returns-clause-ok c =
    let e = c.in_ok-event.event in
    let q = trees_of_codes c.in_ok-question.question.items.value.items in
    let w = (book_of c.args.self.now).world in
    let f = ask_foot e c.args.name.now c.in_ok-event.vat q in
    let does : Does (record { name = e; act = ask c.args.name.now q }) w f = subst (λ (v : VatNo). Does (record { name = e; act = ask c.args.name.now q }) w (ask_foot e c.args.name.now v q)) c.in_ok-event.ensures.ok.2.2 (asks c.in_ok-event.ensures.ok.2.1) in
    let h : Happens (record { name = e; act = ask c.args.name.now q }) f w c.in_ok-effects.effects = record { does = ∣ quietly does refl c.in_ok-effects.effects.notes.items c.in_ok-effects.ensures.quiet ∣₁; brings = c.in_ok-effects.ensures.brings } in (
      c.in_ok-event.ensures.ok.3,
      (
        c.in_ok-event.vat,
        subst (λ (ts : Trees). EntersNext (record { name = e; act = ask c.args.name.now ts }) (ask_foot e c.args.name.now c.in_ok-event.vat ts) c.args.seat (book_of c.args.self.now) (book_of c.enter_event.new.self)) c.in_ok-question.ensures
            (subst (λ (x : Name). EntersNext (record { name = e; act = ask x q }) f c.args.seat (book_of c.args.self.now) (book_of c.enter_event.new.self)) c.in_ok-share.ensures
            (c.in_ok-enter_event.ensures.ok f (subst (λ (x : Name). Happens (record { name = e; act = ask x q }) f w c.in_ok-effects.effects) (sym c.in_ok-share.ensures) h))),
      ),
    )
