use Rattle.std.proofs.Common.{◌≡◌, ◌∙◌, List, None, refl, sym, ap, subst}
use Rattle.code.specs.View.{trees_of_codes}
use Rattle.kernele.specs.View.{program_of}
use Rattle.kernele.specs.Tree.{Name, Trees}
use Rattle.kernele_scopes.specs.Scope.{own_names_in}
use Rattle.world_cells.specs.Events.{birth}
use Rattle.world_cells.specs.Theory.{kepts_of}
use Rattle.event.specs.Events.{birth_foot, births}
use Rattle.book.specs.BookView.{book_of}
use Rattle.event.specs.Effects.{Brings, Happens}
use Rattle.event.proofs.Noted.{quietly}
use Rattle.event.specs.Naming.{Numbers}
use Rattle.book.specs.Calls.{EntersNext}
use Rattle.book.specs.Refusals.{birth_refusal}
use Rattle.book.proofs.Within.{room_for_birth}
use Rattle.book.proofs.book.Book.birth_as.Goals as goal

pub enter_event-requires-clause-possible : goal.enter_event-requires-clause-possible
enter_event-requires-clause-possible c =
    let e = c.in_ok-event.event in
    let x = c.args.name.now in
    let q = trees_of_codes c.in_ok-script.script.items.value.items in
    let tops : c.in_ok-tops.tops.items ≡ own_names_in q = c.in_ok-tops.ensures ∙ ap own_names_in (sym c.in_ok-script.ensures) in
    let w = (book_of c.args.self.now).world in
    let names = c.args.earlier.items in
    let n : Numbers w names c.in_ok-event.vats.items = subst (λ (xs : List Name). Numbers w xs c.in_ok-event.vats.items) c.deref.ensures.value c.in_ok-event.ensures.ok.3 in
    let f = birth_foot e x names n.vats q in
    let it = c.in_ok-effects.effects in
    let brings : Brings e f it.touched.items (kepts_of it.records.items) =
    subst (λ (xs : List Name). Brings e (birth_foot e x xs n.vats q) it.touched.items (kepts_of it.records.items)) c.deref-2.ensures.value (c.in_ok-effects.ensures.brings n.vats (n.numbered ∙ sym c.deref-3.ensures.value) tops) in
    (f, subst (λ (y : Name). Happens (record { name = e; act = birth y names q }) f w it) (sym c.in_ok-share.ensures) (record { does = ∣ quietly (births n.vats c.in_ok-event.ensures.ok.2 n.named) refl it.notes.items c.in_ok-effects.ensures.quiet ∣₁; brings = brings }))

pub enter_event-requires-clause-room : goal.enter_event-requires-clause-room
enter_event-requires-clause-room c =
    room_for_birth (book_of c.args.self.now) c.args.name.now c.deref.result.now (program_of c.args.script) c.in_ok-event.ensures.ok.4

pub returns-clause-ok : goal.returns-clause-ok
returns-clause-ok c =
    let e = c.in_ok-event.event in
    let x = c.args.name.now in
    let q = trees_of_codes c.in_ok-script.script.items.value.items in
    let tops : c.in_ok-tops.tops.items ≡ own_names_in q = c.in_ok-tops.ensures ∙ ap own_names_in (sym c.in_ok-script.ensures) in
    let b = book_of c.args.self.now in
    let w = b.world in
    let names = c.args.earlier.items in
    let n : Numbers w names c.in_ok-event.vats.items = subst (λ (xs : List Name). Numbers w xs c.in_ok-event.vats.items) c.deref.ensures.value c.in_ok-event.ensures.ok.3 in
    let f = birth_foot e x names n.vats q in
    let it = c.in_ok-effects.effects in
    let brings : Brings e f it.touched.items (kepts_of it.records.items) =
    subst (λ (xs : List Name). Brings e (birth_foot e x xs n.vats q) it.touched.items (kepts_of it.records.items)) c.deref-2.ensures.value (c.in_ok-effects.ensures.brings n.vats (n.numbered ∙ sym c.deref-3.ensures.value) tops) in
    let h : Happens (record { name = e; act = birth x names q }) f w it = record { does = ∣ quietly (births n.vats c.in_ok-event.ensures.ok.2 n.named) refl it.notes.items c.in_ok-effects.ensures.quiet ∣₁; brings = brings } in (
      subst (λ (xs : List Name). birth_refusal b x xs (program_of c.args.script) ≡ None) c.deref.ensures.value c.in_ok-event.ensures.ok.4,
      (
        n.vats,
        subst (λ (ts : Trees). EntersNext (record { name = e; act = birth x names ts }) (birth_foot e x names n.vats ts) c.args.seat b (book_of c.enter_event.new.self)) c.in_ok-script.ensures
            (subst (λ (y : Name). EntersNext (record { name = e; act = birth y names q }) f c.args.seat b (book_of c.enter_event.new.self)) c.in_ok-share.ensures
            (c.in_ok-enter_event.ensures.ok f (subst (λ (y : Name). Happens (record { name = e; act = birth y names q }) f w it) (sym c.in_ok-share.ensures) h))),
      ),
    )
