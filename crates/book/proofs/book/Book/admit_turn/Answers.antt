use Rattle.std.proofs.Common.{◌≡◌, ◌∙◌, Some, sym, ap, subst}
use Rattle.std.proofs.lemmas.Result.{err_from_is_err_and}
use Rattle.history.specs.Records.{contents}
use Rattle.ids.specs.declared.cells.CellKey.TheVariants as key
use Rattle.post.specs.MessageView.{message_of}
use Rattle.world_cells.specs.Theory.{cells}
use Rattle.world_cells.specs.View.{world_of}
use Rattle.post.specs.Messages.{Message}
use Rattle.world_cells.specs.World.{World, message}
use Rattle.event.specs.ReadyView.{IsWay}
use Rattle.event.specs.Walks.{found_by}
use Rattle.book_refusals.specs.Fault.{Tells}
use Rattle.book.specs.BookView.{book_of}
use Rattle.book.specs.Calls.{IsReadyAt}
use Rattle.book.specs.Refusals.{checkout_refusal}
use Rattle.book.proofs.Checkouts.{lost_checkout, out_checkout, delayed_checkout, room_checkout}
use Rattle.book.proofs.book.Book.admit_turn.Goals as goal

pub returns-in-Err-clause-err : goal.returns-in-Err-clause-err
returns-in-Err-clause-err c =
    let b = book_of c.args.self.now in
    let same : world_of c.world-world.result.now ≡ b.world = ap (contents cells) c.world-world.ensures in
    subst (Tells c.unready_fault.result) (sym (lost_checkout b _ same c.args.message c.args.budget c.in_ok-check_budget.ensures.ok c.in-Err.unready c.in-Err.ensures.err)) c.unready_fault.ensures

pub returns-then-has_vat-clause-err : goal.returns-then-has_vat-clause-err
returns-then-has_vat-clause-err c =
    let b = book_of c.args.self.now in
    let same : world_of c.world-world.result.now ≡ b.world = ap (contents cells) c.world-world.ensures in
    let found = c.in-Ok.found in
    out_checkout b _ same c.args.message c.args.budget c.in_ok-check_budget.ensures.ok (message_of found.0.now) found.1 c.in-Ok.ensures.there c.in-Ok.ensures.waiting c.in-Ok.ensures.ok
    (sym c.has_vat.ensures ∙ c.if-has_vat.true)

pub returns-in-Err-check_ready-clause-err : goal.returns-in-Err-check_ready-clause-err
returns-in-Err-check_ready-clause-err c =
    let b = book_of c.args.self.now in
    let same : world_of c.world-world.result.now ≡ b.world = ap (contents cells) c.world-world.ensures in
    let found = c.in-Ok.found in
    c.delay_fault.ensures (checkout_refusal b c.args.message c.args.budget)
    (delayed_checkout b _ same c.args.message c.args.budget c.in_ok-check_budget.ensures.ok (message_of found.0.now) found.1 c.in-Ok.ensures.there c.in-Ok.ensures.waiting c.in-Ok.ensures.ok
    (sym c.has_vat.ensures ∙ c.if-has_vat.false) c.in-Err-check_ready.delay c.in-Err-check_ready.ensures.err)

pub returns-in_err-event-clause-err : goal.returns-in_err-event-clause-err
returns-in_err-event-clause-err c =
    let b = book_of c.args.self.now in
    let same : world_of c.world-world.result.now ≡ b.world = ap (contents cells) c.world-world.ensures in
    let found = c.in-Ok.found in
    let p = err_from_is_err_and c.from_residual-in_err-event.result c.from_residual-in_err-event.ensures.1 in
    let late = room_checkout b _ same c.args.message c.args.budget c.in_ok-check_budget.ensures.ok (message_of found.0.now) found.1 c.in-Ok.ensures.there c.in-Ok.ensures.waiting c.in-Ok.ensures.ok
    (sym c.has_vat.ensures ∙ c.if-has_vat.false) c.in-Ok-check_ready.ensures.ok.leads c.in-Ok-check_ready.ensures.ok.in_order in
    rw (p.1, p.2) (subst (Tells c.in_err-event.field-0.0) (sym late) c.in_err-event.ensures.err)

pub returns-clause-ok : goal.returns-clause-ok
returns-clause-ok c =
    let b = book_of c.args.self.now in
    let same : world_of c.world-world.result.now ≡ b.world = ap (contents cells) c.world-world.ensures in
    let found = c.in-Ok.found in
    let way = c.in-Ok-check_ready.ensures.ok in
    record {
      named = c.in_ok-event.ensures.ok.0;
      refusal = room_checkout b _ same c.args.message c.args.budget c.in_ok-check_budget.ensures.ok (message_of found.0.now) found.1 c.in-Ok.ensures.there c.in-Ok.ensures.waiting c.in-Ok.ensures.ok
          (sym c.has_vat.ensures ∙ c.if-has_vat.false) way.leads way.in_order ∙ c.in_ok-event.ensures.ok.2;
      waiting = ap (λ (w : World). w (key.Msg c.args.message)) (sym same) ∙ c.in-Ok.ensures.waiting ∙ ap (λ (g : Message). Some (message g)) (sym c.in_ok-share.ensures);
      there = ap (λ (g : Message). g.place) c.in_ok-share.ensures ∙ c.in-Ok.ensures.there;
      ready = subst (λ (g : Message). IsReadyAt b.world g found.1) (sym c.in_ok-share.ensures) (subst (λ (w : World). IsReadyAt w (message_of found.0.now) found.1) same (record { leads = way.leads; in_order = way.in_order }));
      lead = way.lead ∙ ap (λ (w : World). found_by w (message_of found.0.now).delivery) same ∙ ap (λ (g : Message). found_by b.world g.delivery) (sym c.in_ok-share.ensures);
    }

pub returns-clause-way : goal.returns-clause-way
returns-clause-way c =
    let b = book_of c.args.self.now in
    let same : world_of c.world-world.result.now ≡ b.world = ap (contents cells) c.world-world.ensures in
    let found = c.in-Ok.found in
    subst (λ (g : Message). IsWay b.world found.1 g c.in-Ok-check_ready.way) (sym c.in_ok-share.ensures)
    (subst (λ (w : World). IsWay w found.1 (message_of found.0.now) c.in-Ok-check_ready.way) same c.in-Ok-check_ready.ensures.ok)
