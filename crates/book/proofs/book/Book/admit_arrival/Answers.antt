use Rattle.std.proofs.Common.{◌≡◌, ◌∙◌, sym, ap, subst}
use Rattle.std.specs.Option.{option_map}
use Rattle.std.proofs.lemmas.Result.{err_from_is_err_and}
use Rattle.history.specs.Records.{contents}
use Rattle.post.specs.MessageView.{message_of}
use Rattle.world_cells.specs.Theory.{cells}
use Rattle.world_cells.specs.View.{world_of}
use Rattle.book_refusals.specs.Fault.{Tells}
use Rattle.book.specs.BookView.{book_of}
use Rattle.book.proofs.Admitting.{none_else, lost_arrival, grounded_arrival, room_arrival, the_message}
use Rattle.book.proofs.book.Book.admit_arrival.Goals as goal

pub returns-in_default-clause-err : goal.returns-in_default-clause-err
returns-in_default-clause-err c =
    let b = book_of c.args.self.now in
    let w = world_of c.world.result.now in
    let same : w ≡ b.world = ap (contents cells) c.world.ensures in
    lost_arrival b w same c.args.name (sym c.in_default.ensures)

pub returns-in_default-2-clause-err : goal.returns-in_default-2-clause-err
returns-in_default-2-clause-err c =
    let b = book_of c.args.self.now in
    let w = world_of c.world.result.now in
    let same : w ≡ b.world = ap (contents cells) c.world.ensures in
    let g = message_of c.in-Some.message.now in
    grounded_arrival b w same c.args.name g (sym c.in-Some.ensures) (sym c.in_ok-arrived.ensures ∙ ap (option_map message_of) (none_else c.in_ok-arrived.field-0 c.in_default-2.not-Some))

pub returns-in_err-event-clause-err : goal.returns-in_err-event-clause-err
returns-in_err-event-clause-err c =
    let b = book_of c.args.self.now in
    let w = world_of c.world.result.now in
    let same : w ≡ b.world = ap (contents cells) c.world.ensures in
    let g = message_of c.in-Some.message.now in
    let h = message_of c.in-Some-2.arrived in
    let p = err_from_is_err_and c.from_residual-in_err-event.result c.from_residual-in_err-event.ensures.1 in
    let room = room_arrival b w same c.args.name g (sym c.in-Some.ensures) h (sym c.in_ok-arrived.ensures ∙ ap (option_map message_of) c.in-Some-2.is) in
    rw (p.1, p.2) (subst (Tells c.in_err-event.field-0.0) (sym room) c.in_err-event.ensures.err)

pub returns-clause-ok : goal.returns-clause-ok
returns-clause-ok c =
    let b = book_of c.args.self.now in
    let w = world_of c.world.result.now in
    let same : w ≡ b.world = ap (contents cells) c.world.ensures in
    let g = message_of c.in-Some.message.now in
    let h = message_of c.in-Some-2.arrived in
    let arrives = sym c.in_ok-arrived.ensures ∙ ap (option_map message_of) c.in-Some-2.is in
    record {
      named = c.in_ok-event.ensures.ok.0;
      refusal = room_arrival b w same c.args.name g (sym c.in-Some.ensures) h arrives ∙ c.in_ok-event.ensures.ok.2;
      message = g;
      there = the_message b w same c.args.name g (sym c.in-Some.ensures);
      arrives = arrives;
    }
