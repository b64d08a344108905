use Rattle.std.proofs.Common.{◌≡◌, ◌∙◌, Some, sym, ap, subst}
use Rattle.std.specs.Option.{option_map}
use Rattle.std.proofs.lemmas.Result.{err_from_is_err_and}
use Rattle.history.specs.Records.{contents}
use Rattle.post.specs.Messages.{waits_at}
use Rattle.post.specs.MessageView.{message_of}
use Rattle.world_cells.specs.Theory.{cells}
use Rattle.world_cells.specs.View.{world_of}
use Rattle.world_cells.specs.World.{World}
use Rattle.event.specs.Forwarding.{onward_of, to_of}
use Rattle.book_refusals.specs.Fault.{Tells}
use Rattle.book.specs.BookView.{book_of}
use Rattle.book.proofs.Admitting.{none_else, lost_forward, stuck_forward, room_forward, waiting_message, moves_on}
use Rattle.book.proofs.book.Book.admit_forward.Goals as goal

pub returns-in-Err-clause-err : goal.returns-in-Err-clause-err
returns-in-Err-clause-err c =
    let b = book_of c.args.self.now in
    let w = world_of c.world-world.result.now in
    let same : w ≡ b.world = ap (contents cells) c.world-world.ensures in
    subst (Tells c.unready_fault.result) (sym (lost_forward b w same c.args.name c.in-Err.unready c.in-Err.ensures.err)) c.unready_fault.ensures

pub returns-in_default-clause-err : goal.returns-in_default-clause-err
returns-in_default-clause-err c =
    let b = book_of c.args.self.now in
    let w = world_of c.world-world.result.now in
    let same : w ≡ b.world = ap (contents cells) c.world-world.ensures in
    let found = c.in-Ok.found in
    stuck_forward b w same c.args.name (message_of found.0.now) found.1 c.in-Ok.ensures.there c.in-Ok.ensures.waiting c.in-Ok.ensures.ok
    (sym c.in_ok-to.ensures ∙ ap (option_map to_of) (none_else c.in_ok-to.field-0 c.in_default.not-Some))

pub returns-in_err-event-clause-err : goal.returns-in_err-event-clause-err
returns-in_err-event-clause-err c =
    let b = book_of c.args.self.now in
    let w = world_of c.world-world.result.now in
    let same : w ≡ b.world = ap (contents cells) c.world-world.ensures in
    let found = c.in-Ok.found in
    let p = err_from_is_err_and c.from_residual-in_err-event.result c.from_residual-in_err-event.ensures.1 in
    let room = room_forward b w same c.args.name (message_of found.0.now) found.1 c.in-Ok.ensures.there c.in-Ok.ensures.waiting c.in-Ok.ensures.ok _ (sym c.in_ok-to.ensures ∙ ap (option_map to_of) c.in-Some.is) in
    rw (p.1, p.2) (subst (Tells c.in_err-event.field-0.0) (sym room) c.in_err-event.ensures.err)

pub returns-clause-ok : goal.returns-clause-ok
returns-clause-ok c =
    let b = book_of c.args.self.now in
    let w = world_of c.world-world.result.now in
    let same : w ≡ b.world = ap (contents cells) c.world-world.ensures in
    let found = c.in-Ok.found in
    let g = message_of found.0.now in
    let on = sym c.in_ok-to.ensures ∙ ap (option_map to_of) c.in-Some.is in
    record {
      named = c.in_ok-event.ensures.ok.0;
      refusal = room_forward b w same c.args.name g found.1 c.in-Ok.ensures.there c.in-Ok.ensures.waiting c.in-Ok.ensures.ok _ on ∙ c.in_ok-event.ensures.ok.2;
      message = g;
      there = waiting_message b w same c.args.name g found.1 c.in-Ok.ensures.there c.in-Ok.ensures.waiting c.in-Ok.ensures.ok;
      here = found.1;
      waits = ap waits_at c.in-Ok.ensures.there;
      to = c.in-Some.field-0.to;
      onward = subst (λ (v : World). onward_of v found.1 g ≡ Some (to_of c.in-Some.field-0)) same on;
      forwards = moves_on g found.1 c.in-Some.field-0.to (message_of c.in-Some-2.forwarded) c.in-Ok.ensures.there (sym c.in_ok-forwarded.ensures ∙ ap (option_map message_of) c.in-Some-2.is);
    }
