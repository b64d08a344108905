use Rattle.std.proofs.Common.{refl}
use Rattle.book.specs.BookView.{book_of}
use Rattle.stepper.proofs.Answered.{refuses, cone_undone, undo_cone_fails}
use Rattle.stepper.proofs.engine.Engine.undo_cone.Goals as goal

pub returns-in-Ok : goal.returns-in-Ok
returns-in-Ok g c =
    let h = c.undo.ensures in
    record { reply = h.reply; refusal = h.refusal; allowed = cone_undone c.args.self.now.limits (book_of c.args.self.now.book) c.deref.ensures.value c.in-Ok.ensures.ok h.allowed; tells = h.tells; refused = h.refused; limits = h.limits }

pub returns-in-Err : goal.returns-in-Err
returns-in-Err g c = refuses (undo_cone_fails c.args.self.now.limits (book_of c.args.self.now.book) c.in-Err.fault c.in-Err.ensures.err) c.refuse_call.ensures refl
