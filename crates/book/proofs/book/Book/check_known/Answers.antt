use Rattle.std.proofs.Common.{◌≡◌, ◌∙◌, refl, sym, ap}
use Rattle.std.proofs.lemmas.Bool.{false≢true}
use Rattle.history.specs.Records.{contents}
use Rattle.ids.specs.declared.cells.CellKey.TheVariants as key
use Rattle.desk.specs.DeskView.{out_of}
use Rattle.post.specs.MessageView.{message_of}
use Rattle.world_cells.specs.Theory.{cells}
use Rattle.world_cells.specs.View.{world_of}
use Rattle.post.specs.Messages.{Message}
use Rattle.world_cells.specs.World.{World}
use Rattle.book.specs.BookView.{book_of}
use Rattle.book.specs.Calls.{lent_of}
use Rattle.book.proofs.Committing.{is_copied, copied_if}
use Rattle.book.proofs.TicketsOut.{lent_there, out_found}
use Rattle.book.proofs.book.Book.check_known.Goals.{else-is_lent-via-then-is_lent+else-is_copy, else-is_lent-via-else-is_lent}
use Rattle.book.proofs.book.Book.check_known.Goals as goal

pub returns-then-is_copy-clause-ok : goal.returns-then-is_copy-clause-ok
returns-then-is_copy-clause-ok c =
    let b = book_of c.args.self.now in
    let t = c.args.out.now in
    let same : world_of c.world.result.now ≡ b.world = ap (contents cells) c.world.ensures in
    record {
      out = lent_there t.event b.out (lent_of t) (sym c.get.ensures ∙ c.is_lent.ensures.0 c.if-is_lent.true);
      copy = is_copied (λ g. message_of g.now) (λ (g : Message). record g { place = (message_of t.message).place } ≡ message_of t.message) _ (b.world (key.Msg t.name))
          (c.message.ensures ∙ ap (λ (w : World). w (key.Msg t.name)) same) (c.is_copy.ensures.0 c.if-is_copy.true);
    }

pub returns-clause-err : goal.returns-clause-err
returns-clause-err c =
    let s = c.args.self.now in
    let b = book_of s in
    let t = c.args.out.now in
    elim c.else-is_lent.branch [
      | else-is_lent-via-then-is_lent+else-is_copy w ↦
          let same : world_of w.world.result.now ≡ b.world = ap (contents cells) w.world.ensures in (
            refl,
            λ k. false≢true (sym w.if-is_copy.false ∙ w.is_copy.ensures.1
                (copied_if (λ g. message_of g.now) (λ (g : Message). record g { place = (message_of t.message).place } ≡ message_of t.message) _ (b.world (key.Msg t.name))
                (w.message.ensures ∙ ap (λ (v : World). v (key.Msg t.name)) same) k.copy)),
          )
      | else-is_lent-via-else-is_lent w ↦ (refl, λ k. false≢true (sym w.if-is_lent.false ∙ c.is_lent.ensures.1 (c.get.ensures ∙ out_found s.core s.next (out_of s.desk) (lent_of t) s.stands k.out)))
    ]
