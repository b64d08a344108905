use Rattle.std.proofs.Common.{◌++◌, sym, ap, subst, ◌∙◌}
use Rattle.world_cells.specs.View.{world_of}
use Rattle.book_agenda.specs.AgendaView.{out_at}
use Rattle.book_agenda.specs.Enabled.{Enabled}
use Rattle.book_agenda.specs.Found.{message_steps, learn_steps}
use Rattle.book_agenda.proofs.Enabling.{enabled}
use Rattle.book_agenda.proofs.agenda.Agenda.all.Goals as goal

pub returns : goal.returns
returns c = λ notes.
    let w = world_of c.args.world.now in
    let out = out_at c.args.desk.now in
    let a = c.args.self.now in
    subst (λ steps. Enabled w out steps)
    (sym (c.in_ok-add_learning.ensures.added ∙ ap (λ xs. xs ++ learn_steps out a) (c.in_ok-add_messages.ensures.added ∙ ap (λ xs. xs ++ message_steps w out a) c.new-steps.ensures.items)))
    (enabled w out a notes c.add_messages.ensures.ordered c.add_learning.ensures.ordered)
