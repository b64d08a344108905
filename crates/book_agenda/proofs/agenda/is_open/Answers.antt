use Rattle.std.proofs.Common.{sym, ap, ◌∙◌}
use Rattle.heap.specs.State.{State, view_cell}
use Rattle.book_agenda.specs.Agendas.{is_open}
use Rattle.book_agenda.proofs.agenda.is_open.Goals as goal

pub returns-in-Some : goal.returns-in-Some
returns-in-Some c = c.is_open_in.ensures ∙ ap (λ (t : State). is_open (t (view_cell c.args.promise))) c.in-Some.ensures.there

pub returns-in-None : goal.returns-in-None
returns-in-None c = sym (ap (λ (t : State). is_open (t (view_cell c.args.promise))) c.in-None.ensures.absent)
