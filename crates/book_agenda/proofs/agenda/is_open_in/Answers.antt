use Rattle.std.proofs.Common.{Option, sym, ap, ◌∙◌}
use Rattle.std.specs.Option.{option_map, option_copied}
use Rattle.heap.specs.State.{viewed}
use Rattle.heap.specs.View.{view_of}
use Rattle.heap.specs.declared.state.View.{View}
use Rattle.book_agenda.specs.Agendas.{is_open}
use Rattle.book_agenda.proofs.agenda.is_open_in.Goals as goal

pub returns-in-Some : goal.returns-in-Some
returns-in-Some c = c.is_open_view.ensures ∙ ap (λ (o : Option View). is_open (option_map (λ k. viewed (view_of k)) o)) (sym (ap option_copied c.in-Some.is) ∙ c.get.ensures)

pub returns-in-None : goal.returns-in-None
returns-in-None c = ap (λ (o : Option View). is_open (option_map (λ k. viewed (view_of k)) o)) (sym (ap option_copied c.in-None.is) ∙ c.get.ensures)
