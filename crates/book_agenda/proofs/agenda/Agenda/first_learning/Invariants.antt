use Rattle.std.proofs.Common.{◌≡◌}
use Rattle.std.specs.List.{filter_map}
use Rattle.book_agenda.specs.AgendaView.{out_at}
use Rattle.book_agenda.specs.Found.{learn_step, learn_steps, first_in}
use Rattle.book_agenda.proofs.agenda.Agenda.first_learning.Given as goal

-- nothing was found so far
abbrev pub invariant-loop-known : goal.invariant-loop-known
invariant-loop-known l = first_in (filter_map (learn_step (out_at l.desk)) l.known-iterator) ≡ first_in (learn_steps (out_at l.desk) l.self)
