use Rattle.std.proofs.Common.{◌≡◌, ◌++◌}
use Rattle.std.specs.List.{filter_map}
use Rattle.book_agenda.specs.AgendaView.{out_at}
use Rattle.book_agenda.specs.Found.{learn_step, learn_steps}
use Rattle.book_agenda.proofs.agenda.Agenda.add_learning.Given as goal

-- what was added, and what comes
abbrev pub invariant-loop-known : goal.invariant-loop-known
invariant-loop-known l = l.steps.items ++ filter_map (learn_step (out_at l.desk)) l.known-iterator ≡ l.initial.steps.items ++ learn_steps (out_at l.desk) l.self
