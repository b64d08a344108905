use Rattle.std.proofs.Common.{◌≡◌, ◌++◌}
use Rattle.std.specs.List.{filter_map}
use Rattle.world_cells.specs.View.{world_of}
use Rattle.book_agenda.specs.AgendaView.{out_at}
use Rattle.book_agenda.specs.Found.{step_by, message_steps}
use Rattle.book_agenda.proofs.agenda.Agenda.add_messages.Given as goal

-- what was added, and what comes
abbrev pub invariant-loop-name : goal.invariant-loop-name
invariant-loop-name l = l.steps.items ++ filter_map (λ e. step_by (world_of l.world) (out_at l.desk) e.0 e.1) l.name-iterator ≡ l.initial.steps.items ++ message_steps (world_of l.world) (out_at l.desk) l.self
