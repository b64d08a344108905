use Rattle.std.proofs.Common.{◌≡◌}
use Rattle.std.specs.List.{filter_map}
use Rattle.world_cells.specs.View.{world_of}
use Rattle.book_agenda.specs.AgendaView.{out_at}
use Rattle.book_agenda.specs.Found.{front_step, front_steps, first_in}
use Rattle.book_agenda.proofs.agenda.Agenda.first_of_messages.Given as goal

-- nothing was found so far
abbrev pub invariant-loop-name : goal.invariant-loop-name
invariant-loop-name l = first_in (filter_map (front_step (world_of l.world) (out_at l.desk) l.self) l.name-iterator) ≡ first_in (front_steps (world_of l.world) (out_at l.desk) l.self)
