-- Books and tickets may cross.
use denote.Param.Send.{IsSend, IsSync, sendable}
use Rattle.std.proofs.Crossing.{crosses}
use Rattle.turn.specs.contracts.ticket.Task as task
use Rattle.turn.specs.contracts.ticket.Ran as ran
use Rattle.turn.specs.contracts.ticket.Returned as returned
use Rattle.book.specs.contracts.book.Book as book
use Rattle.bench_work.proofs.crossing.Messages.{message_crosses}
use Rattle.bench_work.proofs.crossing.More.{desk_crosses, agenda_crosses}
use Rattle.bench_work.proofs.crossing.Names.{event_crosses, message_name_crosses, vat_number_crosses}
use Rattle.bench_work.proofs.crossing.Turns.{lead_crosses, outcome_crosses}
use Rattle.bench_work.proofs.crossing.Worlds.{core_crosses}

pub task_send : IsSend (task.the_field).row
task_send = search (event_crosses, message_name_crosses, message_crosses, lead_crosses, vat_number_crosses, sendable, crosses) depth 40

pub task_row_send : IsSend task.the_row
task_row_send = search (task_send, event_crosses, message_name_crosses, message_crosses, lead_crosses, vat_number_crosses, sendable, crosses) depth 40

pub task_sync : IsSync (task.the_field).row
task_sync = search (event_crosses, message_name_crosses, message_crosses, lead_crosses, vat_number_crosses, sendable, crosses) depth 40

pub task_row_sync : IsSync task.the_row
task_row_sync = search (task_sync, event_crosses, message_name_crosses, message_crosses, lead_crosses, vat_number_crosses, sendable, crosses) depth 40

pub ruleset task_crosses = (task_send, task_sync, task_row_send, task_row_sync)

pub ran_send : IsSend (ran.the_field).row
ran_send = search (task_crosses, outcome_crosses, sendable, crosses) depth 40

pub ran_row_send : IsSend ran.the_row
ran_row_send = search (ran_send, task_crosses, outcome_crosses, sendable, crosses) depth 40

pub ran_sync : IsSync (ran.the_field).row
ran_sync = search (task_crosses, outcome_crosses, sendable, crosses) depth 40

pub ran_row_sync : IsSync ran.the_row
ran_row_sync = search (ran_sync, task_crosses, outcome_crosses, sendable, crosses) depth 40

pub ruleset ran_crosses = (ran_send, ran_sync, ran_row_send, ran_row_sync)

pub returned_send : IsSend (returned.the_field).row
returned_send = search (ran_crosses, sendable, crosses) depth 40

pub returned_row_send : IsSend returned.the_row
returned_row_send = search (returned_send, ran_crosses, sendable, crosses) depth 40

pub returned_sync : IsSync (returned.the_field).row
returned_sync = search (ran_crosses, sendable, crosses) depth 40

pub returned_row_sync : IsSync returned.the_row
returned_row_sync = search (returned_sync, ran_crosses, sendable, crosses) depth 40

pub ruleset returned_crosses = (returned_send, returned_sync, returned_row_send, returned_row_sync)

pub book_send : IsSend (book.the_field).row
book_send = search (core_crosses, desk_crosses, agenda_crosses, sendable, crosses) depth 40

pub book_row_send : IsSend book.the_row
book_row_send = search (book_send, core_crosses, desk_crosses, agenda_crosses, sendable, crosses) depth 40

pub book_sync : IsSync (book.the_field).row
book_sync = search (core_crosses, desk_crosses, agenda_crosses, sendable, crosses) depth 40

pub book_row_sync : IsSync book.the_row
book_row_sync = search (book_sync, core_crosses, desk_crosses, agenda_crosses, sendable, crosses) depth 40

pub ruleset book_crosses = (book_send, book_sync, book_row_send, book_row_sync)
