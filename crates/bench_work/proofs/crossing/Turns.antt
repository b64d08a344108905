-- What turns make, and tickets, may cross.
use denote.Param.Send.{IsSend, IsSync, sendable}
use Rattle.std.proofs.Crossing.{crosses}
use Rattle.eval_rules.specs.contracts.outbox.Letter as letter
use Rattle.eval_rules.specs.contracts.publications.Publications as publications
use Rattle.eval_rules.specs.contracts.outbox.Outbox as outbox
use Rattle.turn_deliveries.specs.contracts.lead.Lead as lead
use Rattle.turn_deliveries.specs.contracts.outcome.TurnEnd as ended
use Rattle.turn_deliveries.specs.contracts.outcome.Outcome as outcome
use Rattle.bench_work.proofs.crossing.Messages.{message_crosses, published_crosses}
use Rattle.bench_work.proofs.crossing.More.{note_crosses, abandon_crosses}
use Rattle.bench_work.proofs.crossing.Names.{message_name_crosses, promise_crosses, carried_crosses, text_crosses, few_crosses}
use Rattle.bench_work.proofs.crossing.States.{footprint_crosses}
use Rattle.bench_work.proofs.crossing.Values.{value_crosses}

pub letter_send : IsSend (letter.the_field).row
letter_send = search (message_name_crosses, message_crosses, sendable, crosses) depth 40

pub letter_row_send : IsSend letter.the_row
letter_row_send = search (letter_send, message_name_crosses, message_crosses, sendable, crosses) depth 40

pub letter_sync : IsSync (letter.the_field).row
letter_sync = search (message_name_crosses, message_crosses, sendable, crosses) depth 40

pub letter_row_sync : IsSync letter.the_row
letter_row_sync = search (letter_sync, message_name_crosses, message_crosses, sendable, crosses) depth 40

pub ruleset letter_crosses = (letter_send, letter_sync, letter_row_send, letter_row_sync)

pub publications_send : IsSend (publications.the_field).row
publications_send = search (few_crosses, promise_crosses, published_crosses, sendable, crosses) depth 40

pub publications_row_send : IsSend publications.the_row
publications_row_send = search (publications_send, few_crosses, promise_crosses, published_crosses, sendable, crosses) depth 40

pub publications_sync : IsSync (publications.the_field).row
publications_sync = search (few_crosses, promise_crosses, published_crosses, sendable, crosses) depth 40

pub publications_row_sync : IsSync publications.the_row
publications_row_sync = search (publications_sync, few_crosses, promise_crosses, published_crosses, sendable, crosses) depth 40

pub ruleset publications_crosses = (publications_send, publications_sync, publications_row_send, publications_row_sync)

pub outbox_send : IsSend (outbox.the_field).row
outbox_send = search (letter_crosses, publications_crosses, note_crosses, sendable, crosses) depth 40

pub outbox_row_send : IsSend outbox.the_row
outbox_row_send = search (outbox_send, letter_crosses, publications_crosses, note_crosses, sendable, crosses) depth 40

pub outbox_sync : IsSync (outbox.the_field).row
outbox_sync = search (letter_crosses, publications_crosses, note_crosses, sendable, crosses) depth 40

pub outbox_row_sync : IsSync outbox.the_row
outbox_row_sync = search (outbox_sync, letter_crosses, publications_crosses, note_crosses, sendable, crosses) depth 40

pub ruleset outbox_crosses = (outbox_send, outbox_sync, outbox_row_send, outbox_row_sync)

pub lead_send : IsSend (lead.the_field).row
lead_send = search (value_crosses, carried_crosses, sendable, crosses) depth 40

pub lead_row_send : IsSend lead.the_row
lead_row_send = search (lead_send, value_crosses, carried_crosses, sendable, crosses) depth 40

pub lead_sync : IsSync (lead.the_field).row
lead_sync = search (value_crosses, carried_crosses, sendable, crosses) depth 40

pub lead_row_sync : IsSync lead.the_row
lead_row_sync = search (lead_sync, value_crosses, carried_crosses, sendable, crosses) depth 40

pub ruleset lead_crosses = (lead_send, lead_sync, lead_row_send, lead_row_sync)

pub ended_send : IsSend (ended.the_field).row
ended_send = search (value_crosses, text_crosses, abandon_crosses, sendable, crosses) depth 40

pub ended_row_send : IsSend ended.the_row
ended_row_send = search (ended_send, value_crosses, text_crosses, abandon_crosses, sendable, crosses) depth 40

pub ended_sync : IsSync (ended.the_field).row
ended_sync = search (value_crosses, text_crosses, abandon_crosses, sendable, crosses) depth 40

pub ended_row_sync : IsSync ended.the_row
ended_row_sync = search (ended_sync, value_crosses, text_crosses, abandon_crosses, sendable, crosses) depth 40

pub ruleset ended_crosses = (ended_send, ended_sync, ended_row_send, ended_row_sync)

pub outcome_send : IsSend (outcome.the_field).row
outcome_send = search (footprint_crosses, ended_crosses, outbox_crosses, sendable, crosses) depth 40

pub outcome_row_send : IsSend outcome.the_row
outcome_row_send = search (outcome_send, footprint_crosses, ended_crosses, outbox_crosses, sendable, crosses) depth 40

pub outcome_sync : IsSync (outcome.the_field).row
outcome_sync = search (footprint_crosses, ended_crosses, outbox_crosses, sendable, crosses) depth 40

pub outcome_row_sync : IsSync outcome.the_row
outcome_row_sync = search (outcome_sync, footprint_crosses, ended_crosses, outbox_crosses, sendable, crosses) depth 40

pub ruleset outcome_crosses = (outcome_send, outcome_sync, outcome_row_send, outcome_row_sync)
