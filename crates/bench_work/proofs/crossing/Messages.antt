-- Messages and publications may cross.
use denote.Param.Send.{IsSend, IsSync, sendable}
use Rattle.std.proofs.Crossing.{crosses}
use Rattle.post.specs.contracts.call.Call as call
use Rattle.post.specs.contracts.when.Handler as handler
use Rattle.post.specs.contracts.when.When as waits
use Rattle.post.specs.contracts.program.Script as script
use Rattle.post.specs.contracts.program.Question as question
use Rattle.post.specs.contracts.delivery.Delivery as delivery
use Rattle.post.specs.contracts.message.Sent as sent
use Rattle.post.specs.contracts.message.Message as message
use Rattle.post.specs.contracts.published.Published as published
use Rattle.bench_work.proofs.crossing.Names.{verb_crosses, carried_crosses, pattern_crosses, earlier_crosses, fence_crosses, place_crosses}
use Rattle.bench_work.proofs.crossing.States.{noun_crosses}
use Rattle.bench_work.proofs.crossing.Values.{value_crosses, code_crosses}

pub call_send : IsSend (call.the_field).row
call_send = search (value_crosses, verb_crosses, carried_crosses, sendable, crosses) depth 40

pub call_row_send : IsSend call.the_row
call_row_send = search (call_send, value_crosses, verb_crosses, carried_crosses, sendable, crosses) depth 40

pub call_sync : IsSync (call.the_field).row
call_sync = search (value_crosses, verb_crosses, carried_crosses, sendable, crosses) depth 40

pub call_row_sync : IsSync call.the_row
call_row_sync = search (call_sync, value_crosses, verb_crosses, carried_crosses, sendable, crosses) depth 40

pub ruleset call_crosses = (call_send, call_sync, call_row_send, call_row_sync)

pub handler_send : IsSend (handler.the_field).row
handler_send = search (pattern_crosses, code_crosses, sendable, crosses) depth 40

pub handler_row_send : IsSend handler.the_row
handler_row_send = search (handler_send, pattern_crosses, code_crosses, sendable, crosses) depth 40

pub handler_sync : IsSync (handler.the_field).row
handler_sync = search (pattern_crosses, code_crosses, sendable, crosses) depth 40

pub handler_row_sync : IsSync handler.the_row
handler_row_sync = search (handler_sync, pattern_crosses, code_crosses, sendable, crosses) depth 40

pub ruleset handler_crosses = (handler_send, handler_sync, handler_row_send, handler_row_sync)

pub waits_send : IsSend (waits.the_field).row
waits_send = search (value_crosses, noun_crosses, code_crosses, handler_crosses, sendable, crosses) depth 40

pub waits_row_send : IsSend waits.the_row
waits_row_send = search (waits_send, value_crosses, noun_crosses, code_crosses, handler_crosses, sendable, crosses) depth 40

pub waits_sync : IsSync (waits.the_field).row
waits_sync = search (value_crosses, noun_crosses, code_crosses, handler_crosses, sendable, crosses) depth 40

pub waits_row_sync : IsSync waits.the_row
waits_row_sync = search (waits_sync, value_crosses, noun_crosses, code_crosses, handler_crosses, sendable, crosses) depth 40

pub ruleset waits_crosses = (waits_send, waits_sync, waits_row_send, waits_row_sync)

pub script_send : IsSend (script.the_field).row
script_send = search (code_crosses, sendable, crosses) depth 40

pub script_row_send : IsSend script.the_row
script_row_send = search (script_send, code_crosses, sendable, crosses) depth 40

pub script_sync : IsSync (script.the_field).row
script_sync = search (code_crosses, sendable, crosses) depth 40

pub script_row_sync : IsSync script.the_row
script_row_sync = search (script_sync, code_crosses, sendable, crosses) depth 40

pub ruleset script_crosses = (script_send, script_sync, script_row_send, script_row_sync)

pub question_send : IsSend (question.the_field).row
question_send = search (code_crosses, sendable, crosses) depth 40

pub question_row_send : IsSend question.the_row
question_row_send = search (question_send, code_crosses, sendable, crosses) depth 40

pub question_sync : IsSync (question.the_field).row
question_sync = search (code_crosses, sendable, crosses) depth 40

pub question_row_sync : IsSync question.the_row
question_row_sync = search (question_sync, code_crosses, sendable, crosses) depth 40

pub ruleset question_crosses = (question_send, question_sync, question_row_send, question_row_sync)

pub delivery_send : IsSend (delivery.the_field).row
delivery_send = search (earlier_crosses, script_crosses, question_crosses, call_crosses, waits_crosses, sendable, crosses) depth 40

pub delivery_row_send : IsSend delivery.the_row
delivery_row_send = search (delivery_send, earlier_crosses, script_crosses, question_crosses, call_crosses, waits_crosses, sendable, crosses) depth 40

pub delivery_sync : IsSync (delivery.the_field).row
delivery_sync = search (earlier_crosses, script_crosses, question_crosses, call_crosses, waits_crosses, sendable, crosses) depth 40

pub delivery_row_sync : IsSync delivery.the_row
delivery_row_sync = search (delivery_sync, earlier_crosses, script_crosses, question_crosses, call_crosses, waits_crosses, sendable, crosses) depth 40

pub ruleset delivery_crosses = (delivery_send, delivery_sync, delivery_row_send, delivery_row_sync)

pub sent_send : IsSend (sent.the_field).row
sent_send = search (delivery_crosses, fence_crosses, sendable, crosses) depth 40

pub sent_row_send : IsSend sent.the_row
sent_row_send = search (sent_send, delivery_crosses, fence_crosses, sendable, crosses) depth 40

pub sent_sync : IsSync (sent.the_field).row
sent_sync = search (delivery_crosses, fence_crosses, sendable, crosses) depth 40

pub sent_row_sync : IsSync sent.the_row
sent_row_sync = search (sent_sync, delivery_crosses, fence_crosses, sendable, crosses) depth 40

pub ruleset sent_crosses = (sent_send, sent_sync, sent_row_send, sent_row_sync)

pub message_send : IsSend (message.the_field).row
message_send = search (sent_crosses, place_crosses, sendable, crosses) depth 40

pub message_row_send : IsSend message.the_row
message_row_send = search (message_send, sent_crosses, place_crosses, sendable, crosses) depth 40

pub message_sync : IsSync (message.the_field).row
message_sync = search (sent_crosses, place_crosses, sendable, crosses) depth 40

pub message_row_sync : IsSync message.the_row
message_row_sync = search (message_sync, sent_crosses, place_crosses, sendable, crosses) depth 40

pub ruleset message_crosses = (message_send, message_sync, message_row_send, message_row_sync)

pub published_send : IsSend (published.the_field).row
published_send = search (value_crosses, carried_crosses, sendable, crosses) depth 40

pub published_row_send : IsSend published.the_row
published_row_send = search (published_send, value_crosses, carried_crosses, sendable, crosses) depth 40

pub published_sync : IsSync (published.the_field).row
published_sync = search (value_crosses, carried_crosses, sendable, crosses) depth 40

pub published_row_sync : IsSync published.the_row
published_row_sync = search (published_sync, value_crosses, carried_crosses, sendable, crosses) depth 40

pub ruleset published_crosses = (published_send, published_sync, published_row_send, published_row_sync)
