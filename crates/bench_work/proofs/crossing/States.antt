-- The states of vats and what turns touch there may cross.
use denote.Param.Send.{IsSend, IsSync, sendable}
use Rattle.std.proofs.Crossing.{crosses}
use Rattle.heap.specs.contracts.state.Binding as binding
use Rattle.heap.specs.contracts.state.Noun as noun
use Rattle.heap.specs.contracts.state.View as view
use Rattle.heap.specs.contracts.made.Plain as plain
use Rattle.heap.specs.contracts.made.Made as made
use Rattle.heap.specs.contracts.reach.Footprint as footprint
use Rattle.heap.specs.contracts.state.VatState as state
use Rattle.bench_work.proofs.crossing.Names.{slot_crosses, text_crosses, pattern_crosses, index_crosses, promise_crosses, touches_crosses, object_crosses, reference_crosses, fence_crosses, store_crosses}
use Rattle.bench_work.proofs.crossing.Values.{value_crosses, method_code_crosses}

pub binding_send : IsSend (binding.the_field).row
binding_send = search (value_crosses, slot_crosses, sendable, crosses) depth 40

pub binding_row_send : IsSend binding.the_row
binding_row_send = search (binding_send, value_crosses, slot_crosses, sendable, crosses) depth 40

pub binding_sync : IsSync (binding.the_field).row
binding_sync = search (value_crosses, slot_crosses, sendable, crosses) depth 40

pub binding_row_sync : IsSync binding.the_row
binding_row_sync = search (binding_sync, value_crosses, slot_crosses, sendable, crosses) depth 40

pub ruleset binding_crosses = (binding_send, binding_sync, binding_row_send, binding_row_sync)

pub noun_send : IsSend (noun.the_field).row
noun_send = search (binding_crosses, text_crosses, sendable, crosses) depth 40

pub noun_row_send : IsSend noun.the_row
noun_row_send = search (noun_send, binding_crosses, text_crosses, sendable, crosses) depth 40

pub noun_sync : IsSync (noun.the_field).row
noun_sync = search (binding_crosses, text_crosses, sendable, crosses) depth 40

pub noun_row_sync : IsSync noun.the_row
noun_row_sync = search (noun_sync, binding_crosses, text_crosses, sendable, crosses) depth 40

pub ruleset noun_crosses = (noun_send, noun_sync, noun_row_send, noun_row_sync)

pub view_send : IsSend (view.the_field).row
view_send = search (value_crosses, sendable, crosses) depth 40

pub view_row_send : IsSend view.the_row
view_row_send = search (view_send, value_crosses, sendable, crosses) depth 40

pub view_sync : IsSync (view.the_field).row
view_sync = search (value_crosses, sendable, crosses) depth 40

pub view_row_sync : IsSync view.the_row
view_row_sync = search (view_sync, value_crosses, sendable, crosses) depth 40

pub ruleset view_crosses = (view_send, view_sync, view_row_send, view_row_sync)

pub plain_send : IsSend (plain.the_field).row
plain_send = search (pattern_crosses, noun_crosses, method_code_crosses, index_crosses, sendable, crosses) depth 40

pub plain_row_send : IsSend plain.the_row
plain_row_send = search (plain_send, pattern_crosses, noun_crosses, method_code_crosses, index_crosses, sendable, crosses) depth 40

pub plain_sync : IsSync (plain.the_field).row
plain_sync = search (pattern_crosses, noun_crosses, method_code_crosses, index_crosses, sendable, crosses) depth 40

pub plain_row_sync : IsSync plain.the_row
plain_row_sync = search (plain_sync, pattern_crosses, noun_crosses, method_code_crosses, index_crosses, sendable, crosses) depth 40

pub ruleset plain_crosses = (plain_send, plain_sync, plain_row_send, plain_row_sync)

pub made_send : IsSend (made.the_field).row
made_send = search (plain_crosses, promise_crosses, sendable, crosses) depth 40

pub made_row_send : IsSend made.the_row
made_row_send = search (made_send, plain_crosses, promise_crosses, sendable, crosses) depth 40

pub made_sync : IsSync (made.the_field).row
made_sync = search (plain_crosses, promise_crosses, sendable, crosses) depth 40

pub made_row_sync : IsSync made.the_row
made_row_sync = search (made_sync, plain_crosses, promise_crosses, sendable, crosses) depth 40

pub ruleset made_crosses = (made_send, made_sync, made_row_send, made_row_sync)

pub footprint_send : IsSend (footprint.the_field).row
footprint_send = search (touches_crosses, text_crosses, slot_crosses, object_crosses, promise_crosses, reference_crosses, binding_crosses, value_crosses, made_crosses, view_crosses, fence_crosses, sendable, crosses) depth 40

pub footprint_row_send : IsSend footprint.the_row
footprint_row_send = search (footprint_send, touches_crosses, text_crosses, slot_crosses, object_crosses, promise_crosses, reference_crosses, binding_crosses, value_crosses, made_crosses, view_crosses, fence_crosses, sendable, crosses) depth 40

pub footprint_sync : IsSync (footprint.the_field).row
footprint_sync = search (touches_crosses, text_crosses, slot_crosses, object_crosses, promise_crosses, reference_crosses, binding_crosses, value_crosses, made_crosses, view_crosses, fence_crosses, sendable, crosses) depth 40

pub footprint_row_sync : IsSync footprint.the_row
footprint_row_sync = search (footprint_sync, touches_crosses, text_crosses, slot_crosses, object_crosses, promise_crosses, reference_crosses, binding_crosses, value_crosses, made_crosses, view_crosses, fence_crosses, sendable, crosses) depth 40

pub ruleset footprint_crosses = (footprint_send, footprint_sync, footprint_row_send, footprint_row_sync)

pub state_send : IsSend (state.the_field).row
state_send = search (store_crosses, text_crosses, slot_crosses, object_crosses, promise_crosses, reference_crosses, binding_crosses, value_crosses, made_crosses, view_crosses, fence_crosses, sendable, crosses) depth 40

pub state_row_send : IsSend state.the_row
state_row_send = search (state_send, store_crosses, text_crosses, slot_crosses, object_crosses, promise_crosses, reference_crosses, binding_crosses, value_crosses, made_crosses, view_crosses, fence_crosses, sendable, crosses) depth 40

pub state_sync : IsSync (state.the_field).row
state_sync = search (store_crosses, text_crosses, slot_crosses, object_crosses, promise_crosses, reference_crosses, binding_crosses, value_crosses, made_crosses, view_crosses, fence_crosses, sendable, crosses) depth 40

pub state_row_sync : IsSync state.the_row
state_row_sync = search (state_sync, store_crosses, text_crosses, slot_crosses, object_crosses, promise_crosses, reference_crosses, binding_crosses, value_crosses, made_crosses, view_crosses, fence_crosses, sendable, crosses) depth 40

pub ruleset state_crosses = (state_send, state_sync, state_row_send, state_row_sync)
