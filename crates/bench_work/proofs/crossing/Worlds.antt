-- Worlds and journals may cross.
use denote.Param.Send.{IsSend, IsSync, sendable}
use Rattle.std.proofs.Crossing.{crosses}
use Rattle.world_cells.specs.contracts.event.Action as action
use Rattle.world_cells.specs.contracts.event.Event as happening
use Rattle.world_cells.specs.contracts.home.Home as home
use Rattle.world_cells.specs.contracts.homes.Homes as homes
use Rattle.world_cells.specs.contracts.record.CellRecord as cell_record
use Rattle.world_cells.specs.contracts.world.World as world
use Rattle.journal_links.specs.contracts.followers.Followers as followers
use Rattle.journal_links.specs.contracts.heirs.Heirs as heirs
use Rattle.journal_links.specs.contracts.places.Places as places
use Rattle.journal.specs.contracts.entry.Entry as entry
use Rattle.journal.specs.contracts.settled.Settled as settled
use Rattle.undo.specs.contracts.open_entries.OpenEntries as open_entries
use Rattle.undo.specs.contracts.undoing.Core as core
use Rattle.bench_work.proofs.crossing.Messages.{message_crosses, published_crosses, script_crosses, question_crosses}
use Rattle.bench_work.proofs.crossing.More.{table_crosses, note_crosses, mark_crosses, touched_crosses}
use Rattle.bench_work.proofs.crossing.Names.{text_crosses, message_name_crosses, vat_number_crosses, promise_crosses, event_crosses, record_crosses, vat_crosses, slot_crosses, object_crosses, reference_crosses, fence_crosses, store_crosses}
use Rattle.bench_work.proofs.crossing.States.{state_crosses, made_crosses, binding_crosses, view_crosses}
use Rattle.bench_work.proofs.crossing.Values.{value_crosses}

pub action_send : IsSend (action.the_field).row
action_send = search (text_crosses, script_crosses, question_crosses, message_name_crosses, vat_number_crosses, promise_crosses, sendable, crosses) depth 40

pub action_row_send : IsSend action.the_row
action_row_send = search (action_send, text_crosses, script_crosses, question_crosses, message_name_crosses, vat_number_crosses, promise_crosses, sendable, crosses) depth 40

pub action_sync : IsSync (action.the_field).row
action_sync = search (text_crosses, script_crosses, question_crosses, message_name_crosses, vat_number_crosses, promise_crosses, sendable, crosses) depth 40

pub action_row_sync : IsSync action.the_row
action_row_sync = search (action_sync, text_crosses, script_crosses, question_crosses, message_name_crosses, vat_number_crosses, promise_crosses, sendable, crosses) depth 40

pub ruleset action_crosses = (action_send, action_sync, action_row_send, action_row_sync)

pub happening_send : IsSend (happening.the_field).row
happening_send = search (event_crosses, action_crosses, sendable, crosses) depth 40

pub happening_row_send : IsSend happening.the_row
happening_row_send = search (happening_send, event_crosses, action_crosses, sendable, crosses) depth 40

pub happening_sync : IsSync (happening.the_field).row
happening_sync = search (event_crosses, action_crosses, sendable, crosses) depth 40

pub happening_row_sync : IsSync happening.the_row
happening_row_sync = search (happening_sync, event_crosses, action_crosses, sendable, crosses) depth 40

pub ruleset happening_crosses = (happening_send, happening_sync, happening_row_send, happening_row_sync)

pub home_send : IsSend (home.the_field).row
home_send = search (state_crosses, sendable, crosses) depth 40

pub home_row_send : IsSend home.the_row
home_row_send = search (home_send, state_crosses, sendable, crosses) depth 40

pub home_sync : IsSync (home.the_field).row
home_sync = search (state_crosses, sendable, crosses) depth 40

pub home_row_sync : IsSync home.the_row
home_row_sync = search (home_sync, state_crosses, sendable, crosses) depth 40

pub ruleset home_crosses = (home_send, home_sync, home_row_send, home_row_sync)

pub homes_send : IsSend (homes.the_field).row
homes_send = search (table_crosses, vat_number_crosses, home_crosses, sendable, crosses) depth 40

pub homes_row_send : IsSend homes.the_row
homes_row_send = search (homes_send, table_crosses, vat_number_crosses, home_crosses, sendable, crosses) depth 40

pub homes_sync : IsSync (homes.the_field).row
homes_sync = search (table_crosses, vat_number_crosses, home_crosses, sendable, crosses) depth 40

pub homes_row_sync : IsSync homes.the_row
homes_row_sync = search (homes_sync, table_crosses, vat_number_crosses, home_crosses, sendable, crosses) depth 40

pub ruleset homes_crosses = (homes_send, homes_sync, homes_row_send, homes_row_sync)

pub cell_record_send : IsSend (cell_record.the_field).row
cell_record_send = search (record_crosses, text_crosses, vat_crosses, slot_crosses, object_crosses, value_crosses, made_crosses, vat_number_crosses, binding_crosses, promise_crosses, view_crosses, reference_crosses, fence_crosses, message_name_crosses, message_crosses, published_crosses, sendable, crosses) depth 40

pub cell_record_row_send : IsSend cell_record.the_row
cell_record_row_send = search (cell_record_send, record_crosses, text_crosses, vat_crosses, slot_crosses, object_crosses, value_crosses, made_crosses, vat_number_crosses, binding_crosses, promise_crosses, view_crosses, reference_crosses, fence_crosses, message_name_crosses, message_crosses, published_crosses, sendable, crosses) depth 40

pub cell_record_sync : IsSync (cell_record.the_field).row
cell_record_sync = search (record_crosses, text_crosses, vat_crosses, slot_crosses, object_crosses, value_crosses, made_crosses, vat_number_crosses, binding_crosses, promise_crosses, view_crosses, reference_crosses, fence_crosses, message_name_crosses, message_crosses, published_crosses, sendable, crosses) depth 40

pub cell_record_row_sync : IsSync cell_record.the_row
cell_record_row_sync = search (cell_record_sync, record_crosses, text_crosses, vat_crosses, slot_crosses, object_crosses, value_crosses, made_crosses, vat_number_crosses, binding_crosses, promise_crosses, view_crosses, reference_crosses, fence_crosses, message_name_crosses, message_crosses, published_crosses, sendable, crosses) depth 40

pub ruleset cell_record_crosses = (cell_record_send, cell_record_sync, cell_record_row_send, cell_record_row_sync)

pub world_send : IsSend (world.the_field).row
world_send = search (store_crosses, text_crosses, vat_crosses, homes_crosses, message_name_crosses, message_crosses, promise_crosses, published_crosses, sendable, crosses) depth 40

pub world_row_send : IsSend world.the_row
world_row_send = search (world_send, store_crosses, text_crosses, vat_crosses, homes_crosses, message_name_crosses, message_crosses, promise_crosses, published_crosses, sendable, crosses) depth 40

pub world_sync : IsSync (world.the_field).row
world_sync = search (store_crosses, text_crosses, vat_crosses, homes_crosses, message_name_crosses, message_crosses, promise_crosses, published_crosses, sendable, crosses) depth 40

pub world_row_sync : IsSync world.the_row
world_row_sync = search (world_sync, store_crosses, text_crosses, vat_crosses, homes_crosses, message_name_crosses, message_crosses, promise_crosses, published_crosses, sendable, crosses) depth 40

pub ruleset world_crosses = (world_send, world_sync, world_row_send, world_row_sync)

pub entry_send : IsSend (entry.the_field).row
entry_send = search (happening_crosses, note_crosses, mark_crosses, touched_crosses, cell_record_crosses, sendable, crosses) depth 40

pub entry_row_send : IsSend entry.the_row
entry_row_send = search (entry_send, happening_crosses, note_crosses, mark_crosses, touched_crosses, cell_record_crosses, sendable, crosses) depth 40

pub entry_sync : IsSync (entry.the_field).row
entry_sync = search (happening_crosses, note_crosses, mark_crosses, touched_crosses, cell_record_crosses, sendable, crosses) depth 40

pub entry_row_sync : IsSync entry.the_row
entry_row_sync = search (entry_sync, happening_crosses, note_crosses, mark_crosses, touched_crosses, cell_record_crosses, sendable, crosses) depth 40

pub ruleset entry_crosses = (entry_send, entry_sync, entry_row_send, entry_row_sync)

pub settled_send : IsSend (settled.the_field).row
settled_send = search (event_crosses, touched_crosses, text_crosses, vat_number_crosses, sendable, crosses) depth 40

pub settled_row_send : IsSend settled.the_row
settled_row_send = search (settled_send, event_crosses, touched_crosses, text_crosses, vat_number_crosses, sendable, crosses) depth 40

pub settled_sync : IsSync (settled.the_field).row
settled_sync = search (event_crosses, touched_crosses, text_crosses, vat_number_crosses, sendable, crosses) depth 40

pub settled_row_sync : IsSync settled.the_row
settled_row_sync = search (settled_sync, event_crosses, touched_crosses, text_crosses, vat_number_crosses, sendable, crosses) depth 40

pub ruleset settled_crosses = (settled_send, settled_sync, settled_row_send, settled_row_sync)

pub places_send : IsSend (places.the_field).row
places_send = search (sendable, crosses) depth 40

pub places_row_send : IsSend places.the_row
places_row_send = search (places_send, sendable, crosses) depth 40

pub places_sync : IsSync (places.the_field).row
places_sync = search (sendable, crosses) depth 40

pub places_row_sync : IsSync places.the_row
places_row_sync = search (places_sync, sendable, crosses) depth 40

pub ruleset places_crosses = (places_send, places_sync, places_row_send, places_row_sync)

pub followers_send : IsSend (followers.the_field).row
followers_send = search (event_crosses, sendable, crosses) depth 40

pub followers_row_send : IsSend followers.the_row
followers_row_send = search (followers_send, event_crosses, sendable, crosses) depth 40

pub followers_sync : IsSync (followers.the_field).row
followers_sync = search (event_crosses, sendable, crosses) depth 40

pub followers_row_sync : IsSync followers.the_row
followers_row_sync = search (followers_sync, event_crosses, sendable, crosses) depth 40

pub ruleset followers_crosses = (followers_send, followers_sync, followers_row_send, followers_row_sync)

pub heirs_send : IsSend (heirs.the_field).row
heirs_send = search (event_crosses, sendable, crosses) depth 40

pub heirs_row_send : IsSend heirs.the_row
heirs_row_send = search (heirs_send, event_crosses, sendable, crosses) depth 40

pub heirs_sync : IsSync (heirs.the_field).row
heirs_sync = search (event_crosses, sendable, crosses) depth 40

pub heirs_row_sync : IsSync heirs.the_row
heirs_row_sync = search (heirs_sync, event_crosses, sendable, crosses) depth 40

pub ruleset heirs_crosses = (heirs_send, heirs_sync, heirs_row_send, heirs_row_sync)

pub open_entries_send : IsSend (open_entries.the_field).row
open_entries_send = search (entry_crosses, sendable, crosses) depth 40

pub open_entries_row_send : IsSend open_entries.the_row
open_entries_row_send = search (open_entries_send, entry_crosses, sendable, crosses) depth 40

pub open_entries_sync : IsSync (open_entries.the_field).row
open_entries_sync = search (entry_crosses, sendable, crosses) depth 40

pub open_entries_row_sync : IsSync open_entries.the_row
open_entries_row_sync = search (open_entries_sync, entry_crosses, sendable, crosses) depth 40

pub ruleset open_entries_crosses = (open_entries_send, open_entries_sync, open_entries_row_send, open_entries_row_sync)

pub core_send : IsSend (core.the_field).row
core_send = search (world_crosses, settled_crosses, open_entries_crosses, places_crosses, followers_crosses, heirs_crosses, sendable, crosses) depth 40

pub core_row_send : IsSend core.the_row
core_row_send = search (core_send, world_crosses, settled_crosses, open_entries_crosses, places_crosses, followers_crosses, heirs_crosses, sendable, crosses) depth 40

pub core_sync : IsSync (core.the_field).row
core_sync = search (world_crosses, settled_crosses, open_entries_crosses, places_crosses, followers_crosses, heirs_crosses, sendable, crosses) depth 40

pub core_row_sync : IsSync core.the_row
core_row_sync = search (core_sync, world_crosses, settled_crosses, open_entries_crosses, places_crosses, followers_crosses, heirs_crosses, sendable, crosses) depth 40

pub ruleset core_crosses = (core_send, core_sync, core_row_send, core_row_sync)
