-- Names, texts, and what has only these: each may cross.
use Rattle.ids.proofs.names.EventName.TheSendSync as events
use Rattle.ids.proofs.names.VatNo.TheSendSync as vat_numbers
use Rattle.ids.proofs.names.SlotId.TheSendSync as slots
use Rattle.ids.proofs.names.ObjId.TheSendSync as objects
use Rattle.ids.proofs.names.MsgId.TheSendSync as message_names
use Rattle.ids.proofs.names.PromId.TheSendSync as promises
use Rattle.ids.proofs.reference.Reference.TheSendSync as references
use Rattle.ids.proofs.text.Text.TheSendSync as texts
use Rattle.values.proofs.verb.Verb.TheSendSync as verbs
use Rattle.eorder.proofs.carried.Carried.TheSendSync as carried_fences
use Rattle.eorder.proofs.fence.Fence.TheSendSync as fences
use Rattle.kernele.proofs.tree.Pattern.TheSendSync as patterns
use Rattle.code.proofs.code.NounPlace.TheSendSync as coded_places
use Rattle.code.proofs.code.Capture.TheSendSync as captures
use Rattle.code.proofs.index.MethodIndex.TheSendSync as indices
use Rattle.post.proofs.earlier.Earlier.TheSendSync as earlier_vats
use Rattle.post.proofs.message.Place.TheSendSync as places
use Rattle.post.proofs.vat.Vat.TheSendSync as vats
use Rattle.cells.proofs.store.Record.TheSendSync as records
use Rattle.cells.proofs.store.CellStore.TheSendSync as stores
use Rattle.cells.proofs.touches.Touches.TheSendSync as touched_cells
use Rattle.cells.proofs.few.Few.TheSendSync as few_rows

pub ruleset event_crosses = (events.the_send, events.the_sync, events.the_field_send, events.the_field_sync)

pub ruleset vat_number_crosses = (vat_numbers.the_send, vat_numbers.the_sync, vat_numbers.the_field_send, vat_numbers.the_field_sync)

pub ruleset slot_crosses = (slots.the_send, slots.the_sync, slots.the_field_send, slots.the_field_sync)

pub ruleset object_crosses = (objects.the_send, objects.the_sync, objects.the_field_send, objects.the_field_sync)

pub ruleset message_name_crosses = (message_names.the_send, message_names.the_sync, message_names.the_field_send, message_names.the_field_sync)

pub ruleset promise_crosses = (promises.the_send, promises.the_sync, promises.the_field_send, promises.the_field_sync)

pub ruleset reference_crosses = (references.the_send, references.the_sync, references.the_field_send, references.the_field_sync)

pub ruleset text_crosses = (texts.the_send, texts.the_sync)

pub ruleset verb_crosses = (verbs.the_send, verbs.the_sync)

pub ruleset carried_crosses = (carried_fences.the_send, carried_fences.the_sync)

pub ruleset fence_crosses = (fences.the_send, fences.the_sync)

pub ruleset pattern_crosses = (patterns.the_send, patterns.the_sync, patterns.the_field_send, patterns.the_field_sync)

pub ruleset coded_place_crosses = (coded_places.the_send, coded_places.the_sync, coded_places.the_field_send, coded_places.the_field_sync)

pub ruleset capture_crosses = (captures.the_send, captures.the_sync, captures.the_field_send, captures.the_field_sync)

pub ruleset index_crosses = (indices.the_send, indices.the_sync, indices.the_field_send, indices.the_field_sync)

pub ruleset earlier_crosses = (earlier_vats.the_send, earlier_vats.the_sync, earlier_vats.the_field_send, earlier_vats.the_field_sync)

pub ruleset place_crosses = (places.the_send, places.the_sync, places.the_field_send, places.the_field_sync)

pub ruleset vat_crosses = (vats.the_send, vats.the_sync, vats.the_field_send, vats.the_field_sync)

pub ruleset record_crosses = (records.the_send, records.the_sync, records.the_field_send, records.the_field_sync)

pub ruleset store_crosses = (stores.the_send, stores.the_sync, stores.the_field_send, stores.the_field_sync)

pub ruleset touches_crosses = (touched_cells.the_send, touched_cells.the_sync, touched_cells.the_field_send, touched_cells.the_field_sync)

pub ruleset few_crosses = (few_rows.the_send, few_rows.the_sync)
