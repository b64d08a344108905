-- What is in journals and books besides, and may cross.
use Rattle.eval_rules.proofs.outbox.Note.TheSendSync as notes
use Rattle.eval_rules.proofs.end.Abandon.TheSendSync as abandons
use Rattle.journal.proofs.entry.Mark.TheSendSync as marks
use Rattle.journal.proofs.entry.Touched.TheSendSync as toucheds
use Rattle.book_agenda.proofs.agenda.Agenda.TheSendSync as agendas
use Rattle.desk.proofs.desk.Desk.TheSendSync as desks
use Rattle.indexmap.proofs.map.IndexMap.TheSendSync as tables

pub ruleset note_crosses = (notes.the_send, notes.the_sync, notes.the_field_send, notes.the_field_sync)

pub ruleset abandon_crosses = (abandons.the_send, abandons.the_sync, abandons.the_field_send, abandons.the_field_sync)

pub ruleset mark_crosses = (marks.the_send, marks.the_sync, marks.the_field_send, marks.the_field_sync)

pub ruleset touched_crosses = (toucheds.the_send, toucheds.the_sync, toucheds.the_field_send, toucheds.the_field_sync)

pub ruleset agenda_crosses = (agendas.the_send, agendas.the_sync, agendas.the_field_send, agendas.the_field_sync)

pub ruleset desk_crosses = (desks.the_send, desks.the_sync, desks.the_field_send, desks.the_field_sync)

pub ruleset table_crosses = (tables.the_send, tables.the_sync)
