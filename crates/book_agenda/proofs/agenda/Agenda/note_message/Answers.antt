use Rattle.world_cells.specs.View.{world_of}
use Rattle.world_cells.proofs.Worlds.{ok_follows}
use Rattle.book_agenda.proofs.Noting.{message_noted}
use Rattle.book_agenda.proofs.agenda.Agenda.note_message.Goals as goal

pub returns : goal.returns
returns c = ok_follows c.place.result _ _ c.place.ensures (λ _ p. message_noted (world_of c.args.world.now) c.args.name _ _ _ c.in_ok-wake.ensures p)
