use Rattle.std.proofs.Common.{refl}
use Rattle.world_cells.specs.View.{world_of}
use Rattle.world_cells.proofs.Worlds.{ok_follows}
use Rattle.book_agenda.proofs.Noting.{placed}
use Rattle.book_agenda.proofs.agenda.Agenda.place.Goals as goal

pub returns : goal.returns
returns c = ok_follows c.put.result _ _ c.put.ensures (λ _ p. placed (world_of c.args.world.now) c.args.name _ _ _ _ _ c.in_ok-waits.ensures.waits c.in_ok-waits.ensures.cues c.in_ok-watch.ensures p refl refl refl refl)
