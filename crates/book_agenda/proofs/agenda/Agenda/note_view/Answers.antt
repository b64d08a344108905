use Rattle.std.proofs.Common.{refl}
use Rattle.world_cells.specs.View.{world_of}
use Rattle.world_cells.proofs.Worlds.{ok_follows}
use Rattle.book_agenda.proofs.Noting.{noted_view}
use Rattle.book_agenda.proofs.agenda.Agenda.note_view.Goals as goal

pub returns : goal.returns
returns c = ok_follows c.keep-2.result _ _ c.keep-2.ensures (λ _ knowns. noted_view (world_of c.args.world.now) c.args.promise c.args.vat _ _ c.is_open-open.result c.can_learn-known.result c.is_open-open.ensures c.can_learn-known.ensures refl refl refl c.in_ok-keep.ensures knowns)
