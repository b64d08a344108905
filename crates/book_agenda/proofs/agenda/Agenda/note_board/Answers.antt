use Rattle.ids.specs.declared.cells.CellKey.TheVariants as cell
use Rattle.world_cells.specs.View.{world_of}
use Rattle.world_cells.proofs.Worlds.{ok_follows}
use Rattle.book_agenda.proofs.Noting.{views_noted, still_shown}
use Rattle.book_agenda.proofs.agenda.Agenda.note_board.Goals as goal

pub returns : goal.returns
returns c = ok_follows c.note_publication.result _ _ c.note_publication.ensures (λ _ n.
    views_noted (world_of c.args.world.now) (cell.Board c.args.promise) _ _ _ _ c.in_ok-wake.ensures n (still_shown (world_of c.args.world.now) _ c.args.promise _ _ c.in_ok-wake.ensures))
