use Rattle.std.proofs.Common.{refl}
use Rattle.ids.specs.declared.cells.CellKey.TheVariants as cell
use Rattle.world_cells.specs.View.{world_of}
use Rattle.world_cells.proofs.Worlds.{ok_follows}
use Rattle.book_agenda.proofs.Noting.{views_noted}
use Rattle.book_agenda.proofs.agenda.Agenda.note_known.Goals as goal

pub returns : goal.returns
returns c = ok_follows c.note_view.result _ _ c.note_view.ensures (λ _ n. views_noted (world_of c.args.world.now) (cell.View c.args.vat c.args.promise) _ _ _ _ c.in_ok-wake.ensures n (λ p v. refl))
