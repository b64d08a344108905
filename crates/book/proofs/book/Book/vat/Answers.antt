use Rattle.std.proofs.Common.{sym, ◌∙◌}
use Rattle.ids.specs.declared.cells.CellKey.TheVariants as key
use Rattle.undo.specs.CoreView.{state_of}
use Rattle.book.proofs.Seen.{world_at}
use Rattle.book.proofs.book.Book.vat.Goals as goal

pub returns : goal.returns
returns c = c.vat.ensures ∙ sym (world_at c.world.result.now (state_of c.args.self.now.core) c.world.ensures (key.Name c.args.name.now))
