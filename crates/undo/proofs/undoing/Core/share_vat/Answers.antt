use Rattle.std.proofs.Common.{ap}
use Rattle.world_cells.specs.Theory.{numbered}
use Rattle.undo.specs.CoreView.{items_of}
use Rattle.undo.proofs.undoing.Core.share_vat.Goals as goal

pub returns-clause-shown : goal.returns-clause-shown
returns-clause-shown c = ap (λ f. (items_of c.args.self.now, λ k. numbered (f k))) c.share_vat.ensures.seen
