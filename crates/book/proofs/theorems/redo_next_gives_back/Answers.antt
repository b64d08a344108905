use Rattle.book.proofs.GivingBack.{gives_back}
use Rattle.book.proofs.theorems.redo_next_gives_back.Goals as goal

pub returns : goal.returns
returns c = gives_back
