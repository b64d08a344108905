use Rattle.history_consequences.proofs.Indexing.{index_begun, index_entered, index_marked, index_exchanged}
use Rattle.history_consequences.proofs.Settling.{index_settled}
use Rattle.history_consequences.proofs.index_is_kept.Goals as goal

pub returns : goal.returns
returns g d = let s = g.S.Undoable.subject in let laws = g.S.Undoable.laws in record {
  begins = index_begun s laws;
  enters = λ e opens base h. index_entered s laws e opens base h.distinct h.chained;
  marks = λ index t opens. index_marked s laws t index opens;
  exchanges = index_exchanged s laws;
  settles = λ opens settled base h. index_settled s laws opens settled base h.distinct h.chained;
}
