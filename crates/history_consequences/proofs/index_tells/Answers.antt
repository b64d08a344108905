use Rattle.std.proofs.Common.{◌++◌}
use Rattle.history_consequences.proofs.Members.{in_all}
use Rattle.history_consequences.proofs.Settling.{lists_followers, versions_listed, closed_unlisted}
use Rattle.history_consequences.proofs.index_tells.Goals as goal

pub returns : goal.returns
returns g d = let s = g.S.Undoable.subject in let laws = g.S.Undoable.laws in record {
  lists = λ opens base h index right. in_all _ opens (λ w i. in_all _ (opens ++ base) (λ r j. lists_followers s laws index opens base h.distinct h.chained right w r i j));
  closed = λ opens base h index c right none. closed_unlisted s laws index opens base c h.distinct h.own h.ordered h.chained h.sound right none;
  versions = λ opens base h index right v. in_all _ opens (λ r i found. versions_listed s laws index opens base h.chained right v r i found);
}
