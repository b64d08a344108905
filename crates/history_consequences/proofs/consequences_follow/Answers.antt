use Rattle.history.specs.Cone.{in_cone}
use Rattle.history.specs.Journal.{live_set}
use Rattle.history.proofs.Cones.{cone_closed}
use Rattle.history_consequences.proofs.Members.{in_all}
use Rattle.history_consequences.proofs.Closing.{closed_of, unfollowed_of, cone_gathered, gathered_cone}
use Rattle.history_consequences.proofs.Outsiders.{first_outsider}
use Rattle.history_consequences.proofs.Lineage.{walked_back}
use Rattle.history_consequences.proofs.consequences_follow.Goals as goal

pub returns : goal.returns
returns g d = let s = g.S.Undoable.subject in let laws = g.S.Undoable.laws in record {
  closed = λ es h c. (
    unfollowed_of s laws (live_set s) c es h.own h.ordered h.chained,
    closed_of s laws (live_set s) c es h.own h.ordered h.chained h.sound,
  );
  cone = λ es h root. (
    gathered_cone s laws (live_set s) (live_set s) root es h.distinct h.own h.ordered h.chained h.sound,
    unfollowed_of s laws (live_set s) (in_cone s (live_set s) root es) es h.own h.ordered h.chained (cone_closed s (live_set s) root es h.distinct),
    λ c. cone_gathered s laws (live_set s) c root es h.distinct h.own h.ordered h.chained h.sound,
  );
  outsider = λ es h c. in_all _ es (λ e i live. first_outsider s laws c es h.distinct h.ordered h.own h.chained (live_set s) e live i h.sound);
  line = λ es h c k. in_all _ es (λ e i member. in_all _ es (λ f j wrote. walked_back s laws c k e member es h.distinct h.chained i f j wrote));
}
