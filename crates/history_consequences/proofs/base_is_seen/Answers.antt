use Rattle.std.proofs.Common.{◌++◌}
use Rattle.std.proofs.lemmas.Bool.{both_ways, and_parts, and_from, not-true, not_from_false}
use Rattle.history.specs.Subject.{touches}
use Rattle.history.specs.Journal.{live_set}
use Rattle.history_consequences.proofs.Members.{all_in, in_all}
use Rattle.history_consequences.proofs.Writers.{sound_last, touched_of}
use Rattle.history_consequences.proofs.Basing.{base_seen, base_shown, base_over, older_last}
use Rattle.history_consequences.proofs.base_is_seen.Goals as goal

pub returns : goal.returns
returns g d = let s = g.S.Undoable.subject in let laws = g.S.Undoable.laws in record {
  seen = λ opens base h k. (
    in_all _ opens (λ r i live from. let u = and_parts (touches s r.foot k) _ from in base_seen s laws k (live_set s) opens base h.chained (sound_last s laws (live_set s) (opens ++ base) h.chained h.sound) r i live u.0 (not-true _ u.1)),
    λ none. base_shown s laws k (live_set s) opens base h.distinct h.chained (sound_last s laws (live_set s) (opens ++ base) h.chained h.sound)
        (λ r i live wr out. both_ways _ (all_in _ opens none r i live (and_from _ _ (touched_of s laws k r wr) (not_from_false _ out))) wr),
  );
  exact = λ opens base h settled. in_all _ (opens ++ base) (λ e i. in_all _ e.lasts (λ v j none.
      base_over s laws (live_set s) opens base h.distinct h.chained (older_last s (live_set s) opens base (sound_last s laws (live_set s) (opens ++ base) h.chained h.sound))
      (λ a u. all_in _ base settled a u) e i v j none));
}
