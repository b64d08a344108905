use Rattle.std.proofs.lemmas.Bool.{or_left, or_right}
use Rattle.history.specs.Journal.{live_set, both}
use Rattle.history_consequences.proofs.Writers.{sound_last}
use Rattle.history_consequences.proofs.Crossing.{one_of, redo_exact}
use Rattle.history_consequences.proofs.Missing.{first_missing, none_lacked}
use Rattle.history_consequences.proofs.Meeting.{first_crossed}
use Rattle.history_consequences.proofs.redo_is_exact.Goals as goal

pub returns : goal.returns
returns g d = let s = g.S.Undoable.subject in let laws = g.S.Undoable.laws in record {
  exact = λ es h c. redo_exact s laws c es h.distinct h.chained h.sound;
  missing = λ es h c. (
    first_missing s laws (both (live_set s) c) (live_set s) c (λ a. one_of a.live (c a)) (λ a. or_right a.live (c a)) (λ a q. or_left a.live (c a) q)
        es h.distinct h.ordered h.own h.chained h.sound,
    none_lacked s laws (both (live_set s) c) (live_set s) c (λ a. one_of a.live (c a)) (λ a. or_right a.live (c a)) (λ a q. or_left a.live (c a) q)
        es h.distinct h.chained,
  );
  crossing = λ es h c. first_crossed s laws (both (live_set s) c) (live_set s) c (λ a. one_of a.live (c a)) (λ a q. or_left a.live (c a) q)
      es h.distinct h.chained (sound_last s laws (live_set s) es h.chained h.sound);
}
