use Rattle.history.proofs.Lists.{all_map, all_of}
use Rattle.history.specs.Journal.{name_of}
use Rattle.history_consequences.proofs.Writers.{sound_last, last_sound, lasts_caused}
use Rattle.history_consequences.proofs.last_writers_tell.Goals as goal

pub returns : goal.returns
returns g c = let s = g.S.Undoable.subject in let laws = g.S.Undoable.laws in record {
  orderly = λ start next rows state h. record { distinct = h.named.distinct; own = h.named.own; ordered = h.good.ordered; sound = h.good.sound; chained = h.chained };
  causes = λ es h. all_map _ _ es (λ e f. all_of _ es (λ a. f (name_of s a))) (lasts_caused s laws es h.chained);
  sound = λ es h t. (
    sound_last s laws t es h.chained,
    last_sound s laws t es h.distinct h.chained,
  );
}
