use Rattle.journal.specs.Lines.{lines_of}
use Rattle.causality.proofs.Exactness.{closed_of_gaps, gaps_of_closed, sound_of_lacks, lacks_of_sound, cone_undone}
use Rattle.causality.proofs.Telling.{journal_tells}
use Rattle.causality.proofs.theorems.selections_are_exact.Goals as goal

pub returns : goal.returns
returns c = record {
  gaps = λ items names h. (closed_of_gaps names (lines_of items), gaps_of_closed names (lines_of items) (journal_tells items h));
  crossings = λ items names h. (sound_of_lacks names (lines_of items) (journal_tells items h), lacks_of_sound names (lines_of items) (journal_tells items h));
  cones = λ items root names h. cone_undone names (lines_of items) root (journal_tells items h);
}
