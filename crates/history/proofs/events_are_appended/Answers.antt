use Rattle.history.proofs.Exchanges.{contents_after, writes_recorded}
use Rattle.history.proofs.Naming.{causes_named, causes_below, causes_named_reversed, causes_below_reversed, free_from, free_causes, free_causes_reversed}
use Rattle.history.proofs.Marks.{free_marked}
use Rattle.history.proofs.Lists.{all_swap}
use Rattle.history.specs.Journal.{Free}
use Rattle.std.proofs.Common.{subst}
use Rattle.history.proofs.Standing.{begun, appended_stands}
use Rattle.history.proofs.events_are_appended.Goals as goal

pub returns : goal.returns
returns g c = let s = g.S.Undoable.subject in let laws = g.S.Undoable.laws in record {
  begun = begun s;
  appended = λ start next later rows state e f ns ls p h d free le lt causes below other cells lasts writes. (
    appended_stands s laws e f ns ls p h d free le lt causes below other cells lasts writes,
    contents_after s laws (s.name e) f p state writes,
  );
  causes_are_named = λ next es f h. (
    causes_named s f h,
    causes_below s f h,
    causes_named_reversed s f h,
    causes_below_reversed s f h,
  );
  names_are_free = λ n es. (
    λ next h le. free_from s n next es h.below le,
    λ free. (
      λ t. free_marked s t n es free,
      λ f. (free_causes s n f es free, free_causes_reversed s n f es free),
      λ xs ys a b is. all_swap _ xs a b ys (subst (Free s n) is free),
    ),
  );
  writes_are_recorded = writes_recorded s laws;
}
