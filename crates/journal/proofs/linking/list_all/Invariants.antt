use Rattle.std.proofs.Common.{take}
use Rattle.journal_links.specs.Heirs.{is_heir}
use Rattle.journal_links.proofs.Following.{Keeps}
use Rattle.journal.specs.Items.{lasts_of}
use Rattle.journal.specs.Links.{IsListed}
use Rattle.journal.proofs.linking.list_all.Given as goal

abbrev pub invariant-loop-found : goal.invariant-loop-found
invariant-loop-found l = record {
  listed : IsListed (is_heir l.heirs) l.event (lasts_of (take l.found-index l.touched));
  kept : Keeps (is_heir l.fn.heirs) (is_heir l.heirs);
}
