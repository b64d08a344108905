use Rattle.std.proofs.Common.{take}
use Rattle.journal_links.specs.Followers.{may_follow}
use Rattle.journal_links.proofs.Following.{Keeps}
use Rattle.journal.specs.Items.{lasts_of}
use Rattle.journal.specs.Links.{IsListed}
use Rattle.journal.proofs.linking.list_follower.Given as goal

abbrev pub invariant-loop-cell : goal.invariant-loop-cell
invariant-loop-cell l = record {
  listed : IsListed (may_follow l.followers) l.event (lasts_of (take l.cell-index l.touched));
  kept : Keeps (may_follow l.fn.followers) (may_follow l.followers);
}
