use Rattle.std.proofs.Common.{take}
use Rattle.std.specs.List.{AllByRecursion}
use Rattle.journal_links.specs.Followers.{may_follow, IsLetGo}
use Rattle.journal_links.proofs.Following.{Keeps}
use Rattle.journal.specs.declared.entry.Entry.{Entry}
use Rattle.journal.proofs.linking.let_go.Given as goal

abbrev pub invariant-loop-entry : goal.invariant-loop-entry
invariant-loop-entry l = record {
  gone : AllByRecursion (λ (x : Entry). IsLetGo l.followers x.event.name) (take l.entry-index l.entries);
  kept : Keeps (may_follow l.fn.followers) (may_follow l.followers);
}
