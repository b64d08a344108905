use Rattle.std.proofs.Common.{take}
use Rattle.journal_links.specs.Heirs.{is_heir}
use Rattle.journal_links.proofs.Following.{Keeps}
use Rattle.world_cells.specs.Theory.{kepts_of}
use Rattle.journal.specs.Items.{lasts_of}
use Rattle.journal.specs.Links.{IsListed}
use Rattle.journal.specs.Settled.{written_over}
use Rattle.journal.proofs.linking.list_exactly.Given as goal

abbrev pub invariant-loop-record : goal.invariant-loop-record
invariant-loop-record l = record {
  listed : IsListed (is_heir l.heirs) l.event (written_over (lasts_of l.touched) (kepts_of (take l.record-index l.records)));
  kept : Keeps (is_heir l.fn.heirs) (is_heir l.heirs);
}
