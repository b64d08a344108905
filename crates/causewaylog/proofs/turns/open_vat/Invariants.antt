use Rattle.std.proofs.Common.{◌≡◌, drop, map}
use Rattle.journal.specs.Items.{item_of}
use Rattle.causewaylog.specs.Live.{live_of}
use Rattle.causewaylog.specs.Turns.{vat_called}
use Rattle.causewaylog.proofs.turns.open_vat.Given as goal

-- the entries so far bear no vat of the name
abbrev pub invariant-loop-entry : goal.invariant-loop-entry
invariant-loop-entry l = vat_called l.name (live_of (map item_of (drop l.entry-index l.entries))) ≡ vat_called l.name (live_of (map item_of l.entries))
