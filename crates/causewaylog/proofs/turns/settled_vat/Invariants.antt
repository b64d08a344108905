use Rattle.std.proofs.Common.{◌≡◌, drop, map}
use Rattle.journal.specs.Journals.{settled_item}
use Rattle.causewaylog.specs.Live.{live_of}
use Rattle.causewaylog.specs.Turns.{vat_called}
use Rattle.causewaylog.proofs.turns.settled_vat.Given as goal

-- the settled events so far bear no vat of the name
abbrev pub invariant-loop-event : goal.invariant-loop-event
invariant-loop-event l = vat_called l.name (live_of (map settled_item (drop l.event-index l.settled))) ≡ vat_called l.name (live_of (map settled_item l.settled))
