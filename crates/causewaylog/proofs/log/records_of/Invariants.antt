use Rattle.std.proofs.Common.{◌≡◌, ◌≤◌, ◌+◌, ◌++◌, Some, length, drop, map}
use Rattle.journal.specs.Items.{item_of}
use Rattle.journal.specs.Journals.{settled_item}
use Rattle.serde_json.specs.View.{view}
use Rattle.causewaylog.specs.Live.{live_of}
use Rattle.causewaylog.specs.Log.{records_of, records_behind}
use Rattle.causewaylog.specs.Turns.{turns_of}
use Rattle.causewaylog.proofs.log.records_of.Given as goal

-- the records so far, and those of the entries that are left; there are no more turns than entries so far
abbrev pub invariant-loop-entry : goal.invariant-loop-entry
invariant-loop-entry l = record {
  counted : l.turns ≤ length l.journal.settled.now + l.entry-index;
  records : map view l.records.items ++ records_of l.loop_name (l.turns + 1) (turns_of l.vat (live_of (map item_of (drop l.entry-index l.journal.entries.now))))
      ≡ records_behind l.loop_name (Some l.vat) (live_of (map settled_item l.journal.settled.now)) (live_of (map item_of l.journal.entries.now));
}
