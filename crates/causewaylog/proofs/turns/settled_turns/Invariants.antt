use Rattle.std.proofs.Common.{◌≡◌, ◌≤◌, ◌+◌, length, drop, map}
use Rattle.journal.specs.Journals.{settled_item}
use Rattle.causewaylog.specs.Live.{live_of}
use Rattle.causewaylog.specs.Turns.{turns_of}
use Rattle.causewaylog.proofs.turns.settled_turns.Given as goal

-- the turns so far, and those that are left
abbrev pub invariant-loop-event : goal.invariant-loop-event
invariant-loop-event l = record {
  turns : l.turns + length (turns_of l.vat (live_of (map settled_item (drop l.event-index l.settled)))) ≡ length (turns_of l.vat (live_of (map settled_item l.settled)));
  few : l.turns ≤ l.event-index;
}
