use Rattle.std.proofs.Common.{◌≡◌, ◌+◌, ◌++◌, drop, map}
use Rattle.eval_rules.specs.OutboxView.{note_of}
use Rattle.serde_json.specs.View.{view}
use Rattle.causewaylog.specs.Facts.{note_fact, facts_of}
use Rattle.causewaylog.specs.Log.{records_from}
use Rattle.causewaylog.proofs.log.add_turn.Given as goal

-- the records so far, and those of the notes that are left
abbrev pub invariant-loop-index : goal.invariant-loop-index
invariant-loop-index l =
    map view l.records.items ++ records_from l.loop_name l.turn (l.index + 1) (map note_fact (map note_of (drop l.index l.notes)))
    ≡ map view l.fn.records.items ++ records_from l.loop_name l.turn 0 (facts_of (record { got = l.fn.message; notes = map note_of l.notes }))
