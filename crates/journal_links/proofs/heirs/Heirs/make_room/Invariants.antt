use Rattle.std.proofs.Common.{◌≡◌, ◌-◌, ◌+◌, length}
use Rattle.ids.specs.declared.names.EventName.{EventName}
use Rattle.journal_links.specs.Heirs.{heirs_of}
use Rattle.journal_links.proofs.heirs.Heirs.make_room.Given as goal

abbrev pub invariant-loop-event : goal.invariant-loop-event
invariant-loop-event l = (e : EventName) → heirs_of l.self e ≡ heirs_of l.fn.self e

abbrev pub decreases-loop-event : goal.decreases-loop-event
decreases-loop-event l = (l.event.0 + 1) - length l.self.by_name.items
