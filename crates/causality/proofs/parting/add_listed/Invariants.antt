use Rattle.std.proofs.Common.{◌≡◌, ◌==◌, ◌&&◌, ◌||◌, length, map, drop}
use Rattle.std.specs.List.{list_any}
use Rattle.history.specs.Journal.{is_in}
use Rattle.ids.specs.declared.names.EventName.{EventName}
use Rattle.journal.specs.Items.{item_of}
use Rattle.causality.specs.Placed.{is_outsider}
use Rattle.causality.specs.Selections.{numbers}
use Rattle.causality.proofs.parting.add_listed.Given as goal

-- those so far and those of the names that are left
abbrev pub invariant-loop-event : goal.invariant-loop-event
invariant-loop-event l = (e : EventName) →
    (is_in (numbers l.outsiders.items) e.0 || list_any (λ f. (f.0 == e.0) && is_outsider l.names (map item_of l.journal.entries.now) (length l.journal.settled.now) l.journal.places.now f) (drop l.event-index l.events))
    ≡ (is_in (numbers l.fn.outsiders.items) e.0 || list_any (λ f. (f.0 == e.0) && is_outsider l.names (map item_of l.journal.entries.now) (length l.journal.settled.now) l.journal.places.now f) l.events)
