-- What the program's events stand for.
use Rattle.code.specs.View.{trees_of_codes}
use Rattle.world_cells.specs.Events.{Act, birth, ask, arrive, forward, learn, turn, Event}
use Rattle.world_cells.specs.declared.event.Action.{Action}
use Rattle.world_cells.specs.declared.event.Action.TheVariants as action
use Rattle.world_cells.specs.declared.event.Event as code

abbrev pub act_of : Action → Act
act_of (action.Birth x earlier script) = birth x earlier.items (trees_of_codes script.items.value.items)
act_of (action.Ask x program) = ask x (trees_of_codes program.items.value.items)
act_of (action.Arrive m) = arrive m
act_of (action.Forward m) = forward m
act_of (action.Learn v p) = learn v p
act_of (action.Turn v m budget) = turn v m budget

abbrev pub event_of : code.Event → Event
event_of e = record { name = e.name; act = act_of e.action }
