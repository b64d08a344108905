-- What a turn has reached of the state that it began with.
use Rattle.std.specs.Arc.{arc_value}
use Rattle.heap.specs.State.{State}
use Rattle.heap.specs.View.{state_of}
use Rattle.heap.specs.Found.{over_state}
use Rattle.heap.specs.declared.reach.Reach.{Reach}

-- the state that a turn began with, with what it has made of it
abbrev pub state_in : Reach → State
state_in r = over_state r.footprint (state_of (arc_value r.state))
