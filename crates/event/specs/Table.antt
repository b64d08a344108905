-- The table of what a vat touches and writes that learns what a promise was published as.
use Rattle.ids.specs.declared.names.PromId.{PromId}
use Rattle.cells.specs.Doing.{play}
use Rattle.heap.specs.State.{State, same_cell}
use Rattle.post.specs.Messages.{Published}
use Rattle.sends.specs.Vats.{references, entered}
use Rattle.sends.specs.Table.{Foot, both, promise_entered, references_come}
use Rattle.event.specs.Events.{untouched}

-- a vat's state once a promise is entered there as a value
abbrev pub entered_state : State → PromId → Published → State
entered_state s p b = (play same_cell (entered p b.value) (untouched s)).1.state

-- the promise is entered as the value; then the references in that come in, with the fences that were published with them
abbrev pub learn_touches : State → PromId → Published → Foot
learn_touches s p b = both (promise_entered s p b.value) (references_come (entered_state s p b) b.fences (references b.value))
