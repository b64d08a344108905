-- What is seen in the cells of the world, as the theory of undo sees it: with the numbers of last writers.
use Rattle.std.specs.Prelude.{ℕ, Bool, List, map, Option, option_map}
use Rattle.std.specs.List.{list_all}
use Rattle.history.specs.Subject.{Subject, Footprint}
use Rattle.history.specs.Records.{State, Record}
use Rattle.cells.specs.Seen.{Seen}
use Rattle.ids.specs.CellKeys.{same_key}
use Rattle.ids.specs.declared.names.EventName.{EventName}
use Rattle.ids.specs.declared.cells.CellKey.{CellKey}
use Rattle.world_cells.specs.Events.{Noted}
use Rattle.world_cells.specs.World.{Content, World}
use Rattle.world_cells.specs.Records.{record_of}
use Rattle.world_cells.specs.View.{seen_of_world}
use Rattle.world_cells.specs.declared.record.CellRecord.{CellRecord}
use Rattle.world_cells.specs.declared.world.World as code

-- that an event is possible in a world, what it reads and writes there, and which notes it makes
abbrev pub Rule : Type 1
Rule = Noted → World → Footprint CellKey Content → Type 0

-- events with their notes that go by a rule, as what can be undone
abbrev pub subject : Rule → Subject
subject does = record { Key = CellKey; Content = Content; Event = Noted; same = same_key; name = λ e. e.name.0; Does = does }

-- the cells alone, whatever events do
abbrev pub cells : Subject
cells = subject (λ e w f. ⊥)

-- a content and the number of its last writer
abbrev pub numbered : Seen Content → Option Content × Option ℕ
numbered x = (x.0, option_map (λ (e : EventName). e.0) x.1)

abbrev pub state_of_world : code.World → State cells
state_of_world w k = numbered (seen_of_world w k)

-- what a record keeps of its cell
abbrev pub kept_of : CellRecord → CellKey × (Option Content × Option ℕ)
kept_of r = ((record_of r).0, numbered (record_of r).1)

abbrev pub kepts_of : List CellRecord → Record cells
kepts_of records = map kept_of records

-- each of these cells passes the test
abbrev pub all_pass : (CellKey → Bool) → Record cells → Bool
all_pass test kept = list_all (λ r. test r.0) kept
