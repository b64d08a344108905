-- What a core shows.
use Rattle.std.specs.Prelude.{ℕ, Bool, List, map, length}
use Rattle.history.specs.Records.{State}
use Rattle.ids.specs.declared.cells.CellKey.{CellKey}
use Rattle.journal_links.specs.declared.followers.Followers.{Followers}
use Rattle.world_cells.specs.View.{is_ready}
use Rattle.world_cells.specs.View as world
use Rattle.world_cells.specs.Theory.{cells, state_of_world}
use Rattle.journal.specs.Items.{Item, item_of}
use Rattle.journal.specs.Journals.{items_in}
use Rattle.undo.specs.OpenView.{opens}
use Rattle.undo.specs.declared.undoing.Core.{Core}

-- how many entries are settled
abbrev pub settled_of : Core → ℕ
settled_of core = length core.settled.items

-- the entries that are not, the oldest first
abbrev pub open_of : Core → List Item
open_of core = map item_of (opens core.entries)

-- all entries, the oldest first
abbrev pub items_of : Core → List Item
items_of core = items_in core.settled.items (opens core.entries)

-- the content and the last writer of each cell
abbrev pub state_of : Core → State cells
state_of core = state_of_world core.world

-- both
abbrev pub shown : Core → List Item × State cells
shown core = (items_of core, state_of core)

-- the cells that can be exchanged with no memory
abbrev pub ready_of : Core → CellKey → Bool
ready_of core = is_ready core.world

-- how many exchanges of a record with its cell were made, modulo 2^64
abbrev pub swaps_of : Core → ℕ
swaps_of core = world.swaps_of core.world

-- the lists of who followed each event
abbrev pub lists_of : Core → Followers
lists_of core = core.followers
