-- The states of vats.
use Rattle.std.specs.Prelude.{◌≡◌, Bool, true, false, Option, Some, None}
use Rattle.std.specs.Arc.{arc_value}
use Rattle.indexmap.specs.IndexMap.{IndexMap, get}
use Rattle.ids.specs.declared.names.VatNo.{VatNo}
use Rattle.cells.specs.Seen.{Seen}
use Rattle.cells.specs.Seen as cells
use Rattle.heap.specs.Sets.{found_contents}
use Rattle.heap.specs.State.{Content, Cell, top, slot_cell, object_cell, view_cell, fence_cell}
use Rattle.heap.specs.View.{seen_in, same_name, same_slot, same_object, same_promise, same_target}
use Rattle.heap.specs.declared.state.VatState.{VatState}
use Rattle.world_cells.specs.World.{same_vat, lives_in}
use Rattle.world_cells.specs.declared.home.Home.{Home}
use Rattle.world_cells.specs.declared.home.Home.TheVariants as home

abbrev pub state_in : Home → VatState
state_in (home.Own s) = s
state_in (home.Shared a) = arc_value a

-- no ticket has the state
abbrev pub is_own : Home → Bool
is_own (home.Own s) = true
is_own (home.Shared a) = false

-- a state has room for a cell
abbrev pub has_room_in : VatState → Cell → Bool
has_room_in s (top x) = cells.has_room same_name s.tops x
has_room_in s (slot_cell i) = cells.has_room same_slot s.slots i
has_room_in s (object_cell i) = cells.has_room same_object s.objects i
has_room_in s (view_cell p) = cells.has_room same_promise s.views p
has_room_in s (fence_cell r) = cells.has_room same_target s.fences r

-- a cell can be exchanged: the state is the vat's own and has room for it
abbrev pub is_ready_in : Home → Cell → Bool
is_ready_in (home.Own s) c = has_room_in s c
is_ready_in (home.Shared a) c = false

-- what is seen of a cell of a vat, if its state is there
abbrev pub seen_at : Option Home → Cell → Seen Content
seen_at None c = (None, None)
seen_at (Some h) c = seen_in (state_in h) c

abbrev pub is_ready_at : Option Home → Cell → Bool
is_ready_at None c = false
is_ready_at (Some h) c = is_ready_in h c

-- of each vat its state, if it is there
abbrev pub home_at : {S : Type 0} → IndexMap VatNo Home S → VatNo → Option Home
home_at homes v = get same_vat homes v

-- no vat's state holds anything in a cell of another vat
abbrev pub OwnCells : {S : Type 0} → IndexMap VatNo Home S → Type 0
OwnCells homes = (v : VatNo) (c : Cell) → lives_in c v ≡ false → (seen_at (home_at homes v) c).0 ≡ None

-- which is a fact, and no choice
pub own_cells-prop : {S : Type 0} (homes : IndexMap VatNo Home S) → IsProp (OwnCells homes)
own_cells-prop homes a b = λ i v c h. found_contents (seen_at (home_at homes v) c).0 None (a v c h) (b v c h) i
