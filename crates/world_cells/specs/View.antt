-- What the program's worlds stand for.
use Rattle.std.specs.Prelude.{◌≡◌, ℕ, ◌+◌, ◌%◌, ◌^◌, Bool}
use Rattle.cells.specs.Seen.{Seen}
use Rattle.cells.specs.Seen as cells
use Rattle.ids.specs.KeyLaws.{same_two}
use Rattle.ids.specs.declared.names.MsgId.{MsgId}
use Rattle.ids.specs.declared.cells.CellKey.{CellKey}
use Rattle.ids.specs.declared.cells.CellKey.TheVariants as key
use Rattle.heap.specs.View.{same_name, told}
pub use Rattle.heap.specs.View.{same_promise}
use Rattle.world_cells.specs.World as model
use Rattle.world_cells.specs.World.{Content, vat, message, published}
use Rattle.post.specs.MessageView.{vat_of, message_of, published_of}
use Rattle.world_cells.specs.HomesView.{seen_of_homes, ready_of_homes}
use Rattle.world_cells.specs.declared.world.World.{World}

-- whether two keys are the same, as the program tests it
abbrev pub same_message : MsgId → MsgId → Bool
same_message m n = same_two m.event.0 n.event.0 m.index n.index

-- what is seen in each cell: its content and its last writer
abbrev pub State : Type 0
State = CellKey → Seen Content

abbrev pub seen_of_world : World → State
seen_of_world w (key.Name x) = told (λ v. vat (vat_of v)) (cells.seen same_name w.names x)
seen_of_world w (key.Slot s) = seen_of_homes w.homes (key.Slot s)
seen_of_world w (key.Object i) = seen_of_homes w.homes (key.Object i)
seen_of_world w (key.Top v x) = seen_of_homes w.homes (key.Top v x)
seen_of_world w (key.View v p) = seen_of_homes w.homes (key.View v p)
seen_of_world w (key.Fence v r) = seen_of_homes w.homes (key.Fence v r)
seen_of_world w (key.Msg m) = told (λ g. message (message_of g)) (cells.seen same_message w.messages m)
seen_of_world w (key.Board p) = told (λ p. published (published_of p)) (cells.seen same_promise w.board p)

-- the contents alone
abbrev pub world_of : World → model.World
world_of w k = (seen_of_world w k).0

-- which cells can be exchanged with no memory: there is room for the cell, and if it is a vat's, the vat's state is its own
abbrev pub is_ready : World → CellKey → Bool
is_ready w (key.Name x) = cells.has_room same_name w.names x
is_ready w (key.Slot s) = ready_of_homes w.homes (key.Slot s)
is_ready w (key.Object i) = ready_of_homes w.homes (key.Object i)
is_ready w (key.Top v x) = ready_of_homes w.homes (key.Top v x)
is_ready w (key.View v p) = ready_of_homes w.homes (key.View v p)
is_ready w (key.Fence v r) = ready_of_homes w.homes (key.Fence v r)
is_ready w (key.Msg m) = cells.has_room same_message w.messages m
is_ready w (key.Board p) = cells.has_room same_promise w.board p

-- how many times a cell was exchanged with a record in a world, modulo 2^64
abbrev pub swaps_of : World → ℕ
swaps_of w = w.swaps

-- such a count rose by so many
abbrev pub RisesBy : ℕ → ℕ → ℕ → Type 0
RisesBy n before now = now % 2 ^ 64 ≡ (before + n) % 2 ^ 64
