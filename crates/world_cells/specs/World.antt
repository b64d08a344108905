-- The world: a finite map from keys to contents. That a key has none is a fact about the world.
use Rattle.std.specs.Prelude.{List, Bool, true, cond, Option, Some, None}
use Rattle.kernele.specs.Tree.{Name}
use Rattle.values.specs.Data.{Val}
use Rattle.heap.specs.State as heap
use Rattle.heap.specs.State.{Bind, Object, View, Cell, top, slot_cell, object_cell, view_cell, fence_cell, State}
use Rattle.post.specs.Messages.{Vat, Message, Published}
pub use Rattle.eval_rules.specs.Doings.{same_vat}
use Rattle.ids.specs.CellKeys.{same_key}
use Rattle.ids.specs.declared.names.VatNo.{VatNo}
use Rattle.ids.specs.declared.names.MsgId.{MsgId}
use Rattle.ids.specs.declared.names.PromId.{PromId}
use Rattle.ids.specs.declared.cells.CellKey.{CellKey}
use Rattle.ids.specs.declared.cells.CellKey.TheVariants as key

-- what a cell holds: a vat by its name, a top name's meaning, a slot's value, what an object is, what a vat knows of a promise, the
-- messages that it keeps behind a reference, a message, or what a promise was published as
pub data Content : Type 0 where
  vat : (x : Vat) → Content
  bound : (b : Bind) → Content
  held : (v : Val) → Content
  made : (o : Object) → Content
  viewed : (k : View) → Content
  fenced : (names : List MsgId) → Content
  message : (g : Message) → Content
  published : (p : Published) → Content
  deriving IsSet as Content-set

abbrev pub World : Type 0
World = CellKey → Option Content

-- the world in which nothing has happened
abbrev pub empty : World
empty k = None

-- the world with this content in a cell
abbrev pub put : CellKey → Content → World → World
put k x w = λ d. cond (same_key k d) (Some x) (w d)

abbrev pub vat_in : Option Content → Option Vat
vat_in (Some (vat x)) = Some x
vat_in _ = None

abbrev pub message_in : Option Content → Option Message
message_in (Some (message g)) = Some g
message_in _ = None

abbrev pub published_in : Option Content → Option Published
published_in (Some (published p)) = Some p
published_in _ = None

-- the vat of this name
abbrev pub vat_named : World → Name → Option Vat
vat_named w x = vat_in (w (key.Name x))

abbrev pub message_of : World → MsgId → Option Message
message_of w m = message_in (w (key.Msg m))

-- what a promise was published as
abbrev pub published_as : World → PromId → Option Published
published_as w p = published_in (w (key.Board p))

-- the key in the world of a cell of a vat
abbrev pub cell_key : VatNo → Cell → CellKey
cell_key v (top x) = key.Top v x
cell_key v (slot_cell s) = key.Slot s
cell_key v (object_cell i) = key.Object i
cell_key v (view_cell p) = key.View v p
cell_key v (fence_cell r) = key.Fence v r

-- a cell is the vat's own: a slot and an object name their vats
abbrev pub lives_in : Cell → VatNo → Bool
lives_in (top x) v = true
lives_in (slot_cell s) v = same_vat s.vat v
lives_in (object_cell i) v = same_vat i.vat v
lives_in (view_cell p) v = true
lives_in (fence_cell r) v = true

-- what a vat's cell holds, as a content of the world, and back
abbrev pub content_of : heap.Content → Content
content_of (heap.bound b) = bound b
content_of (heap.held v) = held v
content_of (heap.made o) = made o
content_of (heap.viewed k) = viewed k
content_of (heap.fenced names) = fenced names

abbrev pub cell_content : Option Content → Option heap.Content
cell_content (Some (bound b)) = Some (heap.bound b)
cell_content (Some (held v)) = Some (heap.held v)
cell_content (Some (made o)) = Some (heap.made o)
cell_content (Some (viewed k)) = Some (heap.viewed k)
cell_content (Some (fenced names)) = Some (heap.fenced names)
cell_content _ = None

-- the state of a vat in a world: it has no cell of another vat
abbrev pub vat_state : World → VatNo → State
vat_state w v c = cond (lives_in c v) (cell_content (w (cell_key v c))) None
