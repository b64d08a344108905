-- What the program's maps hold, as lists of contents with their keys.
use Rattle.std.specs.Prelude.{List, map}
use Rattle.std.specs.BTreeMap.{BTreeMap}
use Rattle.kernele.specs.Tree.{Name}
use Rattle.values.specs.View.{val_of}
use Rattle.values.specs.declared.value.Value.{Value}
use Rattle.heap.specs.View.{bind_of, object_of, view_of}
use Rattle.heap.specs.declared.state.Binding.{Binding}
use Rattle.heap.specs.declared.made.Made.{Made}
use Rattle.heap.specs.declared.state.View.{View}
use Rattle.heap.specs.State as state
use Rattle.heap.specs.State.{bound, held, made, viewed, fenced}
use Rattle.ids.specs.declared.names.MsgId.{MsgId}
use Rattle.ids.specs.declared.names.PromId.{PromId}
use Rattle.ids.specs.declared.names.SlotId.{SlotId}
use Rattle.ids.specs.declared.names.ObjId.{ObjId}
use Rattle.ids.specs.declared.reference.Reference.{Reference}
use Rattle.world_cells.specs.World.{Content, message, published}
use Rattle.post.specs.MessageView.{message_of, published_of}
use Rattle.post.specs.declared.message.Message.{Message}
use Rattle.post.specs.declared.published.Published.{Published}

-- entries, each content as what it stands for
abbrev pub entries_as : {K V W : Type 0} → (V → W) → List (K × V) → List (K × W)
entries_as f es = map (λ e. (e.0, f e.1)) es

abbrev pub noun_entries : List (Name × Binding) → List (Name × state.Content)
noun_entries es = entries_as (λ b. bound (bind_of b)) es

abbrev pub slot_entries : List (SlotId × Value) → List (SlotId × state.Content)
slot_entries es = entries_as (λ v. held (val_of v)) es

abbrev pub object_entries : List (ObjId × Made) → List (ObjId × state.Content)
object_entries es = entries_as (λ m. made (object_of m)) es

abbrev pub view_entries : List (PromId × View) → List (PromId × state.Content)
view_entries es = entries_as (λ k. viewed (view_of k)) es

abbrev pub fence_entries : List (Reference × List MsgId) → List (Reference × state.Content)
fence_entries es = entries_as fenced es

abbrev pub message_entries : List (MsgId × Message) → List (MsgId × Content)
message_entries es = entries_as (λ g. message (message_of g)) es

abbrev pub board_entries : List (PromId × Published) → List (PromId × Content)
board_entries es = entries_as (λ p. published (published_of p)) es

abbrev pub nouns_in : BTreeMap Name Binding → List (Name × state.Content)
nouns_in m = noun_entries m.entries

abbrev pub slots_in : BTreeMap SlotId Value → List (SlotId × state.Content)
slots_in m = slot_entries m.entries

abbrev pub objects_in : BTreeMap ObjId Made → List (ObjId × state.Content)
objects_in m = object_entries m.entries

abbrev pub views_in : BTreeMap PromId View → List (PromId × state.Content)
views_in m = view_entries m.entries

abbrev pub fences_in : BTreeMap Reference (List MsgId) → List (Reference × state.Content)
fences_in m = fence_entries m.entries

abbrev pub messages_in : BTreeMap MsgId Message → List (MsgId × Content)
messages_in m = message_entries m.entries

abbrev pub board_in : BTreeMap PromId Published → List (PromId × Content)
board_in m = board_entries m.entries
