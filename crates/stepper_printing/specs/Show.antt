-- The world as a text.
use Rattle.std.specs.Prelude.{◌≡◌, ℕ, List, [], ◌∷◌, ◌++◌, map, Option, Some, None, IsSome, codes}
use Rattle.std.specs.Ordering.{nat_cmp, is_eq}
use Rattle.std.specs.Cmp.Lexicographic.{slice_cmp}
use Rattle.std.specs.declared.cmp.Ordering.{Ordering}
use Rattle.std.specs.List.Sorted.{IsStrictlySortedBy}
use Rattle.std.specs.Map.{lookup}
use Rattle.ids.specs.Names.{event_text, message_text, promise_text, slot_text, object_text, reference_text}
use Rattle.ids.specs.Cells.{vat_cmp, message_cmp, promise_cmp, slot_cmp, object_cmp}
use Rattle.ids.specs.declared.names.VatNo.{VatNo}
use Rattle.ids.specs.declared.names.MsgId.{MsgId}
use Rattle.ids.specs.declared.names.PromId.{PromId}
use Rattle.ids.specs.declared.names.SlotId.{SlotId}
use Rattle.ids.specs.declared.names.ObjId.{ObjId}
use Rattle.ids.specs.declared.reference.Reference.{Reference}
use Rattle.ids.specs.contracts.reference.ReferenceOrd.TheImpl as reference_order
use Rattle.ids.specs.declared.cells.CellKey.TheVariants as key
use Rattle.kernele.specs.Spelling.{bound_name}
use Rattle.kernele.specs.Tree.{Name}
use Rattle.values.specs.Shown.{shown}
use Rattle.heap.specs.State as state
use Rattle.heap.specs.State.{State, top, slot_cell, object_cell, view_cell, fence_cell, bound, fixed, slot, held, made, plain, resolver, viewed, pending, resolved, fenced}
use Rattle.post.specs.Messages.{Place, flying, at_vat, done}
use Rattle.world_cells.specs.World.{Content, vat, message, published, World, vat_state}

-- xs has the contents of a finite map with their keys, in the order of the keys
pub record Lists {K V : Type 0} (cmp : K → K → Ordering) (at : K → Option V) (xs : List (K × V)) : Type 0 where
  pub ordered : IsStrictlySortedBy cmp (map (λ e. e.0) xs)
  pub listed : (k : K) → at k ≡ lookup (λ q. is_eq (cmp k q)) xs

abbrev pub line_feed : List ℕ
line_feed = 10 ∷ []

-- MSG MSG .., each behind a space
abbrev pub names_text : List MsgId → List ℕ
names_text [] = []
names_text (m ∷ ms) = codes " " ++ (message_text m ++ names_text ms)

-- VALUE, or slot SLOT, or what an object was bound to, or which promise a resolver resolves, or what is known of a promise, or the messages behind a reference
abbrev pub content_text : state.Content → List ℕ
content_text (bound (fixed v)) = shown v
content_text (bound (slot s)) = codes "slot " ++ slot_text s
content_text (held v) = shown v
content_text (made (plain o)) = bound_name o.own
content_text (made (resolver p)) = codes "resolver " ++ promise_text p
content_text (viewed pending) = codes " open"
content_text (viewed (resolved v)) = codes " = " ++ shown v
content_text (fenced names) = names_text names

--  noun NAME = VALUE, or noun NAME = slot SLOT
abbrev pub noun_line : Name × state.Content → List ℕ
noun_line e = codes " noun " ++ (e.0 ++ (codes " = " ++ (content_text e.1 ++ line_feed)))

abbrev pub noun_lines : List (Name × state.Content) → List ℕ
noun_lines [] = []
noun_lines (e ∷ es) = noun_line e ++ noun_lines es

--  slot SLOT = VALUE
abbrev pub slot_line : SlotId × state.Content → List ℕ
slot_line e = codes " slot " ++ (slot_text e.0 ++ (codes " = " ++ (content_text e.1 ++ line_feed)))

abbrev pub slot_lines : List (SlotId × state.Content) → List ℕ
slot_lines [] = []
slot_lines (e ∷ es) = slot_line e ++ slot_lines es

--  object OBJ NAME, or object OBJ _, or object OBJ resolver PROM
abbrev pub object_line : ObjId × state.Content → List ℕ
object_line e = codes " object " ++ (object_text e.0 ++ (codes " " ++ (content_text e.1 ++ line_feed)))

abbrev pub object_lines : List (ObjId × state.Content) → List ℕ
object_lines [] = []
object_lines (e ∷ es) = object_line e ++ object_lines es

--  view PROM open, or view PROM = VALUE
abbrev pub view_line : PromId × state.Content → List ℕ
view_line e = codes " view " ++ (promise_text e.0 ++ (content_text e.1 ++ line_feed))

abbrev pub view_lines : List (PromId × state.Content) → List ℕ
view_lines [] = []
view_lines (e ∷ es) = view_line e ++ view_lines es

--  fence REF: MSG MSG ..
abbrev pub fence_line : Reference × state.Content → List ℕ
fence_line e = codes " fence " ++ (reference_text e.0 ++ (codes ":" ++ (content_text e.1 ++ line_feed)))

abbrev pub fence_lines : List (Reference × state.Content) → List ℕ
fence_lines [] = []
fence_lines (e ∷ es) = fence_line e ++ fence_lines es

-- the top nouns of a vat, in order of bytes
abbrev pub Nouns : State → List (Name × state.Content) → Type 0
Nouns s es = Lists (slice_cmp nat_cmp) (λ x. s (top x)) es

-- the slots of a vat, in order of their names
abbrev pub Slots : State → List (SlotId × state.Content) → Type 0
Slots s es = Lists slot_cmp (λ i. s (slot_cell i)) es

-- the objects of a vat, in order of their names
abbrev pub Objects : State → List (ObjId × state.Content) → Type 0
Objects s es = Lists object_cmp (λ i. s (object_cell i)) es

-- what a vat knows of promises, in order of their names
abbrev pub Views : State → List (PromId × state.Content) → Type 0
Views s es = Lists promise_cmp (λ p. s (view_cell p)) es

-- the fences of a vat: of promises, of objects and of ejectors, each in order of their names
abbrev pub Fences : State → List (Reference × state.Content) → Type 0
Fences s es = Lists (reference_order.ghosts).cmp (λ r. s (fence_cell r)) es

-- vat NAME EVENT
abbrev pub vat_line : VatNo → Name → List ℕ
vat_line v x = codes "vat " ++ (x ++ (codes " " ++ (event_text v.0 ++ line_feed)))

-- the lines of a vat's state: those of its nouns, of its slots, of its objects, of its views and of its fences
pub record StateLines (s : State) (lines : List ℕ) : Type 0 where
  pub nouns : List (Name × state.Content)
  pub nouns_listed : Nouns s nouns
  pub slots : List (SlotId × state.Content)
  pub slots_listed : Slots s slots
  pub objects : List (ObjId × state.Content)
  pub objects_listed : Objects s objects
  pub views : List (PromId × state.Content)
  pub views_listed : Views s views
  pub fences : List (Reference × state.Content)
  pub fences_listed : Fences s fences
  pub whole : lines ≡ noun_lines nouns ++ (slot_lines slots ++ (object_lines objects ++ (view_lines views ++ fence_lines fences)))

-- the lines of vats: each its own, then those of its state
pub data VatLines (w : World) : List (VatNo × Name) → List ℕ → Type 0 where
  vat_lines_none : VatLines w [] []
  vat_lines_more : {v : VatNo} {x : Name} {vs : List (VatNo × Name)} {own lines : List ℕ}
      → StateLines (vat_state w v) own → VatLines w vs lines → VatLines w ((v, x) ∷ vs) (vat_line v x ++ (own ++ lines))

-- the number of the vat that a name stands for
abbrev pub number_in : Option Content → Option VatNo
number_in (Some (vat x)) = Some x.number
number_in _ = None

-- the name beside a number
abbrev pub name_of : List (VatNo × Name) → VatNo → Option Name
name_of vs v = lookup (λ u. is_eq (vat_cmp v u)) vs

-- vs has the vats that names stand for, in the order of their births: the number of each once, and beside it a name that stands for it
pub record ByBirth (at : Name → Option Content) (vs : List (VatNo × Name)) : Type 0 where
  pub ordered : IsStrictlySortedBy vat_cmp (map (λ e. e.0) vs)
  pub named : (v : VatNo) (x : Name) → name_of vs v ≡ Some x → number_in (at x) ≡ Some v
  pub all : (x : Name) (v : VatNo) → number_in (at x) ≡ Some v → IsSome (name_of vs v)

-- where a message is, and the vat's name
abbrev pub named_text : List ℕ → Option Name → List ℕ
named_text words (Some x) = words ++ x
named_text words None = []

abbrev pub place_text : List (VatNo × Name) → Place → List ℕ
place_text vs (flying v) = named_text (codes " flying ") (name_of vs v)
place_text vs (at_vat v) = named_text (codes " at ") (name_of vs v)
place_text vs (done e) = codes " done " ++ event_text e

-- msg MSG flying NAME, or msg MSG at NAME, or msg MSG done EVENT
abbrev pub message_line : List (VatNo × Name) → MsgId × Content → List ℕ
message_line vs (m, message g) = codes "msg " ++ (message_text m ++ (place_text vs g.place ++ line_feed))
message_line vs (m, _) = []

abbrev pub message_lines : List (VatNo × Name) → List (MsgId × Content) → List ℕ
message_lines vs [] = []
message_lines vs (e ∷ es) = message_line vs e ++ message_lines vs es

-- board PROM = VALUE
abbrev pub board_line : PromId × Content → List ℕ
board_line (p, published b) = codes "board " ++ (promise_text p ++ (codes " = " ++ (shown b.value ++ line_feed)))
board_line (p, _) = []

abbrev pub board_lines : List (PromId × Content) → List ℕ
board_lines [] = []
board_lines (e ∷ es) = board_line e ++ board_lines es

-- the vats by birth, the messages by name, what was published by promise
pub record Shows (w : World) (text : List ℕ) : Type 0 where
  pub vats : List (VatNo × Name)
  pub vats_listed : ByBirth (λ x. w (key.Name x)) vats
  pub messages : List (MsgId × Content)
  pub messages_listed : Lists message_cmp (λ m. w (key.Msg m)) messages
  pub board : List (PromId × Content)
  pub board_listed : Lists promise_cmp (λ p. w (key.Board p)) board
  pub lines : List ℕ
  pub vat_lines : VatLines w vats lines
  pub whole : text ≡ lines ++ (message_lines vats messages ++ board_lines board)
