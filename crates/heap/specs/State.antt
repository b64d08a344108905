-- The state of a vat: a finite map from cells to contents.
use Rattle.std.specs.Prelude.{Bool, false, ◌||◌, Option, Some, None, List, [], ◌∷◌, ◌++◌, cond}
use Rattle.std.specs.Str.{bytes_eq}
use Rattle.std.specs.Ordering.{is_eq}
use Rattle.ids.specs.Cells.{slot_cmp, object_cmp, promise_cmp}
use Rattle.ids.specs.References.{same_reference}
use Rattle.ids.specs.declared.names.SlotId.{SlotId}
use Rattle.ids.specs.declared.names.ObjId.{ObjId}
use Rattle.ids.specs.declared.names.PromId.{PromId}
use Rattle.ids.specs.declared.names.MsgId.{MsgId}
use Rattle.ids.specs.declared.reference.Reference.{Reference}
use Rattle.kernele.specs.Tree.{Name, Methods}
use Rattle.kernele.specs.declared.tree.Pattern.{Pattern}
use Rattle.values.specs.Data.{Val}

-- what a name stands for: a value that never changes, or a variable's slot
pub data Bind : Type 0 where
  fixed : (v : Val) → Bind
  slot : (s : SlotId) → Bind
  deriving IsSet as Bind-set

-- names and what they stand for, the newest first
abbrev pub Nouns : Type 0
Nouns = List (Name × Bind)

abbrev pub lookup : Nouns → Name → Option Bind
lookup [] x = None
lookup (n ∷ ns) x = cond (bytes_eq n.0 x) (Some n.1) (lookup ns x)

-- the names alone, the oldest first
abbrev pub frame_of : Nouns → List Name
frame_of [] = []
frame_of (n ∷ ns) = frame_of ns ++ n.0 ∷ []

-- an object that a definition made: what that names it in its methods, the names that it captured, the newest first,
-- and its methods
pub record Plain : Type 0 where
  pub own : Pattern
  pub captured : Nouns
  pub methods : Methods
  deriving IsSet as Plain-set

-- what an object is: a definition made it, or it resolves a promise
pub data Object : Type 0 where
  plain : (p : Plain) → Object
  resolver : (p : PromId) → Object
  deriving IsSet as Object-set

-- what a vat knows of a promise that has come into it: it is open, or resolved to a value
pub data View : Type 0 where
  pending : View
  resolved : (v : Val) → View
  deriving IsSet as View-set

-- a cell of a vat: a name that its script defined, a slot, an object, what it knows of a promise, or what it keeps
-- behind a reference
pub data Cell : Type 0 where
  top : (x : Name) → Cell
  slot_cell : (s : SlotId) → Cell
  object_cell : (i : ObjId) → Cell
  view_cell : (p : PromId) → Cell
  fence_cell : (r : Reference) → Cell

-- what a cell holds: a name's meaning, a slot's value, what an object is, what is known of a promise, or the messages
-- behind a reference
pub data Content : Type 0 where
  bound : (b : Bind) → Content
  held : (v : Val) → Content
  made : (o : Object) → Content
  viewed : (k : View) → Content
  fenced : (names : List MsgId) → Content
  deriving IsSet as Content-set

abbrev pub State : Type 0
State = Cell → Option Content

-- the state of a new vat
abbrev pub nothing : State
nothing c = None

abbrev pub same_cell : Cell → Cell → Bool
same_cell (top x) (top y) = bytes_eq x y
same_cell (slot_cell s) (slot_cell t) = is_eq (slot_cmp s t)
same_cell (object_cell i) (object_cell j) = is_eq (object_cmp i j)
same_cell (view_cell p) (view_cell q) = is_eq (promise_cmp p q)
same_cell (fence_cell r) (fence_cell t) = same_reference r t
same_cell _ _ = false

-- the one way to read a cell, and the one way to write it
abbrev pub read : State → Cell → Option Content
read s c = s c

abbrev pub write : State → Cell → Content → State
write s c x = λ d. cond (same_cell c d) (Some x) (s d)

-- a set of cells
abbrev pub Cells : Type 0
Cells = Cell → Bool

abbrev pub no_cells : Cells
no_cells c = false

-- a set with one cell more
abbrev pub also : Cell → Cells → Cells
also c q = λ d. same_cell c d || q d
