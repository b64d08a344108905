-- The laws of evaluation.
use Rattle.std.specs.Prelude.{◌≡◌, ℕ, ◌+◌, ◌≤◌, ◌++◌, true, false, cond, length}
use Rattle.ids.specs.declared.names.EjId.{EjId}
use Rattle.kernele.specs.Tree.{Tree}
use Rattle.values.specs.Data.{Val}
use Rattle.code.specs.Frames.{after}
use Rattle.heap.specs.State.{Nouns, frame_of, Cell, State, Cells}
use Rattle.eval_rules.specs.At.{At}
use Rattle.eval_rules.specs.Outcomes.{End, value, ejected, halt}
use Rattle.eval_rules.specs.Rules.{Ends, is_open}
use Rattle.eval_rules.specs.Derivations.{nodes, deepest}
use Rattle.eval_rules.specs.Table.{Leads, foot}
use Rattle.eval_rules.specs.declared.working.TheConstants.{DEEPEST, MAX_SLOTS, MAX_OBJECTS, MAX_MESSAGES}

-- the same place in another state, of a turn that began with yet another one
abbrev pub in_state : State → State → At → At
in_state w t a = record a { began = w; state = t }

-- each cell of one set is one of the other
abbrev pub IsWithin : Cells → Cells → Type 0
IsWithin p q = (c : Cell) → p c ≡ true → q c ≡ true

-- two states agree on a set of cells
abbrev pub AgreeOn : Cells → State → State → Type 0
AgreeOn q t s = (c : Cell) → q c ≡ true → t c ≡ s c

-- a state, with these cells as another state has them
abbrev pub with_cells : Cells → State → State → State
with_cells q t s = λ c. cond (q c) (t c) (s c)

-- a tree has at most one outcome: one end, one state, the same names, steps left and cells touched
abbrev pub AtMostOneOutcome : Type 0
AtMostOneOutcome = (k : ℕ) (t : Tree) (a b c : At) (o p : End) → Ends k t a o b → Ends k t a p c → (o ≡ p) × (b ≡ c)

-- and it has one: whatever is evaluated ends, at the budget at the latest
abbrev pub EachTreeHasAnOutcome : Type 0
EachTreeHasAnOutcome = (k : ℕ) (t : Tree) (a : At) → (o : End) × (b : At) × Ends k t a o b

-- what was touched before a tree is touched behind it, and what was written is written;
-- and where all that was written was touched, all that is written is touched
abbrev pub TouchedGrows : Type 0
TouchedGrows = (k : ℕ) (t : Tree) (a b : At) (o : End) → Ends k t a o b
    → IsWithin a.touched b.touched × IsWithin a.written b.written × (IsWithin a.written a.touched → IsWithin b.written b.touched)

-- in a state that agrees on the cells touched, whatever the turn began with, a tree ends the same, and touches and writes the same cells;
-- and whatever cells agreed before agree after
abbrev pub Frame : Type 0
Frame = (k : ℕ) (t : Tree) (a b : At) (o : End) → Ends k t a o b → (w u : State) → AgreeOn b.touched u a.state
    → (v : State) × Ends k t (in_state w u a) o (in_state w v b) × ((c : Cell) → u c ≡ a.state c → v c ≡ b.state c)

-- a cell that is not written is as it was
abbrev pub OthersStay : Type 0
OthersStay = (k : ℕ) (t : Tree) (a b : At) (o : End) → Ends k t a o b → (c : Cell) → b.written c ≡ false → b.state c ≡ a.state c

-- so in a state that agrees on the cells touched, a tree leaves the cells that are written as it leaves them here, and the others as they were
abbrev pub WritesAlike : Type 0
WritesAlike = (k : ℕ) (t : Tree) (a b : At) (o : End) → Ends k t a o b → IsWithin a.written a.touched → (w u : State) → AgreeOn b.touched u a.state
    → Ends k t (in_state w u a) o (in_state w (with_cells b.written b.state u) b)

-- a tree leaves the state that its turn began with
abbrev pub BeginningStays : Type 0
BeginningStays = (k : ℕ) (t : Tree) (a b : At) (o : End) → Ends k t a o b → b.began ≡ a.began

-- a tree gives no step back
abbrev pub StepsOnlyFall : Type 0
StepsOnlyFall = (k : ℕ) (t : Tree) (a b : At) (o : End) → Ends k t a o b → b.left ≤ a.left

-- each promise that it makes is paid for by a step
abbrev pub PromisesArePaidFor : Type 0
PromisesArePaidFor = (k : ℕ) (t : Tree) (a b : At) (o : End) → Ends k t a o b → b.out.promises + b.left ≤ a.out.promises + a.left

-- it takes a step for each node that begins
abbrev pub StepsAreNodes : Type 0
StepsAreNodes = (k : ℕ) (t : Tree) (a b : At) (o : End) (r : Ends k t a o b) → nodes r + b.left ≡ a.left

-- no node runs past the deepest level
abbrev pub NoneRunsTooDeep : Type 0
NoneRunsTooDeep = (k : ℕ) (t : Tree) (a b : At) (o : End) (r : Ends k t a o b) → deepest r ≤ DEEPEST

-- a turn has made no more slots, objects and messages than it may
pub record IsWithinRoom (a : At) : Type 0 where
  pub slots : a.slots ≤ MAX_SLOTS
  pub objects : a.objects ≤ MAX_OBJECTS
  pub messages : length a.out.letters ≤ MAX_MESSAGES

-- and so it is behind a tree where it was before
abbrev pub RoomIsKept : Type 0
RoomIsKept = (k : ℕ) (t : Tree) (a b : At) (o : End) → Ends k t a o b → IsWithinRoom a → IsWithinRoom b

-- a tree takes no name from the scopes and puts none behind another: it only adds newer ones
abbrev pub NamesAreOnlyAdded : Type 0
NamesAreOnlyAdded = (k : ℕ) (t : Tree) (a b : At) (o : End) → Ends k t a o b → (more : Nouns) × (b.nouns ≡ more ++ a.nouns)

-- behind a tree that gave a value stand the names that it defines, in the scope in which it began
abbrev pub DefinitionsAreAdded : Type 0
DefinitionsAreAdded = (k : ℕ) (t : Tree) (a b : At) (v : Val) → Ends k t a (value v) b → (frame_of b.nouns ≡ after a.own_scope t (frame_of a.nouns)) × (b.own_scope ≡ a.own_scope)

-- a value on its way to an Escape leaves a tree only where that Escape is being evaluated around the tree
abbrev pub EjectionsAreOpen : Type 0
EjectionsAreOpen = (k : ℕ) (t : Tree) (a b : At) (j : EjId) (v : Val) → Ends k t a (halt (ejected j v)) b → is_open j a.opened ≡ true

-- a tree touches and writes just the cells of its nodes by the table, beside those that were touched and written before
abbrev pub TreesTouchByTheTable : Type 0
TreesTouchByTheTable = (k : ℕ) (t : Tree) (a b : At) (o : End) (r : Ends k t a o b) → Leads (foot r) a b

-- the limits of a turn, as numbers
abbrev pub LimitsAreNumbers : Type 0
LimitsAreNumbers = (DEEPEST ≡ 1000) × (MAX_SLOTS ≡ 4096) × (MAX_OBJECTS ≡ 4096) × (MAX_MESSAGES ≡ 4096)
