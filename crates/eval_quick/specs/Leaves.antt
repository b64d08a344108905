-- What is evaluated by no call of the evaluation: leaves, calls on them, and assignments of these.
use Rattle.std.specs.Prelude.{◌≡◌, ◌≤◌, ◌<◌, ◌+◌, ◌-◌, ℕ, ℤ, Bool, true, false, List, drop}
use Rattle.ids.specs.declared.names.EjId.{EjId}
use Rattle.ids.specs.declared.names.SlotId.{SlotId}
use Rattle.kernele.specs.Tree.{Name, Tree, Trees, noun, call, none, and_then}
use Rattle.code.specs.View.{trees_of_codes}
use Rattle.code.specs.declared.code.Code.{Code}
use Rattle.values.specs.Data.{Val, int, null}
use Rattle.heap.specs.State.{slot}
use Rattle.eval_rules.specs.At.{At}
use Rattle.eval_objects.specs.Finding.{StandsAtHand}
use Rattle.eval_rules.specs.Outcomes.{End, value, halt}
use Rattle.eval_rules.specs.Rules.{sought, noun_end, noun_read, same_ejector, is_open, ejects, Ends, Items, Runs}
use Rattle.eval_rules.specs.declared.working.TheConstants.{DEEPEST}

-- a noun gives this value, and to read it touches no cell that was not touched before
abbrev pub GivesAtHand : Name → Val → At → Type 0
GivesAtHand x v a = (noun_end a.state x (sought x a) ≡ value v) × (noun_read x a ≡ a)

-- a tree gives this value at every level and with any steps left, and changes nothing
abbrev pub Leaf : At → Tree → Val → Type 0
Leaf a t v = (k n : ℕ) → Runs k t (record a { left = n }) (value v) (record a { left = n })

-- a call is made on one integer that is at hand, and another one is its only argument
abbrev pub Operands : At → Tree → Trees → ℤ → ℤ → Type 0
Operands a receiver args x y = Leaf a receiver (int x) × (arg : Tree) × (args ≡ and_then arg none) × Leaf a arg (int y)

-- a tree gives this value above the deepest level where so many steps are left; it takes these, and changes nothing else
abbrev pub AtHand : At → Tree → ℕ → Val → Type 0
AtHand a t steps v = (k n : ℕ) → k < DEEPEST → steps ≤ n → Ends k t (record a { left = n }) (value v) (record a { left = n - steps })

-- the first n items of a block gave values: what those behind them do, after the last of these values, is what all do
abbrev pub GoesOn : ℕ → List Code → ℕ → At → At → Type 0
GoesOn k items n a b = (v : Val) × ((o : End) (c : At) → Items k v (trees_of_codes (drop n items)) b o c → Items k null (trees_of_codes items) a o c)

-- what a call on an ejector with one argument ends with, by how the argument ended
abbrev pub sent : EjId → List EjId → End → End
sent i is (value v) = ejects (is_open i is) i v
sent i is (halt h) = halt h

-- a call on an ejector with one argument: a step on, it ends as that argument ends, and there
abbrev pub SendsTo : ℕ → At → EjId → Tree → Name → Trees → Type 0
SendsTo k a i receiver verb args = (arg : Tree) → args ≡ and_then arg none → (o : End) (b : At) → Ends (k + 1) arg (record a { left = a.left - 1 }) o b → Runs k (call receiver verb args) a (sent i b.opened o) b

-- a tree calls an ejector that is the same as this one, with one argument: two steps on, it ends as that argument ends, and there
abbrev pub Returns : ℕ → At → EjId → Tree → Tree → Type 0
Returns k a j t arg = (i : EjId) × (same_ejector j i ≡ true) × ((o : End) (b : At) → Ends (k + 1) arg (record a { left = a.left - 2 }) o b → Ends k t a (sent i b.opened o) b)

-- a tree calls a verb on a variable, whose slot is at hand, with one argument, which is at hand
pub record Lengthens (a : At) (x : Name) (t : Tree) (i : SlotId) (verb : Name) (more : Val) : Type 0 where
  pub argument : Tree
  pub is : t ≡ call (noun x) verb (and_then argument none)
  pub stands : StandsAtHand x (slot i) a
  pub given : Leaf a argument more

-- a tree was run and gave a value, or nothing has changed
abbrev pub RanOrNot : Bool → ℕ → Tree → At → At → Type 0
RanOrNot true k t a b = (v : Val) × Ends k t a (value v) b
RanOrNot false k t a b = b ≡ a
