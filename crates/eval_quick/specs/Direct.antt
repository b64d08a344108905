-- What a call enters whose receiver and arguments are at hand.
use Rattle.std.specs.Prelude.{◌≡◌, ℕ, ◌+◌, ◌-◌, ◌<◌, ◌≤◌, ◌++◌, true, false, Option, Some, None, List, length}
use Rattle.ids.specs.declared.names.ObjId.{ObjId}
use Rattle.kernele.specs.Tree.{Name, Tree}
use Rattle.kernele.specs.declared.tree.Pattern.{Pattern}
use Rattle.code.specs.Frames.{fits_all}
use Rattle.code.specs.View.{trees_of_codes}
use Rattle.code.specs.declared.code.Code.{Code}
use Rattle.values.specs.Data.{object, null}
use Rattle.values.specs.View.{vals_of}
use Rattle.values.specs.declared.value.Value.{Value}
use Rattle.heap.specs.Names.{names_of}
use Rattle.heap.specs.State.{Nouns, object_cell, read}
use Rattle.heap.specs.View.{nouns_of}
use Rattle.eval_rules.specs.At.{At}
use Rattle.eval_rules.specs.Doings.{same_vat}
use Rattle.eval_rules.specs.Fits.{all_fit_at}
use Rattle.eval_rules.specs.Locals.{captured_in, local_names, locals_after, names_in}
use Rattle.eval_rules.specs.Outcomes.{End, values}
use Rattle.eval_rules.specs.Rules.{Args, Items, Runs, enters, leaving, named, named_all, object_target}
use Rattle.eval_rules.specs.declared.local.Local.{Local}
use Rattle.eval_rules.specs.declared.working.TheConstants.{DEEPEST}
use Rattle.eval_quick.specs.Leaves.{Leaf}
use Rattle.eval_quick.specs.declared.direct.Direct.{Direct}
use Rattle.eval_quick.specs.declared.direct.Entered.{Entered}

-- a tree gives an object of the vat, and changes nothing
abbrev pub IsReceiver : At → Tree → ObjId → Type 0
IsReceiver a t i = Leaf a t (object i) × (same_vat i.vat a.vat ≡ true)

-- where n steps are left, codes give these values in order above the deepest level, as arguments: m steps are left behind them, and
-- nothing else has changed
abbrev pub GivenAtHand : At → List Code → ℕ → List Value → ℕ → Type 0
GivenAtHand a es n vs m = (k : ℕ) → k < DEEPEST → Args k (trees_of_codes es) (record a { left = n }) (values (vals_of vs)) (record a { left = m })

-- behind the names that were there a pattern names an object, and parameters the values that arguments give so
pub record NamesAtHand (a : At) (es : List Code) (n : ℕ) (own : Pattern) (i : ObjId) (ps : List Pattern) (before after : List Local) (m : ℕ) : Type 0 where
  pub vs : List Value
  pub count : length vs ≡ length es
  pub fewer : m ≤ n
  pub given : GivenAtHand a es n vs m
  pub names : (ns : Nouns) → locals_after ns after ≡ named_all ps (vals_of vs) (named own (object i) (locals_after ns before))

-- once its receiver has given an object, a call with arguments that give values so enters this block with these names; the object was
-- touched before
pub record MeetsAtHand (a : At) (i : ObjId) (verb : Name) (es : List Code) (d : Direct) (names : List Local) : Type 0 where
  pub vs : List Value
  pub given : GivenAtHand a es (a.left - 1) vs d.left
  pub fewer : d.left ≤ a.left
  pub target : enters (locals_after (nouns_of (captured_in d.captured)) names) (trees_of_codes d.body.value.items) ≡ object_target i (read a.state (object_cell i)) verb (vals_of vs)
  pub touched : a.touched (object_cell i) ≡ true
  pub fits : fits_all false (names_of (captured_in d.captured) ++ local_names names) d.body.value.items

-- a tree entered a method: it ends as the method's block does, behind which the caller's names come back
pub record IsEntered (e : Entered) (k : ℕ) (t : Tree) (a b : At) : Type 0 where
  pub runs : (o : End) (d : At) → Items (k + 1) null (trees_of_codes e.body.value.items) b o d → Runs k t a o (leaving a d)
  pub fits : all_fit_at b e.body.value.items
  pub names : names_in (captured_in e.caller.captured) e.caller.older e.caller.nouns.items ≡ a.nouns
  pub own_scope : e.caller.own_scope ≡ a.own_scope

-- a tree entered a method, or nothing has changed
abbrev pub EnteredOrNot : Option Entered → ℕ → Tree → At → At → Type 0
EnteredOrNot (Some e) k t a b = IsEntered e k t a b
EnteredOrNot None k t a b = b ≡ a
