-- What is done to the cells of a vat by sends, whens, promises and what comes in: each as steps that read and write single cells.
use Rattle.std.specs.Prelude.{ℕ, zero, suc, ◌-◌, cond, Option, Some, None, option_map, List, [], ◌∷◌, ◌++◌}
use Rattle.std.specs.List.{list_any}
use Rattle.std.specs.Option.{unwrap_or}
use Rattle.ids.specs.References.{same_reference}
use Rattle.ids.specs.declared.names.VatNo.{VatNo}
use Rattle.ids.specs.declared.names.MsgId.{MsgId}
use Rattle.ids.specs.declared.names.PromId.{PromId}
use Rattle.ids.specs.declared.reference.Reference.{Reference}
use Rattle.ids.specs.declared.reference.Reference.TheVariants as reference
use Rattle.cells.specs.Doing.{Doing, over, reads, writes, and_then}
use Rattle.eorder.specs.Fences.{joined, names_in}
use Rattle.eorder.specs.Carried.{Carried, fence_with, with_fence}
use Rattle.values.specs.Data.{Val, list, object, ejector, promise, Vals, no_vals, and_val}
use Rattle.values.specs.Limits.{weight}
use Rattle.values.specs.Replies.{items_in}
use Rattle.values.specs.Promises.{promise_of}
use Rattle.heap.specs.State.{pending, resolved, Cell, view_cell, fence_cell, Content, viewed, fenced}
use Rattle.refs.specs.Walks.{came, most_walked}
use Rattle.refs.specs.Settling.{fitted}
use Rattle.values.specs.declared.limits.TheConstants.{MOST_WEIGHT, MOST_DEPTH}

-- what is done to a vat's cells, with a result
abbrev pub Vat : Type 0 → Type 0
Vat R = Doing Cell Content R

-- the result of what is done for its cells alone
pub data Nothing : Type 0 where
  nothing : Nothing

-- ---- ends

-- what a promise was resolved to, by its cell
abbrev pub resolution_in : Option Content → Option Val
resolution_in (Some (viewed (resolved v))) = Some v
resolution_in _ = None

-- an unresolved promise is an end; from a resolved one the walk goes on
abbrev pub walked_on : PromId → Option Val → (Val → Vat (Option Val)) → Vat (Option Val)
walked_on p None rest = over (Some (promise p))
walked_on p (Some v) rest = rest v

-- one step of a walk: what is no promise is an end, where it comes to a promise again there is none, and any other promise is looked at
abbrev pub walked_from : List PromId → Val → Option PromId → (PromId → Val → Vat (Option Val)) → Vat (Option Val)
walked_from seen v None rest = over (Some v)
walked_from seen v (Some p) rest = cond (came p seen) (over None) (reads (view_cell p) (λ x. walked_on p (resolution_in x) (rest p)))

-- the same, where no promise may be looked at any more
abbrev pub walked_no_more : Val → Option PromId → Vat (Option Val)
walked_no_more v None = over (Some v)
walked_no_more v (Some p) = over None

-- the walk of a value behind the promises that were seen, through at most so many promises
unfoldable pub walk : ℕ → List PromId → Val → Vat (Option Val)
walk zero seen v = walked_no_more v (promise_of v)
walk (suc n) seen v = walked_from seen v (promise_of v) (λ p w. walk n (seen ++ p ∷ []) w)

-- the end of a value in the vat; a value that leads into a ring has none, and stands for itself
abbrev pub ended : Val → Vat Val
ended v = and_then (walk most_walked [] v) (λ o. over (unwrap_or o v))

-- ---- settled forms

-- an item, and the items behind it, where it passes no limit
abbrev pub settled_behind : (Val → Vat (Option Vals)) → Option Val → Vat (Option Vals)
settled_behind rest None = over None
settled_behind rest (Some w) = and_then (rest w) (λ o. over (option_map (and_val w) o))

-- items from the left, each by the weight that is left for it
abbrev pub settled_items : (ℕ → Val → Vat (Option Val)) → ℕ → Vals → Vat (Option Vals)
settled_items item left no_vals = over (Some no_vals)
settled_items item left (and_val v vs) = and_then (item left v) (settled_behind (λ w. settled_items item (left - weight w) vs))

-- a list weighs its own 1 before its items
abbrev pub settled_list : (ℕ → Val → Vat (Option Val)) → ℕ → Vals → Vat (Option Val)
settled_list item zero vs = over None
settled_list item (suc left) vs = and_then (settled_items item left vs) (λ o. over (option_map list o))

-- where lists may not stand any deeper
abbrev pub no_list_settled : ℕ → Vals → Vat (Option Val)
no_list_settled left vs = over None

-- an end, by the items that it has
abbrev pub settled_end : (ℕ → Vals → Vat (Option Val)) → ℕ → Val → Option Vals → Vat (Option Val)
settled_end lists left w None = over (fitted 0 left w)
settled_end lists left w (Some vs) = lists left vs

-- the end of a value, and then what stands in it
abbrev pub settled_walk : (ℕ → Vals → Vat (Option Val)) → ℕ → Val → Vat (Option Val)
settled_walk lists left v = and_then (ended v) (λ w. settled_end lists left w (items_in w))

-- the settled form of a value that may have this depth and weight
unfoldable pub settled_at : ℕ → ℕ → Val → Vat (Option Val)
settled_at zero left v = settled_walk no_list_settled left v
settled_at (suc depth) left v = settled_walk (settled_list (settled_at depth)) left v

-- the settled form of a value; none where it passes a limit of a value
unfoldable pub settled : Val → Vat (Option Val)
settled v = settled_at MOST_DEPTH MOST_WEIGHT v

-- each value settled by itself, from the left, up to the first that passes a limit
abbrev pub all_settled : Vals → Vat (Option Vals)
all_settled no_vals = over (Some no_vals)
all_settled (and_val v vs) = and_then (settled v) (settled_behind (λ w. all_settled vs))

-- ---- references in values

-- the reference that a value is
abbrev pub reference_in : Val → Option Reference
reference_in (object i) = Some (reference.Object i)
reference_in (ejector j) = Some (reference.Ejector j)
reference_in (promise p) = Some (reference.Promise p)
reference_in _ = None

-- a reference as a value
abbrev pub value_of : Reference → Val
value_of (reference.Object i) = object i
value_of (reference.Ejector j) = ejector j
value_of (reference.Promise p) = promise p

-- the references in a value at any depth, from the left
abbrev mutual
  pub references : Val → List Reference
  references (list vs) = references_in vs
  references (object i) = reference.Object i ∷ []
  references (ejector j) = reference.Ejector j ∷ []
  references (promise p) = reference.Promise p ∷ []
  references _ = []

  pub references_in : Vals → List Reference
  references_in no_vals = []
  references_in (and_val v vs) = references v ++ references_in vs

-- a reference behind others, unless it is among them
abbrev pub and_reference : List Reference → Reference → List Reference
and_reference rs r = cond (list_any (same_reference r) rs) rs (rs ++ r ∷ [])

-- references behind others: each once, where it stands first
abbrev pub each_once : List Reference → List Reference → List Reference
each_once found [] = found
each_once found (r ∷ rs) = each_once (and_reference found r) rs

-- ---- fences

-- the names in the cell of a fence: none where the cell is absent
abbrev pub names_of : Option Content → List MsgId
names_of (Some (fenced names)) = names
names_of _ = []

-- the fence of a reference
abbrev pub fence_of : Reference → Vat (List MsgId)
fence_of r = reads (fence_cell r) (λ x. over (names_of x))

-- references with the fences that they have at this moment, behind those that were carried already
abbrev pub carried : Carried → List Reference → Vat Carried
carried c [] = over c
carried c (r ∷ rs) = and_then (fence_of r) (λ f. carried (with_fence c r f) rs)

-- references in settled values leave with their fences, each once
abbrev pub leaving : List Reference → Vat Carried
leaving rs = carried [] (each_once [] rs)

-- the names with which a reference was carried: none where it was left out
abbrev pub names_for : Carried → Reference → List MsgId
names_for c r = names_in (fence_with c r)

-- names are added to a fence; where there is no name, or no reference, nothing is touched
abbrev pub fence_joined : Option Reference → List MsgId → Vat Nothing
fence_joined None f = over nothing
fence_joined (Some t) [] = over nothing
fence_joined (Some t) (m ∷ f) = reads (fence_cell t) (λ x. writes (fence_cell t) (fenced (joined (names_of x) (m ∷ f))) (over nothing))

-- names are added to the fence of what a value settles to: of its end alone, which is answered where it is a reference
abbrev pub end_joined : Val → List MsgId → Vat (Option Reference)
end_joined v f = and_then (ended v) (λ w. and_then (fence_joined (reference_in w) f) (λ n. over (reference_in w)))

-- ---- what comes in

-- a promise comes into the vat: from now on it is open there, unless it came before
abbrev pub entrance : PromId → Option Content → Vat Nothing
entrance p None = writes (view_cell p) (viewed pending) (over nothing)
entrance p (Some x) = over nothing

abbrev pub comes_in : PromId → Vat Nothing
comes_in p = reads (view_cell p) (entrance p)

-- so do the promises among references, from the left; objects and ejectors are no matter of a view
abbrev pub brought : Reference → Vat Nothing
brought (reference.Promise p) = comes_in p
brought _ = over nothing

abbrev pub all_brought : List Reference → Vat Nothing
all_brought [] = over nothing
all_brought (r ∷ rs) = and_then (brought r) (λ n. all_brought rs)

-- the fence that each reference comes in with is added to that of what it settles to here
abbrev pub received : Carried → List Reference → Vat Nothing
received c [] = over nothing
received c (r ∷ rs) = and_then (end_joined (value_of r) (names_for c r)) (λ t. received c rs)

-- references come in with fences: first all promises, then the fences
abbrev pub arrived : Carried → List Reference → Vat Nothing
arrived c rs = and_then (all_brought rs) (λ n. received c rs)

-- the references in a value come in with fences, each once
abbrev pub coming_in : Carried → List Reference → Vat Nothing
coming_in c rs = arrived c (each_once [] rs)

-- ---- what is entered

-- a promise is entered in the view as this value, and its fence is added to that of what the value then settles to, which is answered
abbrev pub entered : PromId → Val → Vat (Option Reference)
entered p v = writes (view_cell p) (viewed (resolved v)) (and_then (fence_of (reference.Promise p)) (end_joined v))

-- ---- a message is sent

-- what a message comes after: the names behind its target, behind which it then stands alone; nothing, where that is no reference
abbrev pub sent_after : MsgId → Option Reference → Vat (List MsgId)
sent_after m None = over []
sent_after m (Some t) = reads (fence_cell t) (λ x. writes (fence_cell t) (fenced (m ∷ [])) (over (names_of x)))

-- the vat to which a message on a value goes first: that of an object or an ejector, the home of a promise, and for what is no
-- reference the vat that sends it
abbrev pub goes_to : VatNo → Val → VatNo
goes_to here (object i) = i.vat
goes_to here (ejector j) = j.vat
goes_to here (promise p) = p.home
goes_to here _ = here
