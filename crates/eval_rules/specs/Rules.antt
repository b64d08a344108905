-- The rules of evaluation.
use Rattle.std.specs.Prelude.{◌≡◌, ℕ, ◌+◌, ◌-◌, ◌<◌, ◌≤◌, ltb, ℤ, Bool, true, false, Option, Some, None, List, [], ◌∷◌, ◌++◌, ◌&&◌, cond, codes}
use Rattle.std.specs.Str.{bytes_eq}
use Rattle.std.specs.Ordering.{is_eq}
use Rattle.ids.specs.Cells.{ejector_cmp}
use Rattle.ids.specs.declared.names.VatNo.{VatNo}
use Rattle.ids.specs.declared.names.SlotId.{SlotId}
use Rattle.ids.specs.declared.names.ObjId.{ObjId}
use Rattle.ids.specs.declared.names.EjId.{EjId}
use Rattle.ids.specs.declared.names.PromId.{PromId}
use Rattle.kernele.specs.Tree.{Name, Tree, null_tree, bool_tree, int_tree, text_tree, noun, define, variable, assign, call, list_tree, same_tree, define_list, hide, if_tree, while_tree, for_tree, try_tree, primitive, object_tree, escape_tree, send, when_tree, when_catch_tree, new_promise, Trees, none, and_then, Methods, no_methods, and_method}
use Rattle.kernele_scopes.specs.Free.{captures, when_captures}
use Rattle.kernele.specs.declared.tree.Pattern.{Pattern}
use Rattle.kernele.specs.declared.tree.Pattern.TheVariants as pattern
use Rattle.kernele.specs.declared.tree.Primitive.{Primitive}
use Rattle.kernele.specs.declared.tree.Primitive.TheVariants as primitives
use Rattle.values.specs.Data.{Val, null, bool, int, text, broken, object, ejector, promise, Vals, no_vals, and_val}
use Rattle.values.specs.Replies.{no_method, list_reply, text_reply, text_in, items_in}
use Rattle.heap.specs.State.{Bind, fixed, slot, Nouns, lookup, Plain, plain, resolver, top, slot_cell, object_cell, Cell, Content, bound, held, made, State, read, write, also}
use Rattle.post.specs.Delivery.{Handler}
use Rattle.refs.specs.Kinds.{kind_in}
use Rattle.sends.specs.Vats.{Vat, ended}
use Rattle.sends.specs.Making.{Making, Published, resolving, smashing}
use Rattle.eval_rules.specs.At.{At}
use Rattle.eval_rules.specs.Doings.{given_by, behind, datum_of, datum_read, data_of, same_vat, next_object, has_object_room, sent_end, sent_at, wait_of, wait_end, wait_out, promise_pair, pair_end, pair_out, resolver_end, resolver_out, same_end, same_read, state_word}
use Rattle.eval_rules.specs.Outcomes.{budget_spent, too_deep, too_large, Halt, thrown, ejected, abandoned, End, value, halt, Gather, values, halted, reply_end}
use Rattle.eval_rules.specs.declared.working.TheConstants.{DEEPEST, MAX_SLOTS}

-- a step was taken
abbrev pub begun : At → At
begun a = record a { left = a.left - 1 }

-- a cell is read: from now on it is touched
abbrev pub reached : Cell → At → At
reached c a = record a { touched = also c a.touched }

-- a cell is written, and so touched
abbrev pub put : Cell → Content → At → At
put c x a = record a { state = write a.state c x; touched = also c a.touched; written = also c a.written }

-- a name that nothing defined throws
abbrev pub undefined_noun : Name → End
undefined_noun x = halt (thrown (codes "undefined noun " ++ x))

-- what a top noun's cell says that its name stands for
abbrev pub top_bind : Option Content → Option Bind
top_bind (Some (bound b)) = Some b
top_bind _ = None

-- what a name stands for: its own meaning in the scopes, else the vat's top noun of that name
abbrev pub found : State → Name → Option Bind → Option Bind
found s x (Some b) = Some b
found s x None = top_bind (read s (top x))

abbrev pub sought : Name → At → Option Bind
sought x a = found a.state x (lookup a.nouns x)

-- a name of no scope is sought in its top noun's cell
abbrev pub sought_in : Name → Option Bind → At → At
sought_in x (Some b) a = a
sought_in x None a = reached (top x) a

abbrev pub seeking : Name → At → At
seeking x a = sought_in x (lookup a.nouns x) a

-- the slot that a name stands for
abbrev pub slot_in : Option Bind → Option SlotId
slot_in (Some (fixed v)) = None
slot_in (Some (slot i)) = Some i
slot_in None = None

abbrev pub sought_slot : Name → At → Option SlotId
sought_slot x a = slot_in (sought x a)

-- what a slot's cell gives; a turn never finds it empty
abbrev pub held_end : Name → Option Content → End
held_end x (Some (held v)) = value v
held_end x _ = undefined_noun x

-- a noun's value, by what it stands for: a slot gives what it holds
abbrev pub noun_end : State → Name → Option Bind → End
noun_end s x (Some (fixed v)) = value v
noun_end s x (Some (slot i)) = held_end x (read s (slot_cell i))
noun_end s x None = undefined_noun x

-- and its slot, where it stands for one, is read
abbrev pub slot_read : Option SlotId → At → At
slot_read (Some i) a = reached (slot_cell i) a
slot_read None a = a

abbrev pub noun_read : Name → At → At
noun_read x a = slot_read (sought_slot x a) (seeking x a)

-- a name is bound in the innermost scope: the script's own scope is the vat's top nouns
abbrev pub bound_in : Bool → Name → Bind → At → At
bound_in true x b a = put (top x) (bound b) a
bound_in false x b a = record a { nouns = (x, b) ∷ a.nouns }

abbrev pub binding : Name → Bind → At → At
binding x b a = bound_in a.own_scope x b a

-- a pattern takes a value: `_` binds nothing
abbrev pub matched : Pattern → Val → At → At
matched (pattern.Name x) v a = binding x (fixed v) a
matched pattern.Ignore v a = a

-- a definition binds its pattern once its right side has given a value
abbrev pub defined : Pattern → End → At → At
defined p (value v) a = matched p v a
defined p (halt h) a = a

-- patterns take values from the left
abbrev pub matched_all : List Pattern → Vals → At → At
matched_all (p ∷ ps) (and_val v vs) a = matched_all ps vs (matched p v a)
matched_all _ _ a = a

-- there are as many values as patterns
abbrev pub as_many : List Pattern → Vals → Bool
as_many [] no_vals = true
as_many (p ∷ ps) (and_val v vs) = as_many ps vs
as_many _ _ = false

-- a value that is not of the kind that is wanted throws this problem, and a broken one its own
abbrev pub mismatch : Name → Val → End
mismatch words (broken problem) = halt (thrown problem)
mismatch words _ = halt (thrown words)

-- where a list is wanted: its items, or an end in place of them
pub data Listing : Type 0 where
  listed : (vs : Vals) → Listing
  unlisted : (o : End) → Listing

-- a value with the items that are wanted of it, or without
abbrev pub listing_by : Name → Val → Option Vals → Listing
listing_by words v (Some vs) = listed vs
listing_by words v None = unlisted (mismatch words v)

-- what a For goes over
abbrev pub listing_of : End → Listing
listing_of (value v) = listing_by (codes "not a list") v (items_in v)
listing_of (halt h) = unlisted (halt h)

-- items, where there are as many as patterns
abbrev pub taken : List Pattern → Option Vals → Option Vals
taken ps (Some vs) = cond (as_many ps vs) (Some vs) None
taken ps None = None

-- what a list of patterns takes: the items of a list of as many
abbrev pub parts_of : List Pattern → End → Listing
parts_of ps (value v) = listing_by (codes "wrong list") v (taken ps (items_in v))
parts_of ps (halt h) = unlisted (halt h)

-- a definition with a list of patterns binds them all or none
abbrev pub parts_bound : List Pattern → Listing → At → At
parts_bound ps (listed vs) a = matched_all ps vs a
parts_bound ps (unlisted o) a = a

-- and it gives the value of its right side as it is
abbrev pub parts_end : End → Listing → End
parts_end o (listed vs) = o
parts_end o (unlisted p) = p

-- the slot that a turn makes next: they are numbered from 0 in order of making
abbrev pub next_slot : At → SlotId
next_slot a = record { event = a.event; index = a.slots; vat = a.vat }

-- a new slot holds the value
abbrev pub slot_made : Val → At → At
slot_made v a = record (put (slot_cell (next_slot a)) (held v) a) { slots = a.slots + 1 }

-- a name is bound to a new slot
abbrev pub with_slot : Name → Val → At → At
with_slot x v a = binding x (slot (next_slot a)) (slot_made v a)

-- a turn has room for one more slot
abbrev pub has_room : At → Bool
has_room a = ltb a.slots MAX_SLOTS

-- a variable makes its slot where there is room for one, and without room the turn is abandoned
abbrev pub variable_made : Bool → Name → Val → At → At
variable_made true x v a = with_slot x v a
variable_made false x v a = a

abbrev pub variable_end : Bool → Val → End
variable_end true v = value v
variable_end false v = halt (abandoned too_large)

-- a variable is made once its right side has given a value
abbrev pub declared : Name → End → At → At
declared x (value v) a = variable_made (has_room a) x v a
declared x (halt h) a = a

abbrev pub declared_end : End → At → End
declared_end (value v) a = variable_end (has_room a) v
declared_end (halt h) a = halt h

-- a value is written into a slot, where there is one
abbrev pub slot_put : Val → Option SlotId → At → At
slot_put v (Some i) a = put (slot_cell i) (held v) a
slot_put v None a = a

-- an assignment seeks its noun once its right side has given a value, and writes into the slot that it stands for
abbrev pub assigned : Name → End → At → At
assigned x (value v) a = slot_put v (sought_slot x a) (seeking x a)
assigned x (halt h) a = a

-- a noun that stands for no slot throws as an undefined one does: the check refuses a program that assigns to a definition
abbrev pub assigned_end : Name → End → Option SlotId → End
assigned_end x (value v) (Some i) = value v
assigned_end x (value v) None = undefined_noun x
assigned_end x (halt h) i = halt h

-- the names that an object captures, the newest first, or the first of them that stands for nothing
pub data Capture : Type 0 where
  captured : (ns : Nouns) → Capture
  missing : (x : Name) → Capture

-- one more name is captured as it is: a slot is captured, and not what it holds
abbrev pub and_captured : Capture → Name → Option Bind → Capture
and_captured (captured ns) x (Some b) = captured ((x, b) ∷ ns)
and_captured (captured ns) x None = missing x
and_captured (missing y) x m = missing y

-- names are captured from the left, up to the first that stands for nothing
abbrev pub all_captured : Capture → List Name → At → Capture
all_captured c [] a = c
all_captured (captured ns) (x ∷ xs) a = all_captured (and_captured (captured ns) x (sought x a)) xs (seeking x a)
all_captured (missing y) (x ∷ xs) a = missing y

-- and each of these is sought
abbrev pub all_sought : Capture → List Name → At → At
all_sought c [] a = a
all_sought (captured ns) (x ∷ xs) a = all_sought (and_captured (captured ns) x (sought x a)) xs (seeking x a)
all_sought (missing y) (x ∷ xs) a = a

-- what an object captures: the names that are free in its methods
abbrev pub capture_of : Pattern → Methods → At → Capture
capture_of p ms a = all_captured (captured []) (captures p ms) a

abbrev pub capturing : Pattern → Methods → At → At
capturing p ms a = all_sought (captured []) (captures p ms) a

-- an object is made
abbrev pub object_made : Plain → At → At
object_made o a = record (put (object_cell (next_object a)) (made (plain o)) a) { objects = a.objects + 1 }

-- and its pattern takes it, where there is room for one more; without room the turn is abandoned
abbrev pub placed : Bool → Pattern → Plain → At → At
placed true p o a = matched p (object (next_object a)) (object_made o a)
placed false p o a = a

abbrev pub placed_end : Bool → At → End
placed_end true a = value (object (next_object a))
placed_end false a = halt (abandoned too_large)

-- an object is made once its names are captured
abbrev pub with_object : Pattern → Methods → Capture → At → At
with_object p ms (captured ns) a = placed (has_object_room a) p (record { own = p; captured = ns; methods = ms }) a
with_object p ms (missing x) a = a

-- and without one of them it is not made
abbrev pub object_end : Capture → At → End
object_end (captured ns) a = placed_end (has_object_room a) a
object_end (missing x) a = undefined_noun x

-- names and what a pattern takes, in front of them
abbrev pub named : Pattern → Val → Nouns → Nouns
named (pattern.Name x) v ns = (x, fixed v) ∷ ns
named pattern.Ignore v ns = ns

-- the same of patterns that take values from the left
abbrev pub named_all : List Pattern → Vals → Nouns → Nouns
named_all (p ∷ ps) (and_val v vs) ns = named_all ps vs (named p v ns)
named_all _ _ ns = ns

-- what a call leads to: an end, or the block of a method with the names that it begins with
pub data Target : Type 0 where
  gives : (o : End) → Target
  enters : (ns : Nouns) → (body : Trees) → Target
  uses : (p : PromId) → (d : Vat (Making Published)) → Target

-- a method is found by its verb and by how many parameters it has: these, and its block
abbrev pub method_in : Methods → Name → Vals → Option (List Pattern × Trees)
method_in no_methods verb vs = None
method_in (and_method m ps body ms) verb vs = cond (bytes_eq m verb && as_many ps vs) (Some (ps, body)) (method_in ms verb vs)

-- a verb that an object or an ejector does not have throws as a verb that a datum does not have
abbrev pub no_such_method : Name → Vals → End
no_such_method verb vs = reply_end (no_method verb vs)

-- a method that is found is entered with the object's names, the object's own name before them, and the parameters before that
abbrev pub method_target : ObjId → Plain → Name → Vals → Option (List Pattern × Trees) → Target
method_target i o verb vs (Some m) = enters (named_all m.0 vs (named o.own (object i) o.captured)) m.1
method_target i o verb vs None = gives (no_such_method verb vs)

-- a resolver resolves its promise to a value, or breaks it with a text
abbrev pub resolver_target : PromId → Name → Vals → Target
resolver_target p verb (and_val v no_vals) = cond (bytes_eq verb (codes "resolve")) (uses p (resolving p v)) (cond (bytes_eq verb (codes "smash")) (uses p (smashing p v)) (gives (no_such_method verb (and_val v no_vals))))
resolver_target p verb vs = gives (no_such_method verb vs)

-- a call on an object, by what its cell holds
abbrev pub object_target : ObjId → Option Content → Name → Vals → Target
object_target i (Some (made (plain o))) verb vs = method_target i o verb vs (method_in o.methods verb vs)
object_target i (Some (made (resolver p))) verb vs = resolver_target p verb vs
object_target i _ verb vs = gives (no_such_method verb vs)

abbrev pub same_ejector : EjId → EjId → Bool
same_ejector i j = is_eq (ejector_cmp i j)

-- whether an ejector's Escape is being evaluated
abbrev pub is_open : EjId → List EjId → Bool
is_open j [] = false
is_open j (i ∷ is) = cond (same_ejector i j) true (is_open j is)

-- an ejector ends its Escape while that is being evaluated, and is spent at any other time
abbrev pub ejects : Bool → EjId → Val → End
ejects true j v = halt (ejected j v)
ejects false j v = halt (thrown (codes "ejector is spent"))

-- what an ejector is given: one value, or null
abbrev pub given : Vals → Option Val
given no_vals = Some null
given (and_val v no_vals) = Some v
given (and_val v (and_val w vs)) = None

-- a call on an ejector that has this verb with these arguments, or has not
abbrev pub ejection : EjId → List EjId → Name → Vals → Option Val → End
ejection j is verb vs (Some v) = ejects (is_open j is) j v
ejection j is verb vs None = no_such_method verb vs

-- an ejector has the verb `run` with one argument or none
abbrev pub ejector_end : EjId → List EjId → Name → Vals → End
ejector_end j is verb vs = cond (bytes_eq verb (codes "run")) (ejection j is verb vs (given vs)) (no_such_method verb vs)

-- what a call is made on: an object or an ejector of the vat, a datum or what is broken, or what is not near
pub data Callee : Type 0 where
  on_object : (i : ObjId) → Callee
  on_ejector : (j : EjId) → Callee
  on_datum : Callee
  on_far : Callee

-- what is the vat's own, by whether it is
abbrev pub if_own : Bool → Callee → Callee
if_own true c = c
if_own false c = on_far

abbrev pub callee_of : VatNo → Val → Callee
callee_of here (object i) = if_own (same_vat i.vat here) (on_object i)
callee_of here (ejector j) = if_own (same_vat j.vat here) (on_ejector j)
callee_of here (promise p) = on_far
callee_of here _ = on_datum

-- what a call leads to, by what it is made on
abbrev pub callee_target : Callee → Val → Name → Vals → At → Target
callee_target (on_object i) v verb vs a = object_target i (read a.state (object_cell i)) verb vs
callee_target (on_ejector j) v verb vs a = gives (ejector_end j a.opened verb vs)
callee_target on_datum v verb vs a = gives (reply_end (given_by (data_of v verb vs) a))
callee_target on_far v verb vs a = gives (halt (thrown (codes "not near")))

-- a call on an object reads the object, whether it has the method or not
abbrev pub callee_read : Callee → Val → Name → Vals → At → At
callee_read (on_object i) v verb vs a = reached (object_cell i) a
callee_read (on_ejector j) v verb vs a = a
callee_read on_datum v verb vs a = behind (data_of v verb vs) a
callee_read on_far v verb vs a = a

-- the receiver's end is taken once the arguments are there
abbrev pub receiver : Val → At → Val
receiver v a = given_by (ended v) a

abbrev pub receiver_read : Val → At → At
receiver_read v a = behind (ended v) a

-- what a call leads to, once its arguments are there
abbrev pub target_of : Val → Name → Gather → At → Target
target_of v verb (values vs) a = callee_target (callee_of a.vat (receiver v a)) (receiver v a) verb vs (receiver_read v a)
target_of v verb (halted h) a = gives (halt h)

abbrev pub called : Val → Name → Gather → At → At
called v verb (values vs) a = callee_read (callee_of a.vat (receiver v a)) (receiver v a) verb vs (receiver_read v a)
called v verb (halted h) a = a

-- the ejector that a turn makes next: they are numbered from 0 in order of making, and never counted against a limit
abbrev pub next_ejector : At → EjId
next_ejector a = record { event = a.event; index = a.ejectors; vat = a.vat }

-- an Escape begins with a new ejector ..
abbrev pub escaping : At → At
escaping a = record a { ejectors = a.ejectors + 1; opened = next_ejector a ∷ a.opened }

-- .. which is spent behind it
abbrev pub escaped : At → At → At
escaped a b = record b { opened = a.opened }

-- a value that its own ejector was given is an Escape's value; any other end stays
abbrev pub escape_end : EjId → End → End
escape_end j (value v) = value v
escape_end j (halt (thrown problem)) = halt (thrown problem)
escape_end j (halt (ejected i v)) = cond (same_ejector j i) (value v) (halt (ejected i v))
escape_end j (halt (abandoned why)) = halt (abandoned why)

abbrev pub list_end : Gather → End
list_end (values vs) = reply_end (list_reply vs)
list_end (halted h) = halt h

-- what a condition leads to: one of two ways, or an end
pub data Choice : Type 0 where
  goes : (q : Bool) → Choice
  ends : (o : End) → Choice

-- the truth value that a value is
abbrev pub bool_in : Val → Option Bool
bool_in (bool q) = Some q
bool_in _ = None

-- a truth value chooses, any other value throws
abbrev pub choice_by : Val → Option Bool → Choice
choice_by v (Some q) = goes q
choice_by v None = ends (mismatch (codes "not a truth value") v)

-- what a condition that ended so leads to
abbrev pub choice_of : End → Choice
choice_of (value v) = choice_by v (bool_in v)
choice_of (halt h) = ends (halt h)

-- the block of the way that is gone
abbrev pub chosen : Bool → Trees → Trees → Trees
chosen true first second = first
chosen false first second = second

-- a value with the text that it is, or without
abbrev pub thrown_by : Val → Option Name → End
thrown_by v (Some problem) = halt (thrown problem)
thrown_by v None = mismatch (codes "not a text") v

-- what a Throw ends with: a text is thrown as a problem
abbrev pub thrown_end : End → End
thrown_end (value v) = thrown_by v (text_in v)
thrown_end (halt h) = halt h

-- what a Try catches: a problem that was thrown, no value on its way to an Escape, and no abandoned turn
abbrev pub caught : End → Option Name
caught (value v) = None
caught (halt (thrown problem)) = Some problem
caught (halt (ejected j v)) = None
caught (halt (abandoned why)) = None

-- a block stands in a scope of its own ..
abbrev pub entering : At → At
entering a = record a { own_scope = false }

-- .. and its names end with it
abbrev pub leaving : At → At → At
leaving a b = record b { nouns = a.nouns; own_scope = a.own_scope }

-- a method's block stands in a scope of its own with the method's names, in place of those of the caller
abbrev pub inside : Nouns → At → At
inside ns a = record a { nouns = ns; own_scope = false }

-- names that a condition defines are not in scope when it is evaluated the next time
abbrev pub again : At → At → At
again a d = record d { nouns = a.nouns }

-- a value, before how the rest ends
abbrev pub gather_first : Val → Gather → Gather
gather_first v (values vs) = values (and_val v vs)
gather_first v (halted h) = halted h

-- the names that a when captures behind its value: those that are free in its block and its handler
abbrev pub handled_names : Trees → Option Handler → List Name
handled_names body None = when_captures body pattern.Ignore none
handled_names body (Some h) = when_captures body h.pattern h.block

abbrev pub when_capture : Trees → Option Handler → At → Capture
when_capture body handler a = all_captured (captured []) (handled_names body handler) a

abbrev pub when_capturing : Trees → Option Handler → At → At
when_capturing body handler a = all_sought (captured []) (handled_names body handler) a

-- a when is made once its names are captured: its value's end is taken, then the message is made
abbrev pub waited_end : Capture → Val → At → End
waited_end (captured ns) v a = wait_end (given_by (wait_of v a) a) a
waited_end (missing x) v a = undefined_noun x

abbrev pub waited : Capture → Trees → Option Handler → Val → At → At
waited (captured ns) body handler v a = wait_out (record { value = v; captured = ns; block = body; handler = handler }) (given_by (wait_of v a) a) (behind (wait_of v a) a)
waited (missing x) body handler v a = a

-- so its names are captured once its value is there
abbrev pub when_end : Trees → Option Handler → End → At → End
when_end body handler (value v) a = waited_end (when_capture body handler a) v (when_capturing body handler a)
when_end body handler (halt h) a = halt h

abbrev pub when_made : Trees → Option Handler → End → At → At
when_made body handler (value v) a = waited (when_capture body handler a) body handler v (when_capturing body handler a)
when_made body handler (halt h) a = a

-- a text breaks a reference
abbrev pub broken_by : Val → Option Name → End
broken_by v (Some problem) = value (broken problem)
broken_by v None = mismatch (codes "not a text") v

abbrev pub broken_end : End → End
broken_end (value v) = broken_by v (text_in v)
broken_end (halt h) = halt h

-- what a primitive makes of a value in a vat
abbrev pub made_of : Primitive → VatNo → Val → End
made_of primitives.Throw here v = thrown_by v (text_in v)
made_of primitives.BreakRef here v = broken_by v (text_in v)
made_of primitives.StateRef here v = value (text (state_word (kind_in here v)))

abbrev pub primitive_end : End → VatNo → Primitive → End
primitive_end (value v) here q = made_of q here v
primitive_end (halt h) here q = halt h

mutual
  -- at level k, a tree begun at a ends as o at b: the budget is tested, a step is taken, then the level is tested
  pub data Ends : ℕ → Tree → At → End → At → Type 0 where
    at_budget : {k : ℕ} {t : Tree} {a : At} → a.left ≡ 0 → Ends k t a (halt (abandoned budget_spent)) a
    at_depth : {k : ℕ} {t : Tree} {a : At} → 0 < a.left → DEEPEST < k → Ends k t a (halt (abandoned too_deep)) (begun a)
    at_node : {k : ℕ} {t : Tree} {a b : At} {o : End} → 0 < a.left → k ≤ DEEPEST → Runs k t (begun a) o b → Ends k t a o b

  -- the same, once its step was taken: which parts are evaluated, and what is made of their ends
  pub data Runs : ℕ → Tree → At → End → At → Type 0 where
    run_null : {k : ℕ} {a : At} → Runs k null_tree a (value null) a
    run_bool : {k : ℕ} {b : Bool} {a : At} → Runs k (bool_tree b) a (value (bool b)) a
    run_int : {k : ℕ} {z : ℤ} {a : At} → Runs k (int_tree z) a (value (int z)) a
    run_text : {k : ℕ} {s : Name} {a : At} → Runs k (text_tree s) a (reply_end (text_reply s)) a
    run_noun : {k : ℕ} {x : Name} {a : At} → Runs k (noun x) a (noun_end a.state x (sought x a)) (noun_read x a)
    run_define : {k : ℕ} {p : Pattern} {e : Tree} {a b : At} {o : End} → Ends (k + 1) e a o b → Runs k (define p e) a o (defined p o b)
    run_variable : {k : ℕ} {x : Name} {e : Tree} {a b : At} {o : End} → Ends (k + 1) e a o b → Runs k (variable x e) a (declared_end o b) (declared x o b)
    run_assign : {k : ℕ} {x : Name} {e : Tree} {a b : At} {o : End} → Ends (k + 1) e a o b → Runs k (assign x e) a (assigned_end x o (sought_slot x b)) (assigned x o b)
    run_call_receiver : {k : ℕ} {r : Tree} {verb : Name} {args : Trees} {a b : At} {h : Halt} → Ends (k + 1) r a (halt h) b → Runs k (call r verb args) a (halt h) b
    run_call_gives : {k : ℕ} {r : Tree} {verb : Name} {args : Trees} {a b c : At} {v : Val} {g : Gather} {o : End} → Ends (k + 1) r a (value v) b → Args (k + 1) args b g c → target_of v verb g c ≡ gives o → Runs k (call r verb args) a o (called v verb g c)
    run_call_enters : {k : ℕ} {r : Tree} {verb : Name} {args : Trees} {a b c d : At} {v : Val} {g : Gather} {ns : Nouns} {body : Trees} {o : End} → Ends (k + 1) r a (value v) b → Args (k + 1) args b g c → target_of v verb g c ≡ enters ns body → Items (k + 1) null body (inside ns (called v verb g c)) o d → Runs k (call r verb args) a o (leaving c d)
    run_call_uses : {k : ℕ} {r : Tree} {verb : Name} {args : Trees} {a b c : At} {v : Val} {g : Gather} {p : PromId} {d : Vat (Making Published)} → Ends (k + 1) r a (value v) b → Args (k + 1) args b g c → target_of v verb g c ≡ uses p d → Runs k (call r verb args) a (resolver_end (given_by d (called v verb g c))) (resolver_out p (given_by d (called v verb g c)) (behind d (called v verb g c)))
    run_send_receiver : {k : ℕ} {r : Tree} {verb : Name} {args : Trees} {a b : At} {h : Halt} → Ends (k + 1) r a (halt h) b → Runs k (send r verb args) a (halt h) b
    run_send : {k : ℕ} {r : Tree} {verb : Name} {args : Trees} {a b c : At} {v : Val} {g : Gather} → Ends (k + 1) r a (value v) b → Args (k + 1) args b g c → Runs k (send r verb args) a (sent_end v g c) (sent_at verb v g c)
    run_list : {k : ℕ} {ts : Trees} {a b : At} {g : Gather} → Args (k + 1) ts a g b → Runs k (list_tree ts) a (list_end g) b
    run_same_left : {k : ℕ} {l r : Tree} {a b : At} {h : Halt} → Ends (k + 1) l a (halt h) b → Runs k (same_tree l r) a (halt h) b
    run_same : {k : ℕ} {l r : Tree} {a b c : At} {v : Val} {o : End} → Ends (k + 1) l a (value v) b → Ends (k + 1) r b o c → Runs k (same_tree l r) a (same_end v o c) (same_read v o c)
    run_define_list : {k : ℕ} {ps : List Pattern} {e : Tree} {a b : At} {o : End} → Ends (k + 1) e a o b → Runs k (define_list ps e) a (parts_end o (parts_of ps (datum_of o b))) (parts_bound ps (parts_of ps (datum_of o b)) (datum_read o b))
    run_hide : {k : ℕ} {ts : Trees} {a b : At} {o : End} → Block (k + 1) ts a o b → Runs k (hide ts) a o b
    run_primitive : {k : ℕ} {q : Primitive} {e : Tree} {a b : At} {o : End} → Needs (k + 1) e a o b → Runs k (primitive q e) a (primitive_end o a.vat q) b
    run_if_goes : {k : ℕ} {c : Tree} {first second : Trees} {a b d : At} {o p : End} {q : Bool} → Needs (k + 1) c a o b → choice_of o ≡ goes q → Block (k + 1) (chosen q first second) b p d → Runs k (if_tree c first second) a p d
    run_if_ends : {k : ℕ} {c : Tree} {first second : Trees} {a b : At} {o p : End} → Needs (k + 1) c a o b → choice_of o ≡ ends p → Runs k (if_tree c first second) a p b
    run_while_again : {k : ℕ} {c : Tree} {body : Trees} {a b d e : At} {o p : End} {v : Val} → Needs (k + 1) c a o b → choice_of o ≡ goes true → Block (k + 1) body b (value v) d → Runs k (while_tree c body) (again a d) p e → Runs k (while_tree c body) a p e
    run_while_halts : {k : ℕ} {c : Tree} {body : Trees} {a b d : At} {o : End} {h : Halt} → Needs (k + 1) c a o b → choice_of o ≡ goes true → Block (k + 1) body b (halt h) d → Runs k (while_tree c body) a (halt h) d
    run_while_done : {k : ℕ} {c : Tree} {body : Trees} {a b : At} {o : End} → Needs (k + 1) c a o b → choice_of o ≡ goes false → Runs k (while_tree c body) a (value null) b
    run_while_ends : {k : ℕ} {c : Tree} {body : Trees} {a b : At} {o p : End} → Needs (k + 1) c a o b → choice_of o ≡ ends p → Runs k (while_tree c body) a p b
    run_for : {k : ℕ} {p : Pattern} {e : Tree} {body : Trees} {a b d : At} {o q : End} {vs : Vals} → Needs (k + 1) e a o b → listing_of o ≡ listed vs → Each (k + 1) p body vs b q d → Runs k (for_tree p e body) a q d
    run_for_ends : {k : ℕ} {p : Pattern} {e : Tree} {body : Trees} {a b : At} {o q : End} → Needs (k + 1) e a o b → listing_of o ≡ unlisted q → Runs k (for_tree p e body) a q b
    run_try : {k : ℕ} {body : Trees} {p : Pattern} {handler : Trees} {a b : At} {o : End} → Block (k + 1) body a o b → caught o ≡ None → Runs k (try_tree body p handler) a o b
    run_try_caught : {k : ℕ} {body : Trees} {p : Pattern} {handler : Trees} {a b d : At} {o q : End} {problem : Name} → Block (k + 1) body a o b → caught o ≡ Some problem → Taking (k + 1) p (text problem) handler b q d → Runs k (try_tree body p handler) a q d
    run_object : {k : ℕ} {p : Pattern} {ms : Methods} {a : At} → Runs k (object_tree p ms) a (object_end (capture_of p ms a) a) (with_object p ms (capture_of p ms a) (capturing p ms a))
    run_escape : {k : ℕ} {x : Name} {body : Trees} {a b : At} {o : End} → Taking (k + 1) (pattern.Name x) (ejector (next_ejector a)) body (escaping a) o b → Runs k (escape_tree x body) a (escape_end (next_ejector a) o) (escaped a b)
    run_when : {k : ℕ} {e : Tree} {body : Trees} {a b : At} {o : End} → Ends (k + 1) e a o b → Runs k (when_tree e body) a (when_end body None o b) (when_made body None o b)
    run_when_catch : {k : ℕ} {e : Tree} {body : Trees} {p : Pattern} {handler : Trees} {a b : At} {o : End} → Ends (k + 1) e a o b
        → Runs k (when_catch_tree e body p handler) a (when_end body (Some (record { pattern = p; block = handler })) o b) (when_made body (Some (record { pattern = p; block = handler })) o b)
    run_new_promise : {k : ℕ} {a : At} → Runs k new_promise a (pair_end (given_by (promise_pair a) a) a) (pair_out (given_by (promise_pair a) a) (behind (promise_pair a) a))

  -- the same where a datum is wanted: the end in the vat of the value that the tree gives
  pub data Needs : ℕ → Tree → At → End → At → Type 0 where
    needs : {k : ℕ} {t : Tree} {a b : At} {o : End} → Ends k t a o b → Needs k t a (datum_of o b) (datum_read o b)

  -- trees from left to right, as arguments or as the items of a list
  pub data Args : ℕ → Trees → At → Gather → At → Type 0 where
    args_none : {k : ℕ} {a : At} → Args k none a (values no_vals) a
    args_next : {k : ℕ} {t : Tree} {ts : Trees} {a b c : At} {v : Val} {g : Gather} → Ends k t a (value v) b → Args k ts b g c → Args k (and_then t ts) a (gather_first v g) c
    args_halt : {k : ℕ} {t : Tree} {ts : Trees} {a b : At} {h : Halt} → Ends k t a (halt h) b → Args k (and_then t ts) a (halted h) b

  -- the items of a block in order, where the last value so far is v
  pub data Items : ℕ → Val → Trees → At → End → At → Type 0 where
    items_none : {k : ℕ} {v : Val} {a : At} → Items k v none a (value v) a
    items_next : {k : ℕ} {v w : Val} {t : Tree} {ts : Trees} {a b c : At} {o : End} → Ends k t a (value w) b → Items k w ts b o c → Items k v (and_then t ts) a o c
    items_halt : {k : ℕ} {v : Val} {t : Tree} {ts : Trees} {a b : At} {h : Halt} → Ends k t a (halt h) b → Items k v (and_then t ts) a (halt h) b

  -- a block, in a scope of its own
  pub data Block : ℕ → Trees → At → End → At → Type 0 where
    in_block : {k : ℕ} {ts : Trees} {a b : At} {o : End} → Items k null ts (entering a) o b → Block k ts a o (leaving a b)

  -- a block that takes a value: its pattern is bound first, in the block's own scope
  pub data Taking : ℕ → Pattern → Val → Trees → At → End → At → Type 0 where
    in_taking : {k : ℕ} {p : Pattern} {v : Val} {ts : Trees} {a b : At} {o : End} → Items k null ts (matched p v (entering a)) o b → Taking k p v ts a o (leaving a b)

  -- a block that takes each of the values from the left, to the first that halts it
  pub data Each : ℕ → Pattern → Trees → Vals → At → End → At → Type 0 where
    each_none : {k : ℕ} {p : Pattern} {ts : Trees} {a : At} → Each k p ts no_vals a (value null) a
    each_next : {k : ℕ} {p : Pattern} {ts : Trees} {v w : Val} {vs : Vals} {a b c : At} {o : End} → Taking k p v ts a (value w) b → Each k p ts vs b o c → Each k p ts (and_val v vs) a o c
    each_halt : {k : ℕ} {p : Pattern} {ts : Trees} {v : Val} {vs : Vals} {a b : At} {h : Halt} → Taking k p v ts a (halt h) b → Each k p ts (and_val v vs) a (halt h) b
