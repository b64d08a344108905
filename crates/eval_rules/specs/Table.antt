-- The table of what an evaluation touches and writes: the cells of each node, beside those of its parts.
use Rattle.std.specs.Prelude.{ℕ, Bool, true, false, Option, Some, None, List, [], ◌∷◌, cond, codes}
use Rattle.std.specs.Str.{bytes_eq}
use Rattle.ids.specs.declared.names.PromId.{PromId}
use Rattle.kernele.specs.Tree.{Name, Tree, Trees, Methods}
use Rattle.kernele.specs.declared.tree.Pattern.{Pattern}
use Rattle.kernele.specs.declared.tree.Pattern.TheVariants as pattern
use Rattle.kernele_scopes.specs.Free.{captures}
use Rattle.values.specs.Data.{Val, Vals, no_vals, and_val}
use Rattle.values.specs.Wanted.{wants_datum}
use Rattle.heap.specs.State.{lookup, Bind, top, slot_cell, object_cell, State}
use Rattle.post.specs.Delivery.{Handler}
use Rattle.refs.specs.Walks.{Resolutions, followed}
use Rattle.refs.specs.Settling.{settling}
use Rattle.sends.specs.Making.{Making, Published}
use Rattle.sends.specs.Playing.{views_in}
use Rattle.sends.specs.Table.{Foot, Goes, no_foot, looks, changes, both, of_each, of_any, where_room, end_taken, form_taken, send_touches, when_touches, pair_touches, resolve_touches, smash_touches}
use Rattle.eval_rules.specs.At.{At}
use Rattle.eval_rules.specs.Doings.{under, given_by, datum_of, next_promise, has_message_room, next_object, has_object_room, send_of}
use Rattle.eval_rules.specs.Outcomes.{End, value, halt, Gather, values, halted}
use Rattle.eval_rules.specs.Rules.{sought, sought_slot, next_slot, has_room, Listing, listed, unlisted, parts_of, Capture, captured, missing, capture_of, handled_names, when_capture, Callee, on_object, on_ejector, on_datum, on_far, callee_of, called}
use Rattle.eval_rules.specs.Rules.{Ends, at_budget, at_depth, at_node, Runs, run_null, run_bool, run_int, run_text, run_noun, run_define, run_variable, run_assign, run_call_receiver, run_call_gives, run_call_enters, run_call_uses, run_send_receiver, run_send, run_list, run_same_left, run_same, run_define_list, run_hide, run_primitive, run_if_goes, run_if_ends, run_while_again, run_while_halts, run_while_done, run_while_ends, run_for, run_for_ends, run_try, run_try_caught, run_object, run_escape, run_when, run_when_catch, run_new_promise, Needs, needs, Args, args_none, args_next, args_halt, Items, items_none, items_next, items_halt, Block, in_block, Taking, in_taking, Each, each_none, each_next, each_halt}

-- from one place to another just the cells of a foot were touched, beside what was touched before, and just those were written
abbrev pub Leads : Foot → At → At → Type 0
Leads f a b = Goes f (under a) (under b)

-- what promises are resolved to at a place
abbrev pub views_at : At → Resolutions
views_at a = views_in a.state

-- the cells of what is done with a value; where there is none nothing is done
abbrev pub of_value : (Val → Foot) → End → Foot
of_value f (value v) = f v
of_value f (halt h) = no_foot

abbrev pub of_values : (Vals → Foot) → Gather → Foot
of_values f (values vs) = f vs
of_values f (halted h) = no_foot

abbrev pub of_listed : Foot → Listing → Foot
of_listed f (listed vs) = f
of_listed f (unlisted o) = no_foot

abbrev pub of_captured : Foot → Capture → Foot
of_captured f (captured ns) = f
of_captured f (missing x) = no_foot

-- ---- names

-- the Top of a name that stands for nothing in the scopes
abbrev pub top_of : Name → Option Bind → Foot
top_of x (Some b) = no_foot
top_of x None = looks (top x ∷ [])

-- a name is sought
abbrev pub name_sought : Name → At → Foot
name_sought x a = top_of x (lookup a.nouns x)

-- a noun is evaluated: it is sought, and the Slot that it stands for is looked at
abbrev pub noun_evaluated : Name → At → Foot
noun_evaluated x a = both (name_sought x a) (of_any (λ i. looks (slot_cell i ∷ [])) (sought_slot x a))

-- it is assigned: the Slot is written
abbrev pub noun_assigned : Name → At → Foot
noun_assigned x a = both (name_sought x a) (of_any (λ i. changes (slot_cell i)) (sought_slot x a))

-- a name is bound: the script's own scope binds Tops
abbrev pub name_bound : Bool → Name → Foot
name_bound true x = changes (top x)
name_bound false x = no_foot

-- so does a pattern that has a name
abbrev pub pattern_bound : Bool → Pattern → Foot
pattern_bound own (pattern.Name x) = name_bound own x
pattern_bound own pattern.Ignore = no_foot

-- a variable is made, where there is room: its Slot is written, and its name is bound
abbrev pub variable_touches : Name → At → Foot
variable_touches x a = where_room (has_room a) (both (changes (slot_cell (next_slot a))) (name_bound a.own_scope x))

-- names are captured from the left, up to the first that stands for nothing: each is sought
abbrev pub names_captured : List Name → At → Foot
names_captured [] a = no_foot
names_captured (x ∷ xs) a = both (name_sought x a) (of_any (λ b. names_captured xs a) (sought x a))

-- ---- objects and calls

-- an object is made, where there is room: its names are captured, its Object is written, and its own name is bound
abbrev pub object_touches : Pattern → Methods → At → Foot
object_touches p ms a =
    both (names_captured (captures p ms) a)
    (of_captured (where_room (has_object_room a) (both (changes (object_cell (next_object a))) (pattern_bound a.own_scope p))) (capture_of p ms a))

-- a verb of data takes the end of its argument where it wants a datum
abbrev pub data_touches : Resolutions → Val → Name → Vals → Foot
data_touches m v verb (and_val w no_vals) = cond (wants_datum v verb) (end_taken m w) no_foot
data_touches m v verb vs = no_foot

-- a call finds an own object, whether that has the method or not
abbrev pub callee_touches : Resolutions → Callee → Val → Name → Vals → Foot
callee_touches m (on_object i) v verb vs = looks (object_cell i ∷ [])
callee_touches m (on_ejector j) v verb vs = no_foot
callee_touches m on_datum v verb vs = data_touches m v verb vs
callee_touches m on_far v verb vs = no_foot

-- it is made on the end of its receiver
abbrev pub call_touches : Val → Name → Vals → At → Foot
call_touches v verb vs a = both (end_taken (views_at a) v) (callee_touches (views_at a) (callee_of a.vat (followed (views_at a) v)) (followed (views_at a) v) verb vs)

-- a resolver resolves its promise, or breaks it
abbrev pub resolver_touches : State → PromId → Name → Vals → Making Published → Foot
resolver_touches s p verb (and_val v no_vals) m = cond (bytes_eq verb (codes "resolve")) (resolve_touches s p v m) (smash_touches s p v m)
resolver_touches s p verb vs m = no_foot

-- ---- references

-- whether two values are the same: the settled form of the left one is taken, and where it has one that of the right one
abbrev pub same_touches : Resolutions → Val → Val → Foot
same_touches m v w = both (form_taken m v) (of_any (λ x. form_taken m w) (settling m v).settled)

-- a when is made once its names are captured
abbrev pub when_made_touches : Trees → Option Handler → Val → At → Foot
when_made_touches body handler v a =
    both (names_captured (handled_names body handler) a) (of_captured (when_touches a.state (has_message_room a) (next_promise a a.vat) v) (when_capture body handler a))

-- ---- trees

abbrev mutual
  -- the cells of a tree: without a step left there are none, and at too deep a level neither
  pub foot : {k : ℕ} {t : Tree} {a b : At} {o : End} → Ends k t a o b → Foot
  foot (at_budget h) = no_foot
  foot (at_depth h g) = no_foot
  foot (at_node h g r) = foot_below r

  -- those of a node, behind those of its parts
  pub foot_below : {k : ℕ} {t : Tree} {a b : At} {o : End} → Runs k t a o b → Foot
  foot_below run_null = no_foot
  foot_below run_bool = no_foot
  foot_below run_int = no_foot
  foot_below run_text = no_foot
  foot_below (run_noun {x = x} {a = a}) = noun_evaluated x a
  foot_below (run_define {p = p} {b = b} {o = o} r) = both (foot r) (of_value (λ v. pattern_bound b.own_scope p) o)
  foot_below (run_variable {x = x} {b = b} {o = o} r) = both (foot r) (of_value (λ v. variable_touches x b) o)
  foot_below (run_assign {x = x} {b = b} {o = o} r) = both (foot r) (of_value (λ v. noun_assigned x b) o)
  foot_below (run_call_receiver r) = foot r
  foot_below (run_call_gives {verb = verb} {c = c} {v = v} {g = g} r u e) = both (foot r) (both (foot_of_args u) (of_values (λ vs. call_touches v verb vs c) g))
  foot_below (run_call_enters {verb = verb} {c = c} {v = v} {g = g} r u e q) = both (foot r) (both (foot_of_args u) (both (of_values (λ vs. call_touches v verb vs c) g) (foot_of_items q)))
  foot_below (run_call_uses {verb = verb} {c = c} {v = v} {g = g} {p = p} {d = d} r u e) =
      both (foot r) (both (foot_of_args u) (of_values (λ vs. both (call_touches v verb vs c) (resolver_touches c.state p verb vs (given_by d (called v verb g c)))) g))
  foot_below (run_send_receiver r) = foot r
  foot_below (run_send {c = c} {v = v} {g = g} r u) = both (foot r) (both (foot_of_args u) (of_values (λ vs. send_touches c.state v vs (given_by (send_of v vs c) c)) g))
  foot_below (run_list u) = foot_of_args u
  foot_below (run_same_left r) = foot r
  foot_below (run_same {c = c} {v = v} {o = o} r u) = both (foot r) (both (foot u) (of_value (same_touches (views_at c) v) o))
  foot_below (run_define_list {ps = ps} {b = b} {o = o} r) = both (foot r) (both (of_value (end_taken (views_at b)) o) (of_listed (of_each (pattern_bound b.own_scope) ps) (parts_of ps (datum_of o b))))
  foot_below (run_hide q) = foot_of_block q
  foot_below (run_primitive r) = foot_of_datum r
  foot_below (run_if_goes r e q) = both (foot_of_datum r) (foot_of_block q)
  foot_below (run_if_ends r e) = foot_of_datum r
  foot_below (run_while_again r e q w) = both (foot_of_datum r) (both (foot_of_block q) (foot_below w))
  foot_below (run_while_halts r e q) = both (foot_of_datum r) (foot_of_block q)
  foot_below (run_while_done r e) = foot_of_datum r
  foot_below (run_while_ends r e) = foot_of_datum r
  foot_below (run_for r e q) = both (foot_of_datum r) (foot_of_each q)
  foot_below (run_for_ends r e) = foot_of_datum r
  foot_below (run_try q e) = foot_of_block q
  foot_below (run_try_caught q e w) = both (foot_of_block q) (foot_of_taking w)
  foot_below (run_object {p = p} {ms = ms} {a = a}) = object_touches p ms a
  foot_below (run_escape q) = foot_of_taking q
  foot_below (run_when {body = body} {b = b} {o = o} r) = both (foot r) (of_value (λ v. when_made_touches body None v b) o)
  foot_below (run_when_catch {body = body} {p = p} {handler = handler} {b = b} {o = o} r) = both (foot r) (of_value (λ v. when_made_touches body (Some (record { pattern = p; block = handler })) v b) o)
  foot_below (run_new_promise {a = a}) = pair_touches a.state (has_object_room a) (next_promise a a.vat) (next_object a)

  -- where a datum is wanted, the end of the value is taken
  pub foot_of_datum : {k : ℕ} {t : Tree} {a b : At} {o : End} → Needs k t a o b → Foot
  foot_of_datum (needs {b = b} {o = o} r) = both (foot r) (of_value (end_taken (views_at b)) o)

  pub foot_of_args : {k : ℕ} {ts : Trees} {a b : At} {g : Gather} → Args k ts a g b → Foot
  foot_of_args args_none = no_foot
  foot_of_args (args_next r u) = both (foot r) (foot_of_args u)
  foot_of_args (args_halt r) = foot r

  pub foot_of_items : {k : ℕ} {v : Val} {ts : Trees} {a b : At} {o : End} → Items k v ts a o b → Foot
  foot_of_items items_none = no_foot
  foot_of_items (items_next r u) = both (foot r) (foot_of_items u)
  foot_of_items (items_halt r) = foot r

  -- a block's own names are no Tops
  pub foot_of_block : {k : ℕ} {ts : Trees} {a b : At} {o : End} → Block k ts a o b → Foot
  foot_of_block (in_block r) = foot_of_items r

  pub foot_of_taking : {k : ℕ} {p : Pattern} {v : Val} {ts : Trees} {a b : At} {o : End} → Taking k p v ts a o b → Foot
  foot_of_taking (in_taking r) = foot_of_items r

  pub foot_of_each : {k : ℕ} {p : Pattern} {ts : Trees} {vs : Vals} {a b : At} {o : End} → Each k p ts vs a o b → Foot
  foot_of_each each_none = no_foot
  foot_of_each (each_next r u) = both (foot_of_taking r) (foot_of_each u)
  foot_of_each (each_halt r) = foot_of_taking r
