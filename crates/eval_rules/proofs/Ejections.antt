-- A value on its way to an Escape leaves only what is evaluated inside that Escape.
use Rattle.std.proofs.Common.{◌≡◌, ℕ, List, ◌∷◌, Bool, true, false, Option, Some, None, cond, refl, sym, ap, ◌∙◌, subst}
use Rattle.std.specs.Prelude.{codes}
use Rattle.std.specs.Str.{bytes_eq}
use Rattle.ids.specs.declared.names.EjId.{EjId}
use Rattle.ids.specs.declared.names.ObjId.{ObjId}
use Rattle.ids.specs.declared.names.SlotId.{SlotId}
use Rattle.kernele.specs.Tree.{Name, Tree, Trees}
use Rattle.kernele.specs.declared.tree.Primitive.{Primitive}
use Rattle.kernele.specs.declared.tree.Primitive.TheVariants as primitives
use Rattle.kernele.specs.declared.tree.Pattern.{Pattern}
use Rattle.values.specs.Data.{Val, null, bool, int, text, list, object, ejector, promise, broken, Vals, Reply, gives as gives_reply, throws, no_vals, and_val}
use Rattle.values.specs.Replies.{list_reply, text_reply, text_in, items_in, no_method}
use Rattle.heap.specs.State.{Bind, fixed, slot, Plain, slot_cell, object_cell, Content, bound, held, made, viewed, fenced, State, read, plain, resolver}
use Rattle.eval_rules.specs.At.{At}
use Rattle.eval_rules.specs.Outcomes.{thrown, ejected, abandoned, End, value, halt, Gather, values, halted, reply_end}
use Rattle.eval_rules.specs.Rules.{sought, sought_slot, held_end, noun_end, mismatch, Listing, listed, unlisted, listing_by, listing_of, taken, parts_of, parts_end, has_room, variable_end, declared_end, assigned_end, gather_first, uses, receiver, receiver_read, resolver_target, on_far, when_end, when_capture, when_capturing, waited_end, broken_by, called}
use Rattle.eval_rules.specs.Rules.{Capture, captured, missing, capture_of, placed_end, object_end, Target, gives, enters, method_in, no_such_method, method_target, object_target, same_ejector, is_open, ejects, given, ejection, Callee, on_object, on_ejector, on_datum, callee_of, callee_target, target_of, next_ejector, escape_end}
use Rattle.eval_rules.specs.Rules.{list_end, Choice, goes, ends, bool_in, choice_by, choice_of, thrown_by, made_of, primitive_end, entering, Ends, at_budget, at_depth, at_node, Runs, run_null, run_bool, run_int, run_text, run_noun, run_define, run_variable, run_assign, run_call_receiver, run_call_gives, run_call_enters, run_call_uses, run_send_receiver, run_send, run_list, run_same_left, run_same, run_define_list, run_hide, run_primitive, run_if_goes, run_if_ends, run_while_again, run_while_halts, run_while_done, run_while_ends, run_for, run_for_ends, run_try, run_try_caught, run_object, run_escape, run_when, run_when_catch, run_new_promise, Needs, needs, Args, args_none, args_next, args_halt, Items, items_none, items_next, items_halt, Block, in_block, Taking, in_taking, Each, each_none, each_next, each_halt}
use Rattle.eval_rules.proofs.Opened.{ends_opened, args_opened, block_opened, taking_opened, matched_opened, needs_opened}
use Rattle.eval_rules.specs.Doings.{has_object_room, same_end, same_forms, sent_end, send_end, send_of, refusal_end, wait_end, wait_of, datum_of, data_of, given_by, resolver_end, promise_pair, pair_end, both_settled}
use Rattle.eval_rules.proofs.Doings.{called_works}
use Rattle.post.specs.Delivery.{Handler}
use Rattle.sends.specs.Making.{Refusal, problem as a_problem, turn_too_large, Making, refused, makes, Sent, Published, resolving, smashing}
use Rattle.ids.specs.declared.names.VatNo.{VatNo}
use Rattle.ids.specs.declared.names.PromId.{PromId}
use Rattle.values.specs.Promises.{same_reply}

-- an end that is an ejection is of one of these ejectors
abbrev pub Inside : End → List EjId → Type 0
Inside (value v) js = Unit {0}
Inside (halt (thrown problem)) js = Unit {0}
Inside (halt (ejected j v)) js = is_open j js ≡ true
Inside (halt (abandoned why)) js = Unit {0}

abbrev pub GatherInside : Gather → List EjId → Type 0
GatherInside (values vs) js = Unit {0}
GatherInside (halted h) js = Inside (halt h) js

abbrev ListingInside : Listing → List EjId → Type 0
ListingInside (listed vs) js = Unit {0}
ListingInside (unlisted o) js = Inside o js

abbrev ChoiceInside : Choice → List EjId → Type 0
ChoiceInside (goes q) js = Unit {0}
ChoiceInside (ends o) js = Inside o js

abbrev pub TargetInside : Target → List EjId → Type 0
TargetInside (gives o) js = Inside o js
TargetInside (enters ns body) js = Unit {0}
TargetInside (uses p d) js = Unit {0}

-- ---- what is made of the ends of parts

reply_inside : (r : Reply) (js : List EjId) → Inside (reply_end r) js
reply_inside (gives_reply v) js = tt
reply_inside (throws problem) js = tt

held_inside : (x : Name) (c : Option Content) (js : List EjId) → Inside (held_end x c) js
held_inside x (Some (bound b)) js = tt
held_inside x (Some (held v)) js = tt
held_inside x (Some (made o)) js = tt
held_inside x (Some (viewed k)) js = tt
held_inside x (Some (fenced names)) js = tt
held_inside x None js = tt

noun_inside : (s : State) (x : Name) (m : Option Bind) (js : List EjId) → Inside (noun_end s x m) js
noun_inside s x (Some (fixed v)) js = tt
noun_inside s x (Some (slot i)) js = held_inside x (read s (slot_cell i)) js
noun_inside s x None js = tt

mismatch_inside : (words : Name) (v : Val) (js : List EjId) → Inside (mismatch words v) js
mismatch_inside words null js = tt
mismatch_inside words (bool b) js = tt
mismatch_inside words (int z) js = tt
mismatch_inside words (text s) js = tt
mismatch_inside words (list vs) js = tt
mismatch_inside words (object i) js = tt
mismatch_inside words (ejector j) js = tt
mismatch_inside words (promise p) js = tt
mismatch_inside words (broken problem) js = tt

variable_inside : (room : Bool) (v : Val) (js : List EjId) → Inside (variable_end room v) js
variable_inside true v js = tt
variable_inside false v js = tt

declared_inside : (o : End) (a : At) (js : List EjId) → Inside o js → Inside (declared_end o a) js
declared_inside (value v) a js h = variable_inside (has_room a) v js
declared_inside (halt i) a js h = h

assigned_inside : (x : Name) (o : End) (m : Option SlotId) (js : List EjId) → Inside o js → Inside (assigned_end x o m) js
assigned_inside x (value v) (Some i) js h = tt
assigned_inside x (value v) None js h = tt
assigned_inside x (halt i) m js h = h

list_inside : (g : Gather) (js : List EjId) → GatherInside g js → Inside (list_end g) js
list_inside (values vs) js h = reply_inside (list_reply vs) js
list_inside (halted i) js h = h

first_inside : (v : Val) (g : Gather) (js : List EjId) → GatherInside g js → GatherInside (gather_first v g) js
first_inside v (values vs) js h = tt
first_inside v (halted i) js h = h

refusal_inside : (why : Refusal) (js : List EjId) → Inside (refusal_end why) js
refusal_inside (a_problem words) js = tt
refusal_inside turn_too_large js = tt

forms_inside : (m : Making (Val × Val)) (js : List EjId) → Inside (same_forms m) js
forms_inside (refused why) js = refusal_inside why js
forms_inside (makes p) js = reply_inside (same_reply p.0 p.1) js

same_inside : (v : Val) (o : End) (a : At) (js : List EjId) → Inside o js → Inside (same_end v o a) js
same_inside v (value w) a js h = forms_inside (given_by (both_settled v w) a) js
same_inside v (halt i) a js h = h

sends_inside : (m : Making Sent) (js : List EjId) → Inside (send_end m) js
sends_inside (refused why) js = refusal_inside why js
sends_inside (makes s) js = tt

sent_inside : (v : Val) (g : Gather) (a : At) (js : List EjId) → GatherInside g js → Inside (sent_end v g a) js
sent_inside v (values vs) a js h = sends_inside (given_by (send_of v vs a) a) js
sent_inside v (halted i) a js h = h

waits_inside : (m : Making PromId) (a : At) (js : List EjId) → Inside (wait_end m a) js
waits_inside (refused why) a js = refusal_inside why js
waits_inside (makes p) a js = tt

waited_inside : (c : Capture) (v : Val) (a : At) (js : List EjId) → Inside (waited_end c v a) js
waited_inside (captured ns) v a js = waits_inside (given_by (wait_of v a) a) a js
waited_inside (missing x) v a js = tt

when_inside : (body : Trees) (handler : Option Handler) (o : End) (a : At) (js : List EjId) → Inside o js → Inside (when_end body handler o a) js
when_inside body handler (value v) a js h = waited_inside (when_capture body handler a) v (when_capturing body handler a) js
when_inside body handler (halt i) a js h = h

pair_inside : (m : Making ObjId) (a : At) (js : List EjId) → Inside (pair_end m a) js
pair_inside (refused why) a js = refusal_inside why js
pair_inside (makes n) a js = tt

pub used_inside : (m : Making Published) (js : List EjId) → Inside (resolver_end m) js
used_inside (refused why) js = refusal_inside why js
used_inside (makes b) js = tt

datum_inside : (o : End) (a : At) (js : List EjId) → Inside o js → Inside (datum_of o a) js
datum_inside (value v) a js h = tt
datum_inside (halt i) a js h = h

listing_inside : (words : Name) (v : Val) (m : Option Vals) (js : List EjId) → ListingInside (listing_by words v m) js
listing_inside words v (Some vs) js = tt
listing_inside words v None js = mismatch_inside words v js

gone_inside : (o : End) (js : List EjId) → Inside o js → ListingInside (listing_of o) js
gone_inside (value v) js h = listing_inside (codes "not a list") v (items_in v) js
gone_inside (halt i) js h = h

parts_inside : (o : End) (l : Listing) (js : List EjId) → Inside o js → ListingInside l js → Inside (parts_end o l) js
parts_inside o (listed vs) js h g = h
parts_inside o (unlisted p) js h g = g

wanted_inside : (ps : List Pattern) (o : End) (js : List EjId) → Inside o js → ListingInside (parts_of ps o) js
wanted_inside ps (value v) js h = listing_inside (codes "wrong list") v (taken ps (items_in v)) js
wanted_inside ps (halt i) js h = h

choice_inside : (v : Val) (m : Option Bool) (js : List EjId) → ChoiceInside (choice_by v m) js
choice_inside v (Some q) js = tt
choice_inside v None js = mismatch_inside (codes "not a truth value") v js

tested_inside : (o : End) (js : List EjId) → Inside o js → ChoiceInside (choice_of o) js
tested_inside (value v) js h = choice_inside v (bool_in v) js
tested_inside (halt i) js h = h

problem_inside : (v : Val) (m : Option Name) (js : List EjId) → Inside (thrown_by v m) js
problem_inside v (Some problem) js = tt
problem_inside v None js = mismatch_inside (codes "not a text") v js

breaks_inside : (v : Val) (m : Option Name) (js : List EjId) → Inside (broken_by v m) js
breaks_inside v (Some problem) js = tt
breaks_inside v None js = mismatch_inside (codes "not a text") v js

made_inside : (q : Primitive) (here : VatNo) (v : Val) (js : List EjId) → Inside (made_of q here v) js
made_inside primitives.Throw here v js = problem_inside v (text_in v) js
made_inside primitives.BreakRef here v js = breaks_inside v (text_in v) js
made_inside primitives.StateRef here v js = tt

primitive_inside : (o : End) (here : VatNo) (q : Primitive) (js : List EjId) → Inside o js → Inside (primitive_end o here q) js
primitive_inside (value v) here q js h = made_inside q here v js
primitive_inside (halt i) here q js h = h

placed_inside : (room : Bool) (a : At) (js : List EjId) → Inside (placed_end room a) js
placed_inside true a js = tt
placed_inside false a js = tt

object_inside : (c : Capture) (a : At) (js : List EjId) → Inside (object_end c a) js
object_inside (captured ns) a js = placed_inside (has_object_room a) a js
object_inside (missing x) a js = tt

-- an ejector that works is one whose Escape is being evaluated
ejects_inside : (q : Bool) (j : EjId) (v : Val) (js : List EjId) → is_open j js ≡ q → Inside (ejects q j v) js
ejects_inside true j v js h = h
ejects_inside false j v js h = tt

ejection_inside : (j : EjId) (js : List EjId) (verb : Name) (vs : Vals) (m : Option Val) → Inside (ejection j js verb vs m) js
ejection_inside j js verb vs (Some v) = ejects_inside (is_open j js) j v js refl
ejection_inside j js verb vs None = reply_inside (no_method verb vs) js

one_of : (q : Bool) (o p : End) (js : List EjId) → Inside o js → Inside p js → Inside (cond q o p) js
one_of true o p js h g = h
one_of false o p js h g = g

method_inside : (i : ObjId) (o : Plain) (verb : Name) (vs : Vals) (m : Option (List Pattern × Trees)) (js : List EjId) → TargetInside (method_target i o verb vs m) js
method_inside i o verb vs (Some m) js = tt
method_inside i o verb vs None js = reply_inside (no_method verb vs) js

either_inside : (q : Bool) (t u : Target) (js : List EjId) → TargetInside t js → TargetInside u js → TargetInside (cond q t u) js
either_inside true t u js h g = h
either_inside false t u js h g = g

resolver_inside : (p : PromId) (verb : Name) (vs : Vals) (js : List EjId) → TargetInside (resolver_target p verb vs) js
resolver_inside p verb no_vals js = reply_inside (no_method verb no_vals) js
resolver_inside p verb (and_val v no_vals) js =
    let other : Target = gives (no_such_method verb (and_val v no_vals)) in
    let smash : Target = cond (bytes_eq verb (codes "smash")) (uses p (smashing p v)) other in
    either_inside (bytes_eq verb (codes "resolve")) (uses p (resolving p v)) smash js tt
    (either_inside (bytes_eq verb (codes "smash")) (uses p (smashing p v)) other js tt (reply_inside (no_method verb (and_val v no_vals)) js))
resolver_inside p verb (and_val v (and_val w vs)) js = reply_inside (no_method verb (and_val v (and_val w vs))) js

called_inside : (i : ObjId) (c : Option Content) (verb : Name) (vs : Vals) (js : List EjId) → TargetInside (object_target i c verb vs) js
called_inside i (Some (made (plain o))) verb vs js = method_inside i o verb vs (method_in o.methods verb vs) js
called_inside i (Some (made (resolver p))) verb vs js = resolver_inside p verb vs js
called_inside i (Some (bound b)) verb vs js = reply_inside (no_method verb vs) js
called_inside i (Some (held v)) verb vs js = reply_inside (no_method verb vs) js
called_inside i (Some (viewed k)) verb vs js = reply_inside (no_method verb vs) js
called_inside i (Some (fenced names)) verb vs js = reply_inside (no_method verb vs) js
called_inside i None verb vs js = reply_inside (no_method verb vs) js

callee_inside : (m : Callee) (v : Val) (verb : Name) (vs : Vals) (a : At) → TargetInside (callee_target m v verb vs a) a.opened
callee_inside (on_object i) v verb vs a = called_inside i (read a.state (object_cell i)) verb vs a.opened
callee_inside (on_ejector j) v verb vs a =
    one_of (bytes_eq verb (codes "run")) (ejection j a.opened verb vs (given vs)) (no_such_method verb vs) a.opened
    (ejection_inside j a.opened verb vs (given vs)) (reply_inside (no_method verb vs) a.opened)
callee_inside on_datum v verb vs a = reply_inside (given_by (data_of v verb vs) a) a.opened
callee_inside on_far v verb vs a = tt

pub target_inside : (v : Val) (verb : Name) (g : Gather) (a : At) → GatherInside g a.opened → TargetInside (target_of v verb g a) a.opened
target_inside v verb (values vs) a h = callee_inside (callee_of a.vat (receiver v a)) (receiver v a) verb vs (receiver_read v a)
target_inside v verb (halted i) a h = h

-- of an Escape's own ejector no value goes on
own_inside : (q : Bool) (i : EjId) (v : Val) (js : List EjId) → cond q true (is_open i js) ≡ true → Inside (cond q (value v) (halt (ejected i v))) js
own_inside true i v js h = tt
own_inside false i v js h = h

escape_inside : (j : EjId) (o : End) (js : List EjId) → Inside o (j ∷ js) → Inside (escape_end j o) js
escape_inside j (value v) js h = tt
escape_inside j (halt (thrown problem)) js h = tt
escape_inside j (halt (ejected i v)) js h = own_inside (same_ejector j i) i v js h
escape_inside j (halt (abandoned why)) js h = tt

-- ---- the rules

-- what holds of the Escapes after another part
pub carried : (o : End) {is js : List EjId} → is ≡ js → Inside o is → Inside o js
carried o e h = subst (λ ks. Inside o ks) e h

gather_carried : (g : Gather) {is js : List EjId} → is ≡ js → GatherInside g is → GatherInside g js
gather_carried g e h = subst (λ ks. GatherInside g ks) e h

target_carried : (js : List EjId) {t : Target} {o : End} → t ≡ gives o → TargetInside t js → Inside o js
target_carried js e h = subst (λ u. TargetInside u js) e h

choice_carried : (js : List EjId) {c : Choice} {o : End} → c ≡ ends o → ChoiceInside c js → Inside o js
choice_carried js e h = subst (λ d. ChoiceInside d js) e h

listing_carried : (js : List EjId) {l : Listing} {o : End} → l ≡ unlisted o → ListingInside l js → Inside o js
listing_carried js e h = subst (λ m. ListingInside m js) e h

mutual
  pub ends_inside : {k : ℕ} {t : Tree} {a b : At} {o : End} → Ends k t a o b → Inside o a.opened
  ends_inside (at_budget h) = tt
  ends_inside (at_depth h g) = tt
  ends_inside (at_node h g r) = runs_inside r

  pub runs_inside : {k : ℕ} {t : Tree} {a b : At} {o : End} → Runs k t a o b → Inside o a.opened
  runs_inside run_null = tt
  runs_inside run_bool = tt
  runs_inside run_int = tt
  runs_inside (run_text {s = s} {a = a}) = reply_inside (text_reply s) a.opened
  runs_inside (run_noun {x = x} {a = a}) = noun_inside a.state x (sought x a) a.opened
  runs_inside (run_define r) = ends_inside r
  runs_inside (run_variable {a = a} {b = b} {o = o} r) = declared_inside o b a.opened (ends_inside r)
  runs_inside (run_assign {x = x} {a = a} {b = b} {o = o} r) = assigned_inside x o (sought_slot x b) a.opened (ends_inside r)
  runs_inside (run_call_receiver r) = ends_inside r
  runs_inside (run_call_gives {verb = verb} {c = c} {v = v} {g = g} {o = o} r u e) =
      carried o (args_opened u ∙ ends_opened r) (target_carried c.opened e (target_inside v verb g c (gather_carried g (sym (args_opened u)) (args_inside u))))
  runs_inside (run_call_enters {verb = verb} {c = c} {v = v} {g = g} {o = o} r u e q) = carried o (ap (λ b. b.opened) (called_works v verb g c) ∙ (args_opened u ∙ ends_opened r)) (items_inside q)
  runs_inside (run_call_uses {verb = verb} {a = a} {c = c} {v = v} {g = g} {d = d} r u e) = used_inside (given_by d (called v verb g c)) a.opened
  runs_inside (run_send_receiver r) = ends_inside r
  runs_inside (run_send {a = a} {c = c} {v = v} {g = g} r u) = sent_inside v g c a.opened (gather_carried g (ends_opened r) (args_inside u))
  runs_inside (run_list {a = a} {g = g} r) = list_inside g a.opened (args_inside r)
  runs_inside (run_same_left r) = ends_inside r
  runs_inside (run_same {a = a} {c = c} {v = v} {o = o} r u) = same_inside v o c a.opened (carried o (ends_opened r) (ends_inside u))
  runs_inside (run_define_list {ps = ps} {a = a} {b = b} {o = o} r) = parts_inside o (parts_of ps (datum_of o b)) a.opened (ends_inside r) (wanted_inside ps (datum_of o b) a.opened (datum_inside o b a.opened (ends_inside r)))
  runs_inside (run_hide q) = block_inside q
  runs_inside (run_primitive {q = q} {a = a} {o = o} r) = primitive_inside o a.vat q a.opened (needs_inside r)
  runs_inside (run_if_goes {p = p} r e q) = carried p (needs_opened r) (block_inside q)
  runs_inside (run_if_ends {a = a} {o = o} r e) = choice_carried a.opened e (tested_inside o a.opened (needs_inside r))
  runs_inside (run_while_again {p = p} r e q w) = carried p (block_opened q ∙ needs_opened r) (runs_inside w)
  runs_inside (run_while_halts {h = h} r e q) = carried (halt h) (needs_opened r) (block_inside q)
  runs_inside (run_while_done r e) = tt
  runs_inside (run_while_ends {a = a} {o = o} r e) = choice_carried a.opened e (tested_inside o a.opened (needs_inside r))
  runs_inside (run_for {q = p} r e q) = carried p (needs_opened r) (each_inside q)
  runs_inside (run_for_ends {a = a} {o = o} r e) = listing_carried a.opened e (gone_inside o a.opened (needs_inside r))
  runs_inside (run_try q e) = block_inside q
  runs_inside (run_try_caught {q = p} q e w) = carried p (block_opened q) (taking_inside w)
  runs_inside (run_object {p = p} {ms = ms} {a = a}) = object_inside (capture_of p ms a) a a.opened
  runs_inside (run_escape {a = a} {o = o} q) = escape_inside (next_ejector a) o a.opened (taking_inside q)
  runs_inside (run_when {body = body} {a = a} {b = b} {o = o} r) = when_inside body None o b a.opened (ends_inside r)
  runs_inside (run_when_catch {body = body} {p = p} {handler = handler} {a = a} {b = b} {o = o} r) = when_inside body (Some (record { pattern = p; block = handler })) o b a.opened (ends_inside r)
  runs_inside (run_new_promise {a = a}) = pair_inside (given_by (promise_pair a) a) a a.opened

  pub needs_inside : {k : ℕ} {t : Tree} {a b : At} {o : End} → Needs k t a o b → Inside o a.opened
  needs_inside (needs {a = a} {b = b} {o = o} r) = datum_inside o b a.opened (ends_inside r)

  pub args_inside : {k : ℕ} {ts : Trees} {a b : At} {g : Gather} → Args k ts a g b → GatherInside g a.opened
  args_inside args_none = tt
  args_inside (args_next {a = a} {v = v} {g = g} r u) = first_inside v g a.opened (gather_carried g (ends_opened r) (args_inside u))
  args_inside (args_halt r) = ends_inside r

  pub items_inside : {k : ℕ} {v : Val} {ts : Trees} {a b : At} {o : End} → Items k v ts a o b → Inside o a.opened
  items_inside items_none = tt
  items_inside (items_next {o = o} r u) = carried o (ends_opened r) (items_inside u)
  items_inside (items_halt r) = ends_inside r

  pub block_inside : {k : ℕ} {ts : Trees} {a b : At} {o : End} → Block k ts a o b → Inside o a.opened
  block_inside (in_block r) = items_inside r

  pub taking_inside : {k : ℕ} {p : Pattern} {v : Val} {ts : Trees} {a b : At} {o : End} → Taking k p v ts a o b → Inside o a.opened
  taking_inside (in_taking {p = p} {v = v} {a = a} {o = o} r) = carried o (matched_opened p v (entering a)) (items_inside r)

  pub each_inside : {k : ℕ} {p : Pattern} {ts : Trees} {vs : Vals} {a b : At} {o : End} → Each k p ts vs a o b → Inside o a.opened
  each_inside each_none = tt
  each_inside (each_next {o = o} r u) = carried o (taking_opened r) (each_inside u)
  each_inside (each_halt r) = taking_inside r
