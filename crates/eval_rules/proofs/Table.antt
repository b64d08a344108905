-- An evaluation touches and writes by the table.
use Rattle.std.proofs.Common.{◌≡◌, ℕ, Bool, true, false, Option, Some, None, List, [], ◌∷◌, cond, codes, refl, sym, ap, ◌∙◌, subst}
use Rattle.std.specs.Str.{bytes_eq}
use Rattle.ids.specs.declared.names.SlotId.{SlotId}
use Rattle.ids.specs.declared.names.ObjId.{ObjId}
use Rattle.ids.specs.declared.names.PromId.{PromId}
use Rattle.cells.specs.Doing.{over, Under, play, and_then}
use Rattle.kernele.specs.Tree.{Name, Tree, Trees, Methods}
use Rattle.kernele.specs.declared.tree.Pattern.{Pattern}
use Rattle.kernele.specs.declared.tree.Pattern.TheVariants as pattern
use Rattle.kernele_scopes.specs.Free.{captures}
use Rattle.values.specs.Data.{Val, object, Vals, no_vals, and_val}
use Rattle.values.specs.Replies.{data_reply, items_in}
use Rattle.values.specs.Wanted.{wants_datum}
use Rattle.heap.specs.State.{Bind, fixed, slot, lookup, Plain, plain, resolver, Cell, top, slot_cell, object_cell, Content, bound, held, made, viewed, fenced, same_cell, read, State}
use Rattle.post.specs.Delivery.{Handler, When}
use Rattle.refs.specs.Walks.{Resolutions, walked}
use Rattle.refs.specs.Settling.{settling}
use Rattle.sends.specs.Vats.{Vat, ended, settled}
use Rattle.sends.specs.Making.{Making, refused, makes, of_settled, Sent, Published, resolving, smashing}
use Rattle.sends.specs.Playing.{views_in, looked_at}
use Rattle.sends.specs.Table.{Foot, Goes, HasFoot, no_foot, looks, changes, both, of_each, of_any, where_room, end_taken, form_taken, send_touches, when_touches, pair_touches, resolve_touches, smash_touches}
use Rattle.sends.specs.Laws.{given}
use Rattle.sends.proofs.Playing.{played, looked_state}
use Rattle.sends.proofs.Followed.{ends_are_followed}
use Rattle.sends.proofs.Feet.{stays, touched_one, written_one, then_goes, foot_then, foot_alone, foot_quiet, looked}
use Rattle.sends.proofs.Table.{settled_by, still, ends_are_taken, forms_are_taken}
use Rattle.sends.proofs.Made.{messages_are_sent, whens_are_made, pairs_are_made, resolvers_resolve, resolvers_smash}
use Rattle.eval_rules.specs.At.{At}
use Rattle.eval_rules.specs.Doings.{under, given_by, behind, datum_of, datum_read, data_with, data_of, next_message, next_promise, has_message_room, next_object, has_object_room, send_of, send_out, sent_at, wait_of, wait_out, promise_pair, pair_out, resolver_out, both_settled, same_read}
use Rattle.eval_rules.specs.Outcomes.{End, value, halt, Gather, values, halted}
use Rattle.eval_rules.specs.Rules.{sought, sought_slot, sought_in, seeking, slot_read, noun_read, slot_put, assigned, bound_in, matched, matched_all, as_many, defined, next_slot, has_room, slot_made, variable_made, declared, taken, Listing, listed, unlisted, listing_by, parts_of, parts_bound, Capture, captured, missing, and_captured, all_sought, capture_of, capturing, object_made, placed, with_object, handled_names, when_capture, when_capturing, waited, when_made, Target, gives, enters, uses, method_in, method_target, resolver_target, object_target, no_such_method, Callee, on_object, on_ejector, on_datum, on_far, callee_of, callee_target, callee_read, receiver, receiver_read, target_of, called, entering}
use Rattle.eval_rules.specs.Rules.{Ends, at_budget, at_depth, at_node, Runs, run_null, run_bool, run_int, run_text, run_noun, run_define, run_variable, run_assign, run_call_receiver, run_call_gives, run_call_enters, run_call_uses, run_send_receiver, run_send, run_list, run_same_left, run_same, run_define_list, run_hide, run_primitive, run_if_goes, run_if_ends, run_while_again, run_while_halts, run_while_done, run_while_ends, run_for, run_for_ends, run_try, run_try_caught, run_object, run_escape, run_when, run_when_catch, run_new_promise, Needs, needs, Args, args_none, args_next, args_halt, Items, items_none, items_next, items_halt, Block, in_block, Taking, in_taking, Each, each_none, each_next, each_halt}
use Rattle.eval_rules.specs.Table.{Leads, views_at, of_value, of_values, of_listed, of_captured, top_of, name_sought, noun_evaluated, noun_assigned, name_bound, pattern_bound, variable_touches, names_captured, object_touches, data_touches, callee_touches, call_touches, resolver_touches, same_touches, when_made_touches, foot, foot_below, foot_of_datum, foot_of_args, foot_of_items, foot_of_block, foot_of_taking, foot_of_each}
use Rattle.eval_rules.proofs.Seeking.{Reads, reads_both, seeking_reads, captures_read}

-- first this, then that
pub onto : {f g : Foot} {u v w : Under Cell Content} → Goes f u v → Goes g v w → Goes (both f g) u w
onto {f} {g} {u} {v} {w} h i = then_goes f g u v w h i

-- ---- names

top_foot : (x : Name) (m : Option Bind) (a : At) → Leads (top_of x m) a (sought_in x m a)
top_foot x (Some b) a = stays (under a)
top_foot x None a = touched_one (top x) (under a)

seek_foot : (x : Name) (a : At) → Leads (name_sought x a) a (seeking x a)
seek_foot x a = top_foot x (lookup a.nouns x) a

slot_foot : (i : Option SlotId) (a : At) → Leads (of_any (λ i. looks (slot_cell i ∷ [])) i) a (slot_read i a)
slot_foot (Some i) a = touched_one (slot_cell i) (under a)
slot_foot None a = stays (under a)

noun_foot : (x : Name) (a : At) → Leads (noun_evaluated x a) a (noun_read x a)
noun_foot x a = onto (seek_foot x a) (slot_foot (sought_slot x a) (seeking x a))

put_foot : (v : Val) (i : Option SlotId) (a : At) → Leads (of_any (λ i. changes (slot_cell i)) i) a (slot_put v i a)
put_foot v (Some i) a = written_one (slot_cell i) (held v) (under a)
put_foot v None a = stays (under a)

assigned_foot : (x : Name) (o : End) (a : At) → Leads (of_value (λ v. noun_assigned x a) o) a (assigned x o a)
assigned_foot x (value v) a = onto (seek_foot x a) (put_foot v (sought_slot x a) (seeking x a))
assigned_foot x (halt h) a = stays (under a)

bound_foot : (own : Bool) (x : Name) (b : Bind) (a : At) → Leads (name_bound own x) a (bound_in own x b a)
bound_foot true x b a = written_one (top x) (bound b) (under a)
bound_foot false x b a = stays (under a)

matched_foot : (p : Pattern) (v : Val) (a : At) → Leads (pattern_bound a.own_scope p) a (matched p v a)
matched_foot (pattern.Name x) v a = bound_foot a.own_scope x (fixed v) a
matched_foot pattern.Ignore v a = stays (under a)

defined_foot : (p : Pattern) (o : End) (a : At) → Leads (of_value (λ v. pattern_bound a.own_scope p) o) a (defined p o a)
defined_foot p (value v) a = matched_foot p v a
defined_foot p (halt h) a = stays (under a)

-- in a block's own scope nothing is touched
inner_bound : (p : Pattern) (v : Val) (a : At) → under (matched p v (entering a)) ≡ under a
inner_bound (pattern.Name x) v a = refl
inner_bound pattern.Ignore v a = refl

bound_scope : (own : Bool) (x : Name) (b : Bind) (a : At) → (bound_in own x b a).own_scope ≡ a.own_scope
bound_scope true x b a = refl
bound_scope false x b a = refl

matched_scope : (p : Pattern) (v : Val) (a : At) → (matched p v a).own_scope ≡ a.own_scope
matched_scope (pattern.Name x) v a = bound_scope a.own_scope x (fixed v) a
matched_scope pattern.Ignore v a = refl

all_matched_foot : (ps : List Pattern) (vs : Vals) (a : At) → as_many ps vs ≡ true → Leads (of_each (pattern_bound a.own_scope) ps) a (matched_all ps vs a)
all_matched_foot [] vs a h = stays (under a)
all_matched_foot (p ∷ ps) no_vals a h = absurd (cc)
all_matched_foot (p ∷ ps) (and_val v vs) a h =
    let b : At = matched p v a in
    onto (matched_foot p v a) (subst (λ (own : Bool). Leads (of_each (pattern_bound own) ps) b (matched_all ps vs b)) (matched_scope p v a) (all_matched_foot ps vs b h))

-- values that are listed are as many as the patterns
abbrev Fits : List Pattern → Listing → Type 0
Fits ps (listed vs) = as_many ps vs ≡ true
Fits ps (unlisted o) = Unit {0}

fits_many : (ps : List Pattern) (words : Name) (v : Val) (vs : Vals) (b : Bool) → as_many ps vs ≡ b → Fits ps (listing_by words v (cond b (Some vs) None))
fits_many ps words v vs true h = h
fits_many ps words v vs false h = tt

fits_taken : (ps : List Pattern) (words : Name) (v : Val) (o : Option Vals) → Fits ps (listing_by words v (taken ps o))
fits_taken ps words v (Some vs) = fits_many ps words v vs (as_many ps vs) refl
fits_taken ps words v None = tt

fits : (ps : List Pattern) (o : End) → Fits ps (parts_of ps o)
fits ps (value v) = fits_taken ps (codes "wrong list") v (items_in v)
fits ps (halt h) = tt

parts_foot : (ps : List Pattern) (l : Listing) (a : At) → Fits ps l → Leads (of_listed (of_each (pattern_bound a.own_scope) ps) l) a (parts_bound ps l a)
parts_foot ps (listed vs) a h = all_matched_foot ps vs a h
parts_foot ps (unlisted o) a h = stays (under a)

variable_foot : (room : Bool) (x : Name) (v : Val) (a : At) → Leads (where_room room (both (changes (slot_cell (next_slot a))) (name_bound a.own_scope x))) a (variable_made room x v a)
variable_foot true x v a = onto (written_one (slot_cell (next_slot a)) (held v) (under a)) (bound_foot a.own_scope x (slot (next_slot a)) (slot_made v a))
variable_foot false x v a = stays (under a)

declared_foot : (x : Name) (o : End) (a : At) → Leads (of_value (λ v. variable_touches x a) o) a (declared x o a)
declared_foot x (value v) a = variable_foot (has_room a) x v a
declared_foot x (halt h) a = stays (under a)

-- the first name that stands for nothing is the last that is sought
by_sought : (f : Foot) (ns : List (Name × Bind)) (x : Name) (o : Option Bind) (u v : Under Cell Content) → Goes (of_captured f (and_captured (captured ns) x o)) u v → Goes (of_any (λ b. f) o) u v
by_sought f ns x (Some b) u v h = h
by_sought f ns x None u v h = h

-- a place from which nothing was done but reading
captured_foot : (c : Capture) (xs : List Name) (a b : At) → Reads a b → Leads (of_captured (names_captured xs a) c) b (all_sought c xs b)
captured_foot (captured ns) [] a b e = stays (under b)
captured_foot (missing y) [] a b e = stays (under b)
captured_foot (missing y) (x ∷ xs) a b e = stays (under b)
captured_foot (captured ns) (x ∷ xs) a b e =
    let c : At = seeking x b in
    let o : Option Bind = sought x b in
    let d : At = all_sought (and_captured (captured ns) x o) xs c in
    let f : Foot = names_captured xs a in
    subst (λ (g : Foot). Goes g (under b) (under d)) (λ i. both (ap (name_sought x) e i) (of_any (λ b. f) (ap (sought x) e i)))
    (onto (seek_foot x b) (by_sought f ns x o (under c) (under d) (captured_foot (and_captured (captured ns) x o) xs a c (reads_both a b c e (seeking_reads x b)))))

capture_foot : (xs : List Name) (a : At) → Leads (names_captured xs a) a (all_sought (captured []) xs a)
capture_foot xs a = captured_foot (captured []) xs a a refl

-- ---- objects and calls

placed_foot : (room : Bool) (p : Pattern) (o : Plain) (a : At) → Leads (where_room room (both (changes (object_cell (next_object a))) (pattern_bound a.own_scope p))) a (placed room p o a)
placed_foot true p o a = onto (written_one (object_cell (next_object a)) (made (plain o)) (under a)) (matched_foot p (object (next_object a)) (object_made o a))
placed_foot false p o a = stays (under a)

-- an object at a place
abbrev object_foot : Pattern → Capture → At → Foot
object_foot p c a = of_captured (where_room (has_object_room a) (both (changes (object_cell (next_object a))) (pattern_bound a.own_scope p))) c

with_object_foot : (p : Pattern) (ms : Methods) (c : Capture) (a : At) → Leads (object_foot p c a) a (with_object p ms c a)
with_object_foot p ms (captured ns) a = placed_foot (has_object_room a) p (record { own = p; captured = ns; methods = ms }) a
with_object_foot p ms (missing x) a = stays (under a)

made_foot : (p : Pattern) (ms : Methods) (a : At) → Leads (object_touches p ms a) a (with_object p ms (capture_of p ms a) (capturing p ms a))
made_foot p ms a =
    let b : At = capturing p ms a in
    let c : Capture = capture_of p ms a in
    onto (capture_foot (captures p ms) a)
    (subst (λ (f : Foot). Leads f b (with_object p ms c b)) (ap (object_foot p c) (captures_read (captured []) (captures p ms) a)) (with_object_foot p ms c b))

with_foot : (m : Resolutions) (wanted : Bool) (v : Val) (verb : Name) (w : Val) (u : Under Cell Content) → views_in u.state ≡ m → HasFoot (data_with wanted v verb w) u (cond wanted (end_taken m w) no_foot)
with_foot m true v verb w u e =
    foot_alone (ended w) (λ x. data_reply v verb (and_val x no_vals)) u (end_taken m w) (subst (λ (k : Resolutions). HasFoot (ended w) u (end_taken k w)) e (ends_are_taken u w))
with_foot m false v verb w u e = stays u

data_foot : (m : Resolutions) (v : Val) (verb : Name) (vs : Vals) (u : Under Cell Content) → views_in u.state ≡ m → HasFoot (data_of v verb vs) u (data_touches m v verb vs)
data_foot m v verb no_vals u e = stays u
data_foot m v verb (and_val w no_vals) u e = with_foot m (wants_datum v verb) v verb w u e
data_foot m v verb (and_val w (and_val x xs)) u e = stays u

callee_foot : (m : Resolutions) (c : Callee) (v : Val) (verb : Name) (vs : Vals) (a : At) → views_at a ≡ m → Leads (callee_touches m c v verb vs) a (callee_read c v verb vs a)
callee_foot m (on_object i) v verb vs a e = touched_one (object_cell i) (under a)
callee_foot m (on_ejector j) v verb vs a e = stays (under a)
callee_foot m on_datum v verb vs a e = data_foot m v verb vs (under a) e
callee_foot m on_far v verb vs a e = stays (under a)

-- taking an end leaves the views as they are
end_views : (v : Val) (a : At) → views_at (receiver_read v a) ≡ views_at a
end_views v a = ap (λ p. views_in p.1.state) (ends_are_followed (under a) v) ∙ still (views_at a) (walked (views_at a) v) (under a) refl

pub call_foot : (v : Val) (verb : Name) (vs : Vals) (a : At) → Leads (call_touches v verb vs a) a (called v verb (values vs) a)
call_foot v verb vs a =
    let m : Resolutions = views_at a in
    let b : At = receiver_read v a in
    let r : Val = receiver v a in
    onto (ends_are_taken (under a) v)
    (subst (λ (w : Val). Leads (callee_touches m (callee_of a.vat w) w verb vs) b (called v verb (values vs) a)) (ap (λ p. p.0) (ends_are_followed (under a) v))
    (callee_foot m (callee_of a.vat r) r verb vs b (end_views v a)))

pub called_foot : (v : Val) (verb : Name) (g : Gather) (a : At) → Leads (of_values (λ vs. call_touches v verb vs a) g) a (called v verb g a)
called_foot v verb (values vs) a = call_foot v verb vs a
called_foot v verb (halted h) a = stays (under a)

-- ---- resolvers

-- a target that uses a resolver does it by the table
abbrev pub UsesByTable : Target → Name → Vals → Type 0
UsesByTable (gives o) verb vs = Unit {0}
UsesByTable (enters ns body) verb vs = Unit {0}
UsesByTable (uses p d) verb vs = (u : Under Cell Content) → HasFoot d u (resolver_touches u.state p verb vs (given d u))

resolver_verb : (p : PromId) (verb : Name) (v : Val) (b c : Bool) (o : End) → bytes_eq verb (codes "resolve") ≡ b → UsesByTable (cond b (uses p (resolving p v)) (cond c (uses p (smashing p v)) (gives o))) verb (and_val v no_vals)
resolver_verb p verb v true c o h = λ u.
    subst (λ (b : Bool). HasFoot (resolving p v) u (cond b (resolve_touches u.state p v (given (resolving p v) u)) (smash_touches u.state p v (given (resolving p v) u)))) (sym h) (resolvers_resolve u p v)
resolver_verb p verb v false true o h = λ u.
    subst (λ (b : Bool). HasFoot (smashing p v) u (cond b (resolve_touches u.state p v (given (smashing p v) u)) (smash_touches u.state p v (given (smashing p v) u)))) (sym h) (resolvers_smash u p v)
resolver_verb p verb v false false o h = tt

method_by : (i : ObjId) (o : Plain) (verb : Name) (vs : Vals) (m : Option (List Pattern × Trees)) → UsesByTable (method_target i o verb vs m) verb vs
method_by i o verb vs (Some m) = tt
method_by i o verb vs None = tt

resolver_by : (p : PromId) (verb : Name) (vs : Vals) → UsesByTable (resolver_target p verb vs) verb vs
resolver_by p verb no_vals = tt
resolver_by p verb (and_val v no_vals) = resolver_verb p verb v (bytes_eq verb (codes "resolve")) (bytes_eq verb (codes "smash")) (no_such_method verb (and_val v no_vals)) refl
resolver_by p verb (and_val v (and_val w vs)) = tt

object_by : (i : ObjId) (x : Option Content) (verb : Name) (vs : Vals) → UsesByTable (object_target i x verb vs) verb vs
object_by i None verb vs = tt
object_by i (Some (bound b)) verb vs = tt
object_by i (Some (held v)) verb vs = tt
object_by i (Some (made (plain o))) verb vs = method_by i o verb vs (method_in o.methods verb vs)
object_by i (Some (made (resolver p))) verb vs = resolver_by p verb vs
object_by i (Some (viewed k)) verb vs = tt
object_by i (Some (fenced ns)) verb vs = tt

callee_by : (c : Callee) (v : Val) (verb : Name) (vs : Vals) (a : At) → UsesByTable (callee_target c v verb vs a) verb vs
callee_by (on_object i) v verb vs a = object_by i (read a.state (object_cell i)) verb vs
callee_by (on_ejector j) v verb vs a = tt
callee_by on_datum v verb vs a = tt
callee_by on_far v verb vs a = tt

pub target_by : (v : Val) (verb : Name) (vs : Vals) (a : At) → UsesByTable (target_of v verb (values vs) a) verb vs
target_by v verb vs a = callee_by (callee_of a.vat (receiver v a)) (receiver v a) verb vs (receiver_read v a)

-- what goes out is no matter of the cells
pub resolved_out : (p : PromId) (m : Making Published) (f : Foot) (u : Under Cell Content) (a : At) → Goes f u (under a) → Goes f u (under (resolver_out p m a))
resolved_out p (refused why) f u a h = h
resolved_out p (makes b) f u a h = h

-- finding what a call leads to changes no contents
end_state : (v : Val) (u : Under Cell Content) → (play same_cell (ended v) u).1.state ≡ u.state
end_state v u = ap (λ p. p.1.state) (ends_are_followed u v) ∙ looked_state (walked (views_in u.state) v) u

with_state : (wanted : Bool) (v : Val) (verb : Name) (w : Val) (u : Under Cell Content) → (play same_cell (data_with wanted v verb w) u).1.state ≡ u.state
with_state true v verb w u =
    let p : Val × Under Cell Content = play same_cell (ended w) u in
    ap (λ q. q.1.state) (played (ended w) (λ x. over (data_reply v verb (and_val x no_vals))) u p.1 p.0 refl) ∙ end_state w u
with_state false v verb w u = refl

data_state : (v : Val) (verb : Name) (vs : Vals) (u : Under Cell Content) → (play same_cell (data_of v verb vs) u).1.state ≡ u.state
data_state v verb no_vals u = refl
data_state v verb (and_val w no_vals) u = with_state (wants_datum v verb) v verb w u
data_state v verb (and_val w (and_val x xs)) u = refl

callee_state : (c : Callee) (v : Val) (verb : Name) (vs : Vals) (a : At) → (callee_read c v verb vs a).state ≡ a.state
callee_state (on_object i) v verb vs a = refl
callee_state (on_ejector j) v verb vs a = refl
callee_state on_datum v verb vs a = data_state v verb vs (under a)
callee_state on_far v verb vs a = refl

called_state : (v : Val) (verb : Name) (vs : Vals) (a : At) → (called v verb (values vs) a).state ≡ a.state
called_state v verb vs a = callee_state (callee_of a.vat (receiver v a)) (receiver v a) verb vs (receiver_read v a) ∙ end_state v (under a)

-- a call that uses a resolver
pub used_foot : (v : Val) (verb : Name) (g : Gather) (a : At) (p : PromId) (d : Vat (Making Published)) → target_of v verb g a ≡ uses p d
    → Leads (of_values (λ vs. both (call_touches v verb vs a) (resolver_touches a.state p verb vs (given_by d (called v verb g a)))) g) a (resolver_out p (given_by d (called v verb g a)) (behind d (called v verb g a)))
used_foot v verb (values vs) a p d e =
    let b : At = called v verb (values vs) a in
    let m : Making Published = given_by d b in
    let uses_it : UsesByTable (uses p d) verb vs = subst (λ (t : Target). UsesByTable t verb vs) e (target_by v verb vs a) in
    onto (call_foot v verb vs a)
    (resolved_out p m (resolver_touches a.state p verb vs m) (under b) (behind d b)
    (subst (λ (s : State). HasFoot d (under b) (resolver_touches s p verb vs m)) (called_state v verb vs a) (uses_it (under b))))
used_foot v verb (halted h) a p d e = absurd (cc)

-- ---- what is made

sent_out : (verb : Name) (m : Making Sent) (f : Foot) (u : Under Cell Content) (a : At) → Goes f u (under a) → Goes f u (under (send_out verb m a))
sent_out verb (refused why) f u a h = h
sent_out verb (makes s) f u a h = h

sent_foot : (v : Val) (verb : Name) (g : Gather) (a : At) → Leads (of_values (λ vs. send_touches a.state v vs (given_by (send_of v vs a) a)) g) a (sent_at verb v g a)
sent_foot v verb (values vs) a =
    let d : Vat (Making Sent) = send_of v vs a in
    sent_out verb (given_by d a) (send_touches a.state v vs (given_by d a)) (under a) (behind d a) (messages_are_sent (under a) a.vat (next_message a) (has_message_room a) (next_promise a) v vs)
sent_foot v verb (halted h) a = stays (under a)

wait_goes : (w : When) (m : Making PromId) (f : Foot) (u : Under Cell Content) (a : At) → Goes f u (under a) → Goes f u (under (wait_out w m a))
wait_goes w (refused why) f u a h = h
wait_goes w (makes p) f u a h = h

-- a when at a place
abbrev waiting_foot : Val → Capture → At → Foot
waiting_foot v c a = of_captured (when_touches a.state (has_message_room a) (next_promise a a.vat) v) c

waited_foot : (body : Trees) (handler : Option Handler) (v : Val) (c : Capture) (a : At) → Leads (waiting_foot v c a) a (waited c body handler v a)
waited_foot body handler v (captured ns) a =
    let d : Vat (Making PromId) = wait_of v a in
    wait_goes (record { value = v; captured = ns; block = body; handler = handler }) (given_by d a) (when_touches a.state (has_message_room a) (next_promise a a.vat) v) (under a) (behind d a)
    (whens_are_made (under a) (has_message_room a) (next_promise a a.vat) v)
waited_foot body handler v (missing x) a = stays (under a)

when_foot : (body : Trees) (handler : Option Handler) (o : End) (a : At) → Leads (of_value (λ v. when_made_touches body handler v a) o) a (when_made body handler o a)
when_foot body handler (value v) a =
    let b : At = when_capturing body handler a in
    let c : Capture = when_capture body handler a in
    let xs : List Name = handled_names body handler in
    onto (capture_foot xs a) (subst (λ (f : Foot). Leads f b (waited c body handler v b)) (ap (waiting_foot v c) (captures_read (captured []) xs a)) (waited_foot body handler v c b))
when_foot body handler (halt h) a = stays (under a)

pair_goes : (m : Making ObjId) (f : Foot) (u : Under Cell Content) (a : At) → Goes f u (under a) → Goes f u (under (pair_out m a))
pair_goes (refused why) f u a h = h
pair_goes (makes o) f u a h = h

pair_foot : (a : At) → Leads (pair_touches a.state (has_object_room a) (next_promise a a.vat) (next_object a)) a (pair_out (given_by (promise_pair a) a) (behind (promise_pair a) a))
pair_foot a =
    let d : Vat (Making ObjId) = promise_pair a in
    pair_goes (given_by d a) (pair_touches a.state (has_object_room a) (next_promise a a.vat) (next_object a)) (under a) (behind d a) (pairs_are_made (under a) (has_object_room a) (next_promise a a.vat) (next_object a))

-- ---- ends and settled forms

ends_quiet : (x : Val) (o : Option Val) (u : Under Cell Content) → (play same_cell (of_settled {R = Val × Val} (λ y. over (makes (x, y))) o) u).1 ≡ u
ends_quiet x None u = refl
ends_quiet x (Some y) u = refl

-- once the left one is settled
right_foot : (m : Resolutions) (w : Val) (o : Option Val) (u : Under Cell Content) → views_in u.state ≡ m → HasFoot (of_settled {R = Val × Val} (λ x. and_then (settled w) (of_settled (λ y. over (makes (x, y))))) o) u (of_any (λ x. form_taken m w) o)
right_foot m w None u e = stays u
right_foot m w (Some x) u e =
    foot_quiet (settled w) (of_settled {R = Val × Val} (λ y. over (makes (x, y)))) u (form_taken m w) (subst (λ (k : Resolutions). HasFoot (settled w) u (form_taken k w)) e (forms_are_taken u w)) (ends_quiet x)

both_foot : (v w : Val) (u : Under Cell Content) → HasFoot (both_settled v w) u (same_touches (views_in u.state) v w)
both_foot v w u =
    let m : Resolutions = views_in u.state in
    let o : Option Val = (settling m v).settled in
    let k : Under Cell Content = looked_at (settling m v).through u in
    foot_then (settled v) (of_settled {R = Val × Val} (λ x. and_then (settled w) (of_settled (λ y. over (makes (x, y)))))) u k o (form_taken m v) (of_any (λ x. form_taken m w) o) (settled_by m u v refl) (looked (settling m v).through u)
    (right_foot m w o k (still m (settling m v).through u refl))

same_foot : (v : Val) (o : End) (a : At) → Leads (of_value (same_touches (views_at a) v) o) a (same_read v o a)
same_foot v (value w) a = both_foot v w (under a)
same_foot v (halt h) a = stays (under a)

datum_foot : (o : End) (a : At) → Leads (of_value (end_taken (views_at a)) o) a (datum_read o a)
datum_foot (value v) a = ends_are_taken (under a) v
datum_foot (halt h) a = stays (under a)

list_foot : (ps : List Pattern) (o : End) (a : At)
    → Leads (both (of_value (end_taken (views_at a)) o) (of_listed (of_each (pattern_bound a.own_scope) ps) (parts_of ps (datum_of o a)))) a (parts_bound ps (parts_of ps (datum_of o a)) (datum_read o a))
list_foot ps (value v) a = onto (datum_foot (value v) a) (parts_foot ps (parts_of ps (datum_of (value v) a)) (datum_read (value v) a) (fits ps (datum_of (value v) a)))
list_foot ps (halt h) a = onto (stays (under a)) (stays (under a))

-- ---- trees

mutual
  pub ends_foot : {k : ℕ} {t : Tree} {a b : At} {o : End} (r : Ends k t a o b) → Leads (foot r) a b
  ends_foot (at_budget {a = a} h) = stays (under a)
  ends_foot (at_depth {a = a} h g) = stays (under a)
  ends_foot (at_node h g r) = runs_foot r

  pub runs_foot : {k : ℕ} {t : Tree} {a b : At} {o : End} (r : Runs k t a o b) → Leads (foot_below r) a b
  runs_foot (run_null {a = a}) = stays (under a)
  runs_foot (run_bool {a = a}) = stays (under a)
  runs_foot (run_int {a = a}) = stays (under a)
  runs_foot (run_text {a = a}) = stays (under a)
  runs_foot (run_noun {x = x} {a = a}) = noun_foot x a
  runs_foot (run_define {p = p} {b = b} {o = o} r) = onto (ends_foot r) (defined_foot p o b)
  runs_foot (run_variable {x = x} {b = b} {o = o} r) = onto (ends_foot r) (declared_foot x o b)
  runs_foot (run_assign {x = x} {b = b} {o = o} r) = onto (ends_foot r) (assigned_foot x o b)
  runs_foot (run_call_receiver r) = ends_foot r
  runs_foot (run_call_gives {verb = verb} {c = c} {v = v} {g = g} r u e) = onto (ends_foot r) (onto (args_foot u) (called_foot v verb g c))
  runs_foot (run_call_enters {verb = verb} {c = c} {v = v} {g = g} r u e q) = onto (ends_foot r) (onto (args_foot u) (onto (called_foot v verb g c) (items_foot q)))
  runs_foot (run_call_uses {verb = verb} {c = c} {v = v} {g = g} {p = p} {d = d} r u e) = onto (ends_foot r) (onto (args_foot u) (used_foot v verb g c p d e))
  runs_foot (run_send_receiver r) = ends_foot r
  runs_foot (run_send {verb = verb} {c = c} {v = v} {g = g} r u) = onto (ends_foot r) (onto (args_foot u) (sent_foot v verb g c))
  runs_foot (run_list u) = args_foot u
  runs_foot (run_same_left r) = ends_foot r
  runs_foot (run_same {c = c} {v = v} {o = o} r u) = onto (ends_foot r) (onto (ends_foot u) (same_foot v o c))
  runs_foot (run_define_list {ps = ps} {b = b} {o = o} r) = onto (ends_foot r) (list_foot ps o b)
  runs_foot (run_hide q) = block_foot q
  runs_foot (run_primitive r) = needs_foot r
  runs_foot (run_if_goes r e q) = onto (needs_foot r) (block_foot q)
  runs_foot (run_if_ends r e) = needs_foot r
  runs_foot (run_while_again r e q w) = onto (needs_foot r) (onto (block_foot q) (runs_foot w))
  runs_foot (run_while_halts r e q) = onto (needs_foot r) (block_foot q)
  runs_foot (run_while_done r e) = needs_foot r
  runs_foot (run_while_ends r e) = needs_foot r
  runs_foot (run_for r e q) = onto (needs_foot r) (each_foot q)
  runs_foot (run_for_ends r e) = needs_foot r
  runs_foot (run_try q e) = block_foot q
  runs_foot (run_try_caught q e w) = onto (block_foot q) (taking_foot w)
  runs_foot (run_object {p = p} {ms = ms} {a = a}) = made_foot p ms a
  runs_foot (run_escape q) = taking_foot q
  runs_foot (run_when {body = body} {b = b} {o = o} r) = onto (ends_foot r) (when_foot body None o b)
  runs_foot (run_when_catch {body = body} {p = p} {handler = handler} {b = b} {o = o} r) = onto (ends_foot r) (when_foot body (Some (record { pattern = p; block = handler })) o b)
  runs_foot (run_new_promise {a = a}) = pair_foot a

  pub needs_foot : {k : ℕ} {t : Tree} {a b : At} {o : End} (r : Needs k t a o b) → Leads (foot_of_datum r) a b
  needs_foot (needs {b = b} {o = o} r) = onto (ends_foot r) (datum_foot o b)

  pub args_foot : {k : ℕ} {ts : Trees} {a b : At} {g : Gather} (r : Args k ts a g b) → Leads (foot_of_args r) a b
  args_foot (args_none {a = a}) = stays (under a)
  args_foot (args_next r u) = onto (ends_foot r) (args_foot u)
  args_foot (args_halt r) = ends_foot r

  pub items_foot : {k : ℕ} {v : Val} {ts : Trees} {a b : At} {o : End} (r : Items k v ts a o b) → Leads (foot_of_items r) a b
  items_foot (items_none {a = a}) = stays (under a)
  items_foot (items_next r u) = onto (ends_foot r) (items_foot u)
  items_foot (items_halt r) = ends_foot r

  pub block_foot : {k : ℕ} {ts : Trees} {a b : At} {o : End} (r : Block k ts a o b) → Leads (foot_of_block r) a b
  block_foot (in_block r) = items_foot r

  pub taking_foot : {k : ℕ} {p : Pattern} {v : Val} {ts : Trees} {a b : At} {o : End} (r : Taking k p v ts a o b) → Leads (foot_of_taking r) a b
  taking_foot (in_taking {p = p} {v = v} {a = a} {b = b} r) = subst (λ (u : Under Cell Content). Goes (foot_of_items r) u (under b)) (inner_bound p v a) (items_foot r)

  pub each_foot : {k : ℕ} {p : Pattern} {ts : Trees} {vs : Vals} {a b : At} {o : End} (r : Each k p ts vs a o b) → Leads (foot_of_each r) a b
  each_foot (each_none {a = a}) = stays (under a)
  each_foot (each_next r u) = onto (taking_foot r) (each_foot u)
  each_foot (each_halt r) = taking_foot r
