-- What is touched and written only grows, and what is not written stays as it was.
use Rattle.std.proofs.Common.{◌≡◌, ℕ, List, [], ◌∷◌, Option, Some, None, Bool, true, false, ◌||◌, cond, refl, ap, ◌∙◌}
use Rattle.std.proofs.lemmas.Bool.{or_right, or_parts}
use Rattle.ids.specs.declared.names.SlotId.{SlotId}
use Rattle.ids.specs.declared.names.ObjId.{ObjId}
use Rattle.kernele.specs.Tree.{Name, Tree, Trees, Methods}
use Rattle.kernele_scopes.specs.Free.{captures}
use Rattle.kernele.specs.declared.tree.Pattern.{Pattern}
use Rattle.kernele.specs.declared.tree.Pattern.TheVariants as pattern
use Rattle.values.specs.Data.{Val, object, Vals, no_vals, and_val}
use Rattle.heap.specs.State.{Bind, fixed, slot, lookup, Plain, Cell, top, slot_cell, object_cell, Content, bound, held, made, same_cell, State, write, Cells, also, plain}
use Rattle.eval_rules.specs.At.{At}
use Rattle.eval_rules.specs.Outcomes.{End, value, halt, Gather, values, halted}
use Rattle.eval_rules.specs.Rules.{sought_in, seeking, slot_read, slot_put, noun_read, Listing, listed, unlisted, parts_of, parts_bound, entering, sought, sought_slot, bound_in, matched, matched_all, defined, next_slot, has_room, slot_made, variable_made, declared, assigned, Capture, captured, missing, and_captured, all_sought, capture_of, capturing, object_made, placed, with_object, Callee, on_object, on_ejector, on_datum, callee_of, callee_read, called, on_far, receiver, receiver_read, handled_names, when_capture, when_capturing, waited, when_made}
use Rattle.eval_rules.specs.Rules.{Ends, at_budget, at_depth, at_node, Runs, run_null, run_bool, run_int, run_text, run_noun, run_define, run_variable, run_assign, run_call_receiver, run_call_gives, run_call_enters, run_call_uses, run_send_receiver, run_send, run_list, run_same_left, run_same, run_define_list, run_hide, run_primitive, run_if_goes, run_if_ends, run_while_again, run_while_halts, run_while_done, run_while_ends, run_for, run_for_ends, run_try, run_try_caught, run_object, run_escape, run_when, run_when_catch, run_new_promise, Needs, needs, Args, args_none, args_next, args_halt, Items, items_none, items_next, items_halt, Block, in_block, Taking, in_taking, Each, each_none, each_next, each_halt}
use Rattle.eval_rules.specs.Doings.{next_object, has_object_room, behind, given_by, datum_of, datum_read, same_read, both_settled, send_of, send_out, sent_at, wait_of, wait_out, promise_pair, pair_out, resolver_out, data_of}
use Rattle.eval_rules.proofs.Doings.{Onward, Later, does_later}
use Rattle.sends.specs.Vats.{Vat, ended}
use Rattle.sends.specs.Making.{Making, refused, makes, Sent, Published}
use Rattle.post.specs.Delivery.{Handler, When}
use Rattle.ids.specs.declared.names.PromId.{PromId}

not_written : (q q' : Bool) → (q ≡ true → q' ≡ true) → q' ≡ false → q ≡ false
not_written true q' h e = absurd (cc (h refl, e))
not_written false q' h e = refl

pub stay : {p q : Cells} {s w : State} → Onward p q s w p q s w
stay = record { touched = λ c h. h; written = λ c h. h; within = λ h. h; stays = λ c h. refl; began = refl }

pub then : {p q p' q' p'' q'' : Cells} {s s' s'' w w' w'' : State} → Onward p q s w p' q' s' w' → Onward p' q' s' w' p'' q'' s'' w'' → Onward p q s w p'' q'' s'' w''
then {q' = q'} {q'' = q''} f g = record {
  touched = λ c h. g.touched c (f.touched c h);
  written = λ c h. g.written c (f.written c h);
  within = λ h. g.within (f.within h);
  stays = λ c h. g.stays c h ∙ f.stays c (not_written (q' c) (q'' c) (g.written c) h);
  began = g.began ∙ f.began;
}

reached_later : (c : Cell) (p q : Cells) (s w : State) → Onward p q s w (also c p) q s w
reached_later c p q s w = record {
  touched = λ d h. or_right (same_cell c d) (p d) h;
  written = λ d h. h;
  within = λ h d e. or_right (same_cell c d) (p d) (h d e);
  stays = λ d h. refl;
  began = refl;
}

-- what is one of the cells written is one of those touched, with one more of both
both_within : (b p q : Bool) → (q ≡ true → p ≡ true) → (b || q) ≡ true → (b || p) ≡ true
both_within true p q h e = refl
both_within false p q h e = h e

put_later : (c : Cell) (x : Content) (p q : Cells) (s w : State) → Onward p q s w (also c p) (also c q) (write s c x) w
put_later c x p q s w = record {
  touched = λ d h. or_right (same_cell c d) (p d) h;
  written = λ d h. or_right (same_cell c d) (q d) h;
  within = λ h d e. both_within (same_cell c d) (p d) (q d) (h d) e;
  stays = λ d h. ap (λ b. cond b (Some x) (s d)) (or_parts (same_cell c d) (q d) h).0;
  began = refl;
}

-- ---- what is made of the ends of parts

sought_later : (x : Name) (m : Option Bind) (a : At) → Later a (sought_in x m a)
sought_later x (Some b) a = stay
sought_later x None a = reached_later (top x) a.touched a.written a.state a.began

pub read_later : (i : Option SlotId) (a : At) → Later a (slot_read i a)
read_later (Some i) a = reached_later (slot_cell i) a.touched a.written a.state a.began
read_later None a = stay

noun_later : (x : Name) (a : At) → Later a (noun_read x a)
noun_later x a = then (sought_later x (lookup a.nouns x) a) (read_later (sought_slot x a) (seeking x a))

bound_later : (own : Bool) (x : Name) (b : Bind) (a : At) → Later a (bound_in own x b a)
bound_later true x b a = put_later (top x) (bound b) a.touched a.written a.state a.began
bound_later false x b a = stay

matched_later : (p : Pattern) (v : Val) (a : At) → Later a (matched p v a)
matched_later (pattern.Name x) v a = bound_later a.own_scope x (fixed v) a
matched_later pattern.Ignore v a = stay

pub defined_later : (p : Pattern) (o : End) (a : At) → Later a (defined p o a)
defined_later p (value v) a = matched_later p v a
defined_later p (halt h) a = stay

all_later : (ps : List Pattern) (vs : Vals) (a : At) → Later a (matched_all ps vs a)
all_later [] vs a = stay
all_later (p ∷ ps) no_vals a = stay
all_later (p ∷ ps) (and_val v vs) a = then (matched_later p v a) (all_later ps vs (matched p v a))

pub parts_later : (ps : List Pattern) (l : Listing) (a : At) → Later a (parts_bound ps l a)
parts_later ps (listed vs) a = all_later ps vs a
parts_later ps (unlisted o) a = stay

variable_later : (room : Bool) (x : Name) (v : Val) (a : At) → Later a (variable_made room x v a)
variable_later true x v a = then (put_later (slot_cell (next_slot a)) (held v) a.touched a.written a.state a.began) (bound_later a.own_scope x (slot (next_slot a)) (slot_made v a))
variable_later false x v a = stay

pub declared_later : (x : Name) (o : End) (a : At) → Later a (declared x o a)
declared_later x (value v) a = variable_later (has_room a) x v a
declared_later x (halt h) a = stay

pub slot_later : (v : Val) (i : Option SlotId) (a : At) → Later a (slot_put v i a)
slot_later v (Some i) a = put_later (slot_cell i) (held v) a.touched a.written a.state a.began
slot_later v None a = stay

pub assigned_later : (x : Name) (o : End) (a : At) → Later a (assigned x o a)
assigned_later x (value v) a = then (sought_later x (lookup a.nouns x) a) (slot_later v (sought_slot x a) (seeking x a))
assigned_later x (halt h) a = stay

pub captures_later : (c : Capture) (xs : List Name) (a : At) → Later a (all_sought c xs a)
captures_later c [] a = stay
captures_later (captured ns) (x ∷ xs) a = then (sought_later x (lookup a.nouns x) a) (captures_later (and_captured (captured ns) x (sought x a)) xs (seeking x a))
captures_later (missing y) (x ∷ xs) a = stay

placed_later : (room : Bool) (p : Pattern) (o : Plain) (a : At) → Later a (placed room p o a)
placed_later true p o a = then (put_later (object_cell (next_object a)) (made (plain o)) a.touched a.written a.state a.began) (matched_later p (object (next_object a)) (object_made o a))
placed_later false p o a = stay

pub object_later : (p : Pattern) (ms : Methods) (c : Capture) (a : At) → Later a (with_object p ms c a)
object_later p ms (captured ns) a = placed_later (has_object_room a) p (record { own = p; captured = ns; methods = ms }) a
object_later p ms (missing x) a = stay

pub callee_later : (m : Callee) (u : Val) (verb : Name) (vs : Vals) (a : At) → Later a (callee_read m u verb vs a)
callee_later (on_object i) u verb vs a = reached_later (object_cell i) a.touched a.written a.state a.began
callee_later (on_ejector j) u verb vs a = stay
callee_later on_datum u verb vs a = does_later (data_of u verb vs) a
callee_later on_far u verb vs a = stay

pub called_later : (v : Val) (verb : Name) (g : Gather) (a : At) → Later a (called v verb g a)
called_later v verb (values vs) a = then (does_later (ended v) a) (callee_later (callee_of a.vat (receiver v a)) (receiver v a) verb vs (receiver_read v a))
called_later v verb (halted h) a = stay

pub datum_later : (o : End) (a : At) → Later a (datum_read o a)
datum_later (value v) a = does_later (ended v) a
datum_later (halt h) a = stay

pub same_later : (v : Val) (o : End) (a : At) → Later a (same_read v o a)
same_later v (value w) a = does_later (both_settled v w) a
same_later v (halt h) a = stay

-- what the turn makes beside is no matter of the cells
pub sends_later : (verb : Name) (m : Making Sent) (a : At) → Later a (send_out verb m a)
sends_later verb (refused why) a = stay
sends_later verb (makes s) a = stay

pub sent_later : (verb : Name) (v : Val) (g : Gather) (a : At) → Later a (sent_at verb v g a)
sent_later verb v (values vs) a = then (does_later (send_of v vs a) a) (sends_later verb (given_by (send_of v vs a) a) (behind (send_of v vs a) a))
sent_later verb v (halted h) a = stay

pub waits_later : (w : When) (m : Making PromId) (a : At) → Later a (wait_out w m a)
waits_later w (refused why) a = stay
waits_later w (makes p) a = stay

pub waited_later : (c : Capture) (body : Trees) (handler : Option Handler) (v : Val) (a : At) → Later a (waited c body handler v a)
waited_later (captured ns) body handler v a =
    then (does_later (wait_of v a) a) (waits_later (record { value = v; captured = ns; block = body; handler = handler }) (given_by (wait_of v a) a) (behind (wait_of v a) a))
waited_later (missing x) body handler v a = stay

pub when_later : (body : Trees) (handler : Option Handler) (o : End) (a : At) → Later a (when_made body handler o a)
when_later body handler (value v) a = then (captures_later (captured []) (handled_names body handler) a) (waited_later (when_capture body handler a) body handler v (when_capturing body handler a))
when_later body handler (halt h) a = stay

pub pairs_later : (m : Making ObjId) (a : At) → Later a (pair_out m a)
pairs_later (refused why) a = stay
pairs_later (makes n) a = stay

pub pair_later : (a : At) → Later a (pair_out (given_by (promise_pair a) a) (behind (promise_pair a) a))
pair_later a = then (does_later (promise_pair a) a) (pairs_later (given_by (promise_pair a) a) (behind (promise_pair a) a))

pub resolvers_later : (p : PromId) (m : Making Published) (a : At) → Later a (resolver_out p m a)
resolvers_later p (refused why) a = stay
resolvers_later p (makes b) a = stay

pub resolver_later : (p : PromId) (d : Vat (Making Published)) (a : At) → Later a (resolver_out p (given_by d a) (behind d a))
resolver_later p d a = then (does_later d a) (resolvers_later p (given_by d a) (behind d a))

mutual
  pub ends_later : {k : ℕ} {t : Tree} {a b : At} {o : End} → Ends k t a o b → Later a b
  ends_later (at_budget h) = stay
  ends_later (at_depth h g) = stay
  ends_later (at_node h g r) = runs_later r

  pub runs_later : {k : ℕ} {t : Tree} {a b : At} {o : End} → Runs k t a o b → Later a b
  runs_later run_null = stay
  runs_later run_bool = stay
  runs_later run_int = stay
  runs_later run_text = stay
  runs_later (run_noun {x = x} {a = a}) = noun_later x a
  runs_later (run_define {p = p} {b = b} {o = o} r) = then (ends_later r) (defined_later p o b)
  runs_later (run_variable {x = x} {b = b} {o = o} r) = then (ends_later r) (declared_later x o b)
  runs_later (run_assign {x = x} {b = b} {o = o} r) = then (ends_later r) (assigned_later x o b)
  runs_later (run_call_receiver r) = ends_later r
  runs_later (run_call_gives {verb = verb} {c = c} {v = v} {g = g} r u e) = then (then (ends_later r) (args_later u)) (called_later v verb g c)
  runs_later (run_call_enters {verb = verb} {c = c} {v = v} {g = g} r u e q) = then (then (then (ends_later r) (args_later u)) (called_later v verb g c)) (items_later q)
  runs_later (run_call_uses {verb = verb} {c = c} {v = v} {g = g} {p = p} {d = d} r u e) = then (then (then (ends_later r) (args_later u)) (called_later v verb g c)) (resolver_later p d (called v verb g c))
  runs_later (run_send_receiver r) = ends_later r
  runs_later (run_send {verb = verb} {c = c} {v = v} {g = g} r u) = then (then (ends_later r) (args_later u)) (sent_later verb v g c)
  runs_later (run_list r) = args_later r
  runs_later (run_same_left r) = ends_later r
  runs_later (run_same {c = c} {v = v} {o = o} r u) = then (then (ends_later r) (ends_later u)) (same_later v o c)
  runs_later (run_define_list {ps = ps} {b = b} {o = o} r) = then (then (ends_later r) (datum_later o b)) (parts_later ps (parts_of ps (datum_of o b)) (datum_read o b))
  runs_later (run_hide q) = block_later q
  runs_later (run_primitive r) = needs_later r
  runs_later (run_if_goes r e q) = then (needs_later r) (block_later q)
  runs_later (run_if_ends r e) = needs_later r
  runs_later (run_while_again r e q w) = then (then (needs_later r) (block_later q)) (runs_later w)
  runs_later (run_while_halts r e q) = then (needs_later r) (block_later q)
  runs_later (run_while_done r e) = needs_later r
  runs_later (run_while_ends r e) = needs_later r
  runs_later (run_for r e q) = then (needs_later r) (each_later q)
  runs_later (run_for_ends r e) = needs_later r
  runs_later (run_try q e) = block_later q
  runs_later (run_try_caught q e w) = then (block_later q) (taking_later w)
  runs_later (run_object {p = p} {ms = ms} {a = a}) = then (captures_later (captured []) (captures p ms) a) (object_later p ms (capture_of p ms a) (capturing p ms a))
  runs_later (run_escape q) = taking_later q
  runs_later (run_when {body = body} {b = b} {o = o} r) = then (ends_later r) (when_later body None o b)
  runs_later (run_when_catch {body = body} {p = p} {handler = handler} {b = b} {o = o} r) = then (ends_later r) (when_later body (Some (record { pattern = p; block = handler })) o b)
  runs_later (run_new_promise {a = a}) = pair_later a

  pub needs_later : {k : ℕ} {t : Tree} {a b : At} {o : End} → Needs k t a o b → Later a b
  needs_later (needs {b = b} {o = o} r) = then (ends_later r) (datum_later o b)

  pub args_later : {k : ℕ} {ts : Trees} {a b : At} {g : Gather} → Args k ts a g b → Later a b
  args_later args_none = stay
  args_later (args_next r u) = then (ends_later r) (args_later u)
  args_later (args_halt r) = ends_later r

  pub items_later : {k : ℕ} {v : Val} {ts : Trees} {a b : At} {o : End} → Items k v ts a o b → Later a b
  items_later items_none = stay
  items_later (items_next r u) = then (ends_later r) (items_later u)
  items_later (items_halt r) = ends_later r

  pub block_later : {k : ℕ} {ts : Trees} {a b : At} {o : End} → Block k ts a o b → Later a b
  block_later (in_block r) = items_later r

  pub taking_later : {k : ℕ} {p : Pattern} {v : Val} {ts : Trees} {a b : At} {o : End} → Taking k p v ts a o b → Later a b
  taking_later (in_taking {p = p} {v = v} {a = a} r) = then (matched_later p v (entering a)) (items_later r)

  pub each_later : {k : ℕ} {p : Pattern} {ts : Trees} {vs : Vals} {a b : At} {o : End} → Each k p ts vs a o b → Later a b
  each_later each_none = stay
  each_later (each_next r u) = then (taking_later r) (each_later u)
  each_later (each_halt r) = taking_later r
