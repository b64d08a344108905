-- Each promise that is made is paid for by a step.
use Rattle.std.proofs.Common.{◌≡◌, ℕ, ◌+◌, ◌≤◌, List, [], ◌∷◌, Bool, true, false, Option, Some, None, refl, ap, ◌∙◌, arith}
use Rattle.ids.specs.declared.names.SlotId.{SlotId}
use Rattle.ids.specs.declared.names.PromId.{PromId}
use Rattle.ids.specs.declared.names.ObjId.{ObjId}
use Rattle.kernele.specs.Tree.{Name, Tree, Trees, Methods}
use Rattle.kernele_scopes.specs.Free.{captures}
use Rattle.kernele.specs.declared.tree.Pattern.{Pattern}
use Rattle.kernele.specs.declared.tree.Pattern.TheVariants as pattern
use Rattle.values.specs.Data.{Val, object, Vals, no_vals, and_val}
use Rattle.heap.specs.State.{Bind, fixed, slot, Plain}
use Rattle.post.specs.Delivery.{Handler, When}
use Rattle.sends.specs.Vats.{Vat}
use Rattle.sends.specs.Making.{Making, refused, makes, Sent, Published}
use Rattle.eval_rules.specs.At.{At}
use Rattle.eval_rules.specs.Outcomes.{End, value, halt, Gather, values, halted}
use Rattle.eval_rules.specs.Rules.{seeking, slot_put, capturing, Callee, on_object, on_ejector, on_datum, on_far, callee_of, callee_read, receiver, receiver_read, called, handled_names, when_capture, when_capturing, waited, when_made}
use Rattle.eval_rules.proofs.Seeking.{seeking_reads, noun_reads, captures_read}
use Rattle.eval_rules.specs.Rules.{Listing, listed, unlisted, parts_of, parts_bound, entering, bound_in, matched, matched_all, defined, next_slot, has_room, slot_made, variable_made, declared, assigned, Capture, captured, missing, capture_of, object_made, placed, with_object, sought_slot, Ends, at_budget, at_depth, at_node, Runs, run_null, run_bool, run_int, run_text, run_noun, run_define, run_variable, run_assign, run_call_receiver, run_call_gives, run_call_enters, run_call_uses, run_send_receiver, run_send, run_list, run_same_left, run_same, run_define_list, run_hide, run_primitive, run_if_goes, run_if_ends, run_while_again, run_while_halts, run_while_done, run_while_ends, run_for, run_for_ends, run_try, run_try_caught, run_object, run_escape, run_when, run_when_catch, run_new_promise, Needs, needs, Args, args_none, args_next, args_halt, Items, items_none, items_next, items_halt, Block, in_block, Taking, in_taking, Each, each_none, each_next, each_halt}
use Rattle.eval_rules.specs.Doings.{next_object, has_object_room, behind, given_by, datum_of, datum_read, send_of, send_out, sent_at, wait_of, wait_out, promise_pair, pair_out, resolver_out, same_read}
use Rattle.eval_rules.proofs.Doings.{datum_works, called_works, sent_works, when_works, pair_works, used_works, same_works}
use Rattle.eval_rules.proofs.Spent.{defined_left, parts_left, declared_left, assigned_left, object_left, matched_left}

-- ---- what makes no promise

bound_out : (own : Bool) (x : Name) (b : Bind) (a : At) → (bound_in own x b a).out ≡ a.out
bound_out true x b a = refl
bound_out false x b a = refl

matched_out : (p : Pattern) (v : Val) (a : At) → (matched p v a).out ≡ a.out
matched_out (pattern.Name x) v a = bound_out a.own_scope x (fixed v) a
matched_out pattern.Ignore v a = refl

defined_out : (p : Pattern) (o : End) (a : At) → (defined p o a).out ≡ a.out
defined_out p (value v) a = matched_out p v a
defined_out p (halt h) a = refl

all_out : (ps : List Pattern) (vs : Vals) (a : At) → (matched_all ps vs a).out ≡ a.out
all_out [] vs a = refl
all_out (p ∷ ps) no_vals a = refl
all_out (p ∷ ps) (and_val v vs) a = all_out ps vs (matched p v a) ∙ matched_out p v a

parts_out : (ps : List Pattern) (l : Listing) (a : At) → (parts_bound ps l a).out ≡ a.out
parts_out ps (listed vs) a = all_out ps vs a
parts_out ps (unlisted o) a = refl

made_out : (room : Bool) (x : Name) (v : Val) (a : At) → (variable_made room x v a).out ≡ a.out
made_out true x v a = bound_out a.own_scope x (slot (next_slot a)) (slot_made v a)
made_out false x v a = refl

declared_out : (x : Name) (o : End) (a : At) → (declared x o a).out ≡ a.out
declared_out x (value v) a = made_out (has_room a) x v a
declared_out x (halt h) a = refl

slot_out : (v : Val) (i : Option SlotId) (a : At) → (slot_put v i a).out ≡ a.out
slot_out v (Some i) a = refl
slot_out v None a = refl

assigned_out : (x : Name) (o : End) (a : At) → (assigned x o a).out ≡ a.out
assigned_out x (value v) a = slot_out v (sought_slot x a) (seeking x a) ∙ ap (λ b. b.out) (seeking_reads x a)
assigned_out x (halt h) a = refl

placed_out : (room : Bool) (p : Pattern) (o : Plain) (a : At) → (placed room p o a).out ≡ a.out
placed_out true p o a = matched_out p (object (next_object a)) (object_made o a)
placed_out false p o a = refl

object_out : (p : Pattern) (ms : Methods) (c : Capture) (a : At) → (with_object p ms c a).out ≡ a.out
object_out p ms (captured ns) a = placed_out (has_object_room a) p (record { own = p; captured = ns; methods = ms }) a
object_out p ms (missing x) a = refl

datum_out : (o : End) (a : At) → (datum_read o a).out ≡ a.out
datum_out (value v) a = refl
datum_out (halt h) a = refl

callee_out : (m : Callee) (u : Val) (verb : Name) (vs : Vals) (a : At) → (callee_read m u verb vs a).out ≡ a.out
callee_out (on_object i) u verb vs a = refl
callee_out (on_ejector j) u verb vs a = refl
callee_out on_datum u verb vs a = refl
callee_out on_far u verb vs a = refl

called_out : (v : Val) (verb : Name) (g : Gather) (a : At) → (called v verb g a).out ≡ a.out
called_out v verb (values vs) a = callee_out (callee_of a.vat (receiver v a)) (receiver v a) verb vs (receiver_read v a)
called_out v verb (halted h) a = refl

same_out : (v : Val) (o : End) (a : At) → (same_read v o a).out ≡ a.out
same_out v (value w) a = refl
same_out v (halt h) a = refl

-- the use of a resolver publishes a promise that was made before
resolver_promises : (p : PromId) (m : Making Published) (a : At) → (resolver_out p m a).out.promises ≡ a.out.promises
resolver_promises p (refused why) a = refl
resolver_promises p (makes b) a = refl

-- ---- what makes at most one

send_promises : {R : Type 0} (verb : Name) (m : Making Sent) (d : Vat R) (a : At) → (send_out verb m (behind d a)).out.promises ≤ a.out.promises + 1
send_promises verb (refused why) d a = omega arith
send_promises verb (makes s) d a = omega arith

sent_promises : (verb : Name) (v : Val) (g : Gather) (a : At) → (sent_at verb v g a).out.promises ≤ a.out.promises + 1
sent_promises verb v (values vs) a = send_promises verb (given_by (send_of v vs a) a) (send_of v vs a) a
sent_promises verb v (halted h) a = omega arith

wait_promises : {R : Type 0} (w : When) (m : Making PromId) (d : Vat R) (a : At) → (wait_out w m (behind d a)).out.promises ≤ a.out.promises + 1
wait_promises w (refused why) d a = omega arith
wait_promises w (makes p) d a = omega arith

waited_promises : (c : Capture) (body : Trees) (handler : Option Handler) (v : Val) (a : At) → (waited c body handler v a).out.promises ≤ a.out.promises + 1
waited_promises (captured ns) body handler v a = wait_promises (record { value = v; captured = ns; block = body; handler = handler }) (given_by (wait_of v a) a) (wait_of v a) a
waited_promises (missing x) body handler v a = omega arith

when_promises : (body : Trees) (handler : Option Handler) (o : End) (a : At) → (when_made body handler o a).out.promises ≤ a.out.promises + 1
when_promises body handler (value v) a =
    omega (arith, waited_promises (when_capture body handler a) body handler v (when_capturing body handler a), ap (λ b. b.out.promises) (captures_read (captured []) (handled_names body handler) a))
when_promises body handler (halt h) a = omega arith

pair_promises : {R : Type 0} (m : Making ObjId) (d : Vat R) (a : At) → (pair_out m (behind d a)).out.promises ≤ a.out.promises + 1
pair_promises (refused why) d a = omega arith
pair_promises (makes o) d a = omega arith

-- ---- evaluation

mutual
  pub ends_paid : {k : ℕ} {t : Tree} {a b : At} {o : End} → Ends k t a o b → b.out.promises + b.left ≤ a.out.promises + a.left
  ends_paid (at_budget h) = omega arith
  ends_paid (at_depth h g) = omega arith
  ends_paid (at_node h g r) = omega (arith, runs_paid r)

  -- a node's own step, which was taken before, pays for the promise that it makes
  runs_paid : {k : ℕ} {t : Tree} {a b : At} {o : End} → Runs k t a o b → b.out.promises + b.left ≤ a.out.promises + a.left + 1
  runs_paid run_null = omega arith
  runs_paid run_bool = omega arith
  runs_paid run_int = omega arith
  runs_paid run_text = omega arith
  runs_paid (run_noun {x = x} {a = a}) = omega (arith, ap (λ b. b.left) (noun_reads x a), ap (λ b. b.out.promises) (noun_reads x a))
  runs_paid (run_define {p = p} {b = b} {o = o} r) = omega (arith, ends_paid r, defined_left p o b, ap (λ y. y.promises) (defined_out p o b))
  runs_paid (run_variable {x = x} {b = b} {o = o} r) = omega (arith, ends_paid r, declared_left x o b, ap (λ y. y.promises) (declared_out x o b))
  runs_paid (run_assign {x = x} {b = b} {o = o} r) = omega (arith, ends_paid r, assigned_left x o b, ap (λ y. y.promises) (assigned_out x o b))
  runs_paid (run_call_receiver r) = omega (arith, ends_paid r)
  runs_paid (run_call_gives {verb = verb} {c = c} {v = v} {g = g} r u e) = omega (arith, ends_paid r, args_paid u, ap (λ b. b.left) (called_works v verb g c), ap (λ y. y.promises) (called_out v verb g c))
  runs_paid (run_call_enters {verb = verb} {c = c} {v = v} {g = g} r u e q) = omega (arith, ends_paid r, args_paid u, ap (λ b. b.left) (called_works v verb g c), ap (λ y. y.promises) (called_out v verb g c), items_paid q)
  runs_paid (run_call_uses {verb = verb} {c = c} {v = v} {g = g} {p = p} {d = d} r u e) =
      let z : At = called v verb g c in
      omega (arith, ends_paid r, args_paid u, ap (λ b. b.left) (used_works v verb g p d c), ap (λ y. y.promises) (called_out v verb g c), resolver_promises p (given_by d z) (behind d z))
  runs_paid (run_send_receiver r) = omega (arith, ends_paid r)
  runs_paid (run_send {verb = verb} {c = c} {v = v} {g = g} r u) = omega (arith, ends_paid r, args_paid u, ap (λ b. b.left) (sent_works verb v g c), sent_promises verb v g c)
  runs_paid (run_list r) = omega (arith, args_paid r)
  runs_paid (run_same_left r) = omega (arith, ends_paid r)
  runs_paid (run_same {c = c} {v = v} {o = o} r u) = omega (arith, ends_paid r, ends_paid u, ap (λ b. b.left) (same_works v o c), ap (λ y. y.promises) (same_out v o c))
  runs_paid (run_define_list {ps = ps} {b = b} {o = o} r) =
      let l : Listing = parts_of ps (datum_of o b) in
      omega (arith, ends_paid r, ap (λ b. b.left) (datum_works o b), ap (λ y. y.promises) (datum_out o b), parts_left ps l (datum_read o b), ap (λ y. y.promises) (parts_out ps l (datum_read o b)))
  runs_paid (run_hide q) = omega (arith, block_paid q)
  runs_paid (run_primitive r) = omega (arith, needs_paid r)
  runs_paid (run_if_goes r e q) = omega (arith, needs_paid r, block_paid q)
  runs_paid (run_if_ends r e) = omega (arith, needs_paid r)
  runs_paid (run_while_again r e q w) = omega (arith, needs_paid r, block_paid q, runs_paid w)
  runs_paid (run_while_halts r e q) = omega (arith, needs_paid r, block_paid q)
  runs_paid (run_while_done r e) = omega (arith, needs_paid r)
  runs_paid (run_while_ends r e) = omega (arith, needs_paid r)
  runs_paid (run_for r e q) = omega (arith, needs_paid r, each_paid q)
  runs_paid (run_for_ends r e) = omega (arith, needs_paid r)
  runs_paid (run_try q e) = omega (arith, block_paid q)
  runs_paid (run_try_caught q e w) = omega (arith, block_paid q, taking_paid w)
  runs_paid (run_object {p = p} {ms = ms} {a = a}) =
      let c : Capture = capture_of p ms a in
      omega (arith, object_left p ms c (capturing p ms a), ap (λ y. y.promises) (object_out p ms c (capturing p ms a)), ap (λ b. b.left) (captures_read (captured []) (captures p ms) a), ap (λ b. b.out.promises) (captures_read (captured []) (captures p ms) a))
  runs_paid (run_escape q) = omega (arith, taking_paid q)
  runs_paid (run_when {body = body} {b = b} {o = o} r) = omega (arith, ends_paid r, ap (λ b. b.left) (when_works body None o b), when_promises body None o b)
  runs_paid (run_when_catch {body = body} {p = p} {handler = handler} {b = b} {o = o} r) =
      let m : Option Handler = Some (record { pattern = p; block = handler }) in
      omega (arith, ends_paid r, ap (λ b. b.left) (when_works body m o b), when_promises body m o b)
  runs_paid (run_new_promise {a = a}) = omega (arith, ap (λ b. b.left) (pair_works a), pair_promises (given_by (promise_pair a) a) (promise_pair a) a)

  needs_paid : {k : ℕ} {t : Tree} {a b : At} {o : End} → Needs k t a o b → b.out.promises + b.left ≤ a.out.promises + a.left
  needs_paid (needs {b = b} {o = o} r) = omega (arith, ends_paid r, ap (λ b. b.left) (datum_works o b), ap (λ y. y.promises) (datum_out o b))

  pub args_paid : {k : ℕ} {ts : Trees} {a b : At} {g : Gather} → Args k ts a g b → b.out.promises + b.left ≤ a.out.promises + a.left
  args_paid args_none = omega arith
  args_paid (args_next r u) = omega (arith, ends_paid r, args_paid u)
  args_paid (args_halt r) = ends_paid r

  items_paid : {k : ℕ} {v : Val} {ts : Trees} {a b : At} {o : End} → Items k v ts a o b → b.out.promises + b.left ≤ a.out.promises + a.left
  items_paid items_none = omega arith
  items_paid (items_next r u) = omega (arith, ends_paid r, items_paid u)
  items_paid (items_halt r) = ends_paid r

  block_paid : {k : ℕ} {ts : Trees} {a b : At} {o : End} → Block k ts a o b → b.out.promises + b.left ≤ a.out.promises + a.left
  block_paid (in_block r) = items_paid r

  taking_paid : {k : ℕ} {p : Pattern} {v : Val} {ts : Trees} {a b : At} {o : End} → Taking k p v ts a o b → b.out.promises + b.left ≤ a.out.promises + a.left
  taking_paid (in_taking {p = p} {v = v} {a = a} r) = omega (arith, items_paid r, matched_left p v (entering a), ap (λ y. y.promises) (matched_out p v (entering a)))

  each_paid : {k : ℕ} {p : Pattern} {ts : Trees} {vs : Vals} {a b : At} {o : End} → Each k p ts vs a o b → b.out.promises + b.left ≤ a.out.promises + a.left
  each_paid each_none = omega arith
  each_paid (each_next r u) = omega (arith, taking_paid r, each_paid u)
  each_paid (each_halt r) = taking_paid r
