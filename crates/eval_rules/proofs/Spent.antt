-- Steps are only spent.
use Rattle.std.proofs.Common.{◌≡◌, ℕ, ◌<◌, ◌≤◌, List, [], ◌∷◌, Bool, true, false, Option, Some, None, refl, ap, ◌∙◌, arith}
use Rattle.ids.specs.declared.names.SlotId.{SlotId}
use Rattle.kernele.specs.Tree.{Name, Tree, Trees, Methods}
use Rattle.kernele_scopes.specs.Free.{captures}
use Rattle.kernele.specs.declared.tree.Pattern.{Pattern}
use Rattle.kernele.specs.declared.tree.Pattern.TheVariants as pattern
use Rattle.values.specs.Data.{Val, object, Vals, no_vals, and_val}
use Rattle.heap.specs.State.{Bind, fixed, slot, Plain}
use Rattle.eval_rules.specs.At.{At}
use Rattle.eval_rules.specs.Outcomes.{End, value, halt, Gather}
use Rattle.eval_rules.specs.Rules.{seeking, slot_put, capturing}
use Rattle.eval_rules.proofs.Seeking.{seeking_reads, noun_reads, captures_read}
use Rattle.eval_rules.specs.Rules.{Listing, listed, unlisted, parts_of, parts_bound, choice_of, goes, entering, bound_in, matched, matched_all, defined, next_slot, has_room, slot_made, variable_made, declared, assigned, Capture, captured, missing, capture_of, object_made, placed, with_object, sought_slot, Ends, at_budget, at_depth, at_node, Runs, run_null, run_bool, run_int, run_text, run_noun, run_define, run_variable, run_assign, run_call_receiver, run_call_gives, run_call_enters, run_call_uses, run_send_receiver, run_send, run_list, run_same_left, run_same, run_define_list, run_hide, run_primitive, run_if_goes, run_if_ends, run_while_again, run_while_halts, run_while_done, run_while_ends, run_for, run_for_ends, run_try, run_try_caught, run_object, run_escape, run_when, run_when_catch, run_new_promise, Needs, needs, Args, args_none, args_next, args_halt, Items, items_none, items_next, items_halt, Block, in_block, Taking, in_taking, Each, each_none, each_next, each_halt}
use Rattle.eval_rules.specs.Doings.{next_object, has_object_room, datum_of, datum_read}
use Rattle.eval_rules.proofs.Doings.{datum_works, called_works, sent_works, when_works, pair_works, used_works, same_works}

bound_left : (own : Bool) (x : Name) (b : Bind) (a : At) → (bound_in own x b a).left ≡ a.left
bound_left true x b a = refl
bound_left false x b a = refl

pub matched_left : (p : Pattern) (v : Val) (a : At) → (matched p v a).left ≡ a.left
matched_left (pattern.Name x) v a = bound_left a.own_scope x (fixed v) a
matched_left pattern.Ignore v a = refl

pub defined_left : (p : Pattern) (o : End) (a : At) → (defined p o a).left ≡ a.left
defined_left p (value v) a = matched_left p v a
defined_left p (halt h) a = refl

all_left : (ps : List Pattern) (vs : Vals) (a : At) → (matched_all ps vs a).left ≡ a.left
all_left [] vs a = refl
all_left (p ∷ ps) no_vals a = refl
all_left (p ∷ ps) (and_val v vs) a = all_left ps vs (matched p v a) ∙ matched_left p v a

pub parts_left : (ps : List Pattern) (l : Listing) (a : At) → (parts_bound ps l a).left ≡ a.left
parts_left ps (listed vs) a = all_left ps vs a
parts_left ps (unlisted o) a = refl

made_left : (room : Bool) (x : Name) (v : Val) (a : At) → (variable_made room x v a).left ≡ a.left
made_left true x v a = bound_left a.own_scope x (slot (next_slot a)) (slot_made v a)
made_left false x v a = refl

pub declared_left : (x : Name) (o : End) (a : At) → (declared x o a).left ≡ a.left
declared_left x (value v) a = made_left (has_room a) x v a
declared_left x (halt h) a = refl

slot_left : (v : Val) (i : Option SlotId) (a : At) → (slot_put v i a).left ≡ a.left
slot_left v (Some i) a = refl
slot_left v None a = refl

pub assigned_left : (x : Name) (o : End) (a : At) → (assigned x o a).left ≡ a.left
assigned_left x (value v) a = slot_left v (sought_slot x a) (seeking x a) ∙ ap (λ b. b.left) (seeking_reads x a)
assigned_left x (halt h) a = refl

placed_left : (room : Bool) (p : Pattern) (o : Plain) (a : At) → (placed room p o a).left ≡ a.left
placed_left true p o a = matched_left p (object (next_object a)) (object_made o a)
placed_left false p o a = refl

pub object_left : (p : Pattern) (ms : Methods) (c : Capture) (a : At) → (with_object p ms c a).left ≡ a.left
object_left p ms (captured ns) a = placed_left (has_object_room a) p (record { own = p; captured = ns; methods = ms }) a
object_left p ms (missing x) a = refl

mutual
  pub ends_left : {k : ℕ} {t : Tree} {a b : At} {o : End} → Ends k t a o b → b.left ≤ a.left
  ends_left (at_budget h) = omega arith
  ends_left (at_depth h g) = omega arith
  ends_left (at_node h g r) = omega (arith, runs_left r)

  pub runs_left : {k : ℕ} {t : Tree} {a b : At} {o : End} → Runs k t a o b → b.left ≤ a.left
  runs_left run_null = omega arith
  runs_left run_bool = omega arith
  runs_left run_int = omega arith
  runs_left run_text = omega arith
  runs_left (run_noun {x = x} {a = a}) = omega (arith, ap (λ b. b.left) (noun_reads x a))
  runs_left (run_define {p = p} {b = b} {o = o} r) = omega (arith, ends_left r, defined_left p o b)
  runs_left (run_variable {x = x} {b = b} {o = o} r) = omega (arith, ends_left r, declared_left x o b)
  runs_left (run_assign {x = x} {b = b} {o = o} r) = omega (arith, ends_left r, assigned_left x o b)
  runs_left (run_call_receiver r) = ends_left r
  runs_left (run_call_gives {verb = verb} {c = c} {v = v} {g = g} r u e) = omega (arith, ends_left r, args_left u, ap (λ b. b.left) (called_works v verb g c))
  runs_left (run_call_enters {verb = verb} {c = c} {v = v} {g = g} r u e q) = omega (arith, ends_left r, args_left u, ap (λ b. b.left) (called_works v verb g c), items_left q)
  runs_left (run_call_uses {verb = verb} {c = c} {v = v} {g = g} {p = p} {d = d} r u e) = omega (arith, ends_left r, args_left u, ap (λ b. b.left) (used_works v verb g p d c))
  runs_left (run_send_receiver r) = ends_left r
  runs_left (run_send {verb = verb} {c = c} {v = v} {g = g} r u) = omega (arith, ends_left r, args_left u, ap (λ b. b.left) (sent_works verb v g c))
  runs_left (run_list r) = args_left r
  runs_left (run_same_left r) = ends_left r
  runs_left (run_same {c = c} {v = v} {o = o} r u) = omega (arith, ends_left r, ends_left u, ap (λ b. b.left) (same_works v o c))
  runs_left (run_define_list {ps = ps} {b = b} {o = o} r) = omega (arith, ends_left r, ap (λ b. b.left) (datum_works o b), parts_left ps (parts_of ps (datum_of o b)) (datum_read o b))
  runs_left (run_hide q) = block_left q
  runs_left (run_primitive r) = needs_left r
  runs_left (run_if_goes r e q) = omega (arith, needs_left r, block_left q)
  runs_left (run_if_ends r e) = needs_left r
  runs_left (run_while_again r e q w) = omega (arith, needs_left r, block_left q, runs_left w)
  runs_left (run_while_halts r e q) = omega (arith, needs_left r, block_left q)
  runs_left (run_while_done r e) = needs_left r
  runs_left (run_while_ends r e) = needs_left r
  runs_left (run_for r e q) = omega (arith, needs_left r, each_left q)
  runs_left (run_for_ends r e) = needs_left r
  runs_left (run_try q e) = block_left q
  runs_left (run_try_caught q e w) = omega (arith, block_left q, taking_left w)
  runs_left (run_object {p = p} {ms = ms} {a = a}) = omega (arith, object_left p ms (capture_of p ms a) (capturing p ms a), ap (λ b. b.left) (captures_read (captured []) (captures p ms) a))
  runs_left (run_escape q) = taking_left q
  runs_left (run_when {body = body} {b = b} {o = o} r) = omega (arith, ends_left r, ap (λ b. b.left) (when_works body None o b))
  runs_left (run_when_catch {body = body} {p = p} {handler = handler} {b = b} {o = o} r) = omega (arith, ends_left r, ap (λ b. b.left) (when_works body (Some (record { pattern = p; block = handler })) o b))
  runs_left (run_new_promise {a = a}) = omega (arith, ap (λ b. b.left) (pair_works a))

  pub needs_left : {k : ℕ} {t : Tree} {a b : At} {o : End} → Needs k t a o b → b.left ≤ a.left
  needs_left (needs {b = b} {o = o} r) = omega (arith, ends_left r, ap (λ b. b.left) (datum_works o b))

  pub args_left : {k : ℕ} {ts : Trees} {a b : At} {g : Gather} → Args k ts a g b → b.left ≤ a.left
  args_left args_none = omega arith
  args_left (args_next r u) = omega (arith, ends_left r, args_left u)
  args_left (args_halt r) = ends_left r

  pub items_left : {k : ℕ} {v : Val} {ts : Trees} {a b : At} {o : End} → Items k v ts a o b → b.left ≤ a.left
  items_left items_none = omega arith
  items_left (items_next r u) = omega (arith, ends_left r, items_left u)
  items_left (items_halt r) = ends_left r

  pub block_left : {k : ℕ} {ts : Trees} {a b : At} {o : End} → Block k ts a o b → b.left ≤ a.left
  block_left (in_block r) = items_left r

  pub taking_left : {k : ℕ} {p : Pattern} {v : Val} {ts : Trees} {a b : At} {o : End} → Taking k p v ts a o b → b.left ≤ a.left
  taking_left (in_taking {p = p} {v = v} {a = a} r) = omega (arith, items_left r, matched_left p v (entering a))

  pub each_left : {k : ℕ} {p : Pattern} {ts : Trees} {vs : Vals} {a b : At} {o : End} → Each k p ts vs a o b → b.left ≤ a.left
  each_left each_none = omega arith
  each_left (each_next r u) = omega (arith, taking_left r, each_left u)
  each_left (each_halt r) = taking_left r

-- a condition that leads on has spent a step
pub condition_less : {k : ℕ} {t : Tree} {a b : At} {o : End} {q : Bool} → Needs k t a o b → choice_of o ≡ goes q → b.left < a.left
condition_less (needs (at_budget h)) e = absurd (cc)
condition_less (needs (at_depth h g)) e = absurd (cc)
condition_less (needs (at_node {b = b} {o = o} h g r)) e = omega (arith, runs_left r, ap (λ b. b.left) (datum_works o b))
