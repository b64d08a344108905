-- Each node that begins takes a step, none runs too deep.
use Rattle.std.proofs.Common.{◌≡◌, ℕ, ◌+◌, ◌≤◌, [], Some, None, ap, arith}
use Rattle.kernele.specs.Tree.{Tree, Trees}
use Rattle.kernele_scopes.specs.Free.{captures}
use Rattle.kernele.specs.declared.tree.Pattern.{Pattern}
use Rattle.values.specs.Data.{Val, Vals}
use Rattle.eval_rules.specs.At.{At}
use Rattle.eval_rules.specs.Outcomes.{End, Gather}
use Rattle.eval_rules.specs.Derivations.{nodes, nodes_below, nodes_of_args, nodes_of_items, nodes_of_block, nodes_of_taking, nodes_of_each, deepest, deepest_below, deepest_of_args, deepest_of_items, deepest_of_block, deepest_of_taking, deepest_of_each, nodes_of_datum, deepest_of_datum}
use Rattle.eval_rules.specs.Rules.{parts_of, entering, captured, capture_of, capturing, Ends, at_budget, at_depth, at_node, Runs, run_null, run_bool, run_int, run_text, run_noun, run_define, run_variable, run_assign, run_call_receiver, run_call_gives, run_call_enters, run_call_uses, run_send_receiver, run_send, run_list, run_same_left, run_same, run_define_list, run_hide, run_primitive, run_if_goes, run_if_ends, run_while_again, run_while_halts, run_while_done, run_while_ends, run_for, run_for_ends, run_try, run_try_caught, run_object, run_escape, run_when, run_when_catch, run_new_promise, Needs, needs, Args, args_none, args_next, args_halt, Items, items_none, items_next, items_halt, Block, in_block, Taking, in_taking, Each, each_none, each_next, each_halt}
use Rattle.eval_rules.proofs.Seeking.{noun_reads, captures_read}
use Rattle.eval_rules.proofs.Spent.{matched_left, defined_left, parts_left, declared_left, assigned_left, object_left}
use Rattle.eval_rules.proofs.Doings.{datum_works, called_works, sent_works, when_works, pair_works, used_works, same_works}
use Rattle.eval_rules.specs.Doings.{datum_of, datum_read}

mutual
  pub ends_counted : {k : ℕ} {t : Tree} {a b : At} {o : End} (r : Ends k t a o b) → nodes r + b.left ≡ a.left
  ends_counted (at_budget h) = omega arith
  ends_counted (at_depth h g) = omega arith
  ends_counted (at_node h g r) = omega (arith, runs_counted r)

  pub runs_counted : {k : ℕ} {t : Tree} {a b : At} {o : End} (r : Runs k t a o b) → nodes_below r + b.left ≡ a.left
  runs_counted run_null = omega arith
  runs_counted run_bool = omega arith
  runs_counted run_int = omega arith
  runs_counted run_text = omega arith
  runs_counted (run_noun {x = x} {a = a}) = omega (arith, ap (λ b. b.left) (noun_reads x a))
  runs_counted (run_define {p = p} {b = b} {o = o} r) = omega (arith, ends_counted r, defined_left p o b)
  runs_counted (run_variable {x = x} {b = b} {o = o} r) = omega (arith, ends_counted r, declared_left x o b)
  runs_counted (run_assign {x = x} {b = b} {o = o} r) = omega (arith, ends_counted r, assigned_left x o b)
  runs_counted (run_call_receiver r) = ends_counted r
  runs_counted (run_call_gives {verb = verb} {c = c} {v = v} {g = g} r u e) = omega (arith, ends_counted r, args_counted u, ap (λ b. b.left) (called_works v verb g c))
  runs_counted (run_call_enters {verb = verb} {c = c} {v = v} {g = g} r u e q) = omega (arith, ends_counted r, args_counted u, ap (λ b. b.left) (called_works v verb g c), items_counted q)
  runs_counted (run_call_uses {verb = verb} {c = c} {v = v} {g = g} {p = p} {d = d} r u e) = omega (arith, ends_counted r, args_counted u, ap (λ b. b.left) (used_works v verb g p d c))
  runs_counted (run_send_receiver r) = ends_counted r
  runs_counted (run_send {verb = verb} {c = c} {v = v} {g = g} r u) = omega (arith, ends_counted r, args_counted u, ap (λ b. b.left) (sent_works verb v g c))
  runs_counted (run_list r) = args_counted r
  runs_counted (run_same_left r) = ends_counted r
  runs_counted (run_same {c = c} {v = v} {o = o} r u) = omega (arith, ends_counted r, ends_counted u, ap (λ b. b.left) (same_works v o c))
  runs_counted (run_define_list {ps = ps} {b = b} {o = o} r) = omega (arith, ends_counted r, ap (λ b. b.left) (datum_works o b), parts_left ps (parts_of ps (datum_of o b)) (datum_read o b))
  runs_counted (run_hide q) = block_counted q
  runs_counted (run_primitive r) = needs_counted r
  runs_counted (run_if_goes r e q) = omega (arith, needs_counted r, block_counted q)
  runs_counted (run_if_ends r e) = needs_counted r
  runs_counted (run_while_again r e q w) = omega (arith, needs_counted r, block_counted q, runs_counted w)
  runs_counted (run_while_halts r e q) = omega (arith, needs_counted r, block_counted q)
  runs_counted (run_while_done r e) = needs_counted r
  runs_counted (run_while_ends r e) = needs_counted r
  runs_counted (run_for r e q) = omega (arith, needs_counted r, each_counted q)
  runs_counted (run_for_ends r e) = needs_counted r
  runs_counted (run_try q e) = block_counted q
  runs_counted (run_try_caught q e w) = omega (arith, block_counted q, taking_counted w)
  runs_counted (run_object {p = p} {ms = ms} {a = a}) = omega (arith, object_left p ms (capture_of p ms a) (capturing p ms a), ap (λ b. b.left) (captures_read (captured []) (captures p ms) a))
  runs_counted (run_escape q) = taking_counted q
  runs_counted (run_when {body = body} {b = b} {o = o} r) = omega (arith, ends_counted r, ap (λ b. b.left) (when_works body None o b))
  runs_counted (run_when_catch {body = body} {p = p} {handler = handler} {b = b} {o = o} r) = omega (arith, ends_counted r, ap (λ b. b.left) (when_works body (Some (record { pattern = p; block = handler })) o b))
  runs_counted (run_new_promise {a = a}) = omega (arith, ap (λ b. b.left) (pair_works a))

  pub needs_counted : {k : ℕ} {t : Tree} {a b : At} {o : End} (r : Needs k t a o b) → nodes_of_datum r + b.left ≡ a.left
  needs_counted (needs {b = b} {o = o} r) = omega (arith, ends_counted r, ap (λ b. b.left) (datum_works o b))

  pub args_counted : {k : ℕ} {ts : Trees} {a b : At} {g : Gather} (r : Args k ts a g b) → nodes_of_args r + b.left ≡ a.left
  args_counted args_none = omega arith
  args_counted (args_next r u) = omega (arith, ends_counted r, args_counted u)
  args_counted (args_halt r) = ends_counted r

  pub items_counted : {k : ℕ} {v : Val} {ts : Trees} {a b : At} {o : End} (r : Items k v ts a o b) → nodes_of_items r + b.left ≡ a.left
  items_counted items_none = omega arith
  items_counted (items_next r u) = omega (arith, ends_counted r, items_counted u)
  items_counted (items_halt r) = ends_counted r

  pub block_counted : {k : ℕ} {ts : Trees} {a b : At} {o : End} (r : Block k ts a o b) → nodes_of_block r + b.left ≡ a.left
  block_counted (in_block r) = items_counted r

  pub taking_counted : {k : ℕ} {p : Pattern} {v : Val} {ts : Trees} {a b : At} {o : End} (r : Taking k p v ts a o b) → nodes_of_taking r + b.left ≡ a.left
  taking_counted (in_taking {p = p} {v = v} {a = a} r) = omega (arith, items_counted r, matched_left p v (entering a))

  pub each_counted : {k : ℕ} {p : Pattern} {ts : Trees} {vs : Vals} {a b : At} {o : End} (r : Each k p ts vs a o b) → nodes_of_each r + b.left ≡ a.left
  each_counted each_none = omega arith
  each_counted (each_next r u) = omega (arith, taking_counted r, each_counted u)
  each_counted (each_halt r) = taking_counted r

mutual
  pub ends_deep : {k : ℕ} {t : Tree} {a b : At} {o : End} (r : Ends k t a o b) → deepest r ≤ 1000
  ends_deep (at_budget h) = omega arith
  ends_deep (at_depth h g) = omega arith
  ends_deep (at_node h g r) = omega (arith, runs_deep r)

  pub runs_deep : {k : ℕ} {t : Tree} {a b : At} {o : End} (r : Runs k t a o b) → deepest_below r ≤ 1000
  runs_deep run_null = omega arith
  runs_deep run_bool = omega arith
  runs_deep run_int = omega arith
  runs_deep run_text = omega arith
  runs_deep run_noun = omega arith
  runs_deep (run_define r) = ends_deep r
  runs_deep (run_variable r) = ends_deep r
  runs_deep (run_assign r) = ends_deep r
  runs_deep (run_call_receiver r) = ends_deep r
  runs_deep (run_call_gives r u e) = omega (arith, ends_deep r, args_deep u)
  runs_deep (run_call_enters r u e q) = omega (arith, ends_deep r, args_deep u, items_deep q)
  runs_deep (run_call_uses r u e) = omega (arith, ends_deep r, args_deep u)
  runs_deep (run_send_receiver r) = ends_deep r
  runs_deep (run_send r u) = omega (arith, ends_deep r, args_deep u)
  runs_deep (run_list r) = args_deep r
  runs_deep (run_same_left r) = ends_deep r
  runs_deep (run_same r u) = omega (arith, ends_deep r, ends_deep u)
  runs_deep (run_define_list r) = ends_deep r
  runs_deep (run_hide q) = block_deep q
  runs_deep (run_primitive r) = needs_deep r
  runs_deep (run_if_goes r e q) = omega (arith, needs_deep r, block_deep q)
  runs_deep (run_if_ends r e) = needs_deep r
  runs_deep (run_while_again r e q w) = omega (arith, needs_deep r, block_deep q, runs_deep w)
  runs_deep (run_while_halts r e q) = omega (arith, needs_deep r, block_deep q)
  runs_deep (run_while_done r e) = needs_deep r
  runs_deep (run_while_ends r e) = needs_deep r
  runs_deep (run_for r e q) = omega (arith, needs_deep r, each_deep q)
  runs_deep (run_for_ends r e) = needs_deep r
  runs_deep (run_try q e) = block_deep q
  runs_deep (run_try_caught q e w) = omega (arith, block_deep q, taking_deep w)
  runs_deep run_object = omega arith
  runs_deep (run_escape q) = taking_deep q
  runs_deep (run_when r) = ends_deep r
  runs_deep (run_when_catch r) = ends_deep r
  runs_deep run_new_promise = omega arith

  pub needs_deep : {k : ℕ} {t : Tree} {a b : At} {o : End} (r : Needs k t a o b) → deepest_of_datum r ≤ 1000
  needs_deep (needs r) = ends_deep r

  pub args_deep : {k : ℕ} {ts : Trees} {a b : At} {g : Gather} (r : Args k ts a g b) → deepest_of_args r ≤ 1000
  args_deep args_none = omega arith
  args_deep (args_next r u) = omega (arith, ends_deep r, args_deep u)
  args_deep (args_halt r) = ends_deep r

  pub items_deep : {k : ℕ} {v : Val} {ts : Trees} {a b : At} {o : End} (r : Items k v ts a o b) → deepest_of_items r ≤ 1000
  items_deep items_none = omega arith
  items_deep (items_next r u) = omega (arith, ends_deep r, items_deep u)
  items_deep (items_halt r) = ends_deep r

  pub block_deep : {k : ℕ} {ts : Trees} {a b : At} {o : End} (r : Block k ts a o b) → deepest_of_block r ≤ 1000
  block_deep (in_block r) = items_deep r

  pub taking_deep : {k : ℕ} {p : Pattern} {v : Val} {ts : Trees} {a b : At} {o : End} (r : Taking k p v ts a o b) → deepest_of_taking r ≤ 1000
  taking_deep (in_taking r) = items_deep r

  pub each_deep : {k : ℕ} {p : Pattern} {ts : Trees} {vs : Vals} {a b : At} {o : End} (r : Each k p ts vs a o b) → deepest_of_each r ≤ 1000
  each_deep each_none = omega arith
  each_deep (each_next r u) = omega (arith, taking_deep r, each_deep u)
  each_deep (each_halt r) = taking_deep r
