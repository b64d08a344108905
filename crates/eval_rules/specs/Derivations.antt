-- What there is in a derivation: how many nodes begin in it, and how deep they run.
use Rattle.std.specs.Prelude.{ℕ, ◌+◌, max}
use Rattle.kernele.specs.Tree.{Tree, Trees}
use Rattle.kernele.specs.declared.tree.Pattern.{Pattern}
use Rattle.values.specs.Data.{Val, Vals}
use Rattle.eval_rules.specs.At.{At}
use Rattle.eval_rules.specs.Outcomes.{End, Gather}
use Rattle.eval_rules.specs.Rules.{Ends, at_budget, at_depth, at_node, Runs, run_null, run_bool, run_int, run_text, run_noun, run_define, run_variable, run_assign, run_call_receiver, run_call_gives, run_call_enters, run_call_uses, run_send_receiver, run_send, run_list, run_same_left, run_same, run_define_list, run_hide, run_primitive, run_if_goes, run_if_ends, run_while_again, run_while_halts, run_while_done, run_while_ends, run_for, run_for_ends, run_try, run_try_caught, run_object, run_escape, run_when, run_when_catch, run_new_promise, Needs, needs, Args, args_none, args_next, args_halt, Items, items_none, items_next, items_halt, Block, in_block, Taking, in_taking, Each, each_none, each_next, each_halt}

abbrev mutual
  -- how many nodes begin: a tree without a step left does not, and one at too deep a level does
  pub nodes : {k : ℕ} {t : Tree} {a b : At} {o : End} → Ends k t a o b → ℕ
  nodes (at_budget h) = 0
  nodes (at_depth h g) = 1
  nodes (at_node h g r) = 1 + nodes_below r

  -- and how many behind a node that runs: a node that a While runs again begins once
  pub nodes_below : {k : ℕ} {t : Tree} {a b : At} {o : End} → Runs k t a o b → ℕ
  nodes_below run_null = 0
  nodes_below run_bool = 0
  nodes_below run_int = 0
  nodes_below run_text = 0
  nodes_below run_noun = 0
  nodes_below (run_define r) = nodes r
  nodes_below (run_variable r) = nodes r
  nodes_below (run_assign r) = nodes r
  nodes_below (run_call_receiver r) = nodes r
  nodes_below (run_call_gives r u e) = nodes r + nodes_of_args u
  nodes_below (run_call_enters r u e q) = nodes r + nodes_of_args u + nodes_of_items q
  nodes_below (run_call_uses r u e) = nodes r + nodes_of_args u
  nodes_below (run_send_receiver r) = nodes r
  nodes_below (run_send r u) = nodes r + nodes_of_args u
  nodes_below (run_list u) = nodes_of_args u
  nodes_below (run_same_left r) = nodes r
  nodes_below (run_same r u) = nodes r + nodes u
  nodes_below (run_define_list r) = nodes r
  nodes_below (run_hide q) = nodes_of_block q
  nodes_below (run_primitive r) = nodes_of_datum r
  nodes_below (run_if_goes r e q) = nodes_of_datum r + nodes_of_block q
  nodes_below (run_if_ends r e) = nodes_of_datum r
  nodes_below (run_while_again r e q w) = nodes_of_datum r + nodes_of_block q + nodes_below w
  nodes_below (run_while_halts r e q) = nodes_of_datum r + nodes_of_block q
  nodes_below (run_while_done r e) = nodes_of_datum r
  nodes_below (run_while_ends r e) = nodes_of_datum r
  nodes_below (run_for r e q) = nodes_of_datum r + nodes_of_each q
  nodes_below (run_for_ends r e) = nodes_of_datum r
  nodes_below (run_try q e) = nodes_of_block q
  nodes_below (run_try_caught q e w) = nodes_of_block q + nodes_of_taking w
  nodes_below run_object = 0
  nodes_below (run_escape q) = nodes_of_taking q
  nodes_below (run_when r) = nodes r
  nodes_below (run_when_catch r) = nodes r
  nodes_below run_new_promise = 0

  pub nodes_of_datum : {k : ℕ} {t : Tree} {a b : At} {o : End} → Needs k t a o b → ℕ
  nodes_of_datum (needs r) = nodes r

  pub nodes_of_args : {k : ℕ} {ts : Trees} {a b : At} {g : Gather} → Args k ts a g b → ℕ
  nodes_of_args args_none = 0
  nodes_of_args (args_next r u) = nodes r + nodes_of_args u
  nodes_of_args (args_halt r) = nodes r

  pub nodes_of_items : {k : ℕ} {v : Val} {ts : Trees} {a b : At} {o : End} → Items k v ts a o b → ℕ
  nodes_of_items items_none = 0
  nodes_of_items (items_next r u) = nodes r + nodes_of_items u
  nodes_of_items (items_halt r) = nodes r

  pub nodes_of_block : {k : ℕ} {ts : Trees} {a b : At} {o : End} → Block k ts a o b → ℕ
  nodes_of_block (in_block r) = nodes_of_items r

  pub nodes_of_taking : {k : ℕ} {p : Pattern} {v : Val} {ts : Trees} {a b : At} {o : End} → Taking k p v ts a o b → ℕ
  nodes_of_taking (in_taking r) = nodes_of_items r

  pub nodes_of_each : {k : ℕ} {p : Pattern} {ts : Trees} {vs : Vals} {a b : At} {o : End} → Each k p ts vs a o b → ℕ
  nodes_of_each each_none = 0
  nodes_of_each (each_next r u) = nodes_of_taking r + nodes_of_each u
  nodes_of_each (each_halt r) = nodes_of_taking r

abbrev mutual
  -- the deepest level at which a node runs, or 0 where none does
  pub deepest : {k : ℕ} {t : Tree} {a b : At} {o : End} → Ends k t a o b → ℕ
  deepest (at_budget h) = 0
  deepest (at_depth h g) = 0
  deepest (at_node {k = k} h g r) = max k (deepest_below r)

  -- the same behind a node that runs
  pub deepest_below : {k : ℕ} {t : Tree} {a b : At} {o : End} → Runs k t a o b → ℕ
  deepest_below run_null = 0
  deepest_below run_bool = 0
  deepest_below run_int = 0
  deepest_below run_text = 0
  deepest_below run_noun = 0
  deepest_below (run_define r) = deepest r
  deepest_below (run_variable r) = deepest r
  deepest_below (run_assign r) = deepest r
  deepest_below (run_call_receiver r) = deepest r
  deepest_below (run_call_gives r u e) = max (deepest r) (deepest_of_args u)
  deepest_below (run_call_enters r u e q) = max (max (deepest r) (deepest_of_args u)) (deepest_of_items q)
  deepest_below (run_call_uses r u e) = max (deepest r) (deepest_of_args u)
  deepest_below (run_send_receiver r) = deepest r
  deepest_below (run_send r u) = max (deepest r) (deepest_of_args u)
  deepest_below (run_list u) = deepest_of_args u
  deepest_below (run_same_left r) = deepest r
  deepest_below (run_same r u) = max (deepest r) (deepest u)
  deepest_below (run_define_list r) = deepest r
  deepest_below (run_hide q) = deepest_of_block q
  deepest_below (run_primitive r) = deepest_of_datum r
  deepest_below (run_if_goes r e q) = max (deepest_of_datum r) (deepest_of_block q)
  deepest_below (run_if_ends r e) = deepest_of_datum r
  deepest_below (run_while_again r e q w) = max (max (deepest_of_datum r) (deepest_of_block q)) (deepest_below w)
  deepest_below (run_while_halts r e q) = max (deepest_of_datum r) (deepest_of_block q)
  deepest_below (run_while_done r e) = deepest_of_datum r
  deepest_below (run_while_ends r e) = deepest_of_datum r
  deepest_below (run_for r e q) = max (deepest_of_datum r) (deepest_of_each q)
  deepest_below (run_for_ends r e) = deepest_of_datum r
  deepest_below (run_try q e) = deepest_of_block q
  deepest_below (run_try_caught q e w) = max (deepest_of_block q) (deepest_of_taking w)
  deepest_below run_object = 0
  deepest_below (run_escape q) = deepest_of_taking q
  deepest_below (run_when r) = deepest r
  deepest_below (run_when_catch r) = deepest r
  deepest_below run_new_promise = 0

  pub deepest_of_datum : {k : ℕ} {t : Tree} {a b : At} {o : End} → Needs k t a o b → ℕ
  deepest_of_datum (needs r) = deepest r

  pub deepest_of_args : {k : ℕ} {ts : Trees} {a b : At} {g : Gather} → Args k ts a g b → ℕ
  deepest_of_args args_none = 0
  deepest_of_args (args_next r u) = max (deepest r) (deepest_of_args u)
  deepest_of_args (args_halt r) = deepest r

  pub deepest_of_items : {k : ℕ} {v : Val} {ts : Trees} {a b : At} {o : End} → Items k v ts a o b → ℕ
  deepest_of_items items_none = 0
  deepest_of_items (items_next r u) = max (deepest r) (deepest_of_items u)
  deepest_of_items (items_halt r) = deepest r

  pub deepest_of_block : {k : ℕ} {ts : Trees} {a b : At} {o : End} → Block k ts a o b → ℕ
  deepest_of_block (in_block r) = deepest_of_items r

  pub deepest_of_taking : {k : ℕ} {p : Pattern} {v : Val} {ts : Trees} {a b : At} {o : End} → Taking k p v ts a o b → ℕ
  deepest_of_taking (in_taking r) = deepest_of_items r

  pub deepest_of_each : {k : ℕ} {p : Pattern} {ts : Trees} {vs : Vals} {a b : At} {o : End} → Each k p ts vs a o b → ℕ
  deepest_of_each each_none = 0
  deepest_of_each (each_next r u) = max (deepest_of_taking r) (deepest_of_each u)
  deepest_of_each (each_halt r) = deepest_of_taking r
