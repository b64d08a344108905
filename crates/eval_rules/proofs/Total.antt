-- Each tree has an outcome.
use Rattle.std.proofs.Common.{◌≡◌, ℕ, zero, suc, ◌+◌, ◌<◌, ◌≤◌, ◌⊎◌, inl, inr, Option, Some, None, true, false, refl, ap, arith}
use Rattle.std.proofs.lemmas.Bool.{cases_lt}
use Rattle.std.proofs.Math.Nat.{eq-or-lt_of_le}
use Rattle.kernele.specs.Tree.{Name, Tree, null_tree, bool_tree, int_tree, text_tree, noun, define, variable, assign, call, list_tree, same_tree, define_list, hide, if_tree, while_tree, for_tree, try_tree, primitive, object_tree, escape_tree, Trees, none, and_then, send, when_tree, when_catch_tree, new_promise}
use Rattle.kernele.specs.declared.tree.Pattern.{Pattern}
use Rattle.kernele.specs.declared.tree.Pattern.TheVariants as pattern
use Rattle.values.specs.Data.{Val, null, text, ejector, Vals, no_vals, and_val}
use Rattle.eval_rules.specs.At.{At}
use Rattle.eval_rules.specs.Outcomes.{End, value, halt, Gather}
use Rattle.eval_rules.specs.Rules.{begun, Listing, listed, unlisted, listing_of, Choice, goes, ends, choice_of, chosen, caught, entering, matched, again, inside, Target, gives, enters, target_of, called, next_ejector, escaping, Ends, at_budget, at_depth, at_node, Runs, run_null, run_bool, run_int, run_text, run_noun, run_define, run_variable, run_assign, run_call_receiver, run_call_gives, run_call_enters, run_call_uses, run_send_receiver, run_send, run_list, run_same_left, run_same, run_define_list, run_hide, run_primitive, run_if_goes, run_if_ends, run_while_again, run_while_halts, run_while_done, run_while_ends, run_for, run_for_ends, run_try, run_try_caught, run_object, run_escape, run_when, run_when_catch, run_new_promise, Needs, needs, Args, args_none, args_next, args_halt, Items, items_none, items_next, items_halt, Block, in_block, Taking, in_taking, Each, each_none, each_next, each_halt, uses}
use Rattle.eval_rules.proofs.Spent.{matched_left, ends_left, args_left, block_left, taking_left, needs_left, condition_less}
use Rattle.eval_rules.proofs.Doings.{called_works}

-- an end and a place that a derivation leads to
pub record Outcome {A : Type 0} (R : A → At → Type 0) : Type 0 where
  pub end : A
  pub place : At
  pub run : R end place

-- every tree that is begun with fewer steps left has an outcome
abbrev Fewer : ℕ → Type 0
Fewer n = (k : ℕ) (t : Tree) (a : At) → a.left < n → Outcome (Runs k t a)

-- so each has one that is begun with as many, since it takes a step before its parts do
module _ (n : ℕ) (fewer : Fewer n) where
  begins : (k : ℕ) (t : Tree) (a : At) → a.left ≤ n → (0 ≡ a.left) ⊎ (0 < a.left) → (1000 < k) ⊎ (k ≤ 1000) → Outcome (Ends k t a)
  begins k t a h (inl spent) d = record { end = _; place = _; run = at_budget (omega arith) }
  begins k t a h (inr more) (inl deep) = record { end = _; place = _; run = at_depth more deep }
  begins k t a h (inr more) (inr level) = let r = fewer k t (begun a) (omega arith) in record { end = _; place = _; run = at_node more level r.run }

  tree_end : (k : ℕ) (t : Tree) (a : At) → a.left ≤ n → Outcome (Ends k t a)
  tree_end k t a h = begins k t a h (eq-or-lt_of_le (omega arith)) (cases_lt 1000 k)

  -- where a datum is wanted
  datum_end : (k : ℕ) (t : Tree) (a : At) → a.left ≤ n → Outcome (Needs k t a)
  datum_end k t a h = let r = tree_end k t a h in record { end = _; place = _; run = needs r.run }

  -- ---- trees in order

  args_after : (k : ℕ) (t : Tree) (ts : Trees) (a b : At) (o : End) → a.left ≤ n → Ends k t a o b → ((c : At) → c.left ≤ n → Outcome (Args k ts c)) → Outcome (Args k (and_then t ts) a)
  args_after k t ts a b (value v) h e rest = let r = rest b (omega (arith, ends_left e)) in record { end = _; place = _; run = args_next e r.run }
  args_after k t ts a b (halt x) h e rest = record { end = _; place = _; run = args_halt e }

  args_end : (k : ℕ) (ts : Trees) (a : At) → a.left ≤ n → Outcome (Args k ts a)
  args_end k none a h = record { end = _; place = _; run = args_none }
  args_end k (and_then t ts) a h = let e = tree_end k t a h in args_after k t ts a e.place e.end h e.run (λ c g. args_end k ts c g)

  items_after : (k : ℕ) (v : Val) (t : Tree) (ts : Trees) (a b : At) (o : End) → a.left ≤ n → Ends k t a o b → ((w : Val) (c : At) → c.left ≤ n → Outcome (Items k w ts c)) → Outcome (Items k v (and_then t ts) a)
  items_after k v t ts a b (value w) h e rest = let r = rest w b (omega (arith, ends_left e)) in record { end = _; place = _; run = items_next e r.run }
  items_after k v t ts a b (halt x) h e rest = record { end = _; place = _; run = items_halt e }

  items_end : (k : ℕ) (v : Val) (ts : Trees) (a : At) → a.left ≤ n → Outcome (Items k v ts a)
  items_end k v none a h = record { end = _; place = _; run = items_none }
  items_end k v (and_then t ts) a h = let e = tree_end k t a h in items_after k v t ts a e.place e.end h e.run (λ w c g. items_end k w ts c g)

  -- ---- blocks

  block_end : (k : ℕ) (ts : Trees) (a : At) → a.left ≤ n → Outcome (Block k ts a)
  block_end k ts a h = let r = items_end k null ts (entering a) h in record { end = _; place = _; run = in_block r.run }

  taking_end : (k : ℕ) (p : Pattern) (v : Val) (ts : Trees) (a : At) → a.left ≤ n → Outcome (Taking k p v ts a)
  taking_end k p v ts a h = let r = items_end k null ts (matched p v (entering a)) (omega (arith, matched_left p v (entering a))) in record { end = _; place = _; run = in_taking r.run }

  each_after : (k : ℕ) (p : Pattern) (ts : Trees) (v : Val) (vs : Vals) (a b : At) (o : End) → a.left ≤ n → Taking k p v ts a o b → ((c : At) → c.left ≤ n → Outcome (Each k p ts vs c)) → Outcome (Each k p ts (and_val v vs) a)
  each_after k p ts v vs a b (value w) h q rest = let r = rest b (omega (arith, taking_left q)) in record { end = _; place = _; run = each_next q r.run }
  each_after k p ts v vs a b (halt x) h q rest = record { end = _; place = _; run = each_halt q }

  each_end : (k : ℕ) (p : Pattern) (ts : Trees) (vs : Vals) (a : At) → a.left ≤ n → Outcome (Each k p ts vs a)
  each_end k p ts no_vals a h = record { end = _; place = _; run = each_none }
  each_end k p ts (and_val v vs) a h = let q = taking_end k p v ts a h in each_after k p ts v vs a q.place q.end h q.run (λ c g. each_end k p ts vs c g)

  -- ---- constructs that go on with what a part ended with

  -- a call whose arguments are there
  call_goes : (k : ℕ) (r : Tree) (verb : Name) (args : Trees) (a b c : At) (v : Val) (g : Gather) (x : Target) → c.left ≤ n → Ends (k + 1) r a (value v) b → Args (k + 1) args b g c → target_of v verb g c ≡ x → Outcome (Runs k (call r verb args) a)
  call_goes k r verb args a b c v g (gives o) h e u is = record { end = _; place = _; run = run_call_gives e u is }
  call_goes k r verb args a b c v g (enters ns body) h e u is =
      let q = items_end (k + 1) null body (inside ns (called v verb g c)) (omega (arith, ap (λ z. z.left) (called_works v verb g c))) in
      record { end = _; place = _; run = run_call_enters e u is q.run }
  call_goes k r verb args a b c v g (uses p d) h e u is = record { end = _; place = _; run = run_call_uses e u is }

  call_end : (k : ℕ) (r : Tree) (verb : Name) (args : Trees) (a b : At) (o : End) → a.left ≤ n → Ends (k + 1) r a o b → Outcome (Runs k (call r verb args) a)
  call_end k r verb args a b (value v) h e =
      let u = args_end (k + 1) args b (omega (arith, ends_left e)) in
      call_goes k r verb args a b u.place v u.end (target_of v verb u.end u.place) (omega (arith, ends_left e, args_left u.run)) e u.run refl
  call_end k r verb args a b (halt x) h e = record { end = _; place = _; run = run_call_receiver e }

  send_end : (k : ℕ) (r : Tree) (verb : Name) (args : Trees) (a b : At) (o : End) → a.left ≤ n → Ends (k + 1) r a o b → Outcome (Runs k (send r verb args) a)
  send_end k r verb args a b (value v) h e = let u = args_end (k + 1) args b (omega (arith, ends_left e)) in record { end = _; place = _; run = run_send e u.run }
  send_end k r verb args a b (halt x) h e = record { end = _; place = _; run = run_send_receiver e }

  same_end : (k : ℕ) (l r : Tree) (a b : At) (o : End) → a.left ≤ n → Ends (k + 1) l a o b → Outcome (Runs k (same_tree l r) a)
  same_end k l r a b (value v) h e = let f = tree_end (k + 1) r b (omega (arith, ends_left e)) in record { end = _; place = _; run = run_same e f.run }
  same_end k l r a b (halt x) h e = record { end = _; place = _; run = run_same_left e }

  if_end : (k : ℕ) (c : Tree) (first second : Trees) (a b : At) (o : End) (x : Choice) → a.left ≤ n → Needs (k + 1) c a o b → choice_of o ≡ x → Outcome (Runs k (if_tree c first second) a)
  if_end k c first second a b o (goes q) h e is = let r = block_end (k + 1) (chosen q first second) b (omega (arith, needs_left e)) in record { end = _; place = _; run = run_if_goes e is r.run }
  if_end k c first second a b o (ends p) h e is = record { end = _; place = _; run = run_if_ends e is }

  -- a While goes round with fewer steps: its condition took one
  round : (k : ℕ) (c : Tree) (body : Trees) (a b d : At) (o p : End) → a.left ≤ n → Needs (k + 1) c a o b → choice_of o ≡ goes true → Block (k + 1) body b p d → Outcome (Runs k (while_tree c body) a)
  round k c body a b d o (value v) h e is q =
      let r = fewer k (while_tree c body) (again a d) (omega (arith, condition_less e is, block_left q)) in
      record { end = _; place = _; run = run_while_again e is q r.run }
  round k c body a b d o (halt x) h e is q = record { end = _; place = _; run = run_while_halts e is q }

  while_end : (k : ℕ) (c : Tree) (body : Trees) (a b : At) (o : End) (x : Choice) → a.left ≤ n → Needs (k + 1) c a o b → choice_of o ≡ x → Outcome (Runs k (while_tree c body) a)
  while_end k c body a b o (goes true) h e is = let q = block_end (k + 1) body b (omega (arith, needs_left e)) in round k c body a b q.place o q.end h e is q.run
  while_end k c body a b o (goes false) h e is = record { end = _; place = _; run = run_while_done e is }
  while_end k c body a b o (ends p) h e is = record { end = _; place = _; run = run_while_ends e is }

  for_end : (k : ℕ) (p : Pattern) (e : Tree) (body : Trees) (a b : At) (o : End) (x : Listing) → a.left ≤ n → Needs (k + 1) e a o b → listing_of o ≡ x → Outcome (Runs k (for_tree p e body) a)
  for_end k p e body a b o (listed vs) h f is = let r = each_end (k + 1) p body vs b (omega (arith, needs_left f)) in record { end = _; place = _; run = run_for f is r.run }
  for_end k p e body a b o (unlisted q) h f is = record { end = _; place = _; run = run_for_ends f is }

  try_end : (k : ℕ) (body : Trees) (p : Pattern) (handler : Trees) (a b : At) (o : End) (x : Option Name) → a.left ≤ n → Block (k + 1) body a o b → caught o ≡ x → Outcome (Runs k (try_tree body p handler) a)
  try_end k body p handler a b o (Some problem) h q is = let r = taking_end (k + 1) p (text problem) handler b (omega (arith, block_left q)) in record { end = _; place = _; run = run_try_caught q is r.run }
  try_end k body p handler a b o None h q is = record { end = _; place = _; run = run_try q is }

  -- ---- each construct

  tree_runs : (k : ℕ) (t : Tree) (a : At) → a.left ≤ n → Outcome (Runs k t a)
  tree_runs k null_tree a h = record { end = _; place = _; run = run_null }
  tree_runs k (bool_tree b) a h = record { end = _; place = _; run = run_bool }
  tree_runs k (int_tree z) a h = record { end = _; place = _; run = run_int }
  tree_runs k (text_tree s) a h = record { end = _; place = _; run = run_text }
  tree_runs k (noun x) a h = record { end = _; place = _; run = run_noun }
  tree_runs k (define p e) a h = let r = tree_end (k + 1) e a h in record { end = _; place = _; run = run_define r.run }
  tree_runs k (variable x e) a h = let r = tree_end (k + 1) e a h in record { end = _; place = _; run = run_variable r.run }
  tree_runs k (assign x e) a h = let r = tree_end (k + 1) e a h in record { end = _; place = _; run = run_assign r.run }
  tree_runs k (call r verb args) a h = let e = tree_end (k + 1) r a h in call_end k r verb args a e.place e.end h e.run
  tree_runs k (list_tree ts) a h = let r = args_end (k + 1) ts a h in record { end = _; place = _; run = run_list r.run }
  tree_runs k (same_tree l r) a h = let e = tree_end (k + 1) l a h in same_end k l r a e.place e.end h e.run
  tree_runs k (define_list ps e) a h = let r = tree_end (k + 1) e a h in record { end = _; place = _; run = run_define_list r.run }
  tree_runs k (hide ts) a h = let r = block_end (k + 1) ts a h in record { end = _; place = _; run = run_hide r.run }
  tree_runs k (if_tree c first second) a h = let e = datum_end (k + 1) c a h in if_end k c first second a e.place e.end (choice_of e.end) h e.run refl
  tree_runs k (while_tree c body) a h = let e = datum_end (k + 1) c a h in while_end k c body a e.place e.end (choice_of e.end) h e.run refl
  tree_runs k (for_tree p e body) a h = let f = datum_end (k + 1) e a h in for_end k p e body a f.place f.end (listing_of f.end) h f.run refl
  tree_runs k (try_tree body p handler) a h = let q = block_end (k + 1) body a h in try_end k body p handler a q.place q.end (caught q.end) h q.run refl
  tree_runs k (primitive q e) a h = let r = datum_end (k + 1) e a h in record { end = _; place = _; run = run_primitive r.run }
  tree_runs k (object_tree p ms) a h = record { end = _; place = _; run = run_object }
  tree_runs k (escape_tree x body) a h = let r = taking_end (k + 1) (pattern.Name x) (ejector (next_ejector a)) body (escaping a) h in record { end = _; place = _; run = run_escape r.run }
  tree_runs k (send r verb args) a h = let e = tree_end (k + 1) r a h in send_end k r verb args a e.place e.end h e.run
  tree_runs k (when_tree e body) a h = let r = tree_end (k + 1) e a h in record { end = _; place = _; run = run_when r.run }
  tree_runs k (when_catch_tree e body p handler) a h = let r = tree_end (k + 1) e a h in record { end = _; place = _; run = run_when_catch r.run }
  tree_runs k new_promise a h = record { end = _; place = _; run = run_new_promise }

fewer_run : (n : ℕ) → Fewer n
fewer_run zero k t a h = absurd (omega arith)
fewer_run (suc n) k t a h = tree_runs n (fewer_run n) k t a (omega arith)

pub ends_somehow : (k : ℕ) (t : Tree) (a : At) → Outcome (Ends k t a)
ends_somehow k t a = tree_end a.left (fewer_run a.left) k t a (omega arith)

pub items_somehow : (k : ℕ) (v : Val) (ts : Trees) (a : At) → Outcome (Items k v ts a)
items_somehow k v ts a = items_end a.left (fewer_run a.left) k v ts a (omega arith)
