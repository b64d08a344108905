-- Names are only added.
use Rattle.std.proofs.Common.{◌≡◌, ℕ, List, [], ◌∷◌, ◌++◌, Bool, true, false, Option, Some, None, refl, sym, ap, ◌∙◌, append_assoc}
use Rattle.ids.specs.declared.names.SlotId.{SlotId}
use Rattle.kernele.specs.Tree.{Name, Tree, Trees, Methods}
use Rattle.kernele_scopes.specs.Free.{captures}
use Rattle.kernele.specs.declared.tree.Pattern.{Pattern}
use Rattle.kernele.specs.declared.tree.Pattern.TheVariants as pattern
use Rattle.values.specs.Data.{Val, object, Vals, no_vals, and_val}
use Rattle.heap.specs.State.{Bind, fixed, slot, Nouns, Plain}
use Rattle.eval_rules.specs.At.{At}
use Rattle.eval_rules.specs.Outcomes.{End, value, halt, Gather}
use Rattle.eval_rules.specs.Rules.{seeking, noun_read, slot_put, capturing, called, when_made}
use Rattle.eval_rules.proofs.Seeking.{seeking_reads, noun_reads, captures_read}
use Rattle.eval_rules.specs.Rules.{Listing, listed, unlisted, parts_of, parts_bound, again, bound_in, matched, matched_all, defined, next_slot, has_room, slot_made, variable_made, declared, assigned, Capture, captured, missing, capture_of, object_made, placed, with_object, leaving, escaped, sought_slot, Ends, at_budget, at_depth, at_node, Runs, run_null, run_bool, run_int, run_text, run_noun, run_define, run_variable, run_assign, run_call_receiver, run_call_gives, run_call_enters, run_call_uses, run_send_receiver, run_send, run_list, run_same_left, run_same, run_define_list, run_hide, run_primitive, run_if_goes, run_if_ends, run_while_again, run_while_halts, run_while_done, run_while_ends, run_for, run_for_ends, run_try, run_try_caught, run_object, run_escape, run_when, run_when_catch, run_new_promise, Needs, needs, Args, args_none, args_next, args_halt, Items, items_none, items_next, items_halt, Block, in_block, Taking, in_taking, Each, each_none, each_next, each_halt}
use Rattle.eval_rules.specs.Doings.{next_object, has_object_room, datum_of, datum_read, given_by, behind, sent_at, same_read, promise_pair, pair_out, resolver_out}
use Rattle.eval_rules.proofs.Doings.{datum_works, called_works, sent_works, when_works, pair_works, used_works, same_works}
use Rattle.post.specs.Delivery.{Handler}

-- newer names stand before those that were there
abbrev pub Grown : At → At → Type 0
Grown a b = (more : Nouns) × (b.nouns ≡ more ++ a.nouns)

same : (a b : At) → b.nouns ≡ a.nouns → Grown a b
same a b e = ([], e)

both : (a b c : At) → Grown a b → Grown b c → Grown a c
both a b c g h = (h.0 ++ g.0, h.1 ∙ ap (λ ns. h.0 ++ ns) g.1 ∙ sym (append_assoc h.0 g.0 a.nouns))

bound_grow : (own : Bool) (x : Name) (b : Bind) (a : At) → Grown a (bound_in own x b a)
bound_grow true x b a = ([], refl)
bound_grow false x b a = ((x, b) ∷ [], refl)

matched_grow : (p : Pattern) (v : Val) (a : At) → Grown a (matched p v a)
matched_grow (pattern.Name x) v a = bound_grow a.own_scope x (fixed v) a
matched_grow pattern.Ignore v a = same a a refl

defined_grow : (p : Pattern) (o : End) (a : At) → Grown a (defined p o a)
defined_grow p (value v) a = matched_grow p v a
defined_grow p (halt h) a = same a a refl

all_grow : (ps : List Pattern) (vs : Vals) (a : At) → Grown a (matched_all ps vs a)
all_grow [] vs a = same a a refl
all_grow (p ∷ ps) no_vals a = same a a refl
all_grow (p ∷ ps) (and_val v vs) a = both a (matched p v a) (matched_all ps vs (matched p v a)) (matched_grow p v a) (all_grow ps vs (matched p v a))

parts_grow : (ps : List Pattern) (l : Listing) (a : At) → Grown a (parts_bound ps l a)
parts_grow ps (listed vs) a = all_grow ps vs a
parts_grow ps (unlisted o) a = same a a refl

made_grow : (room : Bool) (x : Name) (v : Val) (a : At) → Grown a (variable_made room x v a)
made_grow true x v a = bound_grow a.own_scope x (slot (next_slot a)) (slot_made v a)
made_grow false x v a = same a a refl

declared_grow : (x : Name) (o : End) (a : At) → Grown a (declared x o a)
declared_grow x (value v) a = made_grow (has_room a) x v a
declared_grow x (halt h) a = same a a refl

slot_names : (v : Val) (i : Option SlotId) (a : At) → (slot_put v i a).nouns ≡ a.nouns
slot_names v (Some i) a = refl
slot_names v None a = refl

pub assigned_names : (x : Name) (o : End) (a : At) → (assigned x o a).nouns ≡ a.nouns
assigned_names x (value v) a = slot_names v (sought_slot x a) (seeking x a) ∙ ap (λ b. b.nouns) (seeking_reads x a)
assigned_names x (halt h) a = refl

placed_grow : (room : Bool) (p : Pattern) (o : Plain) (a : At) → Grown a (placed room p o a)
placed_grow true p o a = matched_grow p (object (next_object a)) (object_made o a)
placed_grow false p o a = same a a refl

object_grow : (p : Pattern) (ms : Methods) (c : Capture) (a : At) → Grown a (with_object p ms c a)
object_grow p ms (captured ns) a = placed_grow (has_object_room a) p (record { own = p; captured = ns; methods = ms }) a
object_grow p ms (missing x) a = same a a refl

-- a block's names end with it
pub block_names : {k : ℕ} {ts : Trees} {a b : At} {o : End} → Block k ts a o b → b.nouns ≡ a.nouns
block_names (in_block r) = refl

pub taking_names : {k : ℕ} {p : Pattern} {v : Val} {ts : Trees} {a b : At} {o : End} → Taking k p v ts a o b → b.nouns ≡ a.nouns
taking_names (in_taking r) = refl

pub each_names : {k : ℕ} {p : Pattern} {ts : Trees} {vs : Vals} {a b : At} {o : End} → Each k p ts vs a o b → b.nouns ≡ a.nouns
each_names each_none = refl
each_names (each_next r u) = each_names u ∙ taking_names r
each_names (each_halt r) = taking_names r

mutual
  pub ends_grow : {k : ℕ} {t : Tree} {a b : At} {o : End} → Ends k t a o b → Grown a b
  ends_grow {a = a} {b = b} (at_budget h) = same a b refl
  ends_grow {a = a} {b = b} (at_depth h g) = same a b refl
  ends_grow (at_node h g r) = runs_grow r

  pub runs_grow : {k : ℕ} {t : Tree} {a b : At} {o : End} → Runs k t a o b → Grown a b
  runs_grow {a = a} {b = b} run_null = same a b refl
  runs_grow {a = a} {b = b} run_bool = same a b refl
  runs_grow {a = a} {b = b} run_int = same a b refl
  runs_grow {a = a} {b = b} run_text = same a b refl
  runs_grow (run_noun {x = x} {a = a}) = same a (noun_read x a) (ap (λ b. b.nouns) (noun_reads x a))
  runs_grow (run_define {p = p} {a = a} {b = b} {o = o} r) = both a b (defined p o b) (ends_grow r) (defined_grow p o b)
  runs_grow (run_variable {x = x} {a = a} {b = b} {o = o} r) = both a b (declared x o b) (ends_grow r) (declared_grow x o b)
  runs_grow (run_assign {x = x} {a = a} {b = b} {o = o} r) = both a b (assigned x o b) (ends_grow r) (same b (assigned x o b) (assigned_names x o b))
  runs_grow (run_call_receiver r) = ends_grow r
  runs_grow (run_call_gives {verb = verb} {a = a} {b = b} {c = c} {v = v} {g = g} r u e) = both a c (called v verb g c) (both a b c (ends_grow r) (args_grow u)) (same c (called v verb g c) (ap (λ b. b.nouns) (called_works v verb g c)))
  runs_grow (run_call_enters {verb = verb} {a = a} {b = b} {c = c} {d = d} r u e q) = both a c (leaving c d) (both a b c (ends_grow r) (args_grow u)) (same c (leaving c d) refl)
  runs_grow (run_call_uses {verb = verb} {a = a} {b = b} {c = c} {v = v} {g = g} {p = p} {d = d} r u e) =
      let z = resolver_out p (given_by d (called v verb g c)) (behind d (called v verb g c)) in
      both a c z (both a b c (ends_grow r) (args_grow u)) (same c z (ap (λ b. b.nouns) (used_works v verb g p d c)))
  runs_grow (run_send_receiver r) = ends_grow r
  runs_grow (run_send {verb = verb} {a = a} {b = b} {c = c} {v = v} {g = g} r u) = both a c (sent_at verb v g c) (both a b c (ends_grow r) (args_grow u)) (same c (sent_at verb v g c) (ap (λ b. b.nouns) (sent_works verb v g c)))
  runs_grow (run_list r) = args_grow r
  runs_grow (run_same_left r) = ends_grow r
  runs_grow (run_same {a = a} {b = b} {c = c} {v = v} {o = o} r u) = both a c (same_read v o c) (both a b c (ends_grow r) (ends_grow u)) (same c (same_read v o c) (ap (λ b. b.nouns) (same_works v o c)))
  runs_grow (run_define_list {ps = ps} {a = a} {b = b} {o = o} r) =
      let d = datum_read o b in
      both a d (parts_bound ps (parts_of ps (datum_of o b)) d) (both a b d (ends_grow r) (same b d (ap (λ b. b.nouns) (datum_works o b)))) (parts_grow ps (parts_of ps (datum_of o b)) d)
  runs_grow {a = a} {b = b} (run_hide q) = same a b (block_names q)
  runs_grow (run_primitive r) = needs_grow r
  runs_grow (run_if_goes {a = a} {b = b} {d = d} r e q) = both a b d (needs_grow r) (same b d (block_names q))
  runs_grow (run_if_ends r e) = needs_grow r
  runs_grow (run_while_again {a = a} {d = d} {e = e} r f q w) = both a (again a d) e (same a (again a d) refl) (runs_grow w)
  runs_grow (run_while_halts {a = a} {b = b} {d = d} r e q) = both a b d (needs_grow r) (same b d (block_names q))
  runs_grow (run_while_done r e) = needs_grow r
  runs_grow (run_while_ends r e) = needs_grow r
  runs_grow (run_for {a = a} {b = b} {d = d} r e q) = both a b d (needs_grow r) (same b d (each_names q))
  runs_grow (run_for_ends r e) = needs_grow r
  runs_grow {a = a} {b = b} (run_try q e) = same a b (block_names q)
  runs_grow (run_try_caught {a = a} {d = d} q e w) = same a d (taking_names w ∙ block_names q)
  runs_grow (run_object {p = p} {ms = ms} {a = a}) = both a (capturing p ms a) (with_object p ms (capture_of p ms a) (capturing p ms a)) (same a (capturing p ms a) (ap (λ b. b.nouns) (captures_read (captured []) (captures p ms) a))) (object_grow p ms (capture_of p ms a) (capturing p ms a))
  runs_grow (run_escape {a = a} {b = b} q) = same a (escaped a b) (taking_names q)
  runs_grow (run_when {body = body} {a = a} {b = b} {o = o} r) = both a b (when_made body None o b) (ends_grow r) (same b (when_made body None o b) (ap (λ b. b.nouns) (when_works body None o b)))
  runs_grow (run_when_catch {body = body} {p = p} {handler = handler} {a = a} {b = b} {o = o} r) =
      let h : Option Handler = Some (record { pattern = p; block = handler }) in
      both a b (when_made body h o b) (ends_grow r) (same b (when_made body h o b) (ap (λ b. b.nouns) (when_works body h o b)))
  runs_grow (run_new_promise {a = a}) = same a (pair_out (given_by (promise_pair a) a) (behind (promise_pair a) a)) (ap (λ b. b.nouns) (pair_works a))

  pub needs_grow : {k : ℕ} {t : Tree} {a b : At} {o : End} → Needs k t a o b → Grown a b
  needs_grow (needs {a = a} {b = b} {o = o} r) = both a b (datum_read o b) (ends_grow r) (same b (datum_read o b) (ap (λ b. b.nouns) (datum_works o b)))

  pub args_grow : {k : ℕ} {ts : Trees} {a b : At} {g : Gather} → Args k ts a g b → Grown a b
  args_grow {a = a} {b = b} args_none = same a b refl
  args_grow (args_next {a = a} {b = b} {c = c} r u) = both a b c (ends_grow r) (args_grow u)
  args_grow (args_halt r) = ends_grow r

pub items_grow : {k : ℕ} {v : Val} {ts : Trees} {a b : At} {o : End} → Items k v ts a o b → Grown a b
items_grow {a = a} {b = b} items_none = same a b refl
items_grow (items_next {a = a} {b = b} {c = c} r u) = both a b c (ends_grow r) (items_grow u)
items_grow (items_halt r) = ends_grow r

-- the items of a block that takes a value keep the names from before it
pub taken_grow : {k : ℕ} {w : Val} {ts : Trees} (p : Pattern) (v : Val) (a : At) {b : At} {o : End} → Items k w ts (matched p v a) o b → Grown a b
taken_grow p v a {b = b} r = both a (matched p v a) b (matched_grow p v a) (items_grow r)

-- a round of a While
pub round_grow : {k : ℕ} {t : Tree} {ts : Trees} {a b c : At} {o p : End} → Needs k t a o b → Block k ts b p c → Grown a c
round_grow {a = a} {b = b} {c = c} r q = both a b c (needs_grow r) (same b c (block_names q))
