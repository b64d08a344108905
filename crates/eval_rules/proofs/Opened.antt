-- Escapes: behind a tree as many are begun as before it, and only they are ended.
use Rattle.std.proofs.Common.{◌≡◌, ℕ, List, [], ◌∷◌, Bool, true, false, Option, Some, None, refl, ap, ◌∙◌}
use Rattle.ids.specs.declared.names.SlotId.{SlotId}
use Rattle.kernele.specs.Tree.{Name, Tree, Trees, Methods}
use Rattle.kernele_scopes.specs.Free.{captures}
use Rattle.kernele.specs.declared.tree.Pattern.{Pattern}
use Rattle.kernele.specs.declared.tree.Pattern.TheVariants as pattern
use Rattle.values.specs.Data.{Val, object, Vals, no_vals, and_val}
use Rattle.heap.specs.State.{Bind, fixed, slot, Plain}
use Rattle.eval_rules.specs.At.{At}
use Rattle.eval_rules.specs.Outcomes.{End, value, halt, Gather}
use Rattle.eval_rules.specs.Rules.{seeking, slot_put, capturing}
use Rattle.eval_rules.proofs.Seeking.{seeking_reads, noun_reads, captures_read}
use Rattle.eval_rules.specs.Rules.{sought_slot, bound_in, matched, matched_all, defined, Listing, listed, unlisted, parts_of, parts_bound, next_slot, has_room, slot_made, variable_made, declared, assigned}
use Rattle.eval_rules.specs.Rules.{Capture, captured, missing, capture_of, object_made, placed, with_object}
use Rattle.eval_rules.specs.Rules.{entering, Ends, at_budget, at_depth, at_node, Runs, run_null, run_bool, run_int, run_text, run_noun, run_define, run_variable, run_assign, run_call_receiver, run_call_gives, run_call_enters, run_call_uses, run_send_receiver, run_send, run_list, run_same_left, run_same, run_define_list, run_hide, run_primitive, run_if_goes, run_if_ends, run_while_again, run_while_halts, run_while_done, run_while_ends, run_for, run_for_ends, run_try, run_try_caught, run_object, run_escape, run_when, run_when_catch, run_new_promise, Needs, needs, Args, args_none, args_next, args_halt, Items, items_none, items_next, items_halt, Block, in_block, Taking, in_taking, Each, each_none, each_next, each_halt}
use Rattle.eval_rules.specs.Doings.{next_object, has_object_room, datum_of, datum_read}
use Rattle.eval_rules.proofs.Doings.{datum_works, called_works, sent_works, when_works, pair_works, used_works, same_works}

bound_opened : (own : Bool) (x : Name) (b : Bind) (a : At) → (bound_in own x b a).opened ≡ a.opened
bound_opened true x b a = refl
bound_opened false x b a = refl

pub matched_opened : (p : Pattern) (v : Val) (a : At) → (matched p v a).opened ≡ a.opened
matched_opened (pattern.Name x) v a = bound_opened a.own_scope x (fixed v) a
matched_opened pattern.Ignore v a = refl

defined_opened : (p : Pattern) (o : End) (a : At) → (defined p o a).opened ≡ a.opened
defined_opened p (value v) a = matched_opened p v a
defined_opened p (halt h) a = refl

all_opened : (ps : List Pattern) (vs : Vals) (a : At) → (matched_all ps vs a).opened ≡ a.opened
all_opened [] vs a = refl
all_opened (p ∷ ps) no_vals a = refl
all_opened (p ∷ ps) (and_val v vs) a = all_opened ps vs (matched p v a) ∙ matched_opened p v a

parts_opened : (ps : List Pattern) (l : Listing) (a : At) → (parts_bound ps l a).opened ≡ a.opened
parts_opened ps (listed vs) a = all_opened ps vs a
parts_opened ps (unlisted o) a = refl

variable_opened : (room : Bool) (x : Name) (v : Val) (a : At) → (variable_made room x v a).opened ≡ a.opened
variable_opened true x v a = bound_opened a.own_scope x (slot (next_slot a)) (slot_made v a)
variable_opened false x v a = refl

declared_opened : (x : Name) (o : End) (a : At) → (declared x o a).opened ≡ a.opened
declared_opened x (value v) a = variable_opened (has_room a) x v a
declared_opened x (halt h) a = refl

slot_opened : (v : Val) (i : Option SlotId) (a : At) → (slot_put v i a).opened ≡ a.opened
slot_opened v (Some i) a = refl
slot_opened v None a = refl

assigned_opened : (x : Name) (o : End) (a : At) → (assigned x o a).opened ≡ a.opened
assigned_opened x (value v) a = slot_opened v (sought_slot x a) (seeking x a) ∙ ap (λ b. b.opened) (seeking_reads x a)
assigned_opened x (halt h) a = refl

placed_opened : (room : Bool) (p : Pattern) (o : Plain) (a : At) → (placed room p o a).opened ≡ a.opened
placed_opened true p o a = matched_opened p (object (next_object a)) (object_made o a)
placed_opened false p o a = refl

object_opened : (p : Pattern) (ms : Methods) (c : Capture) (a : At) → (with_object p ms c a).opened ≡ a.opened
object_opened p ms (captured ns) a = placed_opened (has_object_room a) p (record { own = p; captured = ns; methods = ms }) a
object_opened p ms (missing x) a = refl

-- behind a tree the same Escapes are being evaluated
mutual
  pub ends_opened : {k : ℕ} {t : Tree} {a b : At} {o : End} → Ends k t a o b → b.opened ≡ a.opened
  ends_opened (at_budget h) = refl
  ends_opened (at_depth h g) = refl
  ends_opened (at_node h g r) = runs_opened r

  pub runs_opened : {k : ℕ} {t : Tree} {a b : At} {o : End} → Runs k t a o b → b.opened ≡ a.opened
  runs_opened run_null = refl
  runs_opened run_bool = refl
  runs_opened run_int = refl
  runs_opened run_text = refl
  runs_opened (run_noun {x = x} {a = a}) = ap (λ b. b.opened) (noun_reads x a)
  runs_opened (run_define {p = p} {b = b} {o = o} r) = defined_opened p o b ∙ ends_opened r
  runs_opened (run_variable {x = x} {b = b} {o = o} r) = declared_opened x o b ∙ ends_opened r
  runs_opened (run_assign {x = x} {b = b} {o = o} r) = assigned_opened x o b ∙ ends_opened r
  runs_opened (run_call_receiver r) = ends_opened r
  runs_opened (run_call_gives {verb = verb} {c = c} {v = v} {g = g} r u e) = ap (λ b. b.opened) (called_works v verb g c) ∙ (args_opened u ∙ ends_opened r)
  runs_opened (run_call_enters {verb = verb} {c = c} {v = v} {g = g} r u e q) = items_opened q ∙ (ap (λ b. b.opened) (called_works v verb g c) ∙ (args_opened u ∙ ends_opened r))
  runs_opened (run_call_uses {verb = verb} {c = c} {v = v} {g = g} {p = p} {d = d} r u e) = ap (λ b. b.opened) (used_works v verb g p d c) ∙ (args_opened u ∙ ends_opened r)
  runs_opened (run_send_receiver r) = ends_opened r
  runs_opened (run_send {verb = verb} {c = c} {v = v} {g = g} r u) = ap (λ b. b.opened) (sent_works verb v g c) ∙ (args_opened u ∙ ends_opened r)
  runs_opened (run_list r) = args_opened r
  runs_opened (run_same_left r) = ends_opened r
  runs_opened (run_same {c = c} {v = v} {o = o} r u) = ap (λ b. b.opened) (same_works v o c) ∙ (ends_opened u ∙ ends_opened r)
  runs_opened (run_define_list {ps = ps} {b = b} {o = o} r) = parts_opened ps (parts_of ps (datum_of o b)) (datum_read o b) ∙ (ap (λ b. b.opened) (datum_works o b) ∙ ends_opened r)
  runs_opened (run_hide q) = block_opened q
  runs_opened (run_primitive r) = needs_opened r
  runs_opened (run_if_goes r e q) = block_opened q ∙ needs_opened r
  runs_opened (run_if_ends r e) = needs_opened r
  runs_opened (run_while_again r e q w) = runs_opened w ∙ (block_opened q ∙ needs_opened r)
  runs_opened (run_while_halts r e q) = block_opened q ∙ needs_opened r
  runs_opened (run_while_done r e) = needs_opened r
  runs_opened (run_while_ends r e) = needs_opened r
  runs_opened (run_for r e q) = each_opened q ∙ needs_opened r
  runs_opened (run_for_ends r e) = needs_opened r
  runs_opened (run_try q e) = block_opened q
  runs_opened (run_try_caught q e w) = taking_opened w ∙ block_opened q
  runs_opened (run_object {p = p} {ms = ms} {a = a}) = object_opened p ms (capture_of p ms a) (capturing p ms a) ∙ ap (λ b. b.opened) (captures_read (captured []) (captures p ms) a)
  runs_opened (run_escape q) = refl
  runs_opened (run_when {body = body} {b = b} {o = o} r) = ap (λ b. b.opened) (when_works body None o b) ∙ ends_opened r
  runs_opened (run_when_catch {body = body} {p = p} {handler = handler} {b = b} {o = o} r) = ap (λ b. b.opened) (when_works body (Some (record { pattern = p; block = handler })) o b) ∙ ends_opened r
  runs_opened (run_new_promise {a = a}) = ap (λ b. b.opened) (pair_works a)

  pub needs_opened : {k : ℕ} {t : Tree} {a b : At} {o : End} → Needs k t a o b → b.opened ≡ a.opened
  needs_opened (needs {b = b} {o = o} r) = ap (λ b. b.opened) (datum_works o b) ∙ ends_opened r

  pub args_opened : {k : ℕ} {ts : Trees} {a b : At} {g : Gather} → Args k ts a g b → b.opened ≡ a.opened
  args_opened args_none = refl
  args_opened (args_next r u) = args_opened u ∙ ends_opened r
  args_opened (args_halt r) = ends_opened r

  pub items_opened : {k : ℕ} {v : Val} {ts : Trees} {a b : At} {o : End} → Items k v ts a o b → b.opened ≡ a.opened
  items_opened items_none = refl
  items_opened (items_next r u) = items_opened u ∙ ends_opened r
  items_opened (items_halt r) = ends_opened r

  pub block_opened : {k : ℕ} {ts : Trees} {a b : At} {o : End} → Block k ts a o b → b.opened ≡ a.opened
  block_opened (in_block r) = items_opened r

  pub taking_opened : {k : ℕ} {p : Pattern} {v : Val} {ts : Trees} {a b : At} {o : End} → Taking k p v ts a o b → b.opened ≡ a.opened
  taking_opened (in_taking {p = p} {v = v} {a = a} r) = items_opened r ∙ matched_opened p v (entering a)

  pub each_opened : {k : ℕ} {p : Pattern} {ts : Trees} {vs : Vals} {a b : At} {o : End} → Each k p ts vs a o b → b.opened ≡ a.opened
  each_opened each_none = refl
  each_opened (each_next r u) = each_opened u ∙ taking_opened r
  each_opened (each_halt r) = taking_opened r
