-- A tree is evaluated in one vat.
use Rattle.std.proofs.Common.{◌≡◌, ℕ, List, [], ◌∷◌, Bool, true, false, Option, Some, None, refl, ap, ◌∙◌}
use Rattle.ids.specs.declared.names.SlotId.{SlotId}
use Rattle.kernele.specs.Tree.{Name, Tree, Trees, Methods}
use Rattle.kernele_scopes.specs.Free.{captures}
use Rattle.kernele.specs.declared.tree.Pattern.{Pattern}
use Rattle.kernele.specs.declared.tree.Pattern.TheVariants as pattern
use Rattle.values.specs.Data.{Val, object, Vals, no_vals, and_val}
use Rattle.heap.specs.State.{Bind, fixed, slot, Plain}
use Rattle.eval_rules.specs.At.{At}
use Rattle.eval_rules.specs.Outcomes.{End, value, halt, Gather}
use Rattle.eval_rules.specs.Rules.{seeking, slot_put, capturing}
use Rattle.eval_rules.proofs.Seeking.{seeking_reads, noun_reads, captures_read}
use Rattle.eval_rules.specs.Rules.{sought_slot, bound_in, matched, matched_all, defined, Listing, listed, unlisted, parts_of, parts_bound, next_slot, has_room, slot_made, variable_made, declared, assigned}
use Rattle.eval_rules.specs.Rules.{Capture, captured, missing, capture_of, object_made, placed, with_object}
use Rattle.eval_rules.specs.Rules.{entering, Ends, at_budget, at_depth, at_node, Runs, run_null, run_bool, run_int, run_text, run_noun, run_define, run_variable, run_assign, run_call_receiver, run_call_gives, run_call_enters, run_call_uses, run_send_receiver, run_send, run_list, run_same_left, run_same, run_define_list, run_hide, run_primitive, run_if_goes, run_if_ends, run_while_again, run_while_halts, run_while_done, run_while_ends, run_for, run_for_ends, run_try, run_try_caught, run_object, run_escape, run_when, run_when_catch, run_new_promise, Needs, needs, Args, args_none, args_next, args_halt, Items, items_none, items_next, items_halt, Block, in_block, Taking, in_taking, Each, each_none, each_next, each_halt}
use Rattle.eval_rules.specs.Doings.{next_object, has_object_room, datum_of, datum_read}
use Rattle.eval_rules.proofs.Doings.{datum_works, called_works, sent_works, when_works, pair_works, used_works, same_works}

bound_home : (own : Bool) (x : Name) (b : Bind) (a : At) → (bound_in own x b a).vat ≡ a.vat
bound_home true x b a = refl
bound_home false x b a = refl

matched_home : (p : Pattern) (v : Val) (a : At) → (matched p v a).vat ≡ a.vat
matched_home (pattern.Name x) v a = bound_home a.own_scope x (fixed v) a
matched_home pattern.Ignore v a = refl

defined_home : (p : Pattern) (o : End) (a : At) → (defined p o a).vat ≡ a.vat
defined_home p (value v) a = matched_home p v a
defined_home p (halt h) a = refl

all_home : (ps : List Pattern) (vs : Vals) (a : At) → (matched_all ps vs a).vat ≡ a.vat
all_home [] vs a = refl
all_home (p ∷ ps) no_vals a = refl
all_home (p ∷ ps) (and_val v vs) a = all_home ps vs (matched p v a) ∙ matched_home p v a

parts_home : (ps : List Pattern) (l : Listing) (a : At) → (parts_bound ps l a).vat ≡ a.vat
parts_home ps (listed vs) a = all_home ps vs a
parts_home ps (unlisted o) a = refl

variable_home : (room : Bool) (x : Name) (v : Val) (a : At) → (variable_made room x v a).vat ≡ a.vat
variable_home true x v a = bound_home a.own_scope x (slot (next_slot a)) (slot_made v a)
variable_home false x v a = refl

declared_home : (x : Name) (o : End) (a : At) → (declared x o a).vat ≡ a.vat
declared_home x (value v) a = variable_home (has_room a) x v a
declared_home x (halt h) a = refl

slot_home : (v : Val) (i : Option SlotId) (a : At) → (slot_put v i a).vat ≡ a.vat
slot_home v (Some i) a = refl
slot_home v None a = refl

assigned_home : (x : Name) (o : End) (a : At) → (assigned x o a).vat ≡ a.vat
assigned_home x (value v) a = slot_home v (sought_slot x a) (seeking x a) ∙ ap (λ b. b.vat) (seeking_reads x a)
assigned_home x (halt h) a = refl

placed_home : (room : Bool) (p : Pattern) (o : Plain) (a : At) → (placed room p o a).vat ≡ a.vat
placed_home true p o a = matched_home p (object (next_object a)) (object_made o a)
placed_home false p o a = refl

object_home : (p : Pattern) (ms : Methods) (c : Capture) (a : At) → (with_object p ms c a).vat ≡ a.vat
object_home p ms (captured ns) a = placed_home (has_object_room a) p (record { own = p; captured = ns; methods = ms }) a
object_home p ms (missing x) a = refl

-- behind a tree the vat is the same
mutual
  pub ends_home : {k : ℕ} {t : Tree} {a b : At} {o : End} → Ends k t a o b → b.vat ≡ a.vat
  ends_home (at_budget h) = refl
  ends_home (at_depth h g) = refl
  ends_home (at_node h g r) = runs_home r

  runs_home : {k : ℕ} {t : Tree} {a b : At} {o : End} → Runs k t a o b → b.vat ≡ a.vat
  runs_home run_null = refl
  runs_home run_bool = refl
  runs_home run_int = refl
  runs_home run_text = refl
  runs_home (run_noun {x = x} {a = a}) = ap (λ b. b.vat) (noun_reads x a)
  runs_home (run_define {p = p} {b = b} {o = o} r) = defined_home p o b ∙ ends_home r
  runs_home (run_variable {x = x} {b = b} {o = o} r) = declared_home x o b ∙ ends_home r
  runs_home (run_assign {x = x} {b = b} {o = o} r) = assigned_home x o b ∙ ends_home r
  runs_home (run_call_receiver r) = ends_home r
  runs_home (run_call_gives {verb = verb} {c = c} {v = v} {g = g} r u e) = ap (λ b. b.vat) (called_works v verb g c) ∙ (args_home u ∙ ends_home r)
  runs_home (run_call_enters {verb = verb} {c = c} {v = v} {g = g} r u e q) = items_home q ∙ (ap (λ b. b.vat) (called_works v verb g c) ∙ (args_home u ∙ ends_home r))
  runs_home (run_call_uses {verb = verb} {c = c} {v = v} {g = g} {p = p} {d = d} r u e) = ap (λ b. b.vat) (used_works v verb g p d c) ∙ (args_home u ∙ ends_home r)
  runs_home (run_send_receiver r) = ends_home r
  runs_home (run_send {verb = verb} {c = c} {v = v} {g = g} r u) = ap (λ b. b.vat) (sent_works verb v g c) ∙ (args_home u ∙ ends_home r)
  runs_home (run_list r) = args_home r
  runs_home (run_same_left r) = ends_home r
  runs_home (run_same {c = c} {v = v} {o = o} r u) = ap (λ b. b.vat) (same_works v o c) ∙ (ends_home u ∙ ends_home r)
  runs_home (run_define_list {ps = ps} {b = b} {o = o} r) = parts_home ps (parts_of ps (datum_of o b)) (datum_read o b) ∙ (ap (λ b. b.vat) (datum_works o b) ∙ ends_home r)
  runs_home (run_hide q) = block_home q
  runs_home (run_primitive r) = needs_home r
  runs_home (run_if_goes r e q) = block_home q ∙ needs_home r
  runs_home (run_if_ends r e) = needs_home r
  runs_home (run_while_again r e q w) = runs_home w ∙ (block_home q ∙ needs_home r)
  runs_home (run_while_halts r e q) = block_home q ∙ needs_home r
  runs_home (run_while_done r e) = needs_home r
  runs_home (run_while_ends r e) = needs_home r
  runs_home (run_for r e q) = each_home q ∙ needs_home r
  runs_home (run_for_ends r e) = needs_home r
  runs_home (run_try q e) = block_home q
  runs_home (run_try_caught q e w) = taking_home w ∙ block_home q
  runs_home (run_object {p = p} {ms = ms} {a = a}) = object_home p ms (capture_of p ms a) (capturing p ms a) ∙ ap (λ b. b.vat) (captures_read (captured []) (captures p ms) a)
  runs_home (run_escape q) = taking_home q
  runs_home (run_when {body = body} {b = b} {o = o} r) = ap (λ b. b.vat) (when_works body None o b) ∙ ends_home r
  runs_home (run_when_catch {body = body} {p = p} {handler = handler} {b = b} {o = o} r) = ap (λ b. b.vat) (when_works body (Some (record { pattern = p; block = handler })) o b) ∙ ends_home r
  runs_home (run_new_promise {a = a}) = ap (λ b. b.vat) (pair_works a)

  needs_home : {k : ℕ} {t : Tree} {a b : At} {o : End} → Needs k t a o b → b.vat ≡ a.vat
  needs_home (needs {b = b} {o = o} r) = ap (λ b. b.vat) (datum_works o b) ∙ ends_home r

  args_home : {k : ℕ} {ts : Trees} {a b : At} {g : Gather} → Args k ts a g b → b.vat ≡ a.vat
  args_home args_none = refl
  args_home (args_next r u) = args_home u ∙ ends_home r
  args_home (args_halt r) = ends_home r

  items_home : {k : ℕ} {v : Val} {ts : Trees} {a b : At} {o : End} → Items k v ts a o b → b.vat ≡ a.vat
  items_home items_none = refl
  items_home (items_next r u) = items_home u ∙ ends_home r
  items_home (items_halt r) = ends_home r

  block_home : {k : ℕ} {ts : Trees} {a b : At} {o : End} → Block k ts a o b → b.vat ≡ a.vat
  block_home (in_block r) = items_home r

  taking_home : {k : ℕ} {p : Pattern} {v : Val} {ts : Trees} {a b : At} {o : End} → Taking k p v ts a o b → b.vat ≡ a.vat
  taking_home (in_taking {p = p} {v = v} {a = a} r) = items_home r ∙ matched_home p v (entering a)

  each_home : {k : ℕ} {p : Pattern} {ts : Trees} {vs : Vals} {a b : At} {o : End} → Each k p ts vs a o b → b.vat ≡ a.vat
  each_home each_none = refl
  each_home (each_next r u) = each_home u ∙ taking_home r
  each_home (each_halt r) = taking_home r
