-- A turn stays in its vat.
use Rattle.std.proofs.Common.{◌≡◌, ℕ, List, [], ◌∷◌, Bool, true, false, Option, Some, None, refl, ap, ◌∙◌}
use Rattle.ids.specs.declared.names.SlotId.{SlotId}
use Rattle.kernele.specs.Tree.{Name, Tree, Trees, Methods}
use Rattle.kernele_scopes.specs.Free.{captures}
use Rattle.kernele.specs.declared.tree.Pattern.{Pattern}
use Rattle.kernele.specs.declared.tree.Pattern.TheVariants as pattern
use Rattle.values.specs.Data.{Val, object, Vals, no_vals, and_val}
use Rattle.heap.specs.State.{Bind, fixed, slot, Plain}
use Rattle.eval_rules.specs.At.{At}
use Rattle.eval_rules.specs.Outcomes.{End, value, halt, Gather}
use Rattle.eval_rules.specs.Rules.{seeking, slot_put, capturing}
use Rattle.eval_rules.proofs.Seeking.{seeking_reads, noun_reads, captures_read}
use Rattle.eval_rules.specs.Rules.{sought_slot, bound_in, matched, matched_all, defined, Listing, listed, unlisted, parts_of, parts_bound, next_slot, has_room, slot_made, variable_made, declared, assigned}
use Rattle.eval_rules.specs.Rules.{Capture, captured, missing, capture_of, object_made, placed, with_object}
use Rattle.eval_rules.specs.Rules.{entering, Ends, at_budget, at_depth, at_node, Runs, run_null, run_bool, run_int, run_text, run_noun, run_define, run_variable, run_assign, run_call_receiver, run_call_gives, run_call_enters, run_call_uses, run_send_receiver, run_send, run_list, run_same_left, run_same, run_define_list, run_hide, run_primitive, run_if_goes, run_if_ends, run_while_again, run_while_halts, run_while_done, run_while_ends, run_for, run_for_ends, run_try, run_try_caught, run_object, run_escape, run_when, run_when_catch, run_new_promise, Needs, needs, Args, args_none, args_next, args_halt, Items, items_none, items_next, items_halt, Block, in_block, Taking, in_taking, Each, each_none, each_next, each_halt}
use Rattle.eval_rules.specs.Doings.{next_object, has_object_room, datum_of, datum_read}
use Rattle.eval_rules.proofs.Doings.{datum_works, called_works, sent_works, when_works, pair_works, used_works, same_works}

bound_vat : (own : Bool) (x : Name) (b : Bind) (a : At) → (bound_in own x b a).vat ≡ a.vat
bound_vat true x b a = refl
bound_vat false x b a = refl

matched_vat : (p : Pattern) (v : Val) (a : At) → (matched p v a).vat ≡ a.vat
matched_vat (pattern.Name x) v a = bound_vat a.own_scope x (fixed v) a
matched_vat pattern.Ignore v a = refl

defined_vat : (p : Pattern) (o : End) (a : At) → (defined p o a).vat ≡ a.vat
defined_vat p (value v) a = matched_vat p v a
defined_vat p (halt h) a = refl

all_vat : (ps : List Pattern) (vs : Vals) (a : At) → (matched_all ps vs a).vat ≡ a.vat
all_vat [] vs a = refl
all_vat (p ∷ ps) no_vals a = refl
all_vat (p ∷ ps) (and_val v vs) a = all_vat ps vs (matched p v a) ∙ matched_vat p v a

parts_vat : (ps : List Pattern) (l : Listing) (a : At) → (parts_bound ps l a).vat ≡ a.vat
parts_vat ps (listed vs) a = all_vat ps vs a
parts_vat ps (unlisted o) a = refl

variable_vat : (room : Bool) (x : Name) (v : Val) (a : At) → (variable_made room x v a).vat ≡ a.vat
variable_vat true x v a = bound_vat a.own_scope x (slot (next_slot a)) (slot_made v a)
variable_vat false x v a = refl

declared_vat : (x : Name) (o : End) (a : At) → (declared x o a).vat ≡ a.vat
declared_vat x (value v) a = variable_vat (has_room a) x v a
declared_vat x (halt h) a = refl

slot_vat : (v : Val) (i : Option SlotId) (a : At) → (slot_put v i a).vat ≡ a.vat
slot_vat v (Some i) a = refl
slot_vat v None a = refl

assigned_vat : (x : Name) (o : End) (a : At) → (assigned x o a).vat ≡ a.vat
assigned_vat x (value v) a = slot_vat v (sought_slot x a) (seeking x a) ∙ ap (λ b. b.vat) (seeking_reads x a)
assigned_vat x (halt h) a = refl

placed_vat : (room : Bool) (p : Pattern) (o : Plain) (a : At) → (placed room p o a).vat ≡ a.vat
placed_vat true p o a = matched_vat p (object (next_object a)) (object_made o a)
placed_vat false p o a = refl

object_vat : (p : Pattern) (ms : Methods) (c : Capture) (a : At) → (with_object p ms c a).vat ≡ a.vat
object_vat p ms (captured ns) a = placed_vat (has_object_room a) p (record { own = p; captured = ns; methods = ms }) a
object_vat p ms (missing x) a = refl

-- a tree ends in the vat where it began
mutual
  pub ends_vat : {k : ℕ} {t : Tree} {a b : At} {o : End} → Ends k t a o b → b.vat ≡ a.vat
  ends_vat (at_budget h) = refl
  ends_vat (at_depth h g) = refl
  ends_vat (at_node h g r) = runs_vat r

  runs_vat : {k : ℕ} {t : Tree} {a b : At} {o : End} → Runs k t a o b → b.vat ≡ a.vat
  runs_vat run_null = refl
  runs_vat run_bool = refl
  runs_vat run_int = refl
  runs_vat run_text = refl
  runs_vat (run_noun {x = x} {a = a}) = ap (λ b. b.vat) (noun_reads x a)
  runs_vat (run_define {p = p} {b = b} {o = o} r) = defined_vat p o b ∙ ends_vat r
  runs_vat (run_variable {x = x} {b = b} {o = o} r) = declared_vat x o b ∙ ends_vat r
  runs_vat (run_assign {x = x} {b = b} {o = o} r) = assigned_vat x o b ∙ ends_vat r
  runs_vat (run_call_receiver r) = ends_vat r
  runs_vat (run_call_gives {verb = verb} {c = c} {v = v} {g = g} r u e) = ap (λ b. b.vat) (called_works v verb g c) ∙ (args_vat u ∙ ends_vat r)
  runs_vat (run_call_enters {verb = verb} {c = c} {v = v} {g = g} r u e q) = items_vat q ∙ (ap (λ b. b.vat) (called_works v verb g c) ∙ (args_vat u ∙ ends_vat r))
  runs_vat (run_call_uses {verb = verb} {c = c} {v = v} {g = g} {p = p} {d = d} r u e) = ap (λ b. b.vat) (used_works v verb g p d c) ∙ (args_vat u ∙ ends_vat r)
  runs_vat (run_send_receiver r) = ends_vat r
  runs_vat (run_send {verb = verb} {c = c} {v = v} {g = g} r u) = ap (λ b. b.vat) (sent_works verb v g c) ∙ (args_vat u ∙ ends_vat r)
  runs_vat (run_list r) = args_vat r
  runs_vat (run_same_left r) = ends_vat r
  runs_vat (run_same {c = c} {v = v} {o = o} r u) = ap (λ b. b.vat) (same_works v o c) ∙ (ends_vat u ∙ ends_vat r)
  runs_vat (run_define_list {ps = ps} {b = b} {o = o} r) = parts_vat ps (parts_of ps (datum_of o b)) (datum_read o b) ∙ (ap (λ b. b.vat) (datum_works o b) ∙ ends_vat r)
  runs_vat (run_hide q) = block_vat q
  runs_vat (run_primitive r) = needs_vat r
  runs_vat (run_if_goes r e q) = block_vat q ∙ needs_vat r
  runs_vat (run_if_ends r e) = needs_vat r
  runs_vat (run_while_again r e q w) = runs_vat w ∙ (block_vat q ∙ needs_vat r)
  runs_vat (run_while_halts r e q) = block_vat q ∙ needs_vat r
  runs_vat (run_while_done r e) = needs_vat r
  runs_vat (run_while_ends r e) = needs_vat r
  runs_vat (run_for r e q) = each_vat q ∙ needs_vat r
  runs_vat (run_for_ends r e) = needs_vat r
  runs_vat (run_try q e) = block_vat q
  runs_vat (run_try_caught q e w) = taking_vat w ∙ block_vat q
  runs_vat (run_object {p = p} {ms = ms} {a = a}) = object_vat p ms (capture_of p ms a) (capturing p ms a) ∙ ap (λ b. b.vat) (captures_read (captured []) (captures p ms) a)
  runs_vat (run_escape q) = taking_vat q
  runs_vat (run_when {body = body} {b = b} {o = o} r) = ap (λ b. b.vat) (when_works body None o b) ∙ ends_vat r
  runs_vat (run_when_catch {body = body} {p = p} {handler = handler} {b = b} {o = o} r) = ap (λ b. b.vat) (when_works body (Some (record { pattern = p; block = handler })) o b) ∙ ends_vat r
  runs_vat (run_new_promise {a = a}) = ap (λ b. b.vat) (pair_works a)

  needs_vat : {k : ℕ} {t : Tree} {a b : At} {o : End} → Needs k t a o b → b.vat ≡ a.vat
  needs_vat (needs {b = b} {o = o} r) = ap (λ b. b.vat) (datum_works o b) ∙ ends_vat r

  args_vat : {k : ℕ} {ts : Trees} {a b : At} {g : Gather} → Args k ts a g b → b.vat ≡ a.vat
  args_vat args_none = refl
  args_vat (args_next r u) = args_vat u ∙ ends_vat r
  args_vat (args_halt r) = ends_vat r

  items_vat : {k : ℕ} {v : Val} {ts : Trees} {a b : At} {o : End} → Items k v ts a o b → b.vat ≡ a.vat
  items_vat items_none = refl
  items_vat (items_next r u) = items_vat u ∙ ends_vat r
  items_vat (items_halt r) = ends_vat r

  block_vat : {k : ℕ} {ts : Trees} {a b : At} {o : End} → Block k ts a o b → b.vat ≡ a.vat
  block_vat (in_block r) = items_vat r

  taking_vat : {k : ℕ} {p : Pattern} {v : Val} {ts : Trees} {a b : At} {o : End} → Taking k p v ts a o b → b.vat ≡ a.vat
  taking_vat (in_taking {p = p} {v = v} {a = a} r) = items_vat r ∙ matched_vat p v (entering a)

  each_vat : {k : ℕ} {p : Pattern} {ts : Trees} {vs : Vals} {a b : At} {o : End} → Each k p ts vs a o b → b.vat ≡ a.vat
  each_vat each_none = refl
  each_vat (each_next r u) = each_vat u ∙ taking_vat r
  each_vat (each_halt r) = taking_vat r
