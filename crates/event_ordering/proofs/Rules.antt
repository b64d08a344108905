-- Each rule of evaluation does to fences what its acts say.
use Rattle.std.proofs.Common.{◌≡◌, ℕ, Bool, true, false, cond, List, Option, Some, None, codes, subst}
use Rattle.std.specs.Str.{bytes_eq}
use Rattle.ids.specs.declared.names.EventName.{EventName}
use Rattle.ids.specs.declared.names.VatNo.{VatNo}
use Rattle.ids.specs.declared.names.ObjId.{ObjId}
use Rattle.ids.specs.declared.names.PromId.{PromId}
use Rattle.eorder.specs.Acts.{Act, Fences}
use Rattle.kernele.specs.Tree.{Name, Tree, Trees}
use Rattle.kernele.specs.declared.tree.Pattern.{Pattern}
use Rattle.values.specs.Data.{Val, Vals, no_vals, and_val}
use Rattle.heap.specs.State.{Plain, plain, resolver, object_cell, Content, bound, held, made, viewed, fenced, read}
use Rattle.sends.specs.Vats.{Vat}
use Rattle.sends.specs.Making.{Making, Published, resolving, smashing}
use Rattle.eval_rules.specs.At.{At}
use Rattle.eval_rules.specs.Outcomes.{End, Gather, values, halted}
use Rattle.eval_rules.specs.Doings.{datum_of, datum_read, given_by, behind, resolver_out}
use Rattle.eval_rules.specs.Rules.{Target, gives, enters, uses, method_in, method_target, resolver_target, object_target, no_such_method, Callee, on_object, on_ejector, on_datum, on_far, callee_of, callee_target, target_of, receiver, receiver_read, called, parts_of, entering}
use Rattle.eval_rules.specs.Rules.{Ends, at_budget, at_depth, at_node, Runs, run_null, run_bool, run_int, run_text, run_noun, run_define, run_variable, run_assign, run_call_receiver, run_call_gives, run_call_enters, run_call_uses, run_send_receiver, run_send, run_list, run_same_left, run_same, run_define_list, run_hide, run_primitive, run_if_goes, run_if_ends, run_while_again, run_while_halts, run_while_done, run_while_ends, run_for, run_for_ends, run_try, run_try_caught, run_object, run_escape, run_when, run_when_catch, run_new_promise, Needs, needs, Args, args_none, args_next, args_halt, Items, items_none, items_next, items_halt, Block, in_block, Taking, in_taking, Each, each_none, each_next, each_halt}
use Rattle.event_ordering.specs.Acting.{resolver_acts, acts, acts_below, acts_of_datum, acts_of_args, acts_of_items, acts_of_block, acts_of_taking, acts_of_each}
use Rattle.event_ordering.proofs.Effects.{Makes, PublishedTo, resolving_makes, smashing_makes}
use Rattle.event_ordering.proofs.Acted.{Acted, QuietAt, none, quietly, acted_then, quiet_behind, quiet_first, noun_quiet, matched_quiet, defined_quiet, parts_quiet, declared_quiet, assigned_quiet, object_quiet, called_quiet, datum_quiet, same_quiet, pair_quiet, when_quiet, sent_acts, used_acts}

-- ---- what uses a resolver publishes

abbrev pub TargetMakes : Target → Type 0
TargetMakes (gives o) = Unit {0}
TargetMakes (enters ns body) = Unit {0}
TargetMakes (uses p d) = Makes (PublishedTo p) d

either_makes : (q : Bool) (t u : Target) → TargetMakes t → TargetMakes u → TargetMakes (cond q t u)
either_makes true t u h g = h
either_makes false t u h g = g

resolver_makes : (p : PromId) (verb : Name) (vs : Vals) → TargetMakes (resolver_target p verb vs)
resolver_makes p verb no_vals = tt
resolver_makes p verb (and_val v no_vals) =
    let other : Target = gives (no_such_method verb (and_val v no_vals)) in
    let smash : Target = cond (bytes_eq verb (codes "smash")) (uses p (smashing p v)) other in
    either_makes (bytes_eq verb (codes "resolve")) (uses p (resolving p v)) smash (resolving_makes p v)
    (either_makes (bytes_eq verb (codes "smash")) (uses p (smashing p v)) other (smashing_makes p v) tt)
resolver_makes p verb (and_val v (and_val w vs)) = tt

method_makes : (i : ObjId) (o : Plain) (verb : Name) (vs : Vals) (m : Option (List Pattern × Trees)) → TargetMakes (method_target i o verb vs m)
method_makes i o verb vs (Some m) = tt
method_makes i o verb vs None = tt

object_makes : (i : ObjId) (c : Option Content) (verb : Name) (vs : Vals) → TargetMakes (object_target i c verb vs)
object_makes i (Some (made (plain o))) verb vs = method_makes i o verb vs (method_in o.methods verb vs)
object_makes i (Some (made (resolver p))) verb vs = resolver_makes p verb vs
object_makes i (Some (bound b)) verb vs = tt
object_makes i (Some (held v)) verb vs = tt
object_makes i (Some (viewed k)) verb vs = tt
object_makes i (Some (fenced names)) verb vs = tt
object_makes i None verb vs = tt

callee_makes : (m : Callee) (v : Val) (verb : Name) (vs : Vals) (a : At) → TargetMakes (callee_target m v verb vs a)
callee_makes (on_object i) v verb vs a = object_makes i (read a.state (object_cell i)) verb vs
callee_makes (on_ejector j) v verb vs a = tt
callee_makes on_datum v verb vs a = tt
callee_makes on_far v verb vs a = tt

pub target_makes : (v : Val) (verb : Name) (g : Gather) (a : At) → TargetMakes (target_of v verb g a)
target_makes v verb (values vs) a = callee_makes (callee_of a.vat (receiver v a)) (receiver v a) verb vs (receiver_read v a)
target_makes v verb (halted h) a = tt

-- ---- the rules

module _ (base : Fences) (n : VatNo) (before : PromId → Bool) (ev : EventName) where
  -- acts lead from there to here
  abbrev Does : At → List Act → At → Type 0
  Does a xs b = Acted base n before ev a xs b

  -- the use of a resolver that a call leads to
  uses_act : (p : PromId) (d : Vat (Making Published)) (t : Target) (a c : At) → TargetMakes t → t ≡ uses p d → QuietAt base n before ev a c
      → Does a (resolver_acts before p (given_by d c) c.out) (resolver_out p (given_by d c) (behind d c))
  uses_act p d t a c h e q = quiet_first base n before ev q (used_acts base n before ev p d c (subst TargetMakes e h))

  mutual
    pub ends_act : {k : ℕ} {t : Tree} {a b : At} {o : End} (r : Ends k t a o b) → Does a (acts before r) b
    ends_act (at_budget e) = none base n before ev
    ends_act (at_depth e g) = none base n before ev
    ends_act (at_node e g r) = runs_act r

    pub runs_act : {k : ℕ} {t : Tree} {a b : At} {o : End} (r : Runs k t a o b) → Does a (acts_below before r) b
    runs_act run_null = none base n before ev
    runs_act run_bool = none base n before ev
    runs_act run_int = none base n before ev
    runs_act run_text = none base n before ev
    runs_act (run_noun {x = x} {a = a}) = quietly base n before ev (noun_quiet base n before ev x a)
    runs_act (run_define {p = p} {b = b} {o = o} r) = quiet_behind base n before ev (ends_act r) (defined_quiet base n before ev p o b)
    runs_act (run_variable {x = x} {b = b} {o = o} r) = quiet_behind base n before ev (ends_act r) (declared_quiet base n before ev x o b)
    runs_act (run_assign {x = x} {b = b} {o = o} r) = quiet_behind base n before ev (ends_act r) (assigned_quiet base n before ev x o b)
    runs_act (run_call_receiver r) = ends_act r
    runs_act (run_call_gives {verb = verb} {c = c} {v = v} {g = g} r u e) = quiet_behind base n before ev (acted_then base n before ev (ends_act r) (args_act u)) (called_quiet base n before ev v verb g c)
    runs_act (run_call_enters {verb = verb} {c = c} {v = v} {g = g} r u e q) =
        acted_then base n before ev (quiet_behind base n before ev (acted_then base n before ev (ends_act r) (args_act u)) (called_quiet base n before ev v verb g c)) (items_act q)
    runs_act (run_call_uses {verb = verb} {c = c} {v = v} {g = g} {p = p} {d = d} r u e) =
        acted_then base n before ev (acted_then base n before ev (ends_act r) (args_act u))
        (uses_act p d (target_of v verb g c) c (called v verb g c) (target_makes v verb g c) e (called_quiet base n before ev v verb g c))
    runs_act (run_send_receiver r) = ends_act r
    runs_act (run_send {verb = verb} {c = c} {v = v} {g = g} r u) = acted_then base n before ev (acted_then base n before ev (ends_act r) (args_act u)) (sent_acts base n before ev verb v g c)
    runs_act (run_list r) = args_act r
    runs_act (run_same_left r) = ends_act r
    runs_act (run_same {c = c} {v = v} {o = o} r u) = quiet_behind base n before ev (acted_then base n before ev (ends_act r) (ends_act u)) (same_quiet base n before ev v o c)
    runs_act (run_define_list {ps = ps} {b = b} {o = o} r) =
        quiet_behind base n before ev (quiet_behind base n before ev (ends_act r) (datum_quiet base n before ev o b)) (parts_quiet base n before ev ps (parts_of ps (datum_of o b)) (datum_read o b))
    runs_act (run_hide q) = block_act q
    runs_act (run_primitive r) = needs_act r
    runs_act (run_if_goes r e q) = acted_then base n before ev (needs_act r) (block_act q)
    runs_act (run_if_ends r e) = needs_act r
    runs_act (run_while_again r e q w) = acted_then base n before ev (acted_then base n before ev (needs_act r) (block_act q)) (runs_act w)
    runs_act (run_while_halts r e q) = acted_then base n before ev (needs_act r) (block_act q)
    runs_act (run_while_done r e) = needs_act r
    runs_act (run_while_ends r e) = needs_act r
    runs_act (run_for r e q) = acted_then base n before ev (needs_act r) (each_act q)
    runs_act (run_for_ends r e) = needs_act r
    runs_act (run_try q e) = block_act q
    runs_act (run_try_caught q e w) = acted_then base n before ev (block_act q) (taking_act w)
    runs_act (run_object {p = p} {ms = ms} {a = a}) = quietly base n before ev (object_quiet base n before ev p ms a)
    runs_act (run_escape q) = taking_act q
    runs_act (run_when {body = body} {b = b} {o = o} r) = quiet_behind base n before ev (ends_act r) (when_quiet base n before ev body None o b)
    runs_act (run_when_catch {body = body} {p = p} {handler = handler} {b = b} {o = o} r) =
        quiet_behind base n before ev (ends_act r) (when_quiet base n before ev body (Some (record { pattern = p; block = handler })) o b)
    runs_act (run_new_promise {a = a}) = quietly base n before ev (pair_quiet base n before ev a)

    pub needs_act : {k : ℕ} {t : Tree} {a b : At} {o : End} (r : Needs k t a o b) → Does a (acts_of_datum before r) b
    needs_act (needs {b = b} {o = o} r) = quiet_behind base n before ev (ends_act r) (datum_quiet base n before ev o b)

    pub args_act : {k : ℕ} {ts : Trees} {a b : At} {g : Gather} (r : Args k ts a g b) → Does a (acts_of_args before r) b
    args_act args_none = none base n before ev
    args_act (args_next r u) = acted_then base n before ev (ends_act r) (args_act u)
    args_act (args_halt r) = ends_act r

    pub items_act : {k : ℕ} {v : Val} {ts : Trees} {a b : At} {o : End} (r : Items k v ts a o b) → Does a (acts_of_items before r) b
    items_act items_none = none base n before ev
    items_act (items_next r u) = acted_then base n before ev (ends_act r) (items_act u)
    items_act (items_halt r) = ends_act r

    pub block_act : {k : ℕ} {ts : Trees} {a b : At} {o : End} (r : Block k ts a o b) → Does a (acts_of_block before r) b
    block_act (in_block r) = items_act r

    pub taking_act : {k : ℕ} {p : Pattern} {v : Val} {ts : Trees} {a b : At} {o : End} (r : Taking k p v ts a o b) → Does a (acts_of_taking before r) b
    taking_act (in_taking {p = p} {v = v} {a = a} r) = quiet_first base n before ev (matched_quiet base n before ev p v (entering a)) (items_act r)

    pub each_act : {k : ℕ} {p : Pattern} {ts : Trees} {vs : Vals} {a b : At} {o : End} (r : Each k p ts vs a o b) → Does a (acts_of_each before r) b
    each_act each_none = none base n before ev
    each_act (each_next r u) = acted_then base n before ev (taking_act r) (each_act u)
    each_act (each_halt r) = taking_act r
