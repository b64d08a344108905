-- Each rule of evaluation keeps what holds all through a turn.
use Rattle.std.proofs.Common.{ℕ, Some, None}
use Rattle.ids.specs.declared.names.EventName.{EventName}
use Rattle.ids.specs.declared.names.VatNo.{VatNo}
use Rattle.kernele.specs.Tree.{Tree, Trees}
use Rattle.kernele.specs.declared.tree.Pattern.{Pattern}
use Rattle.values.specs.Data.{Val, Vals}
use Rattle.heap.specs.State.{State}
use Rattle.eval_rules.specs.At.{At}
use Rattle.eval_rules.specs.Outcomes.{End, Gather}
use Rattle.eval_rules.specs.Doings.{datum_of, datum_read}
use Rattle.eval_rules.specs.Rules.{called, parts_of, entering}
use Rattle.eval_rules.specs.Rules.{Ends, at_budget, at_depth, at_node, Runs, run_null, run_bool, run_int, run_text, run_noun, run_define, run_variable, run_assign, run_call_receiver, run_call_gives, run_call_enters, run_call_uses, run_send_receiver, run_send, run_list, run_same_left, run_same, run_define_list, run_hide, run_primitive, run_if_goes, run_if_ends, run_while_again, run_while_halts, run_while_done, run_while_ends, run_for, run_for_ends, run_try, run_try_caught, run_object, run_escape, run_when, run_when_catch, run_new_promise, Needs, needs, Args, args_none, args_next, args_halt, Items, items_none, items_next, items_halt, Block, in_block, Taking, in_taking, Each, each_none, each_next, each_halt}
use Rattle.event_publishing.proofs.Quiet.{noun_quiet, matched_quiet, defined_quiet, parts_quiet, declared_quiet, assigned_quiet, object_tree_quiet, called_quiet, datum_quiet, same_quiet}
use Rattle.event_publishing.proofs.Orderly.{OrderlyAt, quietly}
use Rattle.event_publishing.proofs.Stepping.{sent_orderly, when_orderly, pair_orderly, call_uses}

module _ (e : EventName) (v : VatNo) (s : State) where
  abbrev Is : At → Type 0
  Is a = OrderlyAt e v s a

  mutual
    pub ends_orderly : {k : ℕ} {t : Tree} {a b : At} {o : End} → Ends k t a o b → Is a → Is b
    ends_orderly (at_budget i) h = h
    ends_orderly (at_depth i j) h = h
    ends_orderly (at_node i j r) h = runs_orderly r h

    pub runs_orderly : {k : ℕ} {t : Tree} {a b : At} {o : End} → Runs k t a o b → Is a → Is b
    runs_orderly run_null h = h
    runs_orderly run_bool h = h
    runs_orderly run_int h = h
    runs_orderly run_text h = h
    runs_orderly (run_noun {x = x} {a = a}) h = quietly e v s (noun_quiet x a) h
    runs_orderly (run_define {p = p} {b = b} {o = o} r) h = quietly e v s (defined_quiet p o b) (ends_orderly r h)
    runs_orderly (run_variable {x = x} {b = b} {o = o} r) h = quietly e v s (declared_quiet x o b) (ends_orderly r h)
    runs_orderly (run_assign {x = x} {b = b} {o = o} r) h = quietly e v s (assigned_quiet x o b) (ends_orderly r h)
    runs_orderly (run_call_receiver r) h = ends_orderly r h
    runs_orderly (run_call_gives {verb = verb} {c = c} {v = w} {g = g} r u i) h = quietly e v s (called_quiet w verb g c) (args_orderly u (ends_orderly r h))
    runs_orderly (run_call_enters {verb = verb} {c = c} {v = w} {g = g} r u i q) h =
        let x : Is (called w verb g c) = quietly e v s (called_quiet w verb g c) (args_orderly u (ends_orderly r h)) in
        items_orderly q x
    runs_orderly (run_call_uses {verb = verb} {c = c} {v = w} {g = g} {p = p} {d = d} r u i) h = call_uses e v s w verb g p d c i (args_orderly u (ends_orderly r h))
    runs_orderly (run_send_receiver r) h = ends_orderly r h
    runs_orderly (run_send {verb = verb} {c = c} {v = w} {g = g} r u) h = sent_orderly e v s verb w g c (args_orderly u (ends_orderly r h))
    runs_orderly (run_list u) h = args_orderly u h
    runs_orderly (run_same_left r) h = ends_orderly r h
    runs_orderly (run_same {c = c} {v = w} {o = o} r u) h = quietly e v s (same_quiet w o c) (ends_orderly u (ends_orderly r h))
    runs_orderly (run_define_list {ps = ps} {b = b} {o = o} r) h =
        let d : At = datum_read o b in
        quietly e v s (parts_quiet ps (parts_of ps (datum_of o b)) d) (quietly e v s (datum_quiet o b) (ends_orderly r h))
    runs_orderly (run_hide q) h = block_orderly q h
    runs_orderly (run_primitive r) h = needs_orderly r h
    runs_orderly (run_if_goes r i q) h = block_orderly q (needs_orderly r h)
    runs_orderly (run_if_ends r i) h = needs_orderly r h
    runs_orderly (run_while_again r i q w) h = runs_orderly w (block_orderly q (needs_orderly r h))
    runs_orderly (run_while_halts r i q) h = block_orderly q (needs_orderly r h)
    runs_orderly (run_while_done r i) h = needs_orderly r h
    runs_orderly (run_while_ends r i) h = needs_orderly r h
    runs_orderly (run_for r i q) h = each_orderly q (needs_orderly r h)
    runs_orderly (run_for_ends r i) h = needs_orderly r h
    runs_orderly (run_try q i) h = block_orderly q h
    runs_orderly (run_try_caught q i w) h = taking_orderly w (block_orderly q h)
    runs_orderly (run_object {p = p} {ms = ms} {a = a}) h = quietly e v s (object_tree_quiet p ms a) h
    runs_orderly (run_escape q) h = taking_orderly q h
    runs_orderly (run_when {body = body} {b = b} {o = o} r) h = when_orderly e v s body None o b (ends_orderly r h)
    runs_orderly (run_when_catch {body = body} {p = p} {handler = handler} {b = b} {o = o} r) h = when_orderly e v s body (Some (record { pattern = p; block = handler })) o b (ends_orderly r h)
    runs_orderly (run_new_promise {a = a}) h = pair_orderly e v s a h

    pub needs_orderly : {k : ℕ} {t : Tree} {a b : At} {o : End} → Needs k t a o b → Is a → Is b
    needs_orderly (needs {b = b} {o = o} r) h = quietly e v s (datum_quiet o b) (ends_orderly r h)

    pub args_orderly : {k : ℕ} {ts : Trees} {a b : At} {g : Gather} → Args k ts a g b → Is a → Is b
    args_orderly args_none h = h
    args_orderly (args_next r u) h = args_orderly u (ends_orderly r h)
    args_orderly (args_halt r) h = ends_orderly r h

    pub items_orderly : {k : ℕ} {w : Val} {ts : Trees} {a b : At} {o : End} → Items k w ts a o b → Is a → Is b
    items_orderly items_none h = h
    items_orderly (items_next r u) h = items_orderly u (ends_orderly r h)
    items_orderly (items_halt r) h = ends_orderly r h

    pub block_orderly : {k : ℕ} {ts : Trees} {a b : At} {o : End} → Block k ts a o b → Is a → Is b
    block_orderly (in_block r) h = items_orderly r h

    pub taking_orderly : {k : ℕ} {p : Pattern} {w : Val} {ts : Trees} {a b : At} {o : End} → Taking k p w ts a o b → Is a → Is b
    taking_orderly (in_taking {p = p} {v = w} {a = a} r) h = items_orderly r (quietly e v s (matched_quiet p w (entering a)) h)

    pub each_orderly : {k : ℕ} {p : Pattern} {ts : Trees} {vs : Vals} {a b : At} {o : End} → Each k p ts vs a o b → Is a → Is b
    each_orderly each_none h = h
    each_orderly (each_next r u) h = each_orderly u (taking_orderly r h)
    each_orderly (each_halt r) h = taking_orderly r h
