-- What reading and writing cells keeps, and making slots, objects and messages, evaluation keeps.
use Rattle.std.proofs.Common.{◌≡◌, ℕ, ◌+◌, ◌<◌, ◌≤◌, List, [], ◌∷◌, Option, Some, None, Bool, true, false, refl, arith, ◌++◌, length, sym, subst}
use Rattle.std.proofs.lemmas.Bool.{ltb-true}
use Rattle.ids.specs.declared.names.SlotId.{SlotId}
use Rattle.kernele.specs.Tree.{Name, Tree, Trees, Methods}
use Rattle.kernele_scopes.specs.Free.{captures}
use Rattle.kernele.specs.declared.tree.Pattern.{Pattern}
use Rattle.kernele.specs.declared.tree.Pattern.TheVariants as pattern
use Rattle.values.specs.Data.{Val, object, Vals, no_vals, and_val}
use Rattle.heap.specs.State.{Bind, fixed, slot, lookup, Plain, Cell, top, slot_cell, object_cell, Content, bound, held, made, State, write, Cells, also, plain, same_cell}
use Rattle.eval_rules.specs.At.{At}
use Rattle.eval_rules.specs.Outcomes.{End, value, halt, Gather, values, halted}
use Rattle.eval_rules.specs.Rules.{sought_in, seeking, slot_read, slot_put, noun_read, Listing, listed, unlisted, parts_of, parts_bound, entering, sought, sought_slot, bound_in, matched, matched_all, defined, next_slot, has_room, slot_made, variable_made, declared, assigned, Capture, captured, missing, and_captured, all_sought, capture_of, capturing, object_made, placed, with_object, Callee, on_object, on_ejector, on_datum, callee_of, callee_read, called, on_far, receiver, receiver_read, handled_names, when_capture, when_capturing, waited, when_made}
use Rattle.eval_rules.specs.Laws.{IsWithinRoom}
use Rattle.eval_rules.specs.Rules.{Ends, at_budget, at_depth, at_node, Runs, run_null, run_bool, run_int, run_text, run_noun, run_define, run_variable, run_assign, run_call_receiver, run_call_gives, run_call_enters, run_call_uses, run_send_receiver, run_send, run_list, run_same_left, run_same, run_define_list, run_hide, run_primitive, run_if_goes, run_if_ends, run_while_again, run_while_halts, run_while_done, run_while_ends, run_for, run_for_ends, run_try, run_try_caught, run_object, run_escape, run_when, run_when_catch, run_new_promise, Needs, needs, Args, args_none, args_next, args_halt, Items, items_none, items_next, items_halt, Block, in_block, Taking, in_taking, Each, each_none, each_next, each_halt}
use Rattle.eval_rules.specs.Doings.{next_object, has_object_room, under, behind, given_by, datum_of, datum_read, data_of, same_read, both_settled, next_message, next_promise, has_message_room, call_message, send_of, send_out, sent_at, when_message, wait_of, wait_out, promise_pair, pair_out, resolver_out}
use Rattle.std.proofs.lemmas.List.{length_push}
use Rattle.cells.specs.Doing.{over, reads, writes, Under, touching, holding, play, and_then}
use Rattle.post.specs.Delivery.{Handler, When}
use Rattle.post.specs.Messages.{Message}
use Rattle.sends.specs.Vats.{Vat, ended, settled, all_settled, comes_in}
use Rattle.sends.specs.Making.{Making, refused, makes, of_settled, with_room, Sent, send_placed, sending, condition, waiting, promising, Published}
use Rattle.ids.specs.declared.names.VatNo.{VatNo}
use Rattle.ids.specs.declared.names.MsgId.{MsgId}
use Rattle.ids.specs.declared.names.PromId.{PromId}
use Rattle.ids.specs.declared.names.ObjId.{ObjId}

-- ---- where there is no room nothing is made

abbrev IsRefused : {R : Type 0} → Making R → Type 0
IsRefused (refused why) = Unit {0}
IsRefused (makes r) = ⊥

abbrev Refuses : {R : Type 0} → Vat (Making R) → Type 0
Refuses d = (u : Under Cell Content) → IsRefused (play same_cell d u).0

refuses_then : {A R : Type 0} (d : Vat A) (f : A → Vat (Making R)) → ((x : A) → Refuses (f x)) → Refuses (and_then d f)
refuses_then (over x) f h = h x
refuses_then (reads k next) f h = λ u. refuses_then (next (u.state k)) f h (touching same_cell k u)
refuses_then (writes k x next) f h = λ u. refuses_then next f h (holding same_cell k x u)

refuses_settled : {A R : Type 0} (make : A → Vat (Making R)) → ((x : A) → Refuses (make x)) → (o : Option A) → Refuses (of_settled make o)
refuses_settled make h None = λ u. tt
refuses_settled make h (Some x) = h x

sending_refuses : (here : VatNo) (m : MsgId) (result : VatNo → PromId) (v : Val) (vs : Vals) → Refuses (sending here m false result v vs)
sending_refuses here m result v vs =
    let place : Val → Vals → Vat (Making Sent) = λ t us. with_room false (send_placed here m result t us) in
    let rest : Val → Vat (Making Sent) = λ t. and_then (all_settled vs) (of_settled (place t)) in
    refuses_then (settled v) (of_settled rest) (refuses_settled rest (λ t. refuses_then (all_settled vs) (of_settled (place t)) (refuses_settled (place t) (λ us u. tt))))

waiting_refuses : (result : PromId) (v : Val) → Refuses (waiting false result v)
waiting_refuses result v =
    let make : Val → Vat (Making PromId) = λ w. with_room false (and_then (comes_in result) (λ n. over (makes (condition result w)))) in
    refuses_then (ended v) make (λ w u. tt)

promising_refuses : (p : PromId) (o : ObjId) → Refuses (promising false p o)
promising_refuses p o = λ u. tt

-- so where something was made there was room
room_made : {R : Type 0} (room : Bool) (d : Bool → Vat (Making R)) (u : Under Cell Content) (r : R) → Refuses (d false) → (play same_cell (d room) u).0 ≡ makes r → room ≡ true
room_made true d u r h e = refl
room_made false d u r h e = absurd (subst (λ m. IsRefused m) e (h u))

-- ---- what is kept

-- what holds of the cells touched, the cells written, the state, and how many slots, objects and messages were made is kept by each thing
-- that a turn does
pub record IsKept (P : Cells → Cells → State → ℕ → ℕ → ℕ → Type 0) : Type 0 where
  pub reaching : (c : Cell) (p q : Cells) (s : State) (m n l : ℕ) → P p q s m n l → P (also c p) q s m n l
  pub writing : (c : Cell) (x : Content) (p q : Cells) (s : State) (m n l : ℕ) → P p q s m n l → P (also c p) (also c q) (write s c x) m n l
  pub making_a_slot : (p q : Cells) (s : State) (m n l : ℕ) → m < 4096 → P p q s m n l → P p q s (m + 1) n l
  pub making_an_object : (p q : Cells) (s : State) (m n l : ℕ) → n < 4096 → P p q s m n l → P p q s m (n + 1) l
  pub making_a_message : (p q : Cells) (s : State) (m n l : ℕ) → l < 4096 → P p q s m n l → P p q s m n (l + 1)

module _ (P : Cells → Cells → State → ℕ → ℕ → ℕ → Type 0) (kept : IsKept P) where
  -- it holds where an evaluation stands
  abbrev HoldsAt : At → Type 0
  HoldsAt a = P a.touched a.written a.state a.slots a.objects (length a.out.letters)

  reached_kept : (c : Cell) (a : At) → HoldsAt a → P (also c a.touched) a.written a.state a.slots a.objects (length a.out.letters)
  reached_kept c a h = kept.reaching c a.touched a.written a.state a.slots a.objects (length a.out.letters) h

  put_kept : (c : Cell) (x : Content) (a : At) → HoldsAt a → P (also c a.touched) (also c a.written) (write a.state c x) a.slots a.objects (length a.out.letters)
  put_kept c x a h = kept.writing c x a.touched a.written a.state a.slots a.objects (length a.out.letters) h

  does_kept : {R : Type 0} (d : Vat R) (u : Under Cell Content) (m n l : ℕ) → P u.touched u.written u.state m n l
      → P (play same_cell d u).1.touched (play same_cell d u).1.written (play same_cell d u).1.state m n l
  does_kept (over r) u m n l h = h
  does_kept (reads k next) u m n l h = does_kept (next (u.state k)) (touching same_cell k u) m n l (kept.reaching k u.touched u.written u.state m n l h)
  does_kept (writes k x next) u m n l h = does_kept next (holding same_cell k x u) m n l (kept.writing k x u.touched u.written u.state m n l h)

  behind_kept : {R : Type 0} (d : Vat R) (a : At) → HoldsAt a → HoldsAt (behind d a)
  behind_kept d a h = does_kept d (under a) a.slots a.objects (length a.out.letters) h

  sought_kept : (x : Name) (m : Option Bind) (a : At) → HoldsAt a → HoldsAt (sought_in x m a)
  sought_kept x (Some b) a h = h
  sought_kept x None a h = reached_kept (top x) a h

  read_kept : (i : Option SlotId) (a : At) → HoldsAt a → HoldsAt (slot_read i a)
  read_kept (Some i) a h = reached_kept (slot_cell i) a h
  read_kept None a h = h

  noun_kept : (x : Name) (a : At) → HoldsAt a → HoldsAt (noun_read x a)
  noun_kept x a h = read_kept (sought_slot x a) (seeking x a) (sought_kept x (lookup a.nouns x) a h)

  bound_kept : (own : Bool) (x : Name) (b : Bind) (a : At) → HoldsAt a → HoldsAt (bound_in own x b a)
  bound_kept true x b a h = put_kept (top x) (bound b) a h
  bound_kept false x b a h = h

  matched_kept : (p : Pattern) (v : Val) (a : At) → HoldsAt a → HoldsAt (matched p v a)
  matched_kept (pattern.Name x) v a h = bound_kept a.own_scope x (fixed v) a h
  matched_kept pattern.Ignore v a h = h

  defined_kept : (p : Pattern) (o : End) (a : At) → HoldsAt a → HoldsAt (defined p o a)
  defined_kept p (value v) a h = matched_kept p v a h
  defined_kept p (halt x) a h = h

  all_kept : (ps : List Pattern) (vs : Vals) (a : At) → HoldsAt a → HoldsAt (matched_all ps vs a)
  all_kept [] vs a h = h
  all_kept (p ∷ ps) no_vals a h = h
  all_kept (p ∷ ps) (and_val v vs) a h = all_kept ps vs (matched p v a) (matched_kept p v a h)

  parts_kept : (ps : List Pattern) (l : Listing) (a : At) → HoldsAt a → HoldsAt (parts_bound ps l a)
  parts_kept ps (listed vs) a h = all_kept ps vs a h
  parts_kept ps (unlisted o) a h = h

  slot_kept : (v : Val) (a : At) → has_room a ≡ true → HoldsAt a → HoldsAt (slot_made v a)
  slot_kept v a room h =
      let c : Cell = slot_cell (next_slot a) in
      kept.making_a_slot (also c a.touched) (also c a.written) (write a.state c (held v)) a.slots a.objects (length a.out.letters) (ltb-true a.slots 4096 room) (put_kept c (held v) a h)

  variable_kept : (room : Bool) (x : Name) (v : Val) (a : At) → has_room a ≡ room → HoldsAt a → HoldsAt (variable_made room x v a)
  variable_kept true x v a e h = bound_kept a.own_scope x (slot (next_slot a)) (slot_made v a) (slot_kept v a e h)
  variable_kept false x v a e h = h

  declared_kept : (x : Name) (o : End) (a : At) → HoldsAt a → HoldsAt (declared x o a)
  declared_kept x (value v) a h = variable_kept (has_room a) x v a refl h
  declared_kept x (halt k) a h = h

  written_kept : (v : Val) (i : Option SlotId) (a : At) → HoldsAt a → HoldsAt (slot_put v i a)
  written_kept v (Some i) a h = put_kept (slot_cell i) (held v) a h
  written_kept v None a h = h

  assigned_kept : (x : Name) (o : End) (a : At) → HoldsAt a → HoldsAt (assigned x o a)
  assigned_kept x (value v) a h = written_kept v (sought_slot x a) (seeking x a) (sought_kept x (lookup a.nouns x) a h)
  assigned_kept x (halt k) a h = h

  captures_kept : (c : Capture) (xs : List Name) (a : At) → HoldsAt a → HoldsAt (all_sought c xs a)
  captures_kept c [] a h = h
  captures_kept (captured ns) (x ∷ xs) a h = captures_kept (and_captured (captured ns) x (sought x a)) xs (seeking x a) (sought_kept x (lookup a.nouns x) a h)
  captures_kept (missing y) (x ∷ xs) a h = h

  object_kept : (o : Plain) (a : At) → has_object_room a ≡ true → HoldsAt a → HoldsAt (object_made o a)
  object_kept o a room h =
      let c : Cell = object_cell (next_object a) in
      kept.making_an_object (also c a.touched) (also c a.written) (write a.state c (made (plain o))) a.slots a.objects (length a.out.letters) (ltb-true a.objects 4096 room) (put_kept c (made (plain o)) a h)

  placed_kept : (room : Bool) (p : Pattern) (o : Plain) (a : At) → has_object_room a ≡ room → HoldsAt a → HoldsAt (placed room p o a)
  placed_kept true p o a e h = matched_kept p (object (next_object a)) (object_made o a) (object_kept o a e h)
  placed_kept false p o a e h = h

  made_kept : (p : Pattern) (ms : Methods) (c : Capture) (a : At) → HoldsAt a → HoldsAt (with_object p ms c a)
  made_kept p ms (captured ns) a h = placed_kept (has_object_room a) p (record { own = p; captured = ns; methods = ms }) a refl h
  made_kept p ms (missing x) a h = h

  callee_kept : (m : Callee) (u : Val) (verb : Name) (vs : Vals) (a : At) → HoldsAt a → HoldsAt (callee_read m u verb vs a)
  callee_kept (on_object i) u verb vs a h = reached_kept (object_cell i) a h
  callee_kept (on_ejector j) u verb vs a h = h
  callee_kept on_datum u verb vs a h = behind_kept (data_of u verb vs) a h
  callee_kept on_far u verb vs a h = h

  called_kept : (v : Val) (verb : Name) (g : Gather) (a : At) → HoldsAt a → HoldsAt (called v verb g a)
  called_kept v verb (values vs) a h = callee_kept (callee_of a.vat (receiver v a)) (receiver v a) verb vs (receiver_read v a) (behind_kept (ended v) a h)
  called_kept v verb (halted k) a h = h

  datum_kept : (o : End) (a : At) → HoldsAt a → HoldsAt (datum_read o a)
  datum_kept (value v) a h = behind_kept (ended v) a h
  datum_kept (halt k) a h = h

  same_kept : (v : Val) (o : End) (a : At) → HoldsAt a → HoldsAt (same_read v o a)
  same_kept v (value w) a h = behind_kept (both_settled v w) a h
  same_kept v (halt k) a h = h

  -- a message goes out
  posted_kept : (g : MsgId × Message) (a : At) → length a.out.letters < 4096 → HoldsAt a → P a.touched a.written a.state a.slots a.objects (length (a.out.letters ++ g ∷ []))
  posted_kept g a more h =
      subst (λ l. P a.touched a.written a.state a.slots a.objects l) (sym (length_push a.out.letters g)) (kept.making_a_message a.touched a.written a.state a.slots a.objects (length a.out.letters) more h)

  sends_kept : (verb : Name) (m : Making Sent) (a : At) → ((s : Sent) → m ≡ makes s → length a.out.letters < 4096) → HoldsAt a → HoldsAt (send_out verb m a)
  sends_kept verb (refused why) a more h = h
  sends_kept verb (makes s) a more h = posted_kept (next_message a, call_message a.vat verb s) a (more s refl) h

  sent_kept : (verb : Name) (v : Val) (g : Gather) (a : At) → HoldsAt a → HoldsAt (sent_at verb v g a)
  sent_kept verb v (values vs) a h =
      let d : Bool → Vat (Making Sent) = λ room. sending a.vat (next_message a) room (next_promise a) v vs in
      sends_kept verb (given_by (send_of v vs a) a) (behind (send_of v vs a) a)
      (λ s e. ltb-true (length a.out.letters) 4096 (room_made (has_message_room a) d (under a) s (sending_refuses a.vat (next_message a) (next_promise a) v vs) e)) (behind_kept (send_of v vs a) a h)
  sent_kept verb v (halted k) a h = h

  waits_kept : (w : When) (m : Making PromId) (a : At) → ((c : PromId) → m ≡ makes c → length a.out.letters < 4096) → HoldsAt a → HoldsAt (wait_out w m a)
  waits_kept w (refused why) a more h = h
  waits_kept w (makes c) a more h = posted_kept (next_message a, when_message a.vat (next_promise a a.vat) w) a (more c refl) h

  waited_kept : (c : Capture) (body : Trees) (handler : Option Handler) (v : Val) (a : At) → HoldsAt a → HoldsAt (waited c body handler v a)
  waited_kept (captured ns) body handler v a h =
      let d : Bool → Vat (Making PromId) = λ room. waiting room (next_promise a a.vat) v in
      waits_kept (record { value = v; captured = ns; block = body; handler = handler }) (given_by (wait_of v a) a) (behind (wait_of v a) a)
      (λ c e. ltb-true (length a.out.letters) 4096 (room_made (has_message_room a) d (under a) c (waiting_refuses (next_promise a a.vat) v) e)) (behind_kept (wait_of v a) a h)
  waited_kept (missing x) body handler v a h = h

  when_kept : (body : Trees) (handler : Option Handler) (o : End) (a : At) → HoldsAt a → HoldsAt (when_made body handler o a)
  when_kept body handler (value v) a h = waited_kept (when_capture body handler a) body handler v (when_capturing body handler a) (captures_kept (captured []) (handled_names body handler) a h)
  when_kept body handler (halt k) a h = h

  pairs_kept : (m : Making ObjId) (a : At) → ((n : ObjId) → m ≡ makes n → a.objects < 4096) → HoldsAt a → HoldsAt (pair_out m a)
  pairs_kept (refused why) a more h = h
  pairs_kept (makes n) a more h = kept.making_an_object a.touched a.written a.state a.slots a.objects (length a.out.letters) (more n refl) h

  pair_kept : (a : At) → HoldsAt a → HoldsAt (pair_out (given_by (promise_pair a) a) (behind (promise_pair a) a))
  pair_kept a h =
      let d : Bool → Vat (Making ObjId) = λ room. promising room (next_promise a a.vat) (next_object a) in
      pairs_kept (given_by (promise_pair a) a) (behind (promise_pair a) a)
      (λ n e. ltb-true a.objects 4096 (room_made (has_object_room a) d (under a) n (promising_refuses (next_promise a a.vat) (next_object a)) e)) (behind_kept (promise_pair a) a h)

  resolvers_kept : (p : PromId) (m : Making Published) (a : At) → HoldsAt a → HoldsAt (resolver_out p m a)
  resolvers_kept p (refused why) a h = h
  resolvers_kept p (makes b) a h = h

  mutual
    pub ends_kept : {k : ℕ} {t : Tree} {a b : At} {o : End} → Ends k t a o b → HoldsAt a → HoldsAt b
    ends_kept (at_budget e) h = h
    ends_kept (at_depth e g) h = h
    ends_kept (at_node e g r) h = runs_kept r h

    pub runs_kept : {k : ℕ} {t : Tree} {a b : At} {o : End} → Runs k t a o b → HoldsAt a → HoldsAt b
    runs_kept run_null h = h
    runs_kept run_bool h = h
    runs_kept run_int h = h
    runs_kept run_text h = h
    runs_kept (run_noun {x = x} {a = a}) h = noun_kept x a h
    runs_kept (run_define {p = p} {b = b} {o = o} r) h = defined_kept p o b (ends_kept r h)
    runs_kept (run_variable {x = x} {b = b} {o = o} r) h = declared_kept x o b (ends_kept r h)
    runs_kept (run_assign {x = x} {b = b} {o = o} r) h = assigned_kept x o b (ends_kept r h)
    runs_kept (run_call_receiver r) h = ends_kept r h
    runs_kept (run_call_gives {verb = verb} {c = c} {v = v} {g = g} r u e) h = called_kept v verb g c (args_kept u (ends_kept r h))
    runs_kept (run_call_enters {verb = verb} {c = c} {v = v} {g = g} r u e q) h = items_kept q (called_kept v verb g c (args_kept u (ends_kept r h)))
    runs_kept (run_call_uses {verb = verb} {c = c} {v = v} {g = g} {p = p} {d = d} r u e) h =
        resolvers_kept p (given_by d (called v verb g c)) (behind d (called v verb g c)) (behind_kept d (called v verb g c) (called_kept v verb g c (args_kept u (ends_kept r h))))
    runs_kept (run_send_receiver r) h = ends_kept r h
    runs_kept (run_send {verb = verb} {c = c} {v = v} {g = g} r u) h = sent_kept verb v g c (args_kept u (ends_kept r h))
    runs_kept (run_list r) h = args_kept r h
    runs_kept (run_same_left r) h = ends_kept r h
    runs_kept (run_same {c = c} {v = v} {o = o} r u) h = same_kept v o c (ends_kept u (ends_kept r h))
    runs_kept (run_define_list {ps = ps} {b = b} {o = o} r) h = parts_kept ps (parts_of ps (datum_of o b)) (datum_read o b) (datum_kept o b (ends_kept r h))
    runs_kept (run_hide q) h = block_kept q h
    runs_kept (run_primitive r) h = needs_kept r h
    runs_kept (run_if_goes r e q) h = block_kept q (needs_kept r h)
    runs_kept (run_if_ends r e) h = needs_kept r h
    runs_kept (run_while_again r e q w) h = runs_kept w (block_kept q (needs_kept r h))
    runs_kept (run_while_halts r e q) h = block_kept q (needs_kept r h)
    runs_kept (run_while_done r e) h = needs_kept r h
    runs_kept (run_while_ends r e) h = needs_kept r h
    runs_kept (run_for r e q) h = each_kept q (needs_kept r h)
    runs_kept (run_for_ends r e) h = needs_kept r h
    runs_kept (run_try q e) h = block_kept q h
    runs_kept (run_try_caught q e w) h = taking_kept w (block_kept q h)
    runs_kept (run_object {p = p} {ms = ms} {a = a}) h = made_kept p ms (capture_of p ms a) (capturing p ms a) (captures_kept (captured []) (captures p ms) a h)
    runs_kept (run_escape q) h = taking_kept q h
    runs_kept (run_when {body = body} {b = b} {o = o} r) h = when_kept body None o b (ends_kept r h)
    runs_kept (run_when_catch {body = body} {p = p} {handler = handler} {b = b} {o = o} r) h = when_kept body (Some (record { pattern = p; block = handler })) o b (ends_kept r h)
    runs_kept (run_new_promise {a = a}) h = pair_kept a h

    pub needs_kept : {k : ℕ} {t : Tree} {a b : At} {o : End} → Needs k t a o b → HoldsAt a → HoldsAt b
    needs_kept (needs {b = b} {o = o} r) h = datum_kept o b (ends_kept r h)

    pub args_kept : {k : ℕ} {ts : Trees} {a b : At} {g : Gather} → Args k ts a g b → HoldsAt a → HoldsAt b
    args_kept args_none h = h
    args_kept (args_next r u) h = args_kept u (ends_kept r h)
    args_kept (args_halt r) h = ends_kept r h

    pub items_kept : {k : ℕ} {v : Val} {ts : Trees} {a b : At} {o : End} → Items k v ts a o b → HoldsAt a → HoldsAt b
    items_kept items_none h = h
    items_kept (items_next r u) h = items_kept u (ends_kept r h)
    items_kept (items_halt r) h = ends_kept r h

    pub block_kept : {k : ℕ} {ts : Trees} {a b : At} {o : End} → Block k ts a o b → HoldsAt a → HoldsAt b
    block_kept (in_block r) h = items_kept r h

    pub taking_kept : {k : ℕ} {p : Pattern} {v : Val} {ts : Trees} {a b : At} {o : End} → Taking k p v ts a o b → HoldsAt a → HoldsAt b
    taking_kept (in_taking {p = p} {v = v} {a = a} r) h = items_kept r (matched_kept p v (entering a) h)

    pub each_kept : {k : ℕ} {p : Pattern} {ts : Trees} {vs : Vals} {a b : At} {o : End} → Each k p ts vs a o b → HoldsAt a → HoldsAt b
    each_kept each_none h = h
    each_kept (each_next r u) h = each_kept u (taking_kept r h)
    each_kept (each_halt r) h = taking_kept r h

-- ---- how many slots, objects and messages were made

abbrev InRoom : Cells → Cells → State → ℕ → ℕ → ℕ → Type 0
InRoom p q s m n l = (m ≤ 4096) × (n ≤ 4096) × (l ≤ 4096)

in_room : IsKept InRoom
in_room = record {
  reaching = λ c p q s m n l h. h;
  writing = λ c x p q s m n l h. h;
  making_a_slot = λ p q s m n l more h. (omega arith, h.1, h.2);
  making_an_object = λ p q s m n l more h. (h.0, omega arith, h.2);
  making_a_message = λ p q s m n l more h. (h.0, h.1, omega arith);
}

pub ends_in_room : {k : ℕ} {t : Tree} {a b : At} {o : End} → Ends k t a o b → IsWithinRoom a → IsWithinRoom b
ends_in_room r h = let g = ends_kept InRoom in_room r (h.slots, h.objects, h.messages) in record { slots = g.0; objects = g.1; messages = g.2 }

pub items_in_room : {k : ℕ} {v : Val} {ts : Trees} {a b : At} {o : End} → Items k v ts a o b → IsWithinRoom a → IsWithinRoom b
items_in_room r h = let g = items_kept InRoom in_room r (h.slots, h.objects, h.messages) in record { slots = g.0; objects = g.1; messages = g.2 }
