-- In a state that agrees on the cells touched, a tree ends the same and touches the same cells.
use Rattle.std.proofs.Common.{◌≡◌, ℕ, ◌+◌, List, [], ◌∷◌, Option, Some, None, Bool, true, false, cond, refl, sym, ap, ◌∙◌, subst}
use Rattle.std.proofs.lemmas.Bool.{or_left}
use Rattle.ids.specs.declared.names.SlotId.{SlotId}
use Rattle.ids.specs.declared.names.ObjId.{ObjId}
use Rattle.kernele.specs.Tree.{Name, Tree, Trees, noun, assign, object_tree, Methods, new_promise, same_tree, define_list, send}
use Rattle.kernele_scopes.specs.Free.{captures}
use Rattle.kernele.specs.declared.tree.Pattern.{Pattern}
use Rattle.kernele.specs.declared.tree.Pattern.TheVariants as pattern
use Rattle.values.specs.Data.{Val, null, object, Vals, no_vals, and_val}
use Rattle.heap.specs.State.{Bind, Nouns, fixed, slot, lookup, Plain, Cell, top, slot_cell, object_cell, Content, bound, held, made, same_cell, State, write, Cells, plain}
use Rattle.heap.proofs.Cells.{cell_self}
use Rattle.eval_rules.specs.At.{At}
use Rattle.eval_rules.specs.Outcomes.{End, value, halt, Gather, values, halted, reply_end}
use Rattle.eval_rules.specs.Rules.{reached, put, sought_in, seeking, slot_read, slot_put, noun_read, Listing, listed, unlisted, parts_of, parts_bound, matched_all, top_bind, found, sought, slot_in, sought_slot, held_end, noun_end, bound_in, defined, next_slot, has_room, slot_made, variable_made, declared, declared_end, assigned, assigned_end, matched, parts_end, gives, on_far, receiver, receiver_read, handled_names, when_capture, when_capturing, waited, waited_end, when_end, when_made}
use Rattle.eval_rules.specs.Rules.{Capture, captured, missing, and_captured, all_captured, all_sought, capture_of, capturing, object_made, placed, placed_end, with_object, object_end, Callee, on_object, on_ejector, on_datum, callee_of, callee_target, callee_read, called, object_target, target_of, inside}
use Rattle.eval_rules.specs.Rules.{Ends, at_budget, at_depth, at_node, Runs, run_null, run_bool, run_int, run_text, run_noun, run_define, run_variable, run_assign, run_call_receiver, run_call_gives, run_call_enters, run_call_uses, run_send_receiver, run_send, run_list, run_same_left, run_same, run_define_list, run_hide, run_primitive, run_if_goes, run_if_ends, run_while_again, run_while_halts, run_while_done, run_while_ends, run_for, run_for_ends, run_try, run_try_caught, run_object, run_escape, run_when, run_when_catch, run_new_promise, Needs, needs, Args, args_none, args_next, args_halt, Items, items_none, items_next, items_halt, Block, in_block, Taking, in_taking, Each, each_none, each_next, each_halt}
use Rattle.eval_rules.specs.Laws.{in_state, AgreeOn, with_cells, IsWithin}
use Rattle.eval_rules.proofs.Reached.{defined_later, declared_later, assigned_later, parts_later, ends_later, runs_later, args_later, items_later, block_later, taking_later, each_later, read_later, slot_later, captures_later, object_later, called_later, callee_later, datum_later, same_later, sends_later, sent_later, waits_later, waited_later, when_later, pairs_later, resolvers_later}
use Rattle.eval_rules.proofs.Steps.{runs_as, runs_to}
use Rattle.eval_rules.specs.Doings.{next_object, has_object_room, under, behind, given_by, datum_of, datum_read, data_of, same_end, same_read, same_forms, both_settled, send_of, send_end, send_out, sent_end, sent_at, wait_of, wait_end, wait_out, promise_pair, pair_end, pair_out, resolver_end, resolver_out}
use Rattle.eval_rules.proofs.Doings.{Onward, does_later, does_alike}
use Rattle.cells.specs.Doing.{Under, play, with_state}
use Rattle.post.specs.Delivery.{Handler, When}
use Rattle.sends.specs.Vats.{Vat, ended}
use Rattle.sends.specs.Making.{Making, refused, makes, Sent, Published}
use Rattle.ids.specs.declared.names.PromId.{PromId}

-- the same in turns that begin with the state w
module _ (w : State) where
  -- the same place in another state
  abbrev there : State → At → At
  there t a = in_state w t a

  -- the same from the state u in place of s: where it ends, that it does, and that it keeps what agrees
  pub record Framed (D : State → Type 0) (s s' u : State) : Type 0 where
    pub after : State
    pub run : D after
    pub kept : (c : Cell) → u c ≡ s c → after c ≡ s' c

  -- what is done to a place is done to it in the state u alike
  pub record Follows (f : At → At) (a : At) (u : State) : Type 0 where
    pub after : State
    pub place : f (there u a) ≡ there after (f a)
    pub kept : (c : Cell) → u c ≡ a.state c → after c ≡ (f a).state c

  -- the frames of each form
  abbrev EndsFrame : (k : ℕ) (t : Tree) (a : At) (o : End) (b : At) (u : State) → Type 0
  EndsFrame k t a o b u = Framed (λ s. Ends k t (there u a) o (there s b)) a.state b.state u

  abbrev RunsFrame : (k : ℕ) (t : Tree) (a : At) (o : End) (b : At) (u : State) → Type 0
  RunsFrame k t a o b u = Framed (λ s. Runs k t (there u a) o (there s b)) a.state b.state u

  abbrev NeedsFrame : (k : ℕ) (t : Tree) (a : At) (o : End) (b : At) (u : State) → Type 0
  NeedsFrame k t a o b u = Framed (λ s. Needs k t (there u a) o (there s b)) a.state b.state u

  abbrev ArgsFrame : (k : ℕ) (ts : Trees) (a : At) (g : Gather) (b : At) (u : State) → Type 0
  ArgsFrame k ts a g b u = Framed (λ s. Args k ts (there u a) g (there s b)) a.state b.state u

  abbrev ItemsFrame : (k : ℕ) (v : Val) (ts : Trees) (a : At) (o : End) (b : At) (u : State) → Type 0
  ItemsFrame k v ts a o b u = Framed (λ s. Items k v ts (there u a) o (there s b)) a.state b.state u

  abbrev BlockFrame : (k : ℕ) (ts : Trees) (a : At) (o : End) (b : At) (u : State) → Type 0
  BlockFrame k ts a o b u = Framed (λ s. Block k ts (there u a) o (there s b)) a.state b.state u

  abbrev TakingFrame : (k : ℕ) (p : Pattern) (v : Val) (ts : Trees) (a : At) (o : End) (b : At) (u : State) → Type 0
  TakingFrame k p v ts a o b u = Framed (λ s. Taking k p v ts (there u a) o (there s b)) a.state b.state u

  abbrev EachFrame : (k : ℕ) (p : Pattern) (ts : Trees) (vs : Vals) (a : At) (o : End) (b : At) (u : State) → Type 0
  EachFrame k p ts vs a o b u = Framed (λ s. Each k p ts vs (there u a) o (there s b)) a.state b.state u

  -- ---- agreement

  -- states that agree on the cells touched in the end agree on those touched before
  pub before : {p q p' q' : Cells} {s s' v v' : State} (u t : State) → Onward p q s v p' q' s' v' → AgreeOn p' u t → AgreeOn p u t
  before u t g h = λ c e. h c (g.touched c e)

  -- and so do the states behind them
  pub agree_on : {q : Cells} (u s v t : State) → ((c : Cell) → u c ≡ s c → v c ≡ t c) → AgreeOn q u s → AgreeOn q v t
  agree_on u s v t kept h = λ c e. kept c (h c e)

  -- states agree on a cell that was reached
  on_reached : (c : Cell) (a : At) (u t : State) → AgreeOn (reached c a).touched u t → u c ≡ t c
  on_reached c a u t h = h c (or_left (same_cell c c) (a.touched c) (cell_self c))

  -- ---- what follows alike

  pub unmoved : {a : At} {u : State} → Follows (λ a. a) a u
  unmoved {u = u} = record { after = u; place = refl; kept = λ c h. h }

  pub both_follow : {f g : At → At} {a : At} {u : State} (p : Follows f a u) → Follows g (f a) p.after → Follows (λ a. g (f a)) a u
  both_follow {g = g} p q = record { after = q.after; place = ap g p.place ∙ q.place; kept = λ c h. q.kept c (p.kept c h) }

  written_alike : (u s : State) (d : Cell) (x : Content) (c : Cell) → u c ≡ s c → write u d x c ≡ write s d x c
  written_alike u s d x c e = ap (λ y. cond (same_cell d c) (Some x) y) e

  put_follows : (d : Cell) (x : Content) (a : At) (u : State) → Follows (put d x) a u
  put_follows d x a u = record { after = write u d x; place = refl; kept = λ c h. written_alike u a.state d x c h }

  bound_follows : (own : Bool) (x : Name) (b : Bind) (a : At) (u : State) → Follows (bound_in own x b) a u
  bound_follows true x b a u = put_follows (top x) (bound b) a u
  bound_follows false x b a u = record { after = u; place = refl; kept = λ c h. h }

  -- a pattern's name is bound in the innermost scope, which is the same
  named_follows : (own : Bool) (x : Name) (v : Val) (a : At) (u : State) → Follows (bound_in own x (fixed v)) a u → a.own_scope ≡ own → Follows (matched (pattern.Name x) v) a u
  named_follows own x v a u p e = record {
    after = p.after;
    place = ap (λ o. bound_in o x (fixed v) (there u a)) e ∙ p.place ∙ ap (λ o. there p.after (bound_in o x (fixed v) a)) (sym e);
    kept = λ c h. p.kept c h ∙ ap (λ o. (bound_in o x (fixed v) a).state c) (sym e);
  }

  matched_follows : (p : Pattern) (v : Val) (a : At) (u : State) → Follows (matched p v) a u
  matched_follows (pattern.Name x) v a u = named_follows a.own_scope x v a u (bound_follows a.own_scope x (fixed v) a u) refl
  matched_follows pattern.Ignore v a u = unmoved

  pub defined_follows : (p : Pattern) (o : End) (a : At) (u : State) → Follows (defined p o) a u
  defined_follows p (value v) a u = matched_follows p v a u
  defined_follows p (halt h) a u = unmoved

  all_follow : (ps : List Pattern) (vs : Vals) (a : At) (u : State) → Follows (matched_all ps vs) a u
  all_follow [] vs a u = unmoved
  all_follow (p ∷ ps) no_vals a u = unmoved
  all_follow (p ∷ ps) (and_val v vs) a u =
      let m = matched_follows p v a u in
      both_follow {f = matched p v} {g = matched_all ps vs} m (all_follow ps vs (matched p v a) m.after)

  parts_follow : (ps : List Pattern) (l : Listing) (a : At) (u : State) → Follows (parts_bound ps l) a u
  parts_follow ps (listed vs) a u = all_follow ps vs a u
  parts_follow ps (unlisted o) a u = unmoved

  -- a variable, where it is known whether there is room for it and which scope is the innermost
  slot_follows : (own : Bool) (x : Name) (v : Val) (a : At) (u : State) → Follows (λ a. bound_in own x (slot (next_slot a)) (slot_made v a)) a u
  slot_follows true x v a u = record {
    after = write (write u (slot_cell (next_slot a)) (held v)) (top x) (bound (slot (next_slot a)));
    place = refl;
    kept = λ c h. written_alike (write u (slot_cell (next_slot a)) (held v)) (slot_made v a).state (top x) (bound (slot (next_slot a))) c (written_alike u a.state (slot_cell (next_slot a)) (held v) c h);
  }
  slot_follows false x v a u = record { after = write u (slot_cell (next_slot a)) (held v); place = refl; kept = λ c h. written_alike u a.state (slot_cell (next_slot a)) (held v) c h }

  -- what is done by a case is done alike where each case is
  pub by_case : {A : Type 0} (f : A → At → At) (g : At → A) (a : At) (u : State) → g (there u a) ≡ g a → Follows (f (g a)) a u → Follows (λ a. f (g a) a) a u
  by_case f g a u e p = record { after = p.after; place = ap (λ q. f q (there u a)) e ∙ p.place; kept = p.kept }

  variable_follows : (room : Bool) (x : Name) (v : Val) (a : At) (u : State) → Follows (variable_made room x v) a u
  variable_follows true x v a u = by_case (λ own a. bound_in own x (slot (next_slot a)) (slot_made v a)) (λ a. a.own_scope) a u refl (slot_follows a.own_scope x v a u)
  variable_follows false x v a u = unmoved

  declared_follows : (x : Name) (o : End) (a : At) (u : State) → Follows (declared x o) a u
  declared_follows x (value v) a u = by_case (λ room a. variable_made room x v a) has_room a u refl (variable_follows (has_room a) x v a u)
  declared_follows x (halt h) a u = unmoved

  declared_ends : (o : End) (a : At) (u : State) → declared_end o a ≡ declared_end o (there u a)
  declared_ends (value v) a u = refl
  declared_ends (halt h) a u = refl

  sought_follows : (x : Name) (m : Option Bind) (a : At) (u : State) → Follows (sought_in x m) a u
  sought_follows x (Some b) a u = unmoved
  sought_follows x None a u = record { after = u; place = refl; kept = λ c h. h }

  seeking_follows : (x : Name) (a : At) (u : State) → Follows (seeking x) a u
  seeking_follows x a u = by_case (λ m a. sought_in x m a) (λ a. lookup a.nouns x) a u refl (sought_follows x (lookup a.nouns x) a u)

  -- a name stands for the same in a state that agrees where it is sought
  found_alike : (x : Name) (m : Option Bind) (a : At) (u t : State) → AgreeOn (sought_in x m a).touched u t → found u x m ≡ found t x m
  found_alike x (Some b) a u t h = refl
  found_alike x None a u t h = ap top_bind (on_reached (top x) a u t h)

  sought_alike : (x : Name) (a : At) (u : State) → AgreeOn (seeking x a).touched u a.state → sought x (there u a) ≡ sought x a
  sought_alike x a u h = found_alike x (lookup a.nouns x) a u a.state h

  -- ---- the rules

  -- what is made of where parts led: the rule runs there too
  going_on : {k : ℕ} {t : Tree} (a : At) {b : At} {p : End} {u v : State} (f : At → At) → ((c : Cell) → u c ≡ a.state c → v c ≡ b.state c) → Follows f b v → Runs k t (there u a) p (f (there v b)) → RunsFrame k t a p (f b) u
  going_on a f kept g run = record { after = g.after; run = runs_to run refl (sym g.place); kept = λ c h. g.kept c (kept c h) }

  -- of a right side's end
  tail : {k : ℕ} {t e : Tree} (a : At) {b : At} {o p : End} {u : State} (f : At → At) (r : EndsFrame (k + 1) e a o b u) → Follows f b r.after → Runs k t (there u a) p (f (there r.after b)) → RunsFrame k t a p (f b) u
  tail a f r g run = going_on a f r.kept g run

  slot_read_follows : (i : Option SlotId) (a : At) (u : State) → Follows (slot_read i) a u
  slot_read_follows (Some i) a u = record { after = u; place = refl; kept = λ c h. h }
  slot_read_follows None a u = unmoved

  slot_put_follows : (v : Val) (i : Option SlotId) (a : At) (u : State) → Follows (slot_put v i) a u
  slot_put_follows v (Some i) a u = put_follows (slot_cell i) (held v) a u
  slot_put_follows v None a u = unmoved

  -- a noun gives the same, once its slot is read
  noun_alike : (x : Name) (m : Option Bind) (a : At) (u t : State) → AgreeOn (slot_read (slot_in m) a).touched u t → noun_end u x m ≡ noun_end t x m
  noun_alike x (Some (fixed v)) a u t h = refl
  noun_alike x (Some (slot i)) a u t h = ap (held_end x) (on_reached (slot_cell i) a u t h)
  noun_alike x None a u t h = refl

  noun_case : (k : ℕ) (x : Name) (a : At) (u : State) → AgreeOn (noun_read x a).touched u a.state → RunsFrame k (noun x) a (noun_end a.state x (sought x a)) (noun_read x a) u
  noun_case k x a u h =
      let e : sought x (there u a) ≡ sought x a = sought_alike x a u (before u a.state (read_later (sought_slot x a) (seeking x a)) h) in
      let o : noun_end u x (sought x (there u a)) ≡ noun_end a.state x (sought x a) = ap (noun_end u x) e ∙ noun_alike x (sought x a) (seeking x a) u a.state h in
      let m : Follows (seeking x) a u = seeking_follows x a u in
      let f : Follows (noun_read x) a u =
      by_case (λ i a. slot_read i (seeking x a)) (sought_slot x) a u (ap slot_in e) (both_follow {f = seeking x} {g = slot_read (sought_slot x a)} m (slot_read_follows (sought_slot x a) (seeking x a) m.after)) in
      record { after = f.after; run = runs_to run_noun (sym o) (sym f.place); kept = f.kept }

  assign_case : (k : ℕ) (x : Name) (e : Tree) (a : At) (o : End) (b : At) (u : State) (r : EndsFrame (k + 1) e a o b u) → AgreeOn (assigned x o b).touched r.after b.state → RunsFrame k (assign x e) a (assigned_end x o (sought_slot x b)) (assigned x o b) u
  assign_case k x e a (value v) b u r h =
      let q : sought_slot x (there r.after b) ≡ sought_slot x b = ap slot_in (sought_alike x b r.after (before r.after b.state (slot_later v (sought_slot x b) (seeking x b)) h)) in
      let m : Follows (seeking x) b r.after = seeking_follows x b r.after in
      let f : Follows (assigned x (value v)) b r.after =
      by_case (λ i a. slot_put v i (seeking x a)) (sought_slot x) b r.after q (both_follow {f = seeking x} {g = slot_put v (sought_slot x b)} m (slot_put_follows v (sought_slot x b) (seeking x b) m.after)) in
      tail a (assigned x (value v)) r f (subst (λ i. Runs k (assign x e) (there u a) (assigned_end x (value v) i) (assigned x (value v) (there r.after b))) q (run_assign r.run))
  assign_case k x e a (halt j) b u r h = tail a {b = b} (λ a. a) r unmoved (run_assign r.run)

  -- the same names are captured ..
  captures_alike : (c : Capture) (xs : List Name) (a : At) (u : State) → AgreeOn (all_sought c xs a).touched u a.state → all_captured c xs (there u a) ≡ all_captured c xs a
  captures_alike c [] a u h = refl
  captures_alike (captured ns) (x ∷ xs) a u h =
      let m : Follows (seeking x) a u = seeking_follows x a u in
      let c : Capture = and_captured (captured ns) x (sought x a) in
      let e : sought x (there u a) ≡ sought x a = sought_alike x a u (before u a.state (captures_later c xs (seeking x a)) h) in
      ap (λ s. all_captured (and_captured (captured ns) x s) xs (seeking x (there u a))) e ∙ ap (all_captured c xs) m.place
      ∙ captures_alike c xs (seeking x a) m.after (agree_on u a.state m.after (seeking x a).state m.kept h)
  captures_alike (missing y) (x ∷ xs) a u h = refl

  -- .. and the same are sought
  captures_follow : (c : Capture) (xs : List Name) (a : At) (u : State) → AgreeOn (all_sought c xs a).touched u a.state → Follows (all_sought c xs) a u
  captures_follow c [] a u h = unmoved
  captures_follow (captured ns) (x ∷ xs) a u h =
      let m : Follows (seeking x) a u = seeking_follows x a u in
      let c : Capture = and_captured (captured ns) x (sought x a) in
      let e : sought x (there u a) ≡ sought x a = sought_alike x a u (before u a.state (captures_later c xs (seeking x a)) h) in
      by_case (λ s a. all_sought (and_captured (captured ns) x s) xs (seeking x a)) (sought x) a u e
      (both_follow {f = seeking x} {g = all_sought c xs} m (captures_follow c xs (seeking x a) m.after (agree_on u a.state m.after (seeking x a).state m.kept h)))
  captures_follow (missing y) (x ∷ xs) a u h = unmoved

  placed_follows : (room : Bool) (p : Pattern) (o : Plain) (a : At) (u : State) → Follows (placed room p o) a u
  placed_follows true p o a u =
      let m : Follows (object_made o) a u = record { after = write u (object_cell (next_object a)) (made (plain o)); place = refl; kept = λ c h. written_alike u a.state (object_cell (next_object a)) (made (plain o)) c h } in
      let f : Follows (λ b. matched p (object (next_object a)) (object_made o b)) a u = both_follow {f = object_made o} {g = matched p (object (next_object a))} m (matched_follows p (object (next_object a)) (object_made o a) m.after) in
      record { after = f.after; place = f.place; kept = f.kept }
  placed_follows false p o a u = unmoved

  object_follows : (p : Pattern) (ms : Methods) (c : Capture) (a : At) (u : State) → Follows (with_object p ms c) a u
  object_follows p ms (captured ns) a u = let o : Plain = record { own = p; captured = ns; methods = ms } in by_case (λ room a. placed room p o a) has_object_room a u refl (placed_follows (has_object_room a) p o a u)
  object_follows p ms (missing x) a u = unmoved

  placed_ends : (room : Bool) (a : At) (u : State) → placed_end room (there u a) ≡ placed_end room a
  placed_ends true a u = refl
  placed_ends false a u = refl

  object_ends : (c : Capture) (a : At) (u : State) → object_end c (there u a) ≡ object_end c a
  object_ends (captured ns) a u = placed_ends (has_object_room a) a u
  object_ends (missing x) a u = refl

  object_case : (k : ℕ) (p : Pattern) (ms : Methods) (a : At) (u : State) → AgreeOn (with_object p ms (capture_of p ms a) (capturing p ms a)).touched u a.state
      → RunsFrame k (object_tree p ms) a (object_end (capture_of p ms a) a) (with_object p ms (capture_of p ms a) (capturing p ms a)) u
  object_case k p ms a u h =
      let c : Capture = capture_of p ms a in
      let g : AgreeOn (capturing p ms a).touched u a.state = before u a.state (object_later p ms c (capturing p ms a)) h in
      let e : capture_of p ms (there u a) ≡ c = captures_alike (captured []) (captures p ms) a u g in
      let m : Follows (capturing p ms) a u = captures_follow (captured []) (captures p ms) a u g in
      let f : Follows (λ a. with_object p ms (capture_of p ms a) (capturing p ms a)) a u =
      by_case (λ c a. with_object p ms c (capturing p ms a)) (capture_of p ms) a u e (both_follow {f = capturing p ms} {g = with_object p ms c} m (object_follows p ms c (capturing p ms a) m.after)) in
      let o : object_end (capture_of p ms (there u a)) (there u a) ≡ object_end c a = ap (λ c. object_end c (there u a)) e ∙ object_ends c a u in
      record { after = f.after; run = runs_to run_object (sym o) (sym f.place); kept = f.kept }

  -- ---- what is done between two trees

  pub does_follow : {R : Type 0} (d : Vat R) (a : At) (u : State) → AgreeOn (behind d a).touched u a.state → Follows (behind d) a u
  does_follow d a u h =
      let y = does_alike d a u h in
      let z : Under Cell Content = (play same_cell d (with_state u (under a))).1 in
      record {
        after = z.state;
        place = λ i. record (there u a) { state = z.state; touched = y.touched i; written = y.written i };
        kept = y.kept;
      }

  -- where a datum is wanted
  datum_follows : (o : End) (a : At) (u : State) → AgreeOn (datum_read o a).touched u a.state → Follows (datum_read o) a u
  datum_follows (value v) a u h = does_follow (ended v) a u h
  datum_follows (halt j) a u h = unmoved

  datum_alike : (o : End) (a : At) (u : State) → AgreeOn (datum_read o a).touched u a.state → datum_of o (there u a) ≡ datum_of o a
  datum_alike (value v) a u h = ap value (does_alike (ended v) a u h).result
  datum_alike (halt j) a u h = refl

  -- a call leads to the same
  callee_alike : (m : Callee) (v : Val) (verb : Name) (vs : Vals) (a : At) (u : State) → AgreeOn (callee_read m v verb vs a).touched u a.state → callee_target m v verb vs (there u a) ≡ callee_target m v verb vs a
  callee_alike (on_object i) v verb vs a u h = ap (λ x. object_target i x verb vs) (on_reached (object_cell i) a u a.state h)
  callee_alike (on_ejector j) v verb vs a u h = refl
  callee_alike on_datum v verb vs a u h = ap (λ r. gives (reply_end r)) (does_alike (data_of v verb vs) a u h).result
  callee_alike on_far v verb vs a u h = refl

  callee_follows : (m : Callee) (v : Val) (verb : Name) (vs : Vals) (a : At) (u : State) → AgreeOn (callee_read m v verb vs a).touched u a.state → Follows (callee_read m v verb vs) a u
  callee_follows (on_object i) v verb vs a u h = record { after = u; place = refl; kept = λ c h. h }
  callee_follows (on_ejector j) v verb vs a u h = unmoved
  callee_follows on_datum v verb vs a u h = does_follow (data_of v verb vs) a u h
  callee_follows on_far v verb vs a u h = unmoved

  pub target_alike : (v : Val) (verb : Name) (g : Gather) (a : At) (u : State) → AgreeOn (called v verb g a).touched u a.state → target_of v verb g (there u a) ≡ target_of v verb g a
  target_alike v verb (values vs) a u h =
      let x : Val = receiver v a in
      let b : At = receiver_read v a in
      let m : Callee = callee_of a.vat x in
      let l : AgreeOn b.touched u a.state = before u a.state (callee_later m x verb vs b) h in
      let y : Follows (receiver_read v) a u = does_follow (ended v) a u l in
      ap (λ x. callee_target (callee_of a.vat x) x verb vs (receiver_read v (there u a))) (does_alike (ended v) a u l).result ∙ ap (callee_target m x verb vs) y.place
      ∙ callee_alike m x verb vs b y.after (agree_on u a.state y.after b.state y.kept h)
  target_alike v verb (halted j) a u h = refl

  pub called_follows : (v : Val) (verb : Name) (g : Gather) (a : At) (u : State) → AgreeOn (called v verb g a).touched u a.state → Follows (called v verb g) a u
  called_follows v verb (values vs) a u h =
      let x : Val = receiver v a in
      let b : At = receiver_read v a in
      let m : Callee = callee_of a.vat x in
      let l : AgreeOn b.touched u a.state = before u a.state (callee_later m x verb vs b) h in
      let y : Follows (receiver_read v) a u = does_follow (ended v) a u l in
      let z : Follows (callee_read m x verb vs) b y.after = callee_follows m x verb vs b y.after (agree_on u a.state y.after b.state y.kept h) in
      let f : Follows (λ c. callee_read m x verb vs (receiver_read v c)) a u = both_follow {f = receiver_read v} {g = callee_read m x verb vs} y z in
      by_case (λ x a. callee_read (callee_of a.vat x) x verb vs (receiver_read v a)) (receiver v) a u (does_alike (ended v) a u l).result (record { after = f.after; place = f.place; kept = f.kept })
  called_follows v verb (halted j) a u h = unmoved

  -- a resolver is used
  resolved_follows : (p : PromId) (m : Making Published) (a : At) (u : State) → Follows (resolver_out p m) a u
  resolved_follows p (refused why) a u = unmoved
  resolved_follows p (makes b) a u = record { after = u; place = refl; kept = λ c h. h }

  pub resolver_follows : (p : PromId) (d : Vat (Making Published)) (a : At) (u : State) → AgreeOn (behind d a).touched u a.state → Follows (λ a. resolver_out p (given_by d a) (behind d a)) a u
  resolver_follows p d a u h =
      let y : Follows (behind d) a u = does_follow d a u h in
      let m : Making Published = given_by d a in
      by_case (λ m a. resolver_out p m (behind d a)) (given_by d) a u (does_alike d a u h).result (both_follow {f = behind d} {g = resolver_out p m} y (resolved_follows p m (behind d a) y.after))

  -- a send
  sends_follow : (verb : Name) (m : Making Sent) (a : At) (u : State) → Follows (send_out verb m) a u
  sends_follow verb (refused why) a u = unmoved
  sends_follow verb (makes s) a u = record { after = u; place = refl; kept = λ c h. h }

  sent_follows : (verb : Name) (v : Val) (g : Gather) (a : At) (u : State) → AgreeOn (sent_at verb v g a).touched u a.state → Follows (sent_at verb v g) a u
  sent_follows verb v (values vs) a u h =
      let d : Vat (Making Sent) = send_of v vs a in
      let m : Making Sent = given_by d a in
      let l : AgreeOn (behind d a).touched u a.state = before u a.state (sends_later verb m (behind d a)) h in
      let y : Follows (behind d) a u = does_follow d a u l in
      let f : Follows (λ c. send_out verb m (behind d c)) a u = both_follow {f = behind d} {g = send_out verb m} y (sends_follow verb m (behind d a) y.after) in
      by_case (λ m a. send_out verb m (behind (send_of v vs a) a)) (λ a. given_by (send_of v vs a) a) a u (does_alike d a u l).result (record { after = f.after; place = f.place; kept = f.kept })
  sent_follows verb v (halted j) a u h = unmoved

  sent_alike : (verb : Name) (v : Val) (g : Gather) (a : At) (u : State) → AgreeOn (sent_at verb v g a).touched u a.state → sent_end v g (there u a) ≡ sent_end v g a
  sent_alike verb v (values vs) a u h =
      let d : Vat (Making Sent) = send_of v vs a in
      ap send_end (does_alike d a u (before u a.state (sends_later verb (given_by d a) (behind d a)) h)).result
  sent_alike verb v (halted j) a u h = refl

  -- a when
  waits_follow : (x : When) (m : Making PromId) (a : At) (u : State) → Follows (wait_out x m) a u
  waits_follow x (refused why) a u = unmoved
  waits_follow x (makes p) a u = record { after = u; place = refl; kept = λ c h. h }

  waited_follows : (c : Capture) (body : Trees) (handler : Option Handler) (v : Val) (a : At) (u : State) → AgreeOn (waited c body handler v a).touched u a.state → Follows (waited c body handler v) a u
  waited_follows (captured ns) body handler v a u h =
      let d : Vat (Making PromId) = wait_of v a in
      let m : Making PromId = given_by d a in
      let x : When = record { value = v; captured = ns; block = body; handler = handler } in
      let l : AgreeOn (behind d a).touched u a.state = before u a.state (waits_later x m (behind d a)) h in
      let y : Follows (behind d) a u = does_follow d a u l in
      let f : Follows (λ c. wait_out x m (behind d c)) a u = both_follow {f = behind d} {g = wait_out x m} y (waits_follow x m (behind d a) y.after) in
      by_case (λ m a. wait_out x m (behind (wait_of v a) a)) (λ a. given_by (wait_of v a) a) a u (does_alike d a u l).result (record { after = f.after; place = f.place; kept = f.kept })
  waited_follows (missing x) body handler v a u h = unmoved

  waits_alike : (m : Making PromId) (a : At) (u : State) → wait_end m (there u a) ≡ wait_end m a
  waits_alike (refused why) a u = refl
  waits_alike (makes p) a u = refl

  waited_alike : (c : Capture) (body : Trees) (handler : Option Handler) (v : Val) (a : At) (u : State) → AgreeOn (waited c body handler v a).touched u a.state → waited_end c v (there u a) ≡ waited_end c v a
  waited_alike (captured ns) body handler v a u h =
      let d : Vat (Making PromId) = wait_of v a in
      let x : When = record { value = v; captured = ns; block = body; handler = handler } in
      let l : AgreeOn (behind d a).touched u a.state = before u a.state (waits_later x (given_by d a) (behind d a)) h in
      ap (λ m. wait_end m (there u a)) (does_alike d a u l).result ∙ waits_alike (given_by d a) a u
  waited_alike (missing x) body handler v a u h = refl

  when_follows : (body : Trees) (handler : Option Handler) (o : End) (a : At) (u : State) → AgreeOn (when_made body handler o a).touched u a.state → Follows (when_made body handler o) a u
  when_follows body handler (value v) a u h =
      let c : Capture = when_capture body handler a in
      let b : At = when_capturing body handler a in
      let g : AgreeOn b.touched u a.state = before u a.state (waited_later c body handler v b) h in
      let e : when_capture body handler (there u a) ≡ c = captures_alike (captured []) (handled_names body handler) a u g in
      let m : Follows (when_capturing body handler) a u = captures_follow (captured []) (handled_names body handler) a u g in
      let f : Follows (waited c body handler v) b m.after = waited_follows c body handler v b m.after (agree_on u a.state m.after b.state m.kept h) in
      by_case (λ c a. waited c body handler v (when_capturing body handler a)) (when_capture body handler) a u e (both_follow {f = when_capturing body handler} {g = waited c body handler v} m f)
  when_follows body handler (halt j) a u h = unmoved

  when_alike : (body : Trees) (handler : Option Handler) (o : End) (a : At) (u : State) → AgreeOn (when_made body handler o a).touched u a.state → when_end body handler o (there u a) ≡ when_end body handler o a
  when_alike body handler (value v) a u h =
      let c : Capture = when_capture body handler a in
      let b : At = when_capturing body handler a in
      let g : AgreeOn b.touched u a.state = before u a.state (waited_later c body handler v b) h in
      let e : when_capture body handler (there u a) ≡ c = captures_alike (captured []) (handled_names body handler) a u g in
      let m : Follows (when_capturing body handler) a u = captures_follow (captured []) (handled_names body handler) a u g in
      ap (λ c. waited_end c v (when_capturing body handler (there u a))) e ∙ ap (waited_end c v) m.place
      ∙ waited_alike c body handler v b m.after (agree_on u a.state m.after b.state m.kept h)
  when_alike body handler (halt j) a u h = refl

  -- a promise with its resolver
  pairs_follow : (m : Making ObjId) (a : At) (u : State) → Follows (pair_out m) a u
  pairs_follow (refused why) a u = unmoved
  pairs_follow (makes n) a u = record { after = u; place = refl; kept = λ c h. h }

  pairs_alike : (m : Making ObjId) (a : At) (u : State) → pair_end m (there u a) ≡ pair_end m a
  pairs_alike (refused why) a u = refl
  pairs_alike (makes n) a u = refl

  pair_case : (k : ℕ) (a : At) (u : State) → AgreeOn (pair_out (given_by (promise_pair a) a) (behind (promise_pair a) a)).touched u a.state
      → RunsFrame k new_promise a (pair_end (given_by (promise_pair a) a) a) (pair_out (given_by (promise_pair a) a) (behind (promise_pair a) a)) u
  pair_case k a u h =
      let d : Vat (Making ObjId) = promise_pair a in
      let m : Making ObjId = given_by d a in
      let l : AgreeOn (behind d a).touched u a.state = before u a.state (pairs_later m (behind d a)) h in
      let e : given_by d (there u a) ≡ m = (does_alike d a u l).result in
      let y : Follows (behind d) a u = does_follow d a u l in
      let f : Follows (λ c. pair_out m (behind d c)) a u = both_follow {f = behind d} {g = pair_out m} y (pairs_follow m (behind d a) y.after) in
      let g : Follows (λ c. pair_out (given_by d c) (behind d c)) a u = by_case (λ m a. pair_out m (behind d a)) (given_by d) a u e f in
      record { after = g.after; run = runs_to (run_new_promise {a = there u a}) (sym (ap (λ m. pair_end m (there u a)) e ∙ pairs_alike m a u)) (sym g.place); kept = g.kept }

  -- what is the same
  same_follows : (v : Val) (o : End) (a : At) (u : State) → AgreeOn (same_read v o a).touched u a.state → Follows (same_read v o) a u
  same_follows v (value x) a u h = does_follow (both_settled v x) a u h
  same_follows v (halt j) a u h = unmoved

  same_alike : (v : Val) (o : End) (a : At) (u : State) → AgreeOn (same_read v o a).touched u a.state → same_end v o (there u a) ≡ same_end v o a
  same_alike v (value x) a u h = ap same_forms (does_alike (both_settled v x) a u h).result
  same_alike v (halt j) a u h = refl

  same_case : (k : ℕ) (l r : Tree) (v : Val) (o : End) (a c : At) (u g : State) → ((x : Cell) → u x ≡ a.state x → g x ≡ c.state x) → AgreeOn (same_read v o c).touched g c.state
      → Runs k (same_tree l r) (there u a) (same_end v o (there g c)) (same_read v o (there g c)) → RunsFrame k (same_tree l r) a (same_end v o c) (same_read v o c) u
  same_case k l r v o a c u g kept n run = going_on a (same_read v o) kept (same_follows v o c g n) (runs_as run (sym (same_alike v o c g n)))

  -- what is made of other parts
  sent_case : (k : ℕ) (r : Tree) (verb : Name) (args : Trees) (v : Val) (g : Gather) (a c : At) (u z : State) → ((x : Cell) → u x ≡ a.state x → z x ≡ c.state x) → AgreeOn (sent_at verb v g c).touched z c.state
      → Runs k (send r verb args) (there u a) (sent_end v g (there z c)) (sent_at verb v g (there z c)) → RunsFrame k (send r verb args) a (sent_end v g c) (sent_at verb v g c) u
  sent_case k r verb args v g a c u z kept n run = going_on a (sent_at verb v g) kept (sent_follows verb v g c z n) (runs_as run (sym (sent_alike verb v g c z n)))

  when_case : {k : ℕ} {t : Tree} (body : Trees) (handler : Option Handler) (o : End) (a b : At) (u z : State) → ((x : Cell) → u x ≡ a.state x → z x ≡ b.state x) → AgreeOn (when_made body handler o b).touched z b.state
      → Runs k t (there u a) (when_end body handler o (there z b)) (when_made body handler o (there z b)) → RunsFrame k t a (when_end body handler o b) (when_made body handler o b) u
  when_case body handler o a b u z kept n run = going_on a (when_made body handler o) kept (when_follows body handler o b z n) (runs_as run (sym (when_alike body handler o b z n)))

  -- a resolver is used where the call led to
  used_case : {k : ℕ} {t : Tree} (p : PromId) (d : Vat (Making Published)) (a b c : At) (u z : State) → ((x : Cell) → u x ≡ a.state x → z x ≡ b.state x) → AgreeOn (behind d b).touched z b.state
      → c ≡ there z b → Runs k t (there u a) (resolver_end (given_by d c)) (resolver_out p (given_by d c) (behind d c)) → RunsFrame k t a (resolver_end (given_by d b)) (resolver_out p (given_by d b) (behind d b)) u
  used_case {k = k} {t = t} p d a b c u z kept n place run =
      let here : Runs k t (there u a) (resolver_end (given_by d (there z b))) (resolver_out p (given_by d (there z b)) (behind d (there z b))) =
      subst (λ x. Runs k t (there u a) (resolver_end (given_by d x)) (resolver_out p (given_by d x) (behind d x))) place run in
      going_on a (λ x. resolver_out p (given_by d x) (behind d x)) kept (resolver_follows p d b z n) (runs_as here (sym (ap resolver_end (does_alike d b z n).result)))

  -- a list is bound as it leads here
  list_case : (k : ℕ) (ps : List Pattern) (e : Tree) (o : End) (a b : At) (u z : State) → ((x : Cell) → u x ≡ a.state x → z x ≡ b.state x) → AgreeOn (datum_read o b).touched z b.state
      → Runs k (define_list ps e) (there u a) (parts_end o (parts_of ps (datum_of o (there z b)))) (parts_bound ps (parts_of ps (datum_of o (there z b))) (datum_read o (there z b)))
      → RunsFrame k (define_list ps e) a (parts_end o (parts_of ps (datum_of o b))) (parts_bound ps (parts_of ps (datum_of o b)) (datum_read o b)) u
  list_case k ps e o a b u z kept n run =
      let x : End = datum_of o b in
      let y : Follows (datum_read o) b z = datum_follows o b z n in
      let f : Follows (λ c. parts_bound ps (parts_of ps x) (datum_read o c)) b z = both_follow {f = datum_read o} {g = parts_bound ps (parts_of ps x)} y (parts_follow ps (parts_of ps x) (datum_read o b) y.after) in
      let same : Runs k (define_list ps e) (there u a) (parts_end o (parts_of ps x)) (parts_bound ps (parts_of ps x) (datum_read o (there z b))) =
      subst (λ q. Runs k (define_list ps e) (there u a) (parts_end o (parts_of ps q)) (parts_bound ps (parts_of ps q) (datum_read o (there z b)))) (datum_alike o b z n) run in
      going_on a (λ c. parts_bound ps (parts_of ps x) (datum_read o c)) kept f same

  -- where a datum is wanted
  datum_case : {k : ℕ} {t : Tree} (o : End) (a b : At) (u : State) (f : EndsFrame k t a o b u) → AgreeOn (datum_read o b).touched f.after b.state → NeedsFrame k t a (datum_of o b) (datum_read o b) u
  datum_case {k = k} {t = t} o a b u f n =
      let y : Follows (datum_read o) b f.after = datum_follows o b f.after n in
      let here : Needs k t (there u a) (datum_of o b) (datum_read o (there f.after b)) = subst (λ p. Needs k t (there u a) p (datum_read o (there f.after b))) (datum_alike o b f.after n) (needs f.run) in
      record { after = y.after; run = subst (λ c. Needs k t (there u a) (datum_of o b) c) y.place here; kept = λ c h. y.kept c (f.kept c h) }

  -- a method's block, from the same place
  inside_at : {k : ℕ} {ns : Nouns} {ts : Trees} {a b d : At} {o : End} → a ≡ b → Items k null ts (inside ns b) o d → Items k null ts (inside ns a) o d
  inside_at {k = k} {ns = ns} {ts = ts} {d = d} {o = o} e r = subst (λ z. Items k null ts (inside ns z) o d) (sym e) r

  mutual
    pub ends_framed : {k : ℕ} {t : Tree} {a b : At} {o : End} → Ends k t a o b → (u : State) → AgreeOn b.touched u a.state → EndsFrame k t a o b u
    ends_framed (at_budget h) u m = record { after = u; run = at_budget h; kept = λ c e. e }
    ends_framed (at_depth h g) u m = record { after = u; run = at_depth h g; kept = λ c e. e }
    ends_framed (at_node h g r) u m = let f = runs_framed r u m in record { after = f.after; run = at_node h g f.run; kept = f.kept }

    pub runs_framed : {k : ℕ} {t : Tree} {a b : At} {o : End} → Runs k t a o b → (u : State) → AgreeOn b.touched u a.state → RunsFrame k t a o b u
    runs_framed run_null u m = record { after = u; run = run_null; kept = λ c e. e }
    runs_framed run_bool u m = record { after = u; run = run_bool; kept = λ c e. e }
    runs_framed run_int u m = record { after = u; run = run_int; kept = λ c e. e }
    runs_framed run_text u m = record { after = u; run = run_text; kept = λ c e. e }
    runs_framed (run_noun {k = k} {x = x} {a = a}) u m = noun_case k x a u m
    runs_framed (run_define {p = p} {a = a} {b = b} {o = o} r) u m =
        let f = ends_framed r u (before u a.state (defined_later p o b) m) in
        tail a (defined p o) f (defined_follows p o b f.after) (run_define f.run)
    runs_framed (run_variable {x = x} {a = a} {b = b} {o = o} r) u m =
        let f = ends_framed r u (before u a.state (declared_later x o b) m) in
        tail a (declared x o) f (declared_follows x o b f.after) (runs_as (run_variable f.run) (declared_ends o b f.after))
    runs_framed (run_assign {k = k} {x = x} {e = e} {a = a} {b = b} {o = o} r) u m =
        let f = ends_framed r u (before u a.state (assigned_later x o b) m) in
        assign_case k x e a o b u f (agree_on u a.state f.after b.state f.kept m)
    runs_framed (run_call_receiver r) u m = let f = ends_framed r u m in record { after = f.after; run = run_call_receiver f.run; kept = f.kept }
    runs_framed (run_call_gives {verb = verb} {a = a} {b = b} {c = c} {v = v} {g = g} r q e) u m =
        let l : AgreeOn c.touched u a.state = before u a.state (called_later v verb g c) m in
        let f = ends_framed r u (before u a.state (args_later q) l) in
        let h = args_framed q f.after (agree_on u a.state f.after b.state f.kept l) in
        let both : (x : Cell) → u x ≡ a.state x → h.after x ≡ c.state x = λ x z. h.kept x (f.kept x z) in
        let s : AgreeOn (called v verb g c).touched h.after c.state = agree_on u a.state h.after c.state both m in
        going_on a (called v verb g) both (called_follows v verb g c h.after s) (run_call_gives {c = there h.after c} f.run h.run (target_alike v verb g c h.after s ∙ e))
    runs_framed (run_call_enters {verb = verb} {a = a} {b = b} {c = c} {d = d} {v = v} {g = g} r q e w) u m =
        let k : At = called v verb g c in
        let n : AgreeOn k.touched u a.state = before u a.state (items_later w) m in
        let l : AgreeOn c.touched u a.state = before u a.state (called_later v verb g c) n in
        let f = ends_framed r u (before u a.state (args_later q) l) in
        let h = args_framed q f.after (agree_on u a.state f.after b.state f.kept l) in
        let both : (x : Cell) → u x ≡ a.state x → h.after x ≡ c.state x = λ x z. h.kept x (f.kept x z) in
        let s : AgreeOn k.touched h.after c.state = agree_on u a.state h.after c.state both n in
        let y : Follows (called v verb g) c h.after = called_follows v verb g c h.after s in
        let all : (x : Cell) → u x ≡ a.state x → y.after x ≡ k.state x = λ x z. y.kept x (both x z) in
        let i = items_framed w y.after (agree_on u a.state y.after k.state all m) in
        let inner = inside_at {a = called v verb g (there h.after c)} {b = there y.after k} {d = there i.after d} y.place i.run in
        record { after = i.after; run = run_call_enters {c = there h.after c} {d = there i.after d} f.run h.run (target_alike v verb g c h.after s ∙ e) inner; kept = λ x z. i.kept x (all x z) }
    runs_framed (run_call_uses {verb = verb} {a = a} {b = b} {c = c} {v = v} {g = g} {p = p} {d = d} r q e) u m =
        let k : At = called v verb g c in
        let t : AgreeOn (behind d k).touched u a.state = before u a.state (resolvers_later p (given_by d k) (behind d k)) m in
        let n : AgreeOn k.touched u a.state = before u a.state (does_later d k) t in
        let l : AgreeOn c.touched u a.state = before u a.state (called_later v verb g c) n in
        let f = ends_framed r u (before u a.state (args_later q) l) in
        let h = args_framed q f.after (agree_on u a.state f.after b.state f.kept l) in
        let both : (x : Cell) → u x ≡ a.state x → h.after x ≡ c.state x = λ x z. h.kept x (f.kept x z) in
        let s : AgreeOn k.touched h.after c.state = agree_on u a.state h.after c.state both n in
        let y : Follows (called v verb g) c h.after = called_follows v verb g c h.after s in
        let all : (x : Cell) → u x ≡ a.state x → y.after x ≡ k.state x = λ x z. y.kept x (both x z) in
        used_case p d a k (called v verb g (there h.after c)) u y.after all (agree_on u a.state y.after k.state all t) y.place (run_call_uses {c = there h.after c} f.run h.run (target_alike v verb g c h.after s ∙ e))
    runs_framed (run_send_receiver r) u m = let f = ends_framed r u m in record { after = f.after; run = run_send_receiver f.run; kept = f.kept }
    runs_framed (run_send {k = k} {r = t} {verb = verb} {args = ts} {a = a} {b = b} {c = c} {v = v} {g = g} r q) u m =
        let l : AgreeOn c.touched u a.state = before u a.state (sent_later verb v g c) m in
        let f = ends_framed r u (before u a.state (args_later q) l) in
        let h = args_framed q f.after (agree_on u a.state f.after b.state f.kept l) in
        let both : (x : Cell) → u x ≡ a.state x → h.after x ≡ c.state x = λ x z. h.kept x (f.kept x z) in
        sent_case k t verb ts v g a c u h.after both (agree_on u a.state h.after c.state both m) (run_send {c = there h.after c} f.run h.run)
    runs_framed (run_list r) u m = let f = args_framed r u m in record { after = f.after; run = run_list f.run; kept = f.kept }
    runs_framed (run_same_left r) u m = let f = ends_framed r u m in record { after = f.after; run = run_same_left f.run; kept = f.kept }
    runs_framed (run_same {k = k} {l = x} {r = y} {a = a} {b = b} {c = c} {v = v} {o = o} r q) u m =
        let l : AgreeOn c.touched u a.state = before u a.state (same_later v o c) m in
        let f = ends_framed r u (before u a.state (ends_later q) l) in
        let g = ends_framed q f.after (agree_on u a.state f.after b.state f.kept l) in
        let both : (x : Cell) → u x ≡ a.state x → g.after x ≡ c.state x = λ x z. g.kept x (f.kept x z) in
        same_case k x y v o a c u g.after both (agree_on u a.state g.after c.state both m) (run_same {c = there g.after c} f.run g.run)
    runs_framed (run_define_list {k = k} {ps = ps} {e = e} {a = a} {b = b} {o = o} r) u m =
        let l : AgreeOn (datum_read o b).touched u a.state = before u a.state (parts_later ps (parts_of ps (datum_of o b)) (datum_read o b)) m in
        let f = ends_framed r u (before u a.state (datum_later o b) l) in
        list_case k ps e o a b u f.after f.kept (agree_on u a.state f.after b.state f.kept l) (run_define_list {b = there f.after b} f.run)
    runs_framed (run_hide q) u m = let f = block_framed q u m in record { after = f.after; run = run_hide f.run; kept = f.kept }
    runs_framed (run_primitive r) u m = let f = needs_framed r u m in record { after = f.after; run = run_primitive f.run; kept = f.kept }
    runs_framed (run_if_goes {a = a} {b = b} r e q) u m =
        let f = needs_framed r u (before u a.state (block_later q) m) in
        let g = block_framed q f.after (agree_on u a.state f.after b.state f.kept m) in
        record { after = g.after; run = run_if_goes f.run e g.run; kept = λ c h. g.kept c (f.kept c h) }
    runs_framed (run_if_ends r e) u m = let f = needs_framed r u m in record { after = f.after; run = run_if_ends f.run e; kept = f.kept }
    runs_framed (run_while_again {a = a} {b = b} {d = d} {e = z} r e q w) u m =
        let l = before u a.state (runs_later w) m in
        let f = needs_framed r u (before u a.state (block_later q) l) in
        let g = block_framed q f.after (agree_on u a.state f.after b.state f.kept l) in
        let both : (c : Cell) → u c ≡ a.state c → g.after c ≡ d.state c = λ c x. g.kept c (f.kept c x) in
        let h = runs_framed w g.after (agree_on u a.state g.after d.state both m) in
        record { after = h.after; run = run_while_again {d = there g.after d} {e = there h.after z} f.run e g.run h.run; kept = λ c x. h.kept c (both c x) }
    runs_framed (run_while_halts {a = a} {b = b} r e q) u m =
        let f = needs_framed r u (before u a.state (block_later q) m) in
        let g = block_framed q f.after (agree_on u a.state f.after b.state f.kept m) in
        record { after = g.after; run = run_while_halts f.run e g.run; kept = λ c h. g.kept c (f.kept c h) }
    runs_framed (run_while_done r e) u m = let f = needs_framed r u m in record { after = f.after; run = run_while_done f.run e; kept = f.kept }
    runs_framed (run_while_ends r e) u m = let f = needs_framed r u m in record { after = f.after; run = run_while_ends f.run e; kept = f.kept }
    runs_framed (run_for {a = a} {b = b} r e q) u m =
        let f = needs_framed r u (before u a.state (each_later q) m) in
        let g = each_framed q f.after (agree_on u a.state f.after b.state f.kept m) in
        record { after = g.after; run = run_for f.run e g.run; kept = λ c h. g.kept c (f.kept c h) }
    runs_framed (run_for_ends r e) u m = let f = needs_framed r u m in record { after = f.after; run = run_for_ends f.run e; kept = f.kept }
    runs_framed (run_try q e) u m = let f = block_framed q u m in record { after = f.after; run = run_try f.run e; kept = f.kept }
    runs_framed (run_try_caught {a = a} {b = b} q e w) u m =
        let f = block_framed q u (before u a.state (taking_later w) m) in
        let g = taking_framed w f.after (agree_on u a.state f.after b.state f.kept m) in
        record { after = g.after; run = run_try_caught f.run e g.run; kept = λ c h. g.kept c (f.kept c h) }
    runs_framed (run_object {k = k} {p = p} {ms = ms} {a = a}) u m = object_case k p ms a u m
    runs_framed (run_escape q) u m = let f = taking_framed q u m in record { after = f.after; run = run_escape f.run; kept = f.kept }
    runs_framed (run_when {body = body} {a = a} {b = b} {o = o} r) u m =
        let f = ends_framed r u (before u a.state (when_later body None o b) m) in
        when_case body None o a b u f.after f.kept (agree_on u a.state f.after b.state f.kept m) (run_when {b = there f.after b} f.run)
    runs_framed (run_when_catch {body = body} {p = p} {handler = handler} {a = a} {b = b} {o = o} r) u m =
        let x : Option Handler = Some (record { pattern = p; block = handler }) in
        let f = ends_framed r u (before u a.state (when_later body x o b) m) in
        when_case body x o a b u f.after f.kept (agree_on u a.state f.after b.state f.kept m) (run_when_catch {b = there f.after b} f.run)
    runs_framed (run_new_promise {k = k} {a = a}) u m = pair_case k a u m

    pub needs_framed : {k : ℕ} {t : Tree} {a b : At} {o : End} → Needs k t a o b → (u : State) → AgreeOn b.touched u a.state → NeedsFrame k t a o b u
    needs_framed (needs {a = a} {b = b} {o = o} r) u m =
        let f = ends_framed r u (before u a.state (datum_later o b) m) in
        datum_case o a b u f (agree_on u a.state f.after b.state f.kept m)

    pub args_framed : {k : ℕ} {ts : Trees} {a b : At} {g : Gather} → Args k ts a g b → (u : State) → AgreeOn b.touched u a.state → ArgsFrame k ts a g b u
    args_framed args_none u m = record { after = u; run = args_none; kept = λ c e. e }
    args_framed (args_next {a = a} {b = b} r q) u m =
        let f = ends_framed r u (before u a.state (args_later q) m) in
        let g = args_framed q f.after (agree_on u a.state f.after b.state f.kept m) in
        record { after = g.after; run = args_next f.run g.run; kept = λ c h. g.kept c (f.kept c h) }
    args_framed (args_halt r) u m = let f = ends_framed r u m in record { after = f.after; run = args_halt f.run; kept = f.kept }

    pub items_framed : {k : ℕ} {v : Val} {ts : Trees} {a b : At} {o : End} → Items k v ts a o b → (u : State) → AgreeOn b.touched u a.state → ItemsFrame k v ts a o b u
    items_framed items_none u m = record { after = u; run = items_none; kept = λ c e. e }
    items_framed (items_next {a = a} {b = b} r q) u m =
        let f = ends_framed r u (before u a.state (items_later q) m) in
        let g = items_framed q f.after (agree_on u a.state f.after b.state f.kept m) in
        record { after = g.after; run = items_next f.run g.run; kept = λ c h. g.kept c (f.kept c h) }
    items_framed (items_halt r) u m = let f = ends_framed r u m in record { after = f.after; run = items_halt f.run; kept = f.kept }

    pub block_framed : {k : ℕ} {ts : Trees} {a b : At} {o : End} → Block k ts a o b → (u : State) → AgreeOn b.touched u a.state → BlockFrame k ts a o b u
    block_framed (in_block r) u m = let f = items_framed r u m in record { after = f.after; run = in_block f.run; kept = f.kept }

    pub taking_framed : {k : ℕ} {p : Pattern} {v : Val} {ts : Trees} {a b : At} {o : End} → Taking k p v ts a o b → (u : State) → AgreeOn b.touched u a.state → TakingFrame k p v ts a o b u
    taking_framed (in_taking {p = pattern.Name x} {v = v} {a = a} r) u m = let f = items_framed r u m in record { after = f.after; run = in_taking {p = pattern.Name x} {v = v} {a = there u a} f.run; kept = f.kept }
    taking_framed (in_taking {p = pattern.Ignore} {v = v} {a = a} r) u m = let f = items_framed r u m in record { after = f.after; run = in_taking {p = pattern.Ignore} {v = v} {a = there u a} f.run; kept = f.kept }

    pub each_framed : {k : ℕ} {p : Pattern} {ts : Trees} {vs : Vals} {a b : At} {o : End} → Each k p ts vs a o b → (u : State) → AgreeOn b.touched u a.state → EachFrame k p ts vs a o b u
    each_framed each_none u m = record { after = u; run = each_none; kept = λ c e. e }
    each_framed (each_next {a = a} {b = b} r q) u m =
        let f = taking_framed r u (before u a.state (each_later q) m) in
        let g = each_framed q f.after (agree_on u a.state f.after b.state f.kept m) in
        record { after = g.after; run = each_next f.run g.run; kept = λ c h. g.kept c (f.kept c h) }
    each_framed (each_halt r) u m = let f = taking_framed r u m in record { after = f.after; run = each_halt f.run; kept = f.kept }

  -- ---- what is written

  cell_alike : (q : Bool) {X : Type 0} (v b u : X) → (q ≡ true → v ≡ b) → (q ≡ false → v ≡ u) → v ≡ cond q b u
  cell_alike true v b u h g = h refl
  cell_alike false v b u h g = g refl

  -- the cells that are written are as they were left in the other state, and the rest as they were
  left : {D : State → Type 0} {s s' u : State} (q : Cells) (f : Framed D s s' u) → ((c : Cell) → q c ≡ true → u c ≡ s c) → ((c : Cell) → q c ≡ false → f.after c ≡ u c) → D (with_cells q s' u)
  left {D = D} {s' = s'} {u = u} q f m g = subst D (λ i c. cell_alike (q c) (f.after c) (s' c) (u c) (λ h. f.kept c (m c h)) (g c) i) f.run

  pub ends_written : {k : ℕ} {t : Tree} {a b : At} {o : End} → Ends k t a o b → IsWithin a.written a.touched → (u : State) → AgreeOn b.touched u a.state → Ends k t (there u a) o (there (with_cells b.written b.state u) b)
  ends_written {b = b} r w u m = let f = ends_framed r u m in left b.written f (λ c h. m c ((ends_later r).within w c h)) (ends_later f.run).stays

  pub items_written : {k : ℕ} {v : Val} {ts : Trees} {a b : At} {o : End} → Items k v ts a o b → IsWithin a.written a.touched → (u : State) → AgreeOn b.touched u a.state → Items k v ts (there u a) o (there (with_cells b.written b.state u) b)
  items_written {b = b} r w u m = let f = items_framed r u m in left b.written f (λ c h. m c ((items_later r).within w c h)) (items_later f.run).stays
