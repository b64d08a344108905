-- A turn touches and writes by the table.
use Rattle.std.proofs.Common.{◌≡◌, ℕ, Bool, true, false, ◌||◌, ◌&&◌, not, Option, Some, None, is_some, List, [], ◌∷◌, ◌++◌, cond, refl, sym, ap, ◌∙◌, subst}
use Rattle.std.proofs.lemmas.Bool.{or_parts}
use Rattle.ids.specs.declared.names.EventName.{EventName}
use Rattle.ids.specs.declared.names.VatNo.{VatNo}
use Rattle.ids.specs.declared.names.PromId.{PromId}
use Rattle.cells.specs.Doing.{Under, play}
use Rattle.eorder.specs.Carried.{Carried}
use Rattle.kernele.specs.Tree.{Name}
use Rattle.values.specs.Data.{Val, null, bool, int, text, list, object, ejector, promise, broken, Vals}
use Rattle.heap.specs.State.{fixed, Nouns, Cell, top, view_cell, Content, bound, State, same_cell}
use Rattle.post.specs.Delivery.{Call, Handler, When, Delivery}
use Rattle.post.specs.Messages.{Message}
use Rattle.post.specs.declared.earlier.Earlier.{Earlier}
use Rattle.refs.specs.Settling.{settling}
use Rattle.sends.specs.Vats.{Vat, Nothing, references_in, comes_in, coming_in, ended}
use Rattle.sends.specs.Making.{ending}
use Rattle.sends.specs.Table.{Foot, among, HasFoot, changes, both, of_each, form_taken, promise_comes, references_come, promise_published}
use Rattle.sends.specs.Making.{told as told_value}
use Rattle.sends.proofs.Playing.{looked_state}
use Rattle.sends.proofs.Settled.{settled_alike}
use Rattle.sends.proofs.Feet.{stays, written_one, foot_then, SameFoot, same_goes, among_both}
use Rattle.sends.proofs.Table.{promises_come, references_come_in, ends_are_taken, forms_are_taken, entrance_state, fills_by, either}
use Rattle.sends.proofs.Made.{turns_publish}
use Rattle.eval_rules.specs.At.{At}
use Rattle.eval_rules.specs.Doings.{under, behind, given_by}
use Rattle.eval_rules.specs.Outcomes.{End, value, halt}
use Rattle.eval_rules.specs.Rules.{put, bound_in, binding, Target, gives, enters, uses}
use Rattle.eval_rules.specs.Table.{Leads, views_at, of_value, resolver_touches}
use Rattle.eval_rules.proofs.Table.{onto, UsesByTable, target_by, resolved_out, call_foot, items_foot}
use Rattle.turn_deliveries.specs.Table.{earlier_known, list_comes, call_comes, led_foot, led_resolver, begun_foot, told_touches, delivery_foot}
use Rattle.turn_deliveries.specs.Touched.{delivery_touched, delivery_written}
use Rattle.turn_deliveries.specs.Turn.{start, knowing, Found, list_coming, call_coming, handled, when_met, Led, led_gives, led_uses, led_enters, Begins, opens, asks, calls, waits, Told, told, lost, telling, telling_at, ending_at, finish, Outcome, Delivers, delivers}

-- ---- earlier vats

-- what an earlier vat touches
abbrev one_known : State → Earlier → Foot
one_known s x = both (promise_comes s x.opening) (changes (top x.name))

known_by : (s t : State) (c : Cell) → s c ≡ t c → (xs : List Earlier) → among (of_each (one_known s) xs).written c ≡ among (of_each (one_known t) xs).written c
known_by s t c e [] = refl
known_by s t c e (x ∷ xs) =
    let k : Cell = view_cell x.opening in
    among_both (one_known s x).written (of_each (one_known s) xs).written c
    ∙ ap (λ b. b || among (of_each (one_known s) xs).written c) (among_both (promise_comes s x.opening).written (top x.name ∷ []) c ∙ ap (λ b. b || among (top x.name ∷ []) c) (fills_by s k c ∙ ap (λ y. same_cell k c && not (is_some y)) e ∙ sym (fills_by t k c)) ∙ sym (among_both (promise_comes t x.opening).written (top x.name ∷ []) c))
    ∙ ap (λ b. among (one_known t x).written c || b) (known_by s t c e xs)
    ∙ sym (among_both (one_known t x).written (of_each (one_known t) xs).written c)

sought_by : (s t : State) (xs : List Earlier) → (of_each (one_known s) xs).touched ≡ (of_each (one_known t) xs).touched
sought_by s t [] = refl
sought_by s t (x ∷ xs) = ap (λ cs. view_cell x.opening ∷ top x.name ∷ cs) (sought_by s t xs)

-- what was in a cell stays there, where the earlier vat did not write it
one_stays : (a : At) (x : Earlier) (c : Cell) → among (one_known a.state x).written c ≡ false → (put (top x.name) (bound (fixed (promise x.opening))) (behind (comes_in x.opening) a)).state c ≡ a.state c
one_stays a x c h =
    let p = or_parts (among (promise_comes a.state x.opening).written c) (among (top x.name ∷ []) c) (sym (among_both (promise_comes a.state x.opening).written (top x.name ∷ []) c) ∙ h) in
    let q = or_parts (same_cell (top x.name) c) false p.1 in
    ap (λ b. cond b (Some (bound (fixed (promise x.opening)))) ((behind (comes_in x.opening) a).state c)) q.0 ∙ entrance_state x.opening (a.state (view_cell x.opening)) (under a) c p.0

before : (a : At) (x : Earlier) (t : State) (xs : List Earlier) → ((c : Cell) → among (one_known a.state x).written c ≡ false → t c ≡ a.state c)
    → SameFoot (both (one_known a.state x) (of_each (one_known t) xs)) (both (one_known a.state x) (of_each (one_known a.state) xs))
before a x t xs h =
    let f : Foot = one_known a.state x in
    record {
      touched = λ c. ap (λ ks. among (f.touched ++ ks) c) (sought_by t a.state xs);
      written = λ c.
          among_both f.written (of_each (one_known t) xs).written c
          ∙ either (among f.written c) (among (of_each (one_known t) xs).written c) (among (of_each (one_known a.state) xs).written c) (λ e. known_by t a.state c (h c e) xs)
          ∙ sym (among_both f.written (of_each (one_known a.state) xs).written c);
    }

knowing_foot : (xs : List Earlier) (a : At) → a.own_scope ≡ true → Leads (earlier_known a.state xs) a (knowing xs a)
knowing_foot [] a h = stays (under a)
knowing_foot (x ∷ xs) a h =
    let b : At = behind (comes_in x.opening) a in
    let d : At = put (top x.name) (bound (fixed (promise x.opening))) b in
    let f : Foot = one_known a.state x in
    let its : binding x.name (fixed (promise x.opening)) b ≡ d = ap (λ own. bound_in own x.name (fixed (promise x.opening)) b) h in
    subst (λ (z : At). Leads (earlier_known a.state (x ∷ xs)) a (knowing xs z)) (sym its)
    (same_goes (both f (of_each (one_known d.state) xs)) (both f (of_each (one_known a.state) xs)) (under a) (under (knowing xs d)) (before a x d.state xs (one_stays a x))
    (onto (onto (promises_come (under a) x.opening) (written_one (top x.name) (bound (fixed (promise x.opening))) (under b))) (knowing_foot xs d h)))

-- ---- what a call brings in

list_foot : (c : Carried) (v : Val) (u : Under Cell Content) → HasFoot (list_coming c v) u (list_comes u.state c v)
list_foot c null u = stays u
list_foot c (bool b) u = stays u
list_foot c (int z) u = stays u
list_foot c (text s) u = stays u
list_foot c (list vs) u = references_come_in u c (references_in vs)
list_foot c (object i) u = stays u
list_foot c (ejector j) u = stays u
list_foot c (promise p) u = stays u
list_foot c (broken s) u = stays u

coming_foot : (c : Call) (f : Found) (a : At) → Leads (call_comes c f a) a (behind (call_coming c f) a)
coming_foot c f a =
    let d : Vat Nothing = coming_in c.fences (references_in c.arguments) in
    let p : Nothing × Under Cell Content = play same_cell d (under a) in
    foot_then d (λ n. list_coming f.fences f.end) (under a) p.1 p.0 (references_come a.state c.fences (references_in c.arguments)) (list_comes p.1.state f.fences f.end) refl
    (references_come_in (under a) c.fences (references_in c.arguments)) (list_foot f.fences f.end p.1)

-- ---- what is run

called_led : (verb : Name) (vs : Vals) {t : Target} {a b : At} {o : End} → UsesByTable t verb vs → (r : Led t a o b) → Leads (both (led_foot r) (led_resolver verb vs r)) a b
called_led verb vs h (led_gives {a = a}) = onto (stays (under a)) (stays (under a))
called_led verb vs h (led_uses {p = p} {d = d} {a = a}) = onto (stays (under a)) (resolved_out p (given_by d a) (resolver_touches a.state p verb vs (given_by d a)) (under a) (behind d a) (h (under a)))
called_led verb vs h (led_enters {b = b} r) = onto (items_foot r) (stays (under b))

-- no when uses a resolver
abbrev UsesNone : Target → Type 0
UsesNone (gives o) = Unit {0}
UsesNone (enters ns body) = Unit {0}
UsesNone (uses p d) = ⊥

handled_none : (problem : Name) (ns : Nouns) (h : Option Handler) → UsesNone (handled problem ns h)
handled_none problem ns None = tt
handled_none problem ns (Some h) = tt

when_none : (w : When) (v : Val) → UsesNone (when_met w v)
when_none w null = tt
when_none w (bool b) = tt
when_none w (int z) = tt
when_none w (text s) = tt
when_none w (list vs) = tt
when_none w (object i) = tt
when_none w (ejector j) = tt
when_none w (promise p) = tt
when_none w (broken problem) = handled_none problem w.captured w.handler

when_led : {t : Target} {a b : At} {o : End} → UsesNone t → (r : Led t a o b) → Leads (led_foot r) a b
when_led h (led_gives {a = a}) = stays (under a)
when_led h led_uses = absurd h
when_led h (led_enters r) = items_foot r

begun_goes : {d : Delivery} {f : Found} {e : EventName} {v : VatNo} {s : State} {n : ℕ} {o : End} {b : At} (own : Bool) (r : Begins d f e v s n o b) → Leads (begun_foot r) (start own e v s n) b
begun_goes own (opens {earlier = earlier} {e = e} {v = v} {s = s} {n = n} r) = onto (knowing_foot earlier (start true e v s n) refl) (items_foot r)
begun_goes own (asks r) = items_foot r
begun_goes own (calls {c = c} {f = f} {e = e} {v = v} {s = s} {n = n} r) =
    let a : At = start false e v s n in
    let b : At = behind (call_coming c f) a in
    onto (coming_foot c f a) (onto (call_foot f.end c.verb c.arguments b) (called_led c.verb c.arguments (target_by f.end c.verb c.arguments b) r))
begun_goes own (waits {w = w} {e = e} {v = v} {s = s} {n = n} r) =
    let a : At = start false e v s n in
    onto (ends_are_taken (under a) w.value) (when_led (when_none w (given_by (ended w.value) a)) r)

-- ---- how it ends

telling_foot : (o : End) (b : At) → Leads (of_value (form_taken (views_at b)) o) b (telling_at o b)
telling_foot (value v) b = forms_are_taken (under b) v
telling_foot (halt h) b = stays (under b)

telling_state : (o : End) (b : At) → (telling_at o b).state ≡ b.state
telling_state (value v) b = ap (λ p. p.1.state) (settled_alike (under b) v) ∙ looked_state (settling (views_at b) v).through (under b)
telling_state (halt h) b = refl

ending_foot : (s : State) (p : PromId) (t : Told) (b : At) → b.state ≡ s → Leads (told_touches s p t) b (ending_at p t b)
ending_foot s p (told r) b e = subst (λ (s : State). HasFoot (ending p r) (under b) (promise_published s p (told_value r))) e (turns_publish (under b) p r)
ending_foot s p (lost why) b e = stays (under b)

or_none : (a b : Bool) → b ≡ (a || false) → b ≡ a
or_none true b h = h
or_none false b h = h

pub delivery_by_table : {g : Message} {f : Found} {e : EventName} {v : VatNo} {s : State} {n : ℕ} {o : Outcome} (r : Delivers g f e v s n o) (c : Cell)
    → (delivery_touched r c ≡ among (delivery_foot r).touched c) × (delivery_written r c ≡ among (delivery_foot r).written c)
delivery_by_table (delivers {g = g} {e = e} {v = v} {s = s} {n = n} {o = o} {b = b} r) c =
    let all : Leads (delivery_foot (delivers {g = g} r)) (start false e v s n) (finish g.result o b) =
    onto (begun_goes false r) (onto (telling_foot o b) (ending_foot b.state g.result (telling o b) (telling_at o b) (telling_state o b))) in
    (or_none (among (delivery_foot (delivers {g = g} r)).touched c) (delivery_touched (delivers {g = g} r) c) (all.touched c), or_none (among (delivery_foot (delivers {g = g} r)).written c) (delivery_written (delivers {g = g} r) c) (all.written c))
