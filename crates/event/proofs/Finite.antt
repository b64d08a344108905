-- A turn touches finitely many cells: they can be listed, with what it leaves in those that it wrote.
use Rattle.std.proofs.Common.{◌≡◌, ℕ, Bool, true, false, cond, not, ◌&&◌, ◌||◌, List, [], ◌∷◌, map, Option, Some, refl, sym, ap, ap₂, ◌∙◌, subst}
use Rattle.std.specs.List.{list_any, AllByRecursion}
use Rattle.std.proofs.lemmas.Bool.{or_left, or_right}
use Rattle.history.proofs.Lists.{all_map}
use Rattle.ids.specs.declared.names.EventName.{EventName}
use Rattle.ids.specs.declared.names.VatNo.{VatNo}
use Rattle.ids.specs.declared.names.PromId.{PromId}
use Rattle.cells.specs.Doing.{over, reads, writes, Under, touching, holding, play}
use Rattle.kernele.specs.Tree.{Name}
use Rattle.values.specs.Data.{Val, promise, Vals}
use Rattle.heap.specs.State as heap
use Rattle.heap.specs.State.{Bind, fixed, Cell, Cells, Content, State, top, same_cell, write, also, no_cells}
use Rattle.heap.proofs.Cells.{cell_exact, cell_self}
use Rattle.sends.specs.Vats.{Vat, ended, settled, comes_in}
use Rattle.sends.specs.Making.{Making, refused, makes, Published, ending}
use Rattle.post.specs.Delivery.{Delivery}
use Rattle.post.specs.Messages.{Message}
use Rattle.post.specs.declared.earlier.Earlier.{Earlier}
use Rattle.eval_rules.specs.At.{At}
use Rattle.eval_rules.specs.Doings.{under, behind, given_by, data_of, resolver_out}
use Rattle.eval_rules.specs.Outcomes.{End, value, halt}
use Rattle.eval_rules.specs.Rules.{Callee, on_object, on_ejector, on_datum, on_far, callee_of, callee_read, receiver, receiver_read, bound_in, Target}
use Rattle.eval_rules.proofs.Kept.{IsKept, items_kept}
use Rattle.turn_deliveries.specs.Turn.{knowing, Found, start, call_coming, Led, led_gives, led_uses, led_enters, Begins, opens, asks, calls, waits, Told, told, lost, telling, telling_at, ending_at, outcome_by, Outcome, Delivers, delivers, finish}
use Rattle.turn_deliveries.specs.Touched.{delivery_touched, delivery_written}
use Rattle.event.specs.Events.{Lists, Leaves, is_lost}
use Rattle.event.proofs.Listing.{tests_agree}

-- the cells touched are those of a list, and so are those written, of which each holds something
pub record Finite (touched written : Cells) (s : State) : Type 0 where
  pub cells : List Cell
  pub listed : Lists cells touched
  pub left : List Cell
  pub changed : Lists left written
  pub held : (c : Cell) → written c ≡ true → (x : Content) × (s c ≡ Some x)

-- which of two cells stands first makes no difference
turned : (c d : Cell) → same_cell d c ≡ same_cell c d
turned c d = tests_agree (same_cell d c) (same_cell c d) (one d c) (one c d)
  where
    one : (a b : Cell) → same_cell a b ≡ true → same_cell b a ≡ true
    one a b h = subst (λ x. same_cell x a ≡ true) (cell_exact a b h) (cell_self a)

-- one more cell
also_listed : (c : Cell) (cs : List Cell) (q : Cells) → Lists cs q → Lists (c ∷ cs) (also c q)
also_listed c cs q h d = ap₂ (λ a b. a || b) (turned c d) (h d)

-- what holds something holds something behind a write
still_held : (b q : Bool) (x : Content) (o : Option Content) → (q ≡ true → (y : Content) × (o ≡ Some y)) → (b || q) ≡ true → (y : Content) × (cond b (Some x) o ≡ Some y)
still_held true q x o h e = (x, refl)
still_held false q x o h e = h e

reached : (c : Cell) (p q : Cells) (s : State) → Finite p q s → Finite (also c p) q s
reached c p q s h = record { cells = c ∷ h.cells; listed = also_listed c h.cells p h.listed; left = h.left; changed = h.changed; held = h.held }

put_there : (c : Cell) (x : Content) (p q : Cells) (s : State) → Finite p q s → Finite (also c p) (also c q) (write s c x)
put_there c x p q s h = record {
  cells = c ∷ h.cells;
  listed = also_listed c h.cells p h.listed;
  left = c ∷ h.left;
  changed = also_listed c h.left q h.changed;
  held = λ d e. still_held (same_cell c d) (q d) x (s d) (h.held d) e;
}

abbrev IsFinite : Cells → Cells → State → ℕ → ℕ → ℕ → Type 0
IsFinite p q s m n l = Finite p q s

finite : IsKept IsFinite
finite = record {
  reaching = λ c p q s m n l h. reached c p q s h;
  writing = λ c x p q s m n l h. put_there c x p q s h;
  making_a_slot = λ p q s m n l more h. h;
  making_an_object = λ p q s m n l more h. h;
  making_a_message = λ p q s m n l more h. h;
}

-- ---- along a delivery

abbrev pub At_finite : At → Type 0
At_finite a = Finite a.touched a.written a.state

begins_finite : (s : State) → Finite no_cells no_cells s
begins_finite s = record { cells = []; listed = λ c. refl; left = []; changed = λ c. refl; held = λ c e. absurd (cc) }

does_finite : {R : Type 0} (d : Vat R) (u : Under Cell Content) → Finite u.touched u.written u.state → Finite (play same_cell d u).1.touched (play same_cell d u).1.written (play same_cell d u).1.state
does_finite (over r) u h = h
does_finite (reads k next) u h = does_finite (next (u.state k)) (touching same_cell k u) (reached k u.touched u.written u.state h)
does_finite (writes k x next) u h = does_finite next (holding same_cell k x u) (put_there k x u.touched u.written u.state h)

behind_finite : {R : Type 0} (d : Vat R) (a : At) → At_finite a → At_finite (behind d a)
behind_finite d a h = does_finite d (under a) h

bound_finite : (own : Bool) (x : Name) (b : Bind) (a : At) → At_finite a → At_finite (bound_in own x b a)
bound_finite true x b a h = put_there (top x) (heap.bound b) a.touched a.written a.state h
bound_finite false x b a h = h

knowing_finite : (xs : List Earlier) (a : At) → At_finite a → At_finite (knowing xs a)
knowing_finite [] a h = h
knowing_finite (x ∷ xs) a h =
    let b : At = behind (comes_in x.opening) a in
    knowing_finite xs (bound_in b.own_scope x.name (fixed (promise x.opening)) b) (bound_finite b.own_scope x.name (fixed (promise x.opening)) b (behind_finite (comes_in x.opening) a h))

callee_finite : (m : Callee) (u : Val) (verb : Name) (vs : Vals) (a : At) → At_finite a → At_finite (callee_read m u verb vs a)
callee_finite (on_object i) u verb vs a h = reached (heap.object_cell i) a.touched a.written a.state h
callee_finite (on_ejector j) u verb vs a h = h
callee_finite on_datum u verb vs a h = behind_finite (data_of u verb vs) a h
callee_finite on_far u verb vs a h = h

resolver_finite : (p : PromId) (m : Making Published) (a : At) → At_finite a → At_finite (resolver_out p m a)
resolver_finite p (refused why) a h = h
resolver_finite p (makes b) a h = h

led_finite : {t : Target} {a b : At} {o : End} → Led t a o b → At_finite a → At_finite b
led_finite led_gives h = h
led_finite (led_uses {p = p} {d = d} {a = a}) h = resolver_finite p (given_by d a) (behind d a) (behind_finite d a h)
led_finite (led_enters r) h = items_kept IsFinite finite r h

begun_finite : {d : Delivery} {f : Found} {e : EventName} {v : VatNo} {s : State} {n : ℕ} {o : End} {b : At} → Begins d f e v s n o b → At_finite b
begun_finite (opens {earlier = earlier} {e = e} {v = v} {s = s} {n = n} r) = items_kept IsFinite finite r (knowing_finite earlier (start true e v s n) (begins_finite s))
begun_finite (asks {s = s} r) = items_kept IsFinite finite r (begins_finite s)
begun_finite (calls {c = c} {f = f} {e = e} {v = v} {s = s} {n = n} r) =
    let a : At = behind (call_coming c f) (start false e v s n) in
    led_finite r (callee_finite (callee_of a.vat (receiver f.end a)) (receiver f.end a) c.verb c.arguments (receiver_read f.end a) (behind_finite (ended f.end) a (behind_finite (call_coming c f) (start false e v s n) (begins_finite s))))
begun_finite (waits {w = w} {e = e} {v = v} {s = s} {n = n} r) = led_finite r (behind_finite (ended w.value) (start false e v s n) (begins_finite s))

telling_finite : (o : End) (b : At) → At_finite b → At_finite (telling_at o b)
telling_finite (value v) b h = behind_finite (settled v) b h
telling_finite (halt x) b h = h

ending_finite : (p : PromId) (t : Told) (b : At) → At_finite b → At_finite (ending_at p t b)
ending_finite p (told r) b h = behind_finite (ending p r) b h
ending_finite p (lost why) b h = h

-- ---- what it leaves, in a list

-- cells with what they hold
record Contents (s : State) (cs : List Cell) : Type 0 where
  left : List (Cell × Content)
  cells : map (λ p. p.0) left ≡ cs
  there : AllByRecursion (λ p. s p.0 ≡ Some p.1) left

contents : (s : State) (cs : List Cell) → AllByRecursion (λ c. (x : Content) × (s c ≡ Some x)) cs → Contents s cs
contents s [] h = record { left = []; cells = refl; there = tt }
contents s (c ∷ cs) h = let r = contents s cs h.1 in record { left = (c, h.0.0) ∷ r.left; cells = ap (λ ds. c ∷ ds) r.cells; there = (h.0.1, r.there) }

-- each cell of a list is in it
each_in : (cs : List Cell) → AllByRecursion (λ c. list_any (same_cell c) cs ≡ true) cs
each_in [] = tt
each_in (c ∷ cs) = (or_left _ _ (cell_self c), all_map _ _ cs (λ d h. or_right (same_cell d c) _ h) (each_in cs))

-- what a turn left where it ended so
record Leftover (s : State) (p : PromId) (t : Told) (z : At) : Type 0 where
  pub cells : List Cell
  pub left : List (Cell × Content)
  pub leaves : Leaves z.touched (λ c. not (is_lost t) && z.written c) (outcome_by s p t z).state cells left

leftover : (s : State) (p : PromId) (t : Told) (z : At) → At_finite z → Leftover s p t z
leftover s p (told r) z f =
    let all : Contents z.state f.left = contents z.state f.left (all_map _ _ f.left (λ c h. f.held c (sym (f.changed c) ∙ h)) (each_in f.left)) in
    record { cells = f.cells; left = all.left; leaves = record { touched = f.listed; written = λ c. ap (list_any (same_cell c)) all.cells ∙ f.changed c; contents = all.there } }
leftover s p (lost why) z f = record { cells = f.cells; left = []; leaves = record { touched = f.listed; written = λ c. refl; contents = tt } }

-- the cells that a delivery touched, and what it left
pub record Left {g : Message} {f : Found} {e : EventName} {v : VatNo} {s : State} {n : ℕ} {o : Outcome} (r : Delivers g f e v s n o) : Type 0 where
  pub cells : List Cell
  pub left : List (Cell × Content)
  pub leaves : Leaves (delivery_touched r) (λ c. not (is_lost o.told) && delivery_written r c) o.state cells left

-- what an outcome tells
told_by : (t : Told) (s : State) (p : PromId) (z : At) → (outcome_by s p t z).told ≡ t
told_by (told r) s p z = refl
told_by (lost why) s p z = refl

pub delivery_left : {g : Message} {f : Found} {e : EventName} {v : VatNo} {s : State} {n : ℕ} {o : Outcome} (r : Delivers g f e v s n o) → Left r
delivery_left (delivers {g = g} {s = s} {o = o} {b = b} r) =
    let z : At = finish g.result o b in
    let l = leftover s g.result (telling o b) z (ending_finite g.result (telling o b) (telling_at o b) (telling_finite o b (begun_finite r))) in
    record {
      cells = l.cells;
      left = l.left;
      leaves = subst (λ (t : Told). Leaves z.touched (λ c. not (is_lost t) && z.written c) (outcome_by s g.result (telling o b) z).state l.cells l.left) (sym (told_by (telling o b) s g.result z)) l.leaves;
    }
