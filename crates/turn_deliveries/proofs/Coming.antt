-- What comes in before a delivery runs, and what its target comes to.
use Rattle.std.proofs.Common.{◌≡◌, ◌+◌, ◌≤◌, List, [], ◌∷◌, Bool, true, false, refl, sym, ap, ◌∙◌, subst, arith}
use Rattle.ids.specs.declared.names.PromId.{PromId}
use Rattle.kernele.specs.Tree.{Name}
use Rattle.kernele.specs.declared.tree.Pattern.TheVariants as pattern
use Rattle.values.specs.Data.{Val, null, promise, Vals}
use Rattle.heap.specs.State.{Bind, fixed, State}
use Rattle.post.specs.declared.earlier.Earlier.{Earlier}
use Rattle.sends.specs.Vats.{Vat, Nothing, comes_in}
use Rattle.sends.specs.Making.{Making, refused, makes, Published}
use Rattle.eval_rules.specs.At.{At}
use Rattle.eval_rules.specs.Doings.{given_by, behind, data_of, resolver_end, resolver_out}
use Rattle.eval_rules.specs.Laws.{in_state, AgreeOn, IsWithinRoom}
use Rattle.eval_rules.specs.Outcomes.{End, value, values}
use Rattle.eval_rules.specs.Rules.{bound_in, defined, Target, gives, enters, uses, inside, Callee, on_object, on_ejector, on_datum, on_far, callee_of, callee_read, called, receiver, receiver_read}
use Rattle.eval_rules.proofs.Counted.{items_counted, items_deep}
use Rattle.eval_rules.proofs.Determined.{Same, items_same}
use Rattle.eval_rules.proofs.Doings.{Later, does_later, does_alike, resolver_works}
use Rattle.eval_rules.proofs.Ejections.{Inside, TargetInside, items_inside, used_inside}
use Rattle.eval_rules.proofs.Framed.{Framed, Follows, before, agree_on, unmoved, both_follow, does_follow, defined_follows, resolver_follows, items_framed}
use Rattle.eval_rules.proofs.Kept.{items_in_room}
use Rattle.eval_rules.proofs.Opened.{matched_opened}
use Rattle.eval_rules.proofs.Reached.{stay, then, defined_later, items_later, resolver_later, resolvers_later}
use Rattle.eval_rules.proofs.Spent.{matched_left, items_left}
use Rattle.eval_rules.proofs.Total.{Outcome, items_somehow}
use Rattle.turn_deliveries.specs.Spent.{led_nodes, led_deepest}
use Rattle.turn_deliveries.specs.Turn.{knowing, Led, led_gives, led_uses, led_enters}

-- ---- the names of earlier vats

-- a name is bound as a definition binds one
abbrev named_vat : Earlier → At → At
named_vat x a = defined (pattern.Name x.name) (value (promise x.opening)) a

pub knowing_later : (xs : List Earlier) (a : At) → Later a (knowing xs a)
knowing_later [] a = stay
knowing_later (x ∷ xs) a =
    let b : At = behind (comes_in x.opening) a in
    then (then (does_later (comes_in x.opening) a) (defined_later (pattern.Name x.name) (value (promise x.opening)) b)) (knowing_later xs (named_vat x b))

pub knowing_follows : (w : State) (xs : List Earlier) (a : At) (u : State) → AgreeOn (knowing xs a).touched u a.state → Follows w (knowing xs) a u
knowing_follows w [] a u h = unmoved w
knowing_follows w (x ∷ xs) a u h =
    let d : Vat Nothing = comes_in x.opening in
    let b : At = behind d a in
    let c : At = named_vat x b in
    let l : AgreeOn b.touched u a.state = before w u a.state (then (defined_later (pattern.Name x.name) (value (promise x.opening)) b) (knowing_later xs c)) h in
    let f : Follows w (behind d) a u = does_follow w d a u l in
    let g : Follows w (named_vat x) b f.after = defined_follows w (pattern.Name x.name) (value (promise x.opening)) b f.after in
    let y : Follows w (λ z. named_vat x (behind d z)) a u = both_follow w {f = behind d} {g = named_vat x} f g in
    both_follow w {f = λ z. named_vat x (behind d z)} {g = knowing xs} y (knowing_follows w xs c y.after (agree_on w u a.state y.after c.state y.kept h))

pub knowing_left : (xs : List Earlier) (a : At) → (knowing xs a).left ≡ a.left
knowing_left [] a = refl
knowing_left (x ∷ xs) a = let b : At = behind (comes_in x.opening) a in knowing_left xs (named_vat x b) ∙ matched_left (pattern.Name x.name) (promise x.opening) b

pub knowing_opened : (xs : List Earlier) (a : At) → (knowing xs a).opened ≡ a.opened
knowing_opened [] a = refl
knowing_opened (x ∷ xs) a = let b : At = behind (comes_in x.opening) a in knowing_opened xs (named_vat x b) ∙ matched_opened (pattern.Name x.name) (promise x.opening) b

bound_in_room : (own : Bool) (x : Name) (b : Bind) (a : At) → IsWithinRoom a → IsWithinRoom (bound_in own x b a)
bound_in_room true x b a h = record { slots = h.slots; objects = h.objects; messages = h.messages }
bound_in_room false x b a h = record { slots = h.slots; objects = h.objects; messages = h.messages }

pub behind_in_room : {R : Type 0} (d : Vat R) (a : At) → IsWithinRoom a → IsWithinRoom (behind d a)
behind_in_room d a h = record { slots = h.slots; objects = h.objects; messages = h.messages }

pub knowing_in_room : (xs : List Earlier) (a : At) → IsWithinRoom a → IsWithinRoom (knowing xs a)
knowing_in_room [] a h = h
knowing_in_room (x ∷ xs) a h =
    let b : At = behind (comes_in x.opening) a in
    knowing_in_room xs (named_vat x b) (bound_in_room b.own_scope x.name (fixed (promise x.opening)) b (behind_in_room (comes_in x.opening) a h))

-- ---- a call makes nothing before its method runs

callee_in_room : (m : Callee) (u : Val) (verb : Name) (vs : Vals) (a : At) → IsWithinRoom a → IsWithinRoom (callee_read m u verb vs a)
callee_in_room (on_object i) u verb vs a h = record { slots = h.slots; objects = h.objects; messages = h.messages }
callee_in_room (on_ejector j) u verb vs a h = h
callee_in_room on_datum u verb vs a h = behind_in_room (data_of u verb vs) a h
callee_in_room on_far u verb vs a h = h

pub called_in_room : (v : Val) (verb : Name) (vs : Vals) (a : At) → IsWithinRoom a → IsWithinRoom (called v verb (values vs) a)
called_in_room v verb vs a h =
    let b : At = receiver_read v a in
    callee_in_room (callee_of a.vat (receiver v a)) (receiver v a) verb vs b (record { slots = h.slots; objects = h.objects; messages = h.messages })

-- ---- what a target comes to

pub led_same : {t : Target} {a b c : At} {o p : End} → Led t a o b → Led t a p c → Same o p b c
led_same led_gives led_gives = record { end = refl; place = refl }
led_same led_uses led_uses = record { end = refl; place = refl }
led_same (led_enters r) (led_enters q) = items_same r q

pub led_somehow : (t : Target) (a : At) → Outcome (Led t a)
led_somehow (gives o) a = record { end = o; place = a; run = led_gives }
led_somehow (enters ns body) a = let r = items_somehow 1 null body (inside ns a) in record { end = r.end; place = r.place; run = led_enters r.run }
led_somehow (uses p d) a = record { end = resolver_end (given_by d a); place = resolver_out p (given_by d a) (behind d a); run = led_uses }

pub led_later : {t : Target} {a b : At} {o : End} → Led t a o b → Later a b
led_later led_gives = stay
led_later (led_uses {p = p} {d = d} {a = a}) = resolver_later p d a
led_later (led_enters r) = items_later r

-- the same of a target and a place that are the same, and where the end and the place behind it are known otherwise
pub led_from : {t q : Target} {a c b : At} {o : End} → t ≡ q → a ≡ c → Led q c o b → Led t a o b
led_from {t = t} {c = c} {b = b} {o = o} e g r = subst (λ x. Led t x o b) (sym g) (subst (λ q. Led q c o b) (sym e) r)

led_to : {t : Target} {a b c : At} {o p : End} → Led t a o b → o ≡ p → b ≡ c → Led t a p c
led_to {t = t} {a = a} {c = c} {o = o} r e g = subst (λ q. Led t a q c) e (subst (λ x. Led t a o x) g r)

-- in a state that agrees on the cells touched a target comes to the same
abbrev pub LedFrame : (w : State) (t : Target) (a : At) (o : End) (b : At) (u : State) → Type 0
LedFrame w t a o b u = Framed w (λ s. Led t (in_state w u a) o (in_state w s b)) a.state b.state u

uses_framed : (w : State) (p : PromId) (d : Vat (Making Published)) (a : At) (u : State) → AgreeOn (behind d a).touched u a.state
    → LedFrame w (uses p d) a (resolver_end (given_by d a)) (resolver_out p (given_by d a) (behind d a)) u
uses_framed w p d a u h =
    let f = resolver_follows w p d a u h in
    record { after = f.after; run = led_to (led_uses {p = p} {d = d} {a = in_state w u a}) (ap resolver_end (does_alike d a u h).result) f.place; kept = f.kept }

pub led_framed : (w : State) {t : Target} {a b : At} {o : End} → Led t a o b → (u : State) → AgreeOn b.touched u a.state → LedFrame w t a o b u
led_framed w led_gives u m = record { after = u; run = led_gives; kept = λ c e. e }
led_framed w (led_uses {p = p} {d = d} {a = a}) u m = uses_framed w p d a u (before w u a.state (resolvers_later p (given_by d a) (behind d a)) m)
led_framed w (led_enters {a = a} r) u m = let f = items_framed w r u m in record { after = f.after; run = led_enters {a = in_state w u a} f.run; kept = f.kept }

pub led_left : {t : Target} {a b : At} {o : End} → Led t a o b → b.left ≤ a.left
led_left led_gives = omega arith
led_left (led_uses {p = p} {d = d} {a = a}) = omega (arith, ap (λ b. b.left) (resolver_works p d a))
led_left (led_enters r) = items_left r

pub led_counted : {t : Target} {a b : At} {o : End} (r : Led t a o b) → led_nodes r + b.left ≡ a.left
led_counted led_gives = omega arith
led_counted (led_uses {p = p} {d = d} {a = a}) = omega (arith, ap (λ b. b.left) (resolver_works p d a))
led_counted (led_enters r) = items_counted r

pub led_deep : {t : Target} {a b : At} {o : End} (r : Led t a o b) → led_deepest r ≤ 1000
led_deep led_gives = omega arith
led_deep led_uses = omega arith
led_deep (led_enters r) = items_deep r

resolver_in_room : (p : PromId) (m : Making Published) (a : At) → IsWithinRoom a → IsWithinRoom (resolver_out p m a)
resolver_in_room p (refused why) a h = h
resolver_in_room p (makes b) a h = record { slots = h.slots; objects = h.objects; messages = h.messages }

pub led_in_room : {t : Target} {a b : At} {o : End} → Led t a o b → IsWithinRoom a → IsWithinRoom b
led_in_room led_gives h = h
led_in_room (led_uses {p = p} {d = d} {a = a}) h = resolver_in_room p (given_by d a) (behind d a) (behind_in_room d a h)
led_in_room (led_enters r) h = items_in_room r (record { slots = h.slots; objects = h.objects; messages = h.messages })

-- what it gives and what it runs end inside the Escapes that are being evaluated
pub led_inside : {t : Target} {a b : At} {o : End} → Led t a o b → TargetInside t a.opened → Inside o a.opened
led_inside led_gives h = h
led_inside (led_uses {d = d} {a = a}) h = used_inside (given_by d a) a.opened
led_inside (led_enters r) h = items_inside r
