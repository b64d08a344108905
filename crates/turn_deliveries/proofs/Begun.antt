-- What a delivery runs, from where its turn begins.
use Rattle.std.proofs.Common.{◌≡◌, ℕ, ◌+◌, ◌≤◌, List, [], Option, Some, None, Bool, true, false, sym, ap, ◌∙◌, subst, arith}
use Rattle.ids.specs.declared.names.EventName.{EventName}
use Rattle.ids.specs.declared.names.VatNo.{VatNo}
use Rattle.ids.specs.declared.names.EjId.{EjId}
use Rattle.kernele.specs.Tree.{Name, Trees}
use Rattle.values.specs.Data.{Val, null, bool, int, text, list, object, ejector, promise, broken}
use Rattle.heap.specs.State.{Cell, Nouns, State, no_cells}
use Rattle.post.specs.Delivery.{Call, Handler, When, Delivery, opening, asked, sent, waiting}
use Rattle.post.specs.declared.earlier.Earlier.{Earlier}
use Rattle.sends.specs.Vats.{Vat, Nothing, ended}
use Rattle.eval_rules.specs.At.{At}
use Rattle.eval_rules.specs.Doings.{given_by, behind}
use Rattle.eval_rules.specs.Laws.{in_state, AgreeOn, IsWithinRoom}
use Rattle.eval_rules.specs.Outcomes.{ejected, End, halt, values}
use Rattle.eval_rules.specs.Rules.{target_of, called, Items}
use Rattle.eval_rules.proofs.Counted.{items_counted, items_deep}
use Rattle.eval_rules.proofs.Determined.{Same, items_same}
use Rattle.eval_rules.proofs.Doings.{Onward, does_later, does_alike, called_works}
use Rattle.eval_rules.proofs.Ejections.{Inside, TargetInside, items_inside, target_inside, carried}
use Rattle.eval_rules.proofs.Framed.{Framed, Follows, before, agree_on, does_follow, target_alike, called_follows, items_framed}
use Rattle.eval_rules.proofs.Kept.{items_in_room}
use Rattle.eval_rules.proofs.Reached.{then, items_later, called_later}
use Rattle.eval_rules.proofs.Spent.{items_left}
use Rattle.eval_rules.proofs.Total.{Outcome, items_somehow}
use Rattle.turn_deliveries.specs.Spent.{begun_nodes, begun_deepest}
use Rattle.turn_deliveries.specs.Turn.{start, knowing, Found, call_coming, call_met, call_meeting, handled, when_met, Led, Begins, opens, asks, calls, waits}
use Rattle.turn_deliveries.proofs.Coming.{knowing_later, knowing_follows, knowing_left, knowing_opened, behind_in_room, knowing_in_room, called_in_room, led_same, led_somehow, led_later, led_from, led_framed, led_left, led_counted, led_deep, led_in_room, led_inside}

-- ---- one end

pub begun_same : {d : Delivery} {f : Found} {e : EventName} {v : VatNo} {s : State} {n : ℕ} {o p : End} {b c : At} → Begins d f e v s n o b → Begins d f e v s n p c → Same o p b c
begun_same (opens r) (opens q) = items_same r q
begun_same (asks r) (asks q) = items_same r q
begun_same (calls r) (calls q) = led_same r q
begun_same (waits r) (waits q) = led_same r q

pub begun_somehow : (d : Delivery) (f : Found) (e : EventName) (v : VatNo) (s : State) (n : ℕ) → Outcome (Begins d f e v s n)
begun_somehow (opening earlier ts) f e v s n = let r = items_somehow 1 null ts (knowing earlier (start true e v s n)) in record { end = r.end; place = r.place; run = opens r.run }
begun_somehow (asked ts) f e v s n = let r = items_somehow 1 null ts (start false e v s n) in record { end = r.end; place = r.place; run = asks r.run }
begun_somehow (sent c) f e v s n = let a : At = start false e v s n in let r = led_somehow (call_met c f a) (call_meeting c f a) in record { end = r.end; place = r.place; run = calls r.run }
begun_somehow (waiting w) f e v s n =
    let a : At = start false e v s n in
    let r = led_somehow (when_met w (given_by (ended w.value) a)) (behind (ended w.value) a) in
    record { end = r.end; place = r.place; run = waits r.run }

-- ---- the cells

-- from the beginning of a turn, with no cell touched
abbrev pub FromStart : State → At → Type 0
FromStart s b = Onward no_cells no_cells s s b.touched b.written b.state b.began

pub begun_later : {d : Delivery} {f : Found} {e : EventName} {v : VatNo} {s : State} {n : ℕ} {o : End} {b : At} → Begins d f e v s n o b → FromStart s b
begun_later (opens {earlier = earlier} {e = e} {v = v} {s = s} {n = n} r) = then (knowing_later earlier (start true e v s n)) (items_later r)
begun_later (asks r) = items_later r
begun_later (calls {c = c} {f = f} {e = e} {v = v} {s = s} {n = n} r) =
    let a : At = start false e v s n in
    let coming : Vat Nothing = call_coming c f in
    then (then (does_later coming a) (called_later f.end c.verb (values c.arguments) (behind coming a))) (led_later r)
begun_later (waits {w = w} {e = e} {v = v} {s = s} {n = n} r) = then (does_later (ended w.value) (start false e v s n)) (led_later r)

-- ---- in another state that agrees on the cells touched

abbrev pub BegunFrame : (d : Delivery) (f : Found) (e : EventName) (v : VatNo) (s : State) (n : ℕ) (o : End) (b : At) (u : State) → Type 0
BegunFrame d f e v s n o b u = Framed u (λ t. Begins d f e v u n o (in_state u t b)) s b.state u

items_from : {k : ℕ} {v : Val} {ts : Trees} {a c b : At} {o : End} → a ≡ c → Items k v ts c o b → Items k v ts a o b
items_from {k = k} {v = v} {ts = ts} {b = b} {o = o} e r = subst (λ x. Items k v ts x o b) (sym e) r

opens_framed : (earlier : List Earlier) (ts : Trees) (f : Found) (e : EventName) (v : VatNo) (s : State) (n : ℕ) (o : End) (b : At) → Items 1 null ts (knowing earlier (start true e v s n)) o b → (u : State) → AgreeOn b.touched u s
    → BegunFrame (opening earlier ts) f e v s n o b u
opens_framed earlier ts f e v s n o b r u m =
    let a : At = start true e v s n in
    let k : At = knowing earlier a in
    let l : AgreeOn k.touched u s = before u u s (items_later r) m in
    let y : Follows u (knowing earlier) a u = knowing_follows u earlier a u l in
    let i = items_framed u r y.after (agree_on u u s y.after k.state y.kept m) in
    record { after = i.after; run = opens {b = in_state u i.after b} (items_from y.place i.run); kept = λ c h. i.kept c (y.kept c h) }

calls_framed : (c : Call) (f : Found) (e : EventName) (v : VatNo) (s : State) (n : ℕ) (o : End) (b : At) → Led (call_met c f (start false e v s n)) (call_meeting c f (start false e v s n)) o b → (u : State) → AgreeOn b.touched u s
    → BegunFrame (sent c) f e v s n o b u
calls_framed c f e v s n o b r u m =
    let a : At = start false e v s n in
    let d : Vat Nothing = call_coming c f in
    let x : At = behind d a in
    let k : At = called f.end c.verb (values c.arguments) x in
    let l : AgreeOn k.touched u s = before u u s (led_later r) m in
    let g : AgreeOn x.touched u s = before u u s (called_later f.end c.verb (values c.arguments) x) l in
    let y : Follows u (behind d) a u = does_follow u d a u g in
    let h : AgreeOn k.touched y.after x.state = agree_on u u s y.after x.state y.kept l in
    let z : Follows u (called f.end c.verb (values c.arguments)) x y.after = called_follows u f.end c.verb (values c.arguments) x y.after h in
    let both : (j : Cell) → u j ≡ s j → z.after j ≡ k.state j = λ j q. z.kept j (y.kept j q) in
    let i = led_framed u r z.after (agree_on u u s z.after k.state both m) in
    let met : call_met c f (in_state u u a) ≡ call_met c f a = ap (target_of f.end c.verb (values c.arguments)) y.place ∙ target_alike u f.end c.verb (values c.arguments) x y.after h in
    let meeting : call_meeting c f (in_state u u a) ≡ in_state u z.after k = ap (called f.end c.verb (values c.arguments)) y.place ∙ z.place in
    record { after = i.after; run = calls {b = in_state u i.after b} (led_from {c = in_state u z.after k} {b = in_state u i.after b} met meeting i.run); kept = λ j q. i.kept j (both j q) }

waits_framed : (w : When) (f : Found) (e : EventName) (v : VatNo) (s : State) (n : ℕ) (o : End) (b : At) → Led (when_met w (given_by (ended w.value) (start false e v s n))) (behind (ended w.value) (start false e v s n)) o b → (u : State) → AgreeOn b.touched u s
    → BegunFrame (waiting w) f e v s n o b u
waits_framed w f e v s n o b r u m =
    let a : At = start false e v s n in
    let d : Vat Val = ended w.value in
    let x : At = behind d a in
    let l : AgreeOn x.touched u s = before u u s (led_later r) m in
    let y : Follows u (behind d) a u = does_follow u d a u l in
    let i = led_framed u r y.after (agree_on u u s y.after x.state y.kept m) in
    record { after = i.after; run = waits {b = in_state u i.after b} (led_from {c = in_state u y.after x} {b = in_state u i.after b} (ap (when_met w) (does_alike d a u l).result) y.place i.run); kept = λ j q. i.kept j (y.kept j q) }

pub begun_framed : {d : Delivery} {f : Found} {e : EventName} {v : VatNo} {s : State} {n : ℕ} {o : End} {b : At} → Begins d f e v s n o b → (u : State) → AgreeOn b.touched u s → BegunFrame d f e v s n o b u
begun_framed (opens {earlier = earlier} {ts = ts} {f = f} {e = e} {v = v} {s = s} {n = n} {o = o} {b = b} r) u m = opens_framed earlier ts f e v s n o b r u m
begun_framed (asks {b = b} r) u m = let i = items_framed u r u m in record { after = i.after; run = asks {b = in_state u i.after b} i.run; kept = i.kept }
begun_framed (calls {c = c} {f = f} {e = e} {v = v} {s = s} {n = n} {o = o} {b = b} r) u m = calls_framed c f e v s n o b r u m
begun_framed (waits {w = w} {f = f} {e = e} {v = v} {s = s} {n = n} {o = o} {b = b} r) u m = waits_framed w f e v s n o b r u m

-- ---- steps, levels and room

-- a call takes no step before its method runs
meeting_left : (c : Call) (f : Found) (a : At) → (call_meeting c f a).left ≡ a.left
meeting_left c f a = ap (λ (b : At). b.left) (called_works f.end c.verb (values c.arguments) (behind (call_coming c f) a))

pub begun_left : {d : Delivery} {f : Found} {e : EventName} {v : VatNo} {s : State} {n : ℕ} {o : End} {b : At} → Begins d f e v s n o b → b.left ≤ n
begun_left (opens {earlier = earlier} {e = e} {v = v} {s = s} {n = n} r) = omega (arith, items_left r, knowing_left earlier (start true e v s n))
begun_left (asks r) = items_left r
begun_left (calls {c = c} {f = f} {e = e} {v = v} {s = s} {n = n} r) = omega (arith, led_left r, meeting_left c f (start false e v s n))
begun_left (waits r) = led_left r

pub begun_counted : {d : Delivery} {f : Found} {e : EventName} {v : VatNo} {s : State} {n : ℕ} {o : End} {b : At} (r : Begins d f e v s n o b) → begun_nodes r + b.left ≡ n
begun_counted (opens {earlier = earlier} {e = e} {v = v} {s = s} {n = n} r) = omega (arith, items_counted r, knowing_left earlier (start true e v s n))
begun_counted (asks r) = items_counted r
begun_counted (calls {c = c} {f = f} {e = e} {v = v} {s = s} {n = n} r) = omega (arith, led_counted r, meeting_left c f (start false e v s n))
begun_counted (waits r) = led_counted r

pub begun_deep : {d : Delivery} {f : Found} {e : EventName} {v : VatNo} {s : State} {n : ℕ} {o : End} {b : At} (r : Begins d f e v s n o b) → begun_deepest r ≤ 1000
begun_deep (opens r) = items_deep r
begun_deep (asks r) = items_deep r
begun_deep (calls r) = led_deep r
begun_deep (waits r) = led_deep r

-- at the beginning of a turn nothing was made
begins_in_room : (own : Bool) (e : EventName) (v : VatNo) (s : State) (n : ℕ) → IsWithinRoom (start own e v s n)
begins_in_room own e v s n = record { slots = omega arith; objects = omega arith; messages = omega arith }

pub begun_in_room : {d : Delivery} {f : Found} {e : EventName} {v : VatNo} {s : State} {n : ℕ} {o : End} {b : At} → Begins d f e v s n o b → IsWithinRoom b
begun_in_room (opens {earlier = earlier} {e = e} {v = v} {s = s} {n = n} r) = items_in_room r (knowing_in_room earlier (start true e v s n) (begins_in_room true e v s n))
begun_in_room (asks {e = e} {v = v} {s = s} {n = n} r) = items_in_room r (begins_in_room false e v s n)
begun_in_room (calls {c = c} {f = f} {e = e} {v = v} {s = s} {n = n} r) =
    let a : At = start false e v s n in
    led_in_room r (called_in_room f.end c.verb c.arguments (behind (call_coming c f) a) (behind_in_room (call_coming c f) a (begins_in_room false e v s n)))
begun_in_room (waits {w = w} {e = e} {v = v} {s = s} {n = n} r) = led_in_room r (behind_in_room (ended w.value) (start false e v s n) (begins_in_room false e v s n))

-- ---- at the beginning of a turn no Escape is being evaluated

handled_inside : (problem : Name) (ns : Nouns) (h : Option Handler) (js : List EjId) → TargetInside (handled problem ns h) js
handled_inside problem ns None js = tt
handled_inside problem ns (Some h) js = tt

when_inside : (w : When) (v : Val) (js : List EjId) → TargetInside (when_met w v) js
when_inside w null js = tt
when_inside w (bool b) js = tt
when_inside w (int z) js = tt
when_inside w (text s) js = tt
when_inside w (list vs) js = tt
when_inside w (object i) js = tt
when_inside w (ejector j) js = tt
when_inside w (promise p) js = tt
when_inside w (broken problem) js = handled_inside problem w.captured w.handler js

outside : {X : Type 0} → false ≡ true → X
outside e = absurd (cc)

abbrev StaysInside : End → Type 0
StaysInside o = Inside o []

pub begun_inside : {d : Delivery} {f : Found} {e : EventName} {v : VatNo} {s : State} {n : ℕ} {o : End} {b : At} → Begins d f e v s n o b → StaysInside o
begun_inside (opens {earlier = earlier} {e = e} {v = v} {s = s} {n = n} {o = o} r) = carried o (knowing_opened earlier (start true e v s n)) (items_inside r)
begun_inside (asks r) = items_inside r
begun_inside (calls {c = c} {f = f} {e = e} {v = v} {s = s} {n = n} {o = o} r) =
    let x : At = behind (call_coming c f) (start false e v s n) in
    let same : (called f.end c.verb (values c.arguments) x).opened ≡ x.opened = ap (λ (b : At). b.opened) (called_works f.end c.verb (values c.arguments) x) in
    carried o same (led_inside r (subst (TargetInside (target_of f.end c.verb (values c.arguments) x)) (sym same) (target_inside f.end c.verb (values c.arguments) x tt)))
begun_inside (waits {w = w} {e = e} {v = v} {s = s} {n = n} r) = led_inside r (when_inside w (given_by (ended w.value) (start false e v s n)) [])

pub none_leaves : {d : Delivery} {f : Found} {e : EventName} {w : VatNo} {s : State} {n : ℕ} {b : At} {j : EjId} {v : Val} → Begins d f e w s n (halt (ejected j v)) b → ⊥
none_leaves r = outside (begun_inside r)
