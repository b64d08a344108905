-- The laws of turns, from those of evaluation.
use Rattle.std.proofs.Common.{◌≡◌, ℕ, ◌+◌, ◌≤◌, Bool, true, false, cond, refl, ap, ◌∙◌, subst, arith}
use Rattle.ids.specs.declared.names.EventName.{EventName}
use Rattle.ids.specs.declared.names.VatNo.{VatNo}
use Rattle.ids.specs.declared.names.PromId.{PromId}
use Rattle.heap.specs.State.{Cell, State}
use Rattle.post.specs.Messages.{Message}
use Rattle.eval_rules.specs.At.{At}
use Rattle.eval_rules.specs.Laws.{in_state, IsWithin, AgreeOn, with_cells, IsWithinRoom}
use Rattle.eval_rules.specs.Outcomes.{End}
use Rattle.eval_rules.proofs.Framed.{Follows, before, agree_on}
use Rattle.eval_rules.proofs.Reached.{then}
use Rattle.turn_deliveries.specs.Spent.{delivery_nodes, delivery_deepest, delivery_place}
use Rattle.turn_deliveries.specs.Touched.{delivery_touched, delivery_written}
use Rattle.turn_deliveries.specs.Turn.{Found, Begins, Told, told, lost, telling, finish, Outcome, outcome_by, outcome, lost_outbox, Delivers, delivers}
use Rattle.turn_deliveries.proofs.Begun.{begun_same, begun_somehow, FromStart, begun_later, begun_framed, begun_left, begun_counted, begun_deep, begun_in_room}
use Rattle.turn_deliveries.proofs.Ending.{finish_later, telling_alike, finish_follows, finish_left}

pub delivery_same : {g : Message} {f : Found} {e : EventName} {v : VatNo} {s : State} {n : ℕ} {o p : Outcome} → Delivers g f e v s n o → Delivers g f e v s n p → o ≡ p
delivery_same (delivers {g = g} {s = s} r) (delivers q) = let t = begun_same r q in λ i. outcome s g.result (t.end i) (t.place i)

pub delivery_somehow : (g : Message) (f : Found) (e : EventName) (v : VatNo) (s : State) (n : ℕ) → (o : Outcome) × Delivers g f e v s n o
delivery_somehow g f e v s n = let r = begun_somehow g.delivery f e v s n in (outcome s g.result r.end r.place, delivers {g = g} r.run)

-- two deliveries touch the same cells, and write the same
abbrev pub SameCells : {g : Message} {f : Found} {e : EventName} {v : VatNo} {s : State} {n : ℕ} {o p : Outcome} → Delivers g f e v s n o → Delivers g f e v s n p → Type 0
SameCells r q = (delivery_touched r ≡ delivery_touched q) × (delivery_written r ≡ delivery_written q)

pub delivery_cells : {g : Message} {f : Found} {e : EventName} {v : VatNo} {s : State} {n : ℕ} {o p : Outcome} (r : Delivers g f e v s n o) (q : Delivers g f e v s n p) → SameCells r q
delivery_cells (delivers {g = g} r) (delivers q) = let t = begun_same r q in (λ i. (finish g.result (t.end i) (t.place i)).touched, λ i. (finish g.result (t.end i) (t.place i)).written)

-- ---- what is written

-- from where a turn begins to where it ended
ended_later : (g : Message) {f : Found} {e : EventName} {v : VatNo} {s : State} {n : ℕ} {o : End} {b : At} → Begins g.delivery f e v s n o b → FromStart s (finish g.result o b)
ended_later g {o = o} {b = b} r = then (begun_later r) (finish_later g.result o b)

pub delivery_within : {g : Message} {f : Found} {e : EventName} {v : VatNo} {s : State} {n : ℕ} {o : Outcome} (r : Delivers g f e v s n o) → IsWithin (delivery_written r) (delivery_touched r)
delivery_within (delivers {g = g} r) = (ended_later g r).within (λ c h. h)

-- a cell that is not written stays, and an abandoned turn keeps all as it was
kept_un : (t : Told) (s : State) (p : PromId) (z : At) (c : Cell) → z.state c ≡ s c → (outcome_by s p t z).state c ≡ s c
kept_un (told r) s p z c h = h
kept_un (lost why) s p z c h = refl

pub delivery_un : {g : Message} {f : Found} {e : EventName} {v : VatNo} {s : State} {n : ℕ} {o : Outcome} (r : Delivers g f e v s n o) (c : Cell) → delivery_written r c ≡ false → o.state c ≡ s c
delivery_un (delivers {g = g} {s = s} {o = o} {b = b} r) c h = kept_un (telling o b) s g.result (finish g.result o b) c ((ended_later g r).stays c h)

-- ---- in another state that agrees on the cells touched

-- a cell is as it was left here if it is written, and else as it was there
cell_alike : (q : Bool) {X : Type 0} (x b u : X) → (q ≡ true → x ≡ b) → (q ≡ false → x ≡ u) → x ≡ cond q b u
cell_alike true x b u h g = h refl
cell_alike false x b u h g = g refl

unwritten : (q : Bool) {X : Type 0} (s u : X) → (q ≡ true → u ≡ s) → u ≡ cond q s u
unwritten true s u h = h refl
unwritten false s u h = refl

-- the outcome is the same but for the state: what was written is as it was left here, and of an abandoned turn nothing is kept
outcome_alike : (t : Told) (p : PromId) (s u x : State) (z : At) → x ≡ with_cells z.written z.state u → u ≡ with_cells z.written s u
    → outcome_by u p t (in_state u x z) ≡ record (outcome_by s p t z) { state = with_cells z.written (outcome_by s p t z).state u }
outcome_alike (told r) p s u x z h g = λ i. record { state = h i; told = told r; left = z.left; out = z.out }
outcome_alike (lost why) p s u x z h g = λ i. record { state = g i; told = lost why; left = z.left; out = lost_outbox p why }

-- the same delivery to another state: it touches and writes the same cells
abbrev pub DeliveryFrames : {g : Message} {f : Found} {e : EventName} {v : VatNo} {s : State} {n : ℕ} {o : Outcome} → Delivers g f e v s n o → State → Outcome → Type 0
DeliveryFrames {g = g} {f = f} {e = e} {v = v} {n = n} r u x = (q : Delivers g f e v u n x) × (delivery_touched q ≡ delivery_touched r) × (delivery_written q ≡ delivery_written r)

pub delivery_framed : {g : Message} {f : Found} {e : EventName} {v : VatNo} {s : State} {n : ℕ} {o : Outcome} (r : Delivers g f e v s n o) (u : State) → AgreeOn (delivery_touched r) u s
    → DeliveryFrames r u (record o { state = with_cells (delivery_written r) o.state u })
delivery_framed (delivers {g = g} {f = f} {e = e} {v = v} {s = s} {n = n} {o = o} {b = b} r) u m =
    let p : PromId = g.result in
    let z : At = finish p o b in
    let all : FromStart s z = ended_later g r in
    let i = begun_framed r u (before u u s (finish_later p o b) m) in
    let x : At = in_state u i.after b in
    let h : AgreeOn z.touched i.after b.state = agree_on u u s i.after b.state i.kept m in
    let y : Follows u (finish p o) b i.after = finish_follows u p o b i.after h in
    let there : FromStart u (in_state u y.after z) = subst (λ a. FromStart u a) y.place (then (begun_later i.run) (finish_later p o x)) in
    let touched : (c : Cell) → z.written c ≡ true → u c ≡ s c = λ c e. m c (all.within (λ c e. e) c e) in
    let left : y.after ≡ with_cells z.written z.state u = λ j c. cell_alike (z.written c) (y.after c) (z.state c) (u c) (λ e. y.kept c (i.kept c (touched c e))) (there.stays c) j in
    let lost_all : u ≡ with_cells z.written s u = λ j c. unwritten (z.written c) (s c) (u c) (touched c) j in
    let same : outcome u p o x ≡ record (outcome s p o b) { state = with_cells z.written (outcome s p o b).state u } =
    ap (λ t. outcome_by u p t (finish p o x)) (telling_alike u p o b i.after h) ∙ ap (outcome_by u p (telling o b)) y.place ∙ outcome_alike (telling o b) p s u y.after z left lost_all in
    subst (DeliveryFrames (delivers {g = g} r) u) same (delivers {g = g} i.run, ap (λ (a : At). a.touched) y.place, ap (λ (a : At). a.written) y.place)

-- ---- steps, levels and room

outcome_left : (t : Told) (s : State) (p : PromId) (z : At) → (outcome_by s p t z).left ≡ z.left
outcome_left (told r) s p z = refl
outcome_left (lost why) s p z = refl

-- what is left is what the delivery left
left_over : (s : State) (p : PromId) (o : End) (b : At) → (outcome s p o b).left ≡ b.left
left_over s p o b = outcome_left (telling o b) s p (finish p o b) ∙ finish_left p o b

pub delivery_left : {g : Message} {f : Found} {e : EventName} {v : VatNo} {s : State} {n : ℕ} {o : Outcome} → Delivers g f e v s n o → o.left ≤ n
delivery_left (delivers {g = g} {s = s} {o = o} {b = b} r) = omega (arith, begun_left r, left_over s g.result o b)

pub delivery_counted : {g : Message} {f : Found} {e : EventName} {v : VatNo} {s : State} {n : ℕ} {o : Outcome} (r : Delivers g f e v s n o) → delivery_nodes r + o.left ≡ n
delivery_counted (delivers {g = g} {s = s} {o = o} {b = b} r) = omega (arith, begun_counted r, left_over s g.result o b)

pub delivery_deep : {g : Message} {f : Found} {e : EventName} {v : VatNo} {s : State} {n : ℕ} {o : Outcome} (r : Delivers g f e v s n o) → delivery_deepest r ≤ 1000
delivery_deep (delivers r) = begun_deep r

pub delivery_in_room : {g : Message} {f : Found} {e : EventName} {v : VatNo} {s : State} {n : ℕ} {o : Outcome} (r : Delivers g f e v s n o) → IsWithinRoom (delivery_place r)
delivery_in_room (delivers r) = begun_in_room r
