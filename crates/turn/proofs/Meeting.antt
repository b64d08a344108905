-- From where a turn's program ended to what it comes to on every state that agrees with what the turn found.
use Rattle.std.proofs.Common.{◌≡◌, ℕ, Bool, true, false, cond, Option, Some, None, is_some, refl, sym, ap, subst, ◌∙◌}
use Rattle.cells.specs.Touches.{standing}
use Rattle.ids.specs.declared.names.EventName.{EventName}
use Rattle.ids.specs.declared.names.PromId.{PromId}
use Rattle.ids.specs.declared.names.VatNo.{VatNo}
use Rattle.heap.specs.State.{Cell, Content, State, Cells}
use Rattle.heap.specs.Found.{Found as FoundCells, touch_in, touched_in, writes_in, left_by}
use Rattle.heap.specs.declared.reach.Footprint.{Footprint}
use Rattle.eval_rules.specs.At.{At}
use Rattle.eval_rules.specs.Laws.{AgreeOn, with_cells}
use Rattle.eval_rules.specs.Outbox.{Outbox}
use Rattle.eval_rules.specs.Outcomes.{End, value, halt}
use Rattle.post.specs.Messages.{Message}
use Rattle.std.specs.Arc.{arc_value}
use Rattle.post.specs.DeliveryView.{delivery_of}
use Rattle.post.specs.MessageView.{message_of}
use Rattle.post.specs.declared.message.Message as code-message
use Rattle.post.specs.declared.message.Sent.{Sent}
use Rattle.turn_deliveries.specs.Turn.{start, Found, Told, told, lost, Outcome, Begins, Delivers, delivers, telling, telling_at, ending_at, finish, outcome, outcome_by}
use Rattle.turn_deliveries.specs.Touched.{delivery_touched, delivery_written}
use Rattle.turn_deliveries.specs.Outcomes.{kept, outcome_on, told_of, written_by, Meets}
use Rattle.turn_deliveries.specs.declared.outcome.Outcome as code-outcome
use Rattle.turn_deliveries.proofs.Begun.{begun_later}
use Rattle.turn_deliveries.proofs.Turns.{delivery_framed, delivery_within}
use Rattle.turn.specs.Runs.{Does, RunsTo, is_opening}
use Rattle.turn.proofs.Deliveries.{begins_at}

some_of : {X : Type 0} (o : Option X) → is_some o ≡ true → (x : X) × (o ≡ Some x)
some_of None h = cc
some_of (Some x) h = (x, refl)

-- two states that agree with what was found agree on the cells touched
found_agree : (r : Footprint) (s u : State) → FoundCells r s → FoundCells r u → AgreeOn (touched_in r) u s
found_agree r s u f g c h =
    let t = some_of (touch_in r c) h in
    sym (g c t.0 t.1) ∙ f c t.0 t.1

over_by : (w : Option Content) (b u : Option Content) → ((x : Content) → w ≡ Some x → b ≡ Some x) → cond (is_some w) b u ≡ standing u w
over_by None b u h = refl
over_by (Some x) b u h = h x refl

same_by : (q : Bool) (s u : Option Content) → (q ≡ true → u ≡ s) → cond q s u ≡ u
same_by true s u h = sym (h refl)
same_by false s u h = refl

-- what is left of the written cells over a state is what the footprint leaves, and of an abandoned turn the state itself
left_alike : (r : Footprint) (p : PromId) (t : Told) (s u : State) (z : At) → ((c : Cell) (x : Content) → writes_in r c ≡ Some x → z.state c ≡ Some x) → ((c : Cell) → is_some (writes_in r c) ≡ true → u c ≡ s c)
    → (c : Cell) → with_cells (λ c. is_some (writes_in r c)) (outcome_by s p t z).state u c ≡ kept t u (left_by r u) c
left_alike r p (told a) s u z h g c = over_by (writes_in r c) (z.state c) (u c) (h c)
left_alike r p (lost why) s u z h g c = same_by (is_some (writes_in r c)) (s c) (u c) (g c)

-- the other parts of an outcome
told_alike : (s : State) (p : PromId) (t : Told) (z : At) → (outcome_by s p t z).told ≡ t
told_alike s p (told a) z = refl
told_alike s p (lost why) z = refl

steps_alike : (s : State) (p : PromId) (t : Told) (b : At) → (outcome_by s p t (ending_at p t b)).left ≡ b.left
steps_alike s p (told a) b = refl
steps_alike s p (lost why) b = refl

out_alike : (s w : State) (p : PromId) (t : Told) (z : At) → (outcome_by s p t z).out ≡ (outcome_by w p t z).out
out_alike s w p (told a) z = refl
out_alike s w p (lost why) z = refl

outcome_alike : {s t : State} {v w : Told} {m n : ℕ} {x y : Outbox} → s ≡ t → v ≡ w → m ≡ n → x ≡ y
    → ◌≡◌ {A = Outcome} (record { state = s; told = v; left = m; out = x }) (record { state = t; told = w; left = n; out = y })
outcome_alike p q l e = λ i. record { state = p i; told = q i; left = l i; out = e i }

-- what is told changes nothing of where the program stands but its cells
telling_began : (o : End) (b : At) → (telling_at o b).began ≡ b.began
telling_began (value v) b = refl
telling_began (halt h) b = refl

-- what a turn found is what the state has in which it began
found_there : (g : Message) {f : Found} {e : EventName} {v : VatNo} {s : State} {n : ℕ} {o : End} {b : At} (x : code-outcome.Outcome) → Begins g.delivery f e v s n o b → RunsTo x g.result o b → FoundCells x.footprint s
found_there g {o = o} {b = b} x r to = subst (FoundCells x.footprint) (telling_began o b ∙ (begun_later r).began) to.found

-- what is known of a delivery that ended at this place
meets : {g : Message} {f : Found} {e : EventName} {v : VatNo} {s : State} {n : ℕ} {o : End} {b : At} (x : code-outcome.Outcome) → Begins g.delivery f e v s n o b → RunsTo x g.result o b → Meets g f e v n x
meets {g = g} {f = f} {e = e} {v = v} {s = s} {n = n} {o = o} {b = b} x r to u h =
    let p = g.result in
    let t = telling o b in
    let place = telling_at o b in
    let z = finish p o b in
    let d : Delivers g f e v s n (outcome s p o b) = delivers r in
    let agree : AgreeOn (delivery_touched d) u s = subst (λ q. AgreeOn q u s) to.touched (found_agree x.footprint s u (found_there g x r to) h) in
    let within : (c : Cell) → written_by x c ≡ true → u c ≡ s c = λ c k. agree c (delivery_within d c (subst (λ (q : Cells). q c ≡ true) to.written k)) in
    let framed = delivery_framed d u agree in
    let state : with_cells (delivery_written d) (outcome s p o b).state u ≡ kept (told_of x.ended) u (left_by x.footprint u) =
    ap (λ q. with_cells q (outcome s p o b).state u) (sym to.written)
    ∙ (λ i c. left_alike x.footprint p t s u z to.holds within c i)
    ∙ ap (λ t. kept t u (left_by x.footprint u)) (sym to.told) in
    let is : ◌≡◌ {A = Outcome} (record (outcome s p o b) { state = with_cells (delivery_written d) (outcome s p o b).state u }) (outcome_on x u) =
    outcome_alike state (told_alike s p t z ∙ sym to.told) (steps_alike s p t place ∙ sym to.left) (out_alike s place.began p t z ∙ sym to.out) in
    subst (λ y. ∥ ((q : Delivers g f e v u n y) × (delivery_touched q ≡ touched_in x.footprint) × (delivery_written q ≡ written_by x)) ∥₁) is
    ∣ (framed.0, framed.1 ∙ sym to.touched, framed.2 ∙ sym to.written) ∣₁

-- what the program's turn of a message comes to, from where it began
pub came_to : (m : code-message.Message) {y : Sent} {f : Found} {e : EventName} {v : VatNo} {s : State} {n : ℕ} {a : At} (o : End) (b : At) (x : code-outcome.Outcome) → y ≡ arc_value m.sent → a ≡ start (is_opening (delivery_of y.delivery)) e v s n
    → Does (delivery_of y.delivery) f a o b → RunsTo x y.result o b → FoundCells x.footprint s × Meets (message_of m) f e v n x
came_to m {f = f} {e = e} {v = v} {s = s} {n = n} {a = a} o b x is began does to =
    let r = begins_at (delivery_of (arc_value m.sent).delivery) (began ∙ ap (λ (y : Sent). start (is_opening (delivery_of y.delivery)) e v s n) is) (subst (λ (y : Sent). Does (delivery_of y.delivery) f a o b) is does) in
    let told : RunsTo x (message_of m).result o b = subst (λ (y : Sent). RunsTo x y.result o b) is to in
    (found_there (message_of m) x r told, meets {g = message_of m} x r told)
