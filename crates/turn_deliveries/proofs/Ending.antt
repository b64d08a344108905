-- How a turn ends: its value is settled, and its result is published.
use Rattle.std.proofs.Common.{◌≡◌, refl, ap, ◌∙◌}
use Rattle.ids.specs.declared.names.PromId.{PromId}
use Rattle.values.specs.Data.{Reply}
use Rattle.heap.specs.State.{State}
use Rattle.sends.specs.Vats.{Vat, settled}
use Rattle.sends.specs.Making.{Published, ending}
use Rattle.eval_rules.specs.At.{At}
use Rattle.eval_rules.specs.Doings.{given_by, behind, published_out}
use Rattle.eval_rules.specs.Laws.{in_state, AgreeOn}
use Rattle.eval_rules.specs.Outcomes.{thrown, ejected, abandoned, End, value, halt}
use Rattle.eval_rules.proofs.Doings.{Later, does_later, does_alike}
use Rattle.eval_rules.proofs.Framed.{Follows, before, agree_on, unmoved, both_follow, by_case, does_follow}
use Rattle.eval_rules.proofs.Reached.{stay, then}
use Rattle.turn_deliveries.specs.Turn.{Told, told, lost, settled_reply, telling, telling_at, commented, published_at, ending_at, finish}

-- ---- its value is settled

telling_later : (o : End) (b : At) → Later b (telling_at o b)
telling_later (value v) b = does_later (settled v) b
telling_later (halt h) b = stay

telling_follows : (w : State) (o : End) (b : At) (u : State) → AgreeOn (telling_at o b).touched u b.state → Follows w (telling_at o) b u
telling_follows w (value v) b u m = does_follow w (settled v) b u m
telling_follows w (halt h) b u m = unmoved w

told_alike : (w : State) (o : End) (b : At) (u : State) → AgreeOn (telling_at o b).touched u b.state → telling o (in_state w u b) ≡ telling o b
told_alike w (value v) b u m = ap (λ x. told (settled_reply x)) (does_alike (settled v) b u m).result
told_alike w (halt (thrown problem)) b u m = refl
told_alike w (halt (ejected j v)) b u m = refl
told_alike w (halt (abandoned why)) b u m = refl

-- ---- its result is published

-- it goes out
abbrev result_out : PromId → Reply → Published → At → At
result_out p r x a = record a { out = published_out p x (commented r a.out) }

published_follows : (w : State) (p : PromId) (r : Reply) (b : At) (u : State) → AgreeOn (behind (ending p r) b).touched u b.state → Follows w (published_at p r) b u
published_follows w p r b u m =
    let d : Vat Published = ending p r in
    let x : Published = given_by d b in
    let y : Follows w (behind d) b u = does_follow w d b u m in
    let z : Follows w (result_out p r x) (behind d b) y.after = record { after = y.after; place = refl; kept = λ c h. h } in
    by_case w (λ x c. result_out p r x (behind d c)) (given_by d) b u (does_alike d b u m).result (both_follow w {f = behind d} {g = result_out p r x} y z)

ending_later : (p : PromId) (t : Told) (b : At) → Later b (ending_at p t b)
ending_later p (told r) b = does_later (ending p r) b
ending_later p (lost why) b = stay

ending_follows : (w : State) (p : PromId) (t : Told) (b : At) (u : State) → AgreeOn (ending_at p t b).touched u b.state → Follows w (ending_at p t) b u
ending_follows w p (told r) b u m = published_follows w p r b u m
ending_follows w p (lost why) b u m = unmoved w

-- ---- both

pub finish_later : (p : PromId) (o : End) (b : At) → Later b (finish p o b)
finish_later p o b = then (telling_later o b) (ending_later p (telling o b) (telling_at o b))

-- the cells touched are those of a telling, too
told_agree : (p : PromId) (o : End) (b : At) (u : State) → AgreeOn (finish p o b).touched u b.state → AgreeOn (telling_at o b).touched u b.state
told_agree p o b u m = before b.state u b.state (ending_later p (telling o b) (telling_at o b)) m

pub telling_alike : (w : State) (p : PromId) (o : End) (b : At) (u : State) → AgreeOn (finish p o b).touched u b.state → telling o (in_state w u b) ≡ telling o b
telling_alike w p o b u m = told_alike w o b u (told_agree p o b u m)

pub finish_follows : (w : State) (p : PromId) (o : End) (b : At) (u : State) → AgreeOn (finish p o b).touched u b.state → Follows w (finish p o) b u
finish_follows w p o b u m =
    let t : Told = telling o b in
    let c : At = telling_at o b in
    let y : Follows w (telling_at o) b u = telling_follows w o b u (told_agree p o b u m) in
    let z : Follows w (ending_at p t) c y.after = ending_follows w p t c y.after (agree_on w u b.state y.after c.state y.kept m) in
    by_case w (λ t a. ending_at p t (telling_at o a)) (telling o) b u (telling_alike w p o b u m) (both_follow w {f = telling_at o} {g = ending_at p t} y z)

telling_left : (o : End) (b : At) → (telling_at o b).left ≡ b.left
telling_left (value v) b = refl
telling_left (halt h) b = refl

ending_left : (p : PromId) (t : Told) (b : At) → (ending_at p t b).left ≡ b.left
ending_left p (told r) b = refl
ending_left p (lost why) b = refl

-- that takes no step
pub finish_left : (p : PromId) (o : End) (b : At) → (finish p o b).left ≡ b.left
finish_left p o b = ending_left p (telling o b) (telling_at o b) ∙ telling_left o b
