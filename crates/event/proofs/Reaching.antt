-- The turn of a when touches what its value leads through, and what a vat learns touches the promise's view.
use Rattle.std.proofs.Common.{◌≡◌, ℕ, Bool, true, false, List, [], ◌∷◌, ap, ◌∙◌}
use Rattle.std.specs.List.{AllByRecursion}
use Rattle.std.proofs.lemmas.Bool.{or_left, or_right}
use Rattle.history.proofs.Lists.{all_map}
use Rattle.ids.specs.declared.names.EventName.{EventName}
use Rattle.ids.specs.declared.names.VatNo.{VatNo}
use Rattle.ids.specs.declared.names.PromId.{PromId}
use Rattle.ids.specs.declared.reference.Reference.TheVariants as reference
use Rattle.cells.specs.Doing.{Under, touching, holding, play, and_then}
use Rattle.cells.proofs.Doings.{cells_only_grow}
use Rattle.values.specs.Data.{Val}
use Rattle.heap.specs.State.{State, Cell, view_cell, Content, viewed, resolved, same_cell}
use Rattle.heap.proofs.Cells.{cell_self}
use Rattle.refs.specs.Walks.{walked}
use Rattle.sends.specs.Vats.{Nothing, fence_of, end_joined, coming_in, references, ended}
use Rattle.sends.specs.Playing.{views_in, looked_at}
use Rattle.sends.proofs.Followed.{ends_are_followed}
use Rattle.post.specs.Delivery.{Delivery, waiting}
use Rattle.post.specs.Messages.{Message, Published}
use Rattle.eval_rules.specs.At.{At}
use Rattle.eval_rules.specs.Doings.{under}
use Rattle.eval_rules.specs.Outcomes.{End}
use Rattle.turn_deliveries.specs.Turn.{Found, start, Begins, opens, asks, calls, waits, Outcome, Delivers, delivers}
use Rattle.turn_deliveries.specs.Touched.{delivery_touched}
use Rattle.turn_deliveries.proofs.Coming.{led_later}
use Rattle.turn_deliveries.proofs.Ending.{finish_later}
use Rattle.event.specs.Events.{untouched}
use Rattle.event.specs.Learning.{behind_learning}

-- ---- the promises that a when's value leads through

abbrev pub viewed_by : State → Delivery → List PromId
viewed_by s (waiting b) = walked (views_in s) b.value
viewed_by s d = []

-- these views were touched
abbrev Touches : (Cell → Bool) → List PromId → Type 0
Touches q ps = AllByRecursion (λ p. q (view_cell p) ≡ true) ps

looked_grows : (ps : List PromId) (u : Under Cell Content) (c : Cell) → u.touched c ≡ true → (looked_at ps u).touched c ≡ true
looked_grows [] u c h = h
looked_grows (p ∷ ps) u c h = looked_grows ps (touching same_cell (view_cell p) u) c (or_right (same_cell (view_cell p) c) (u.touched c) h)

all_looked : (ps : List PromId) (u : Under Cell Content) → Touches (looked_at ps u).touched ps
all_looked [] u = tt
all_looked (p ∷ ps) u =
    let v : Under Cell Content = touching same_cell (view_cell p) u in
    (looked_grows ps v (view_cell p) (or_left (same_cell (view_cell p) (view_cell p)) (u.touched (view_cell p)) (cell_self (view_cell p))), all_looked ps v)

end_looked : (v : Val) (u : Under Cell Content) → Touches (play same_cell (ended v) u).1.touched (walked (views_in u.state) v)
end_looked v u =
    all_map _ _ (walked (views_in u.state) v) (λ p h. ap (λ (x : Val × Under Cell Content). x.1.touched (view_cell p)) (ends_are_followed u v) ∙ h) (all_looked (walked (views_in u.state) v) u)

begun_viewed : {d : Delivery} {f : Found} {e : EventName} {v : VatNo} {s : State} {n : ℕ} {o : End} {b : At} → Begins d f e v s n o b → Touches b.touched (viewed_by s d)
begun_viewed (opens r) = tt
begun_viewed (asks r) = tt
begun_viewed (calls r) = tt
begun_viewed (waits {w = w} {e = e} {v = v} {s = s} {n = n} r) =
    all_map _ _ (walked (views_in s) w.value) (λ p h. (led_later r).touched (view_cell p) h) (end_looked w.value (under (start false e v s n)))

pub delivery_viewed : {g : Message} {f : Found} {e : EventName} {v : VatNo} {s : State} {n : ℕ} {o : Outcome} (r : Delivers g f e v s n o) → AllByRecursion (λ p. delivery_touched r (view_cell p) ≡ true) (viewed_by s g.delivery)
delivery_viewed (delivers {g = g} {s = s} {o = o} {b = b} r) = all_map _ _ (viewed_by s g.delivery) (λ p h. (finish_later g.result o b).touched (view_cell p) h) (begun_viewed r)

-- ---- what is learnt

pub learning_viewed : (s : State) (p : PromId) (b : Published) → (behind_learning s p b).touched (view_cell p) ≡ true
learning_viewed s p b =
    let u : Under Cell Content = holding same_cell (view_cell p) (viewed (resolved b.value)) (untouched s) in
    let rest = and_then (and_then (fence_of (reference.Promise p)) (end_joined b.value)) (λ t. coming_in b.fences (references b.value)) in
    (cells_only_grow Cell Content Nothing same_cell rest u).touched (view_cell p) (or_left (same_cell (view_cell p) (view_cell p)) false (cell_self (view_cell p)))
