-- What is done to the cells of a vat makes no resolver, and what the vat knows of promises it knows for ever.
use Rattle.std.proofs.Common.{◌≡◌, Bool, true, false, cond, is_some, List, [], ◌∷◌, Option, Some, None, true≢false, refl, sym, ap, ◌∙◌, subst}
use Rattle.ids.specs.declared.names.MsgId.{MsgId}
use Rattle.ids.specs.declared.names.PromId.{PromId}
use Rattle.ids.specs.declared.names.ObjId.{ObjId}
use Rattle.ids.specs.declared.reference.Reference.{Reference}
use Rattle.ids.specs.declared.reference.Reference.TheVariants as reference
use Rattle.cells.specs.Doing.{over, Under, touching, holding, play, and_then}
use Rattle.cells.proofs.Doings.{one_after_another}
use Rattle.eorder.specs.Carried.{Carried}
use Rattle.values.specs.Data.{Val, Vals, no_vals, and_val}
use Rattle.heap.specs.State.{Cell, view_cell, object_cell, pending, resolved, Plain, plain, resolver, Content, made, viewed, State, write, same_cell}
use Rattle.heap.proofs.Cells.{cell_exact, cell_self}
use Rattle.refs.specs.Settling.{settling}
use Rattle.sends.specs.Vats.{Vat, ended, settled, settled_behind, all_settled, reference_in, value_of, each_once, names_for, leaving, fence_of, fence_joined, end_joined, entrance, comes_in, brought, all_brought, received, coming_in, entered, sent_after, resolution_in}
use Rattle.sends.specs.Playing.{views_in}
use Rattle.sends.proofs.Playing.{looked_state}
use Rattle.sends.proofs.Settled.{settled_alike}
use Rattle.event_ordering.proofs.Effects.{ended_state, leaving_state}

-- whether a vat in this state knows what a promise was resolved to
abbrev pub knows : State → PromId → Bool
knows s p = is_some (views_in s p)

-- the object resolves the promise
abbrev pub HasResolver : State → ObjId → PromId → Type 0
HasResolver s i p = s (object_cell i) ≡ Some (made (resolver p))

-- from what is known, and the resolvers, to these: no resolver is new, and what was known is known
pub record Calm (ks : PromId → Bool) (rs : ObjId → PromId → Type 0) (ls : PromId → Bool) (ts : ObjId → PromId → Type 0) : Type 0 where
  pub known : (p : PromId) → ks p ≡ true → ls p ≡ true
  pub resolvers : (i : ObjId) (p : PromId) → ts i p → rs i p

abbrev pub CalmIn : State → State → Type 0
CalmIn s t = Calm (knows s) (HasResolver s) (knows t) (HasResolver t)

pub all_calm : {ks : PromId → Bool} {rs : ObjId → PromId → Type 0} → Calm ks rs ks rs
all_calm = record { known = λ p h. h; resolvers = λ i p h. h }

pub calm_then : {ks ls ms : PromId → Bool} {rs ts us : ObjId → PromId → Type 0} → Calm ks rs ls ts → Calm ls ts ms us → Calm ks rs ms us
calm_then f g = record { known = λ p h. g.known p (f.known p h); resolvers = λ i p h. f.resolvers i p (g.resolvers i p h) }

-- ---- writes

-- a promise that had not come comes, and is open
pub opened_calm : (s : State) (p : PromId) → s (view_cell p) ≡ None → CalmIn s (write s (view_cell p) (viewed pending))
opened_calm s p none = record { known = λ q h. go q (same_cell (view_cell p) (view_cell q)) refl h; resolvers = λ i q h. h }
  where
    go : (q : PromId) (b : Bool) → same_cell (view_cell p) (view_cell q) ≡ b → knows s q ≡ true → is_some (resolution_in (cond b (Some (viewed pending)) (s (view_cell q)))) ≡ true
    go q true e h = absurd (true≢false (sym h ∙ ap (λ c. is_some (resolution_in (s c))) (sym (cell_exact (view_cell p) (view_cell q) e)) ∙ ap (λ x. is_some (resolution_in x)) none))
    go q false e h = h

-- a promise is known from then on
pub resolved_calm : (s : State) (p : PromId) (v : Val) → CalmIn s (write s (view_cell p) (viewed (resolved v)))
resolved_calm s p v = record { known = λ q h. go q (same_cell (view_cell p) (view_cell q)) h; resolvers = λ i q h. h }
  where
    go : (q : PromId) (b : Bool) → knows s q ≡ true → is_some (resolution_in (cond b (Some (viewed (resolved v))) (s (view_cell q)))) ≡ true
    go q true h = refl
    go q false h = h

-- an object that a definition makes is no resolver
pub made_calm : (s : State) (i : ObjId) (o : Plain) → CalmIn s (write s (object_cell i) (made (plain o)))
made_calm s i o = record { known = λ q h. h; resolvers = λ j q h. go j q (same_cell (object_cell i) (object_cell j)) h }
  where
    go : (j : ObjId) (q : PromId) (b : Bool) → cond b (Some (made (plain o))) (s (object_cell j)) ≡ Some (made (resolver q)) → HasResolver s j q
    go j q true h = absurd (cc)
    go j q false h = h

-- ---- what is done

-- what is done is calm
abbrev pub Calmly : {R : Type 0} → Vat R → Type 0
Calmly d = (u : Under Cell Content) → CalmIn u.state (play same_cell d u).1.state

pub calmly_then : {A B : Type 0} (d : Vat A) (f : A → Vat B) → Calmly d → ((x : A) → Calmly (f x)) → Calmly (and_then d f)
calmly_then {A} {B} d f h g u =
    let q : A × Under Cell Content = play same_cell d u in
    subst (λ y. CalmIn u.state y.1.state) (sym (one_after_another Cell Content A B same_cell d f u)) (calm_then (h u) (g q.0 q.1))

-- where no cell is written
pub still_calm : (s t : State) → t ≡ s → CalmIn s t
still_calm s t e = subst (CalmIn s) (sym e) all_calm

pub settled_state : (v : Val) (u : Under Cell Content) → (play same_cell (settled v) u).1.state ≡ u.state
settled_state v u = ap (λ q. q.1.state) (settled_alike u v) ∙ looked_state (settling (views_in u.state) v).through u

pub ended_calm : (v : Val) → Calmly (ended v)
ended_calm v u = still_calm u.state (play same_cell (ended v) u).1.state (ended_state v u)

pub settled_calm : (v : Val) → Calmly (settled v)
settled_calm v u = still_calm u.state (play same_cell (settled v) u).1.state (settled_state v u)

behind_calm : (o : Option Val) (rest : Val → Vat (Option Vals)) → ((w : Val) → Calmly (rest w)) → Calmly (settled_behind rest o)
behind_calm None rest h u = all_calm
behind_calm (Some w) rest h u = calmly_then (rest w) (λ o. over _) (h w) (λ o u. all_calm) u

pub all_settled_calm : (vs : Vals) → Calmly (all_settled vs)
all_settled_calm no_vals u = all_calm
all_settled_calm (and_val v vs) u = calmly_then (settled v) (settled_behind (λ w. all_settled vs)) (settled_calm v) (λ o. behind_calm o (λ w. all_settled vs) (λ w. all_settled_calm vs)) u

pub leaving_calm : (rs : List Reference) → Calmly (leaving rs)
leaving_calm rs u = still_calm u.state (play same_cell (leaving rs) u).1.state (leaving_state rs u)

entrance_calm : (p : PromId) (x : Option Content) (u : Under Cell Content) → u.state (view_cell p) ≡ x → CalmIn u.state (play same_cell (entrance p x) u).1.state
entrance_calm p None u e = opened_calm u.state p e
entrance_calm p (Some x) u e = all_calm

pub comes_in_calm : (p : PromId) → Calmly (comes_in p)
comes_in_calm p u = entrance_calm p (u.state (view_cell p)) (touching same_cell (view_cell p) u) refl

joined_calm : (o : Option Reference) (f : List MsgId) → Calmly (fence_joined o f)
joined_calm None f u = all_calm
joined_calm (Some t) [] u = all_calm
joined_calm (Some t) (m ∷ f) u = all_calm

end_joined_calm : (v : Val) (f : List MsgId) → Calmly (end_joined v f)
end_joined_calm v f =
    calmly_then (ended v) (λ w. and_then (fence_joined (reference_in w) f) (λ n. over (reference_in w))) (ended_calm v)
    (λ w. calmly_then (fence_joined (reference_in w) f) (λ n. over (reference_in w)) (joined_calm (reference_in w) f) (λ n u. all_calm))

-- ---- what comes in

brought_calm : (r : Reference) → Calmly (brought r)
brought_calm (reference.Promise p) = comes_in_calm p
brought_calm (reference.Object i) = λ u. all_calm
brought_calm (reference.Ejector j) = λ u. all_calm

all_brought_calm : (rs : List Reference) → Calmly (all_brought rs)
all_brought_calm [] = λ u. all_calm
all_brought_calm (r ∷ rs) = calmly_then (brought r) (λ n. all_brought rs) (brought_calm r) (λ n. all_brought_calm rs)

received_calm : (c : Carried) (rs : List Reference) → Calmly (received c rs)
received_calm c [] = λ u. all_calm
received_calm c (r ∷ rs) = calmly_then (end_joined (value_of r) (names_for c r)) (λ t. received c rs) (end_joined_calm (value_of r) (names_for c r)) (λ t. received_calm c rs)

pub coming_in_calm : (c : Carried) (rs : List Reference) → Calmly (coming_in c rs)
coming_in_calm c rs = calmly_then (all_brought (each_once [] rs)) (λ n. received c (each_once [] rs)) (all_brought_calm (each_once [] rs)) (λ n. received_calm c (each_once [] rs))

-- ---- what is entered

-- behind the write of its view
entering_calm : (p : PromId) (v : Val) → Calmly (and_then (fence_of (reference.Promise p)) (end_joined v))
entering_calm p v = calmly_then (fence_of (reference.Promise p)) (end_joined v) (λ u. all_calm) (λ f. end_joined_calm v f)

pub entered_calm : (p : PromId) (v : Val) → Calmly (entered p v)
entered_calm p v u = calm_then (resolved_calm u.state p v) (entering_calm p v (holding same_cell (view_cell p) (viewed (resolved v)) u))

-- behind that it is known
pub entered_knows : (p : PromId) (v : Val) (u : Under Cell Content) → knows (play same_cell (entered p v) u).1.state p ≡ true
entered_knows p v u =
    (entering_calm p v (holding same_cell (view_cell p) (viewed (resolved v)) u)).known p (ap (λ b. is_some (resolution_in (cond b (Some (viewed (resolved v))) (u.state (view_cell p))))) (cell_self (view_cell p)))

pub sent_after_calm : (m : MsgId) (o : Option Reference) → Calmly (sent_after m o)
sent_after_calm m None = λ u. all_calm
sent_after_calm m (Some t) = λ u. all_calm
