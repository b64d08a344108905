-- What is made, and what is published, touches and writes by the table.
use Rattle.std.proofs.Common.{◌≡◌, Bool, true, false, Option, Some, None, option_map, List, [], ◌∷◌, refl, sym, ap, ◌∙◌, subst}
use Rattle.ids.specs.declared.names.VatNo.{VatNo}
use Rattle.ids.specs.declared.names.MsgId.{MsgId}
use Rattle.ids.specs.declared.names.PromId.{PromId}
use Rattle.ids.specs.declared.names.ObjId.{ObjId}
use Rattle.ids.specs.declared.reference.Reference.{Reference}
use Rattle.cells.specs.Doing.{over, writes, Under, touching, play, and_then}
use Rattle.eorder.specs.Carried.{Carried}
use Rattle.kernele.specs.Tree.{Name}
use Rattle.values.specs.Data.{Val, broken, Vals, no_vals, and_val}
use Rattle.values.specs.Replies.{text_in}
use Rattle.heap.specs.State.{Cell, object_cell, view_cell, fence_cell, Content, made, resolver, viewed, fenced, pending, State, same_cell}
use Rattle.refs.specs.Walks.{Resolutions, walked, followed}
use Rattle.refs.specs.Settling.{settling}
use Rattle.sends.specs.Vats.{Vat, Nothing, ended, settled, settled_behind, all_settled, reference_in, references, references_in, each_once, leaving, comes_in, sent_after, goes_to}
use Rattle.sends.specs.Making.{Making, makes, of_settled, with_room, Sent, send_placed, condition, Published, entered_at, entered_if_come, publishing, first_use, used, smashed_by, told}
use Rattle.sends.specs.Playing.{views_in, looked_at}
use Rattle.sends.specs.Table.{Foot, Goes, HasFoot, looks, changes, if_absent, both, of_any, of_made, where_room, end_taken, form_taken, forms_taken, promise_comes, promise_entered, references_pass, message_sent, promise_published, resolver_used}
use Rattle.sends.specs.Laws.{given, MessagesAreSent, WhensAreMade, PairsAreMade, ValuesArePublished, TurnsPublish, ResolversResolve, ResolversSmash}
use Rattle.sends.proofs.Playing.{played, looked_state}
use Rattle.sends.proofs.Feet.{stays, touched_one, written_one, read_and_written, then_goes, foot_then, foot_alone, looked}
use Rattle.sends.proofs.Table.{Has, still, ended_by, settled_by, promises_come, promises_are_entered, references_leave, carried_state}

-- what is done has the foot that its result gives
abbrev Makes : {R : Type 0} → Vat (Making R) → Under Cell Content → (Making R → Foot) → Type 0
Makes d u f = HasFoot d u (f (given d u))

-- once something that makes nothing by itself was done
after : {A R : Type 0} (d : Vat A) (k : A → Vat (Making R)) (u v : Under Cell Content) (a : A) (f : Foot) (g : Making R → Foot) → play same_cell d u ≡ (a, v) → Goes f u v → Makes (k a) v g → Makes (and_then d k) u (λ m. both f (g m))
after {A} {R} d k u v a f g h i j =
    subst (λ (p : Making R × Under Cell Content). Goes (both f (g p.0)) u p.1) (sym (played d k u v a h)) (then_goes f (g (given (k a) v)) u v (play same_cell (k a) v).1 i j)

-- what is made of the result of what is done
made_by : {A R : Type 0} (d : Vat A) (h : A → R) (u : Under Cell Content) (f : R → Foot) → HasFoot d u (f (h (play same_cell d u).0)) → Makes (and_then d (λ a. over (makes (h a)))) u (of_made f)
made_by {A} {R} d h u f g =
    let p : A × Under Cell Content = play same_cell d u in
    subst (λ (q : Making R × Under Cell Content). Goes (of_made f q.0) u q.1) (sym (played d (λ a. over (makes (h a))) u p.1 p.0 refl)) g

-- where there is room, and where there is a settled form
roomed : {R : Type 0} (room : Bool) (d : Vat (Making R)) (u : Under Cell Content) (f : R → Foot) → Makes d u (of_made f) → Makes (with_room room d) u (of_made f)
roomed true d u f h = h
roomed false d u f h = stays u

formed : {A R : Type 0} (k : A → Vat (Making R)) (o : Option A) (u : Under Cell Content) (f : R → Foot) → ((x : A) → Makes (k x) u (of_made f)) → Makes (of_settled k o) u (of_made f)
formed k None u f h = stays u
formed k (Some x) u f h = h x

-- a promise comes in by what was in its view before
came : (s : State) (p : PromId) (u : Under Cell Content) → u.state (view_cell p) ≡ s (view_cell p) → HasFoot (comes_in p) u (promise_comes s p)
came s p u e = subst (λ (x : Option Content). Goes (record { touched = view_cell p ∷ []; written = if_absent x (view_cell p) }) u (play same_cell (comes_in p) u).1) e (promises_come u p)

-- ---- a send

behind_state : (vs : Vals) (o : Option Val) (k : Under Cell Content) → (play same_cell (all_settled vs) k).1.state ≡ k.state → (play same_cell (settled_behind (λ w. all_settled vs) o) k).1.state ≡ k.state
behind_state vs None k h = refl
behind_state vs (Some w) k h =
    let p : Option Vals × Under Cell Content = play same_cell (all_settled vs) k in
    ap (λ q. q.1.state) (played (all_settled vs) (λ o. over (option_map (and_val w) o)) k p.1 p.0 refl) ∙ h

all_settled_state : (vs : Vals) (u : Under Cell Content) → (play same_cell (all_settled vs) u).1.state ≡ u.state
all_settled_state no_vals u = refl
all_settled_state (and_val v vs) u =
    let m : Resolutions = views_in u.state in
    let k : Under Cell Content = looked_at (settling m v).through u in
    ap (λ p. p.1.state) (played (settled v) (settled_behind (λ w. all_settled vs)) u k (settling m v).settled (settled_by m u v refl))
    ∙ behind_state vs (settling m v).settled k (all_settled_state vs k)
    ∙ looked_state (settling m v).through u

behind_foot : (m : Resolutions) (vs : Vals) (o : Option Val) (k : Under Cell Content) → HasFoot (all_settled vs) k (forms_taken m vs) → HasFoot (settled_behind (λ w. all_settled vs) o) k (of_any (λ w. forms_taken m vs) o)
behind_foot m vs None k h = stays k
behind_foot m vs (Some w) k h = foot_alone (all_settled vs) (λ o. option_map (and_val w) o) k (forms_taken m vs) h

all_settled_foot : (m : Resolutions) (vs : Vals) (u : Under Cell Content) → Has m u → HasFoot (all_settled vs) u (forms_taken m vs)
all_settled_foot m no_vals u e = stays u
all_settled_foot m (and_val v vs) u e =
    let k : Under Cell Content = looked_at (settling m v).through u in
    let o : Option Val = (settling m v).settled in
    foot_then (settled v) (settled_behind (λ w. all_settled vs)) u k o (form_taken m v) (of_any (λ w. forms_taken m vs) o) (settled_by m u v e) (looked (settling m v).through u)
    (behind_foot m vs o k (all_settled_foot m vs k (still m (settling m v).through u e)))

sent_foot : (m : MsgId) (o : Option Reference) (u : Under Cell Content) → HasFoot (sent_after m o) u (of_any (λ t. changes (fence_cell t)) o)
sent_foot m None u = stays u
sent_foot m (Some t) u = read_and_written (fence_cell t) (fenced (m ∷ [])) u

sent_state : (m : MsgId) (o : Option Reference) (u : Under Cell Content) (p : PromId) → (play same_cell (sent_after m o) u).1.state (view_cell p) ≡ u.state (view_cell p)
sent_state m None u p = refl
sent_state m (Some t) u p = refl

placed_foot : (here : VatNo) (m : MsgId) (result : VatNo → PromId) (t : Val) (us : Vals) (u : Under Cell Content) (s : State) → u.state ≡ s → Makes (send_placed here m result t us) u (of_made (message_sent s))
placed_foot here m result t us u s e =
    let p : PromId = result (goes_to here t) in
    let a : List MsgId × Under Cell Content = play same_cell (sent_after m (reference_in t)) u in
    let b : Carried × Under Cell Content = play same_cell (leaving (references_in us)) a.1 in
    let c : Nothing × Under Cell Content = play same_cell (comes_in p) b.1 in
    let x : Sent = record { target = t; arguments = us; fences = b.0; after = a.0; result = p } in
    let its : play same_cell (send_placed here m result t us) u ≡ (makes x, c.1) =
    played (sent_after m (reference_in t)) (λ after. and_then (leaving (references_in us)) (λ c. and_then (comes_in p) (λ n. over (makes (record { target = t; arguments = us; fences = c; after = after; result = p }))))) u a.1 a.0 refl
    ∙ played (leaving (references_in us)) (λ c. and_then (comes_in p) (λ n. over (makes (record { target = t; arguments = us; fences = c; after = a.0; result = p })))) a.1 b.1 b.0 refl
    ∙ played (comes_in p) (λ n. over (makes x)) b.1 c.1 c.0 refl in
    let on : Foot = of_any (λ t. changes (fence_cell t)) (reference_in t) in
    let passed : Foot = references_pass (references_in us) in
    let view : b.1.state (view_cell p) ≡ s (view_cell p) = ap (λ s. s (view_cell p)) (carried_state [] (each_once [] (references_in us)) a.1) ∙ sent_state m (reference_in t) u p ∙ ap (λ s. s (view_cell p)) e in
    subst (λ (q : Making Sent × Under Cell Content). Goes (of_made (message_sent s) q.0) u q.1) (sym its)
    (then_goes on (both passed (promise_comes s p)) u a.1 c.1 (sent_foot m (reference_in t) u)
    (then_goes passed (promise_comes s p) a.1 b.1 c.1 (references_leave a.1 (references_in us)) (came s p b.1 view)))

-- once the receiver is settled
arguments_foot : (here : VatNo) (m : MsgId) (room : Bool) (result : VatNo → PromId) (vs : Vals) (o : Option Val) (k : Under Cell Content) (s : State) → k.state ≡ s
    → Makes (of_settled (λ t. and_then (all_settled vs) (of_settled (λ us. with_room room (send_placed here m result t us)))) o) k (λ x. both (of_any (λ t. forms_taken (views_in s) vs) o) (of_made (message_sent s) x))
arguments_foot here m room result vs None k s e = stays k
arguments_foot here m room result vs (Some t) k s e =
    let p : Option Vals × Under Cell Content = play same_cell (all_settled vs) k in
    let place : Vals → Vat (Making Sent) = λ us. with_room room (send_placed here m result t us) in
    after (all_settled vs) (of_settled place) k p.1 p.0 (forms_taken (views_in s) vs) (of_made (message_sent s)) refl (all_settled_foot (views_in s) vs k (ap views_in e))
    (formed place p.0 p.1 (message_sent s) (λ us. roomed room (send_placed here m result t us) p.1 (message_sent s) (placed_foot here m result t us p.1 s (all_settled_state vs k ∙ e))))

pub messages_are_sent : MessagesAreSent
messages_are_sent u here m room result v vs =
    let r : Resolutions = views_in u.state in
    let k : Under Cell Content = looked_at (settling r v).through u in
    let o : Option Val = (settling r v).settled in
    after (settled v) (of_settled (λ t. and_then (all_settled vs) (of_settled (λ us. with_room room (send_placed here m result t us))))) u k o (form_taken r v)
    (λ x. both (of_any (λ t. forms_taken r vs) o) (of_made (message_sent u.state) x)) (settled_by r u v refl) (looked (settling r v).through u)
    (arguments_foot here m room result vs o k u.state (looked_state (settling r v).through u))

-- ---- a when, and a promise with its resolver

-- where there is room for one more
in_room : {R : Type 0} (room : Bool) (d : Vat (Making R)) (u : Under Cell Content) (f : Foot) → HasFoot d u f → HasFoot (with_room room d) u (where_room room f)
in_room true d u f h = h
in_room false d u f h = stays u

pub whens_are_made : WhensAreMade
whens_are_made u room p v =
    let m : Resolutions = views_in u.state in
    let k : Under Cell Content = looked_at (walked m v) u in
    let w : Val = followed m v in
    let f : Foot = promise_comes u.state p in
    foot_then (ended v) (λ w. with_room room (and_then (comes_in p) (λ n. over (makes (condition p w))))) u k w (end_taken m v) (where_room room f) (ended_by m u v refl) (looked (walked m v) u)
    (in_room room (and_then (comes_in p) (λ n. over (makes (condition p w)))) k f
    (foot_alone (comes_in p) (λ n. makes (condition p w)) k f (came u.state p k (ap (λ s. s (view_cell p)) (looked_state (walked m v) u)))))

pub pairs_are_made : PairsAreMade
pairs_are_made u room p o =
    let a : Nothing × Under Cell Content = play same_cell (comes_in p) u in
    let makes_it : Nothing → Vat (Making ObjId) = λ n. writes (object_cell o) (made (resolver p)) (over (makes o)) in
    in_room room (and_then (comes_in p) makes_it) u (both (promise_comes u.state p) (changes (object_cell o)))
    (foot_then (comes_in p) makes_it u a.1 a.0 (promise_comes u.state p) (changes (object_cell o)) refl (promises_come u p) (written_one (object_cell o) (made (resolver p)) a.1))

-- ---- what is published

-- where a promise is entered if it has come
abbrev entered_there : State → PromId → Val → Foot
entered_there s p v = both (looks (view_cell p ∷ [])) (of_any (λ x. promise_entered s p v) (s (view_cell p)))

at_foot : (p : PromId) (v : Val) (x : Option Content) (k : Under Cell Content) → HasFoot (entered_at p v x) k (of_any (λ x. promise_entered k.state p v) x)
at_foot p v None k = stays k
at_foot p v (Some x) k = promises_are_entered k p v

if_come_foot : (p : PromId) (v : Val) (u : Under Cell Content) → HasFoot (entered_if_come p v) u (entered_there u.state p v)
if_come_foot p v u =
    let k : Under Cell Content = touching same_cell (view_cell p) u in
    then_goes (looks (view_cell p ∷ [])) (of_any (λ x. promise_entered u.state p v) (u.state (view_cell p))) u k (play same_cell (entered_at p v (u.state (view_cell p))) k).1
    (touched_one (view_cell p) u) (at_foot p v (u.state (view_cell p)) k)

-- what is published once the references are passed
abbrev passed_on : PromId → Val → Carried → Vat Published
passed_on p v c = and_then (entered_if_come p v) (λ t. over (record { value = v; fences = c; joined = t }))

pub values_are_published : ValuesArePublished
values_are_published u p v =
    let a : Carried × Under Cell Content = play same_cell (leaving (references v)) u in
    let still_there : a.1.state ≡ u.state = carried_state [] (each_once [] (references v)) u in
    foot_then (leaving (references v)) (passed_on p v) u a.1 a.0 (references_pass (references v)) (entered_there u.state p v) refl (references_leave u (references v))
    (foot_alone (entered_if_come p v) (λ t. record { value = v; fences = a.0; joined = t }) a.1 (entered_there u.state p v)
    (subst (λ (s : State). HasFoot (entered_if_come p v) a.1 (entered_there s p v)) still_there (if_come_foot p v a.1)))

-- the value is the one that was to be published
published_value : (p : PromId) (v : Val) (u : Under Cell Content) → (play same_cell (publishing p v) u).0.value ≡ v
published_value p v u =
    let a : Carried × Under Cell Content = play same_cell (leaving (references v)) u in
    let b : Option Reference × Under Cell Content = play same_cell (entered_if_come p v) a.1 in
    ap (λ q. q.0.value) (played (leaving (references v)) (passed_on p v) u a.1 a.0 refl ∙ played (entered_if_come p v) (λ t. over (record { value = v; fences = a.0; joined = t })) a.1 b.1 b.0 refl)

pub turns_publish : TurnsPublish
turns_publish u p r = values_are_published u p (told r)

-- ---- resolvers

-- a promise is published, whatever value that has
abbrev publishes : State → PromId → Published → Foot
publishes s p b = promise_published s p b.value

first_foot : (p : PromId) (v : Val) (x : Option Content) (k : Under Cell Content) → Makes (first_use p v x) k (of_made (publishes k.state p))
first_foot p v (Some (viewed pending)) k =
    made_by (publishing p v) (λ b. b) k (publishes k.state p) (subst (λ (w : Val). HasFoot (publishing p v) k (promise_published k.state p w)) (sym (published_value p v k)) (values_are_published k p v))
first_foot p v _ k = stays k

used_foot : (s : State) (p : PromId) (v : Val) (u : Under Cell Content) → u.state ≡ s → Makes (used p v) u (λ m. both (looks (view_cell p ∷ [])) (of_made (publishes s p) m))
used_foot s p v u e =
    let k : Under Cell Content = touching same_cell (view_cell p) u in
    let d : Vat (Making Published) = first_use p v (u.state (view_cell p)) in
    then_goes (looks (view_cell p ∷ [])) (of_made (publishes s p) (given d k)) u k (play same_cell d k).1 (touched_one (view_cell p) u)
    (subst (λ (s : State). Makes d k (of_made (publishes s p))) e (first_foot p v (u.state (view_cell p)) k))

form_used : (s : State) (p : PromId) (o : Option Val) (k : Under Cell Content) → k.state ≡ s → Makes (of_settled (used p) o) k (resolver_used s p o)
form_used s p None k e = stays k
form_used s p (Some w) k e = used_foot s p w k e

pub resolvers_resolve : ResolversResolve
resolvers_resolve u p v =
    let m : Resolutions = views_in u.state in
    let k : Under Cell Content = looked_at (settling m v).through u in
    let o : Option Val = (settling m v).settled in
    after (settled v) (of_settled (used p)) u k o (form_taken m v) (resolver_used u.state p o) (settled_by m u v refl) (looked (settling m v).through u)
    (form_used u.state p o k (looked_state (settling m v).through u))

text_used : (s : State) (p : PromId) (w : Val) (o : Option Name) (k : Under Cell Content) → k.state ≡ s → Makes (smashed_by p w o) k (resolver_used s p o)
text_used s p w None k e = stays k
text_used s p w (Some words) k e = used_foot s p (broken words) k e

pub resolvers_smash : ResolversSmash
resolvers_smash u p v =
    let m : Resolutions = views_in u.state in
    let k : Under Cell Content = looked_at (walked m v) u in
    let w : Val = followed m v in
    after (ended v) (λ w. smashed_by p w (text_in w)) u k w (end_taken m v) (resolver_used u.state p (text_in w)) (ended_by m u v refl) (looked (walked m v) u)
    (text_used u.state p w (text_in w) k (looked_state (walked m v) u))
