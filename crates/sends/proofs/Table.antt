-- What is done touches and writes by the table.
use Rattle.std.proofs.Common.{◌≡◌, Bool, true, false, ◌||◌, ◌&&◌, not, cond, Option, Some, None, is_some, List, [], ◌∷◌, ◌++◌, map, refl, sym, ap, ◌∙◌, subst}
use Rattle.ids.specs.declared.names.MsgId.{MsgId}
use Rattle.ids.specs.declared.names.PromId.{PromId}
use Rattle.ids.specs.declared.reference.Reference.{Reference}
use Rattle.ids.specs.declared.reference.Reference.TheVariants as reference
use Rattle.cells.specs.Doing.{over, Under, touching, holding, play, and_then}
use Rattle.eorder.specs.Carried.{Carried, with_fence}
use Rattle.eorder.specs.Fences.{joined}
use Rattle.values.specs.Data.{Val}
use Rattle.heap.specs.State.{Cell, view_cell, fence_cell, Content, viewed, fenced, pending, resolved, State, same_cell}
use Rattle.heap.proofs.Cells.{cell_exact}
use Rattle.refs.specs.Walks.{Resolutions, walked, followed}
use Rattle.refs.specs.Settling.{settling}
use Rattle.sends.specs.Vats.{Vat, Nothing, resolution_in, ended, settled, reference_in, value_of, each_once, names_of, carried, leaving, names_for, fence_joined, end_joined, entrance, brought, all_brought, received, arrived, coming_in}
use Rattle.sends.specs.Playing.{views_in, looked_at}
use Rattle.sends.specs.Table.{Foot, among, Goes, HasFoot, looks, changes, if_absent, fills, both, of_each, of_any, end_taken, form_taken, reference_comes, fence_grows, end_grows, references_come, references_pass}
use Rattle.sends.specs.Laws.{EndsAreTaken, FormsAreTaken, PromisesCome, ReferencesCome, PromisesAreEntered, ReferencesPass}
use Rattle.sends.proofs.Playing.{played, looked_state}
use Rattle.sends.proofs.Followed.{ends_are_followed}
use Rattle.sends.proofs.Settled.{settled_alike}
use Rattle.sends.proofs.Feet.{stays, touched_one, written_one, read_and_written, then_goes, foot_then, foot_alone, looked, SameFoot, same_goes, both_same, each_alike, fences_alike, among_both}

-- cells whose views are this map
abbrev pub Has : Resolutions → Under Cell Content → Type 0
Has m u = views_in u.state ≡ m

-- ---- ends and settled forms

pub ended_by : (m : Resolutions) (u : Under Cell Content) (v : Val) → Has m u → play same_cell (ended v) u ≡ (followed m v, looked_at (walked m v) u)
ended_by m u v e = subst (λ (k : Resolutions). play same_cell (ended v) u ≡ (followed k v, looked_at (walked k v) u)) e (ends_are_followed u v)

pub settled_by : (m : Resolutions) (u : Under Cell Content) (v : Val) → Has m u → play same_cell (settled v) u ≡ ((settling m v).settled, looked_at (settling m v).through u)
settled_by m u v e = subst (λ (k : Resolutions). play same_cell (settled v) u ≡ ((settling k v).settled, looked_at (settling k v).through u)) e (settled_alike u v)

pub ends_are_taken : EndsAreTaken
ends_are_taken u v = subst (λ (p : Val × Under Cell Content). Goes (end_taken (views_in u.state) v) u p.1) (sym (ends_are_followed u v)) (looked (walked (views_in u.state) v) u)

pub forms_are_taken : FormsAreTaken
forms_are_taken u v = subst (λ (p : Option Val × Under Cell Content). Goes (form_taken (views_in u.state) v) u p.1) (sym (settled_alike u v)) (looked (settling (views_in u.state) v).through u)

-- looking at views changes no contents
pub still : (m : Resolutions) (ps : List PromId) (u : Under Cell Content) → Has m u → Has m (looked_at ps u)
still m ps u e = ap views_in (looked_state ps u) ∙ e

-- ---- fences are added

fence_foot : (o : Option Reference) (f : List MsgId) (u : Under Cell Content) → HasFoot (fence_joined o f) u (of_any (fence_grows f) o)
fence_foot None f u = stays u
fence_foot (Some t) [] u = stays u
fence_foot (Some t) (m ∷ f) u = read_and_written (fence_cell t) (fenced (joined (names_of (u.state (fence_cell t))) (m ∷ f))) u

fence_views : (m : Resolutions) (o : Option Reference) (f : List MsgId) (u : Under Cell Content) → Has m u → Has m (play same_cell (fence_joined o f) u).1
fence_views m None f u e = e
fence_views m (Some t) [] u e = e
fence_views m (Some t) (n ∷ f) u e = e

-- what is added once the end is there
abbrev adding : List MsgId → Val → Vat (Option Reference)
adding f w = and_then (fence_joined (reference_in w) f) (λ n. over (reference_in w))

pub end_foot : (m : Resolutions) (u : Under Cell Content) (v : Val) (f : List MsgId) → Has m u → HasFoot (end_joined v f) u (end_grows m v f)
end_foot m u v f e =
    let w : Val = followed m v in
    let k : Under Cell Content = looked_at (walked m v) u in
    foot_then (ended v) (adding f) u k w (end_taken m v) (of_any (fence_grows f) (reference_in w)) (ended_by m u v e) (looked (walked m v) u)
    (foot_alone (fence_joined (reference_in w) f) (λ n. reference_in w) k (of_any (fence_grows f) (reference_in w)) (fence_foot (reference_in w) f k))

pub end_views : (m : Resolutions) (u : Under Cell Content) (v : Val) (f : List MsgId) → Has m u → Has m (play same_cell (end_joined v f) u).1
end_views m u v f e =
    let w : Val = followed m v in
    let k : Under Cell Content = looked_at (walked m v) u in
    let l : Nothing × Under Cell Content = play same_cell (fence_joined (reference_in w) f) k in
    ap (λ p. views_in p.1.state) (played (ended v) (adding f) u k w (ended_by m u v e) ∙ played (fence_joined (reference_in w) f) (λ n. over (reference_in w)) k l.1 l.0 refl)
    ∙ fence_views m (reference_in w) f k (still m (walked m v) u e)

received_foot : (m : Resolutions) (c : Carried) (rs : List Reference) (u : Under Cell Content) → Has m u → HasFoot (received c rs) u (of_each (λ r. end_grows m (value_of r) (names_for c r)) rs)
received_foot m c [] u e = stays u
received_foot m c (r ∷ rs) u e =
    let d : Vat (Option Reference) = end_joined (value_of r) (names_for c r) in
    let p : Option Reference × Under Cell Content = play same_cell d u in
    foot_then d (λ t. received c rs) u p.1 p.0 (end_grows m (value_of r) (names_for c r)) (of_each (λ r. end_grows m (value_of r) (names_for c r)) rs) refl (end_foot m u (value_of r) (names_for c r) e)
    (received_foot m c rs p.1 (end_views m u (value_of r) (names_for c r) e))

-- ---- promises come in

-- by what was in the view
entrance_foot : (p : PromId) (x : Option Content) (u : Under Cell Content) → Goes (record { touched = view_cell p ∷ []; written = if_absent x (view_cell p) }) u (play same_cell (entrance p x) (touching same_cell (view_cell p) u)).1
entrance_foot p None u = read_and_written (view_cell p) (viewed pending) u
entrance_foot p (Some x) u = touched_one (view_cell p) u

pub promises_come : PromisesCome
promises_come u p = entrance_foot p (u.state (view_cell p)) u

pending_alike : (b : Bool) (x : Option Content) → (b ≡ true → x ≡ None) → resolution_in (cond b (Some (viewed pending)) x) ≡ resolution_in x
pending_alike true x h = ap resolution_in (sym (h refl))
pending_alike false x h = refl

entrance_views : (m : Resolutions) (p : PromId) (x : Option Content) (u : Under Cell Content) → u.state (view_cell p) ≡ x → Has m u → Has m (play same_cell (entrance p x) (touching same_cell (view_cell p) u)).1
entrance_views m p None u h e = (λ i q. pending_alike (same_cell (view_cell p) (view_cell q)) (u.state (view_cell q)) (λ s. ap u.state (sym (cell_exact (view_cell p) (view_cell q) s)) ∙ h) i) ∙ e
entrance_views m p (Some x) u h e = e

brought_foot : (r : Reference) (u : Under Cell Content) → HasFoot (brought r) u (reference_comes u.state r)
brought_foot (reference.Object i) u = stays u
brought_foot (reference.Ejector j) u = stays u
brought_foot (reference.Promise p) u = promises_come u p

brought_views : (m : Resolutions) (r : Reference) (u : Under Cell Content) → Has m u → Has m (play same_cell (brought r) u).1
brought_views m (reference.Object i) u e = e
brought_views m (reference.Ejector j) u e = e
brought_views m (reference.Promise p) u e = entrance_views m p (u.state (view_cell p)) u refl e

all_brought_views : (m : Resolutions) (rs : List Reference) (u : Under Cell Content) → Has m u → Has m (play same_cell (all_brought rs) u).1
all_brought_views m [] u e = e
all_brought_views m (r ∷ rs) u e =
    let p : Nothing × Under Cell Content = play same_cell (brought r) u in
    ap (λ q. views_in q.1.state) (played (brought r) (λ n. all_brought rs) u p.1 p.0 refl) ∙ all_brought_views m rs p.1 (brought_views m r u e)

-- a cell is written by what was in it
filled : (b : Bool) (x y : Option Content) (k c : Cell) → same_cell k c ≡ b → (b ≡ true → x ≡ y) → among (if_absent x k) c ≡ (b && not (is_some y))
filled true None y k c e h = ap (λ b. b || false) e ∙ ap (λ y. not (is_some y)) (h refl)
filled true (Some x) y k c e h = ap (λ y. not (is_some y)) (h refl)
filled false None y k c e h = ap (λ b. b || false) e
filled false (Some x) y k c e h = refl

pub fills_by : (s : State) (k c : Cell) → among (fills s k).written c ≡ (same_cell k c && not (is_some (s c)))
fills_by s k c = filled (same_cell k c) (s k) (s c) k c refl (λ h. ap s (cell_exact k c h))

comes_by : (s t : State) (c : Cell) → s c ≡ t c → (r : Reference) → among (reference_comes s r).written c ≡ among (reference_comes t r).written c
comes_by s t c e (reference.Object i) = refl
comes_by s t c e (reference.Ejector j) = refl
comes_by s t c e (reference.Promise p) = fills_by s (view_cell p) c ∙ ap (λ x. same_cell (view_cell p) c && not (is_some x)) e ∙ sym (fills_by t (view_cell p) c)

all_come_by : (s t : State) (c : Cell) → s c ≡ t c → (rs : List Reference) → among (of_each (reference_comes s) rs).written c ≡ among (of_each (reference_comes t) rs).written c
all_come_by s t c e [] = refl
all_come_by s t c e (r ∷ rs) =
    among_both (reference_comes s r).written (of_each (reference_comes s) rs).written c
    ∙ (λ i. comes_by s t c e r i || all_come_by s t c e rs i)
    ∙ sym (among_both (reference_comes t r).written (of_each (reference_comes t) rs).written c)

looked_for : (s t : State) (r : Reference) → (reference_comes s r).touched ≡ (reference_comes t r).touched
looked_for s t (reference.Object i) = refl
looked_for s t (reference.Ejector j) = refl
looked_for s t (reference.Promise p) = refl

all_looked_for : (s t : State) (rs : List Reference) → (of_each (reference_comes s) rs).touched ≡ (of_each (reference_comes t) rs).touched
all_looked_for s t [] = refl
all_looked_for s t (r ∷ rs) = λ i. looked_for s t r i ++ all_looked_for s t rs i

no_more : (a : Bool) → (a || false) ≡ false → a ≡ false
no_more true h = h
no_more false h = refl

-- where a promise did not come in just now, its view is as it was
pub entrance_state : (p : PromId) (x : Option Content) (u : Under Cell Content) (c : Cell) → among (if_absent x (view_cell p)) c ≡ false → (play same_cell (entrance p x) (touching same_cell (view_cell p) u)).1.state c ≡ u.state c
entrance_state p None u c h = ap (λ b. cond b (Some (viewed pending)) (u.state c)) (no_more (same_cell (view_cell p) c) h)
entrance_state p (Some x) u c h = refl

brought_state : (r : Reference) (u : Under Cell Content) (c : Cell) → among (reference_comes u.state r).written c ≡ false → (play same_cell (brought r) u).1.state c ≡ u.state c
brought_state (reference.Object i) u c h = refl
brought_state (reference.Ejector j) u c h = refl
brought_state (reference.Promise p) u c h = entrance_state p (u.state (view_cell p)) u c h

pub either : (a x y : Bool) → (a ≡ false → x ≡ y) → (a || x) ≡ (a || y)
either true x y h = refl
either false x y h = h refl

-- so each promise is written by what was in its view before any came in
before : (r : Reference) (rs : List Reference) (u : Under Cell Content) → SameFoot (both (reference_comes u.state r) (of_each (reference_comes (play same_cell (brought r) u).1.state) rs)) (both (reference_comes u.state r) (of_each (reference_comes u.state) rs))
before r rs u =
    let s : State = (play same_cell (brought r) u).1.state in
    let f : Foot = reference_comes u.state r in
    record {
      touched = λ c. ap (λ ks. among (f.touched ++ ks) c) (all_looked_for s u.state rs);
      written = λ c.
          among_both f.written (of_each (reference_comes s) rs).written c
          ∙ either (among f.written c) (among (of_each (reference_comes s) rs).written c) (among (of_each (reference_comes u.state) rs).written c) (λ h. all_come_by s u.state c (brought_state r u c h) rs)
          ∙ sym (among_both f.written (of_each (reference_comes u.state) rs).written c);
    }

all_brought_foot : (rs : List Reference) (u : Under Cell Content) → HasFoot (all_brought rs) u (of_each (reference_comes u.state) rs)
all_brought_foot [] u = stays u
all_brought_foot (r ∷ rs) u =
    let p : Nothing × Under Cell Content = play same_cell (brought r) u in
    let f : Foot = reference_comes u.state r in
    same_goes (both f (of_each (reference_comes p.1.state) rs)) (both f (of_each (reference_comes u.state) rs)) u (play same_cell (all_brought (r ∷ rs)) u).1 (before r rs u)
    (foot_then (brought r) (λ n. all_brought rs) u p.1 p.0 f (of_each (reference_comes p.1.state) rs) refl (brought_foot r u) (all_brought_foot rs p.1))

arrived_foot : (u : Under Cell Content) (c : Carried) (rs : List Reference) → HasFoot (arrived c rs) u (references_come u.state c rs)
arrived_foot u c rs =
    let m : Resolutions = views_in u.state in
    let p : Nothing × Under Cell Content = play same_cell (all_brought rs) u in
    foot_then (all_brought rs) (λ n. received c rs) u p.1 p.0 (of_each (reference_comes u.state) rs) (of_each (λ r. end_grows m (value_of r) (names_for c r)) rs) refl (all_brought_foot rs u)
    (received_foot m c rs p.1 (all_brought_views m rs u refl))

pub references_come_in : ReferencesCome
references_come_in u c rs =
    let m : Resolutions = views_in u.state in
    let some : List Reference = each_once [] rs in
    let grows : Reference → Foot = λ r. end_grows m (value_of r) (names_for c r) in
    same_goes (references_come u.state c some) (references_come u.state c rs) u (play same_cell (coming_in c rs) u).1
    (both_same (of_each (reference_comes u.state) some) (of_each (reference_comes u.state) rs) (of_each grows some) (of_each grows rs) (each_alike (reference_comes u.state) rs) (each_alike grows rs))
    (arrived_foot u c some)

-- ---- a promise is entered

pub promises_are_entered : PromisesAreEntered
promises_are_entered u p v =
    let q : Cell = fence_cell (reference.Promise p) in
    let k : Under Cell Content = holding same_cell (view_cell p) (viewed (resolved v)) u in
    let l : Under Cell Content = touching same_cell q k in
    let f : List MsgId = names_of (u.state q) in
    then_goes (both (changes (view_cell p)) (looks (q ∷ []))) (end_grows (views_in k.state) v f) u l (play same_cell (end_joined v f) l).1
    (then_goes (changes (view_cell p)) (looks (q ∷ [])) u k l (written_one (view_cell p) (viewed (resolved v)) u) (touched_one q k))
    (end_foot (views_in k.state) l v f refl)

-- ---- references leave

pub carried_foot : (c : Carried) (rs : List Reference) (u : Under Cell Content) → HasFoot (carried c rs) u (looks (map fence_cell rs))
carried_foot c [] u = stays u
carried_foot c (r ∷ rs) u =
    let k : Under Cell Content = touching same_cell (fence_cell r) u in
    let f : List MsgId = names_of (u.state (fence_cell r)) in
    then_goes (looks (fence_cell r ∷ [])) (looks (map fence_cell rs)) u k (play same_cell (carried (with_fence c r f) rs) k).1 (touched_one (fence_cell r) u) (carried_foot (with_fence c r f) rs k)

pub references_leave : ReferencesPass
references_leave u rs = same_goes (looks (map fence_cell (each_once [] rs))) (references_pass rs) u (play same_cell (leaving rs) u).1 (fences_alike rs) (carried_foot [] (each_once [] rs) u)

pub carried_state : (c : Carried) (rs : List Reference) (u : Under Cell Content) → (play same_cell (carried c rs) u).1.state ≡ u.state
carried_state c [] u = refl
carried_state c (r ∷ rs) u = carried_state (with_fence c r (names_of (u.state (fence_cell r)))) rs (touching same_cell (fence_cell r) u)
