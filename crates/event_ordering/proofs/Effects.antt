-- What is done to the cells of a vat does to its fences.
use Rattle.std.proofs.Common.{◌≡◌, Bool, true, false, cond, ◌||◌, ◌&&◌, List, [], ◌∷◌, ◌++◌, Option, Some, None, is_some, true≢false, refl, sym, ap, ◌∙◌, subst}
use Rattle.ids.proofs.References.{reference_equal, reference_self}
use Rattle.ids.specs.References.{same_reference}
use Rattle.ids.specs.declared.names.VatNo.{VatNo}
use Rattle.ids.specs.declared.names.MsgId.{MsgId}
use Rattle.ids.specs.declared.names.PromId.{PromId}
use Rattle.ids.specs.declared.names.ObjId.{ObjId}
use Rattle.ids.specs.declared.reference.Reference.{Reference}
use Rattle.ids.specs.declared.reference.Reference.TheVariants as reference
use Rattle.cells.specs.Doing.{over, writes, Under, touching, holding, play, and_then}
use Rattle.cells.proofs.Doings.{one_after_another}
use Rattle.eorder.specs.Fences.{member, joined as both, names_in, cell_of}
use Rattle.eorder.specs.Carried.{Carried, fence_with, with_fence, carries}
use Rattle.eorder.proofs.FenceSets.{fences_are_sets}
use Rattle.eorder.specs.Places.{same_message}
use Rattle.kernele.specs.Tree.{Name}
use Rattle.values.specs.Data.{Val, broken, Vals, no_vals, and_val}
use Rattle.values.specs.Replies.{text_in}
use Rattle.heap.specs.State.{Cell, view_cell, object_cell, fence_cell, pending, resolved, Content, bound, held, made, viewed, fenced, resolver, same_cell}
use Rattle.refs.specs.Walks.{Resolutions, walked, followed}
use Rattle.refs.specs.Settling.{settling}
use Rattle.sends.specs.Vats.{Vat, Nothing, names_of, names_for, ended, settled, settled_behind, all_settled, reference_in, references, references_in, each_once, carried, leaving, fence_joined, end_joined, entrance, comes_in, entered, sent_after, goes_to}
use Rattle.sends.specs.Making.{Refusal, Making, refused, makes, of_settled, with_room, turn_too_large, Sent, send_placed, sending, condition, waiting, promising, Published, entered_at, entered_if_come, publishing, first_use, used, resolving, smashed_by, smashing, value_too_large}
use Rattle.sends.specs.Playing.{views_in, looked_at}
use Rattle.sends.proofs.Playing.{played, looked_state}
use Rattle.sends.proofs.Followed.{ends_are_followed}
use Rattle.sends.proofs.Settled.{settled_alike}
use Rattle.event_ordering.specs.Reading.{Sets, fences_in}
use Rattle.event_ordering.proofs.Readings.{or_false, and_none, with_names, among, sent_sets, sent_names, join_sets}

-- ---- what changes no fence

-- what is done leaves the fences as they are
abbrev pub Still : {R : Type 0} → Vat R → Type 0
Still d = (u : Under Cell Content) → fences_in (play same_cell d u).1.state ≡ fences_in u.state

pub still_then : {A B : Type 0} (d : Vat A) (f : A → Vat B) → Still d → ((x : A) → Still (f x)) → Still (and_then d f)
still_then {A} {B} d f h g u = ap (λ q. fences_in q.1.state) (one_after_another Cell Content A B same_cell d f u) ∙ g (play same_cell d u).0 (play same_cell d u).1 ∙ h u

-- an end is looked for, and no cell is changed
pub ended_state : (v : Val) (u : Under Cell Content) → (play same_cell (ended v) u).1.state ≡ u.state
ended_state v u = ap (λ q. q.1.state) (ends_are_followed u v) ∙ looked_state (walked (views_in u.state) v) u

pub ended_still : (v : Val) → Still (ended v)
ended_still v u = ap fences_in (ended_state v u)

pub settled_still : (v : Val) → Still (settled v)
settled_still v u = ap fences_in (ap (λ q. q.1.state) (settled_alike u v) ∙ looked_state (settling (views_in u.state) v).through u)

all_behind_still : (o : Option Val) (rest : Val → Vat (Option Vals)) → ((w : Val) → Still (rest w)) → Still (settled_behind rest o)
all_behind_still None rest h u = refl
all_behind_still (Some w) rest h u = still_then (rest w) (λ o. over _) (h w) (λ o u. refl) u

all_settled_still : (vs : Vals) → Still (all_settled vs)
all_settled_still no_vals u = refl
all_settled_still (and_val v vs) u =
    still_then (settled v) (settled_behind (λ w. all_settled vs)) (settled_still v) (λ o. all_behind_still o (λ w. all_settled vs) (λ w. all_settled_still vs)) u

entrance_still : (p : PromId) (x : Option Content) → Still (entrance p x)
entrance_still p None u = refl
entrance_still p (Some x) u = refl

pub comes_in_still : (p : PromId) → Still (comes_in p)
comes_in_still p u = entrance_still p (u.state (view_cell p)) (touching same_cell (view_cell p) u)

pub of_settled_still : {A R : Type 0} (make : A → Vat (Making R)) (o : Option A) → ((x : A) → Still (make x)) → Still (of_settled make o)
of_settled_still make None h u = refl
of_settled_still make (Some x) h u = h x u

room_still : {R : Type 0} (room : Bool) (make : Vat (Making R)) → Still make → Still (with_room room make)
room_still true make h u = h u
room_still false make h u = refl

pub waiting_still : (room : Bool) (result : PromId) (v : Val) → Still (waiting room result v)
waiting_still room result v =
    let made : Val → Vat (Making PromId) = λ w. and_then (comes_in result) (λ n. over (makes (condition result w))) in
    still_then (ended v) (λ w. with_room room (made w)) (ended_still v)
    (λ w. room_still room (made w) (still_then (comes_in result) (λ n. over (makes (condition result w))) (comes_in_still result) (λ n u. refl)))

pub promising_still : (room : Bool) (p : PromId) (o : ObjId) → Still (promising room p o)
promising_still room p o =
    let rest : Nothing → Vat (Making ObjId) = λ n. writes (object_cell o) (made (resolver p)) (over (makes o)) in
    room_still room (and_then (comes_in p) rest) (still_then (comes_in p) rest (comes_in_still p) (λ n u. refl))

-- ---- references leave

-- one of two fences, the first where it is there
abbrev or_else : Option (List MsgId) → Option (List MsgId) → Option (List MsgId)
or_else (Some f) o = Some f
or_else None o = o

-- the names of a fence that may be there
abbrev names : Option (List MsgId) → MsgId → Bool
names None n = false
names (Some f) n = member f n

names_of_fence : (o : Option (List MsgId)) (n : MsgId) → member (names_in o) n ≡ names o n
names_of_fence None n = refl
names_of_fence (Some f) n = refl

both_ways : (p q : Bool) → (p ≡ true → q ≡ true) → (q ≡ true → p ≡ true) → p ≡ q
both_ways true q h g = sym (h refl)
both_ways false true h g = g refl
both_ways false false h g = refl

same_other_way : (r t : Reference) → same_reference r t ≡ same_reference t r
same_other_way r t =
    both_ways (same_reference r t) (same_reference t r)
    (λ e. subst (λ x. same_reference x r ≡ true) (reference_equal r t e) (reference_self r))
    (λ e. subst (λ x. same_reference x t ≡ true) (reference_equal t r e) (reference_self t))

behind_case : (b : Bool) (f : List MsgId) (o x y : Option (List MsgId)) → y ≡ or_else o x → cond b (Some f) y ≡ or_else (cond b (Some f) o) x
behind_case true f o x y h = refl
behind_case false f o x y h = h

put_behind : (c : Carried) (r t : Reference) (f : List MsgId) → fence_with (c ++ (t, f) ∷ []) r ≡ or_else (fence_with c r) (cond (same_reference r t) (Some f) None)
put_behind [] r t f = refl
put_behind (e ∷ c) r t f = behind_case (same_reference r e.0) e.1 (fence_with c r) (cond (same_reference r t) (Some f) None) (fence_with (c ++ (t, f) ∷ []) r) (put_behind c r t f)

nothing_more : (o : Option (List MsgId)) (b : Bool) → o ≡ or_else o (cond b None None)
nothing_more (Some f) b = refl
nothing_more None true = refl
nothing_more None false = refl

not_more : (o : Option (List MsgId)) (b : Bool) (x : Option (List MsgId)) → (b ≡ true → is_some o ≡ true) → o ≡ or_else o (cond b x None)
not_more (Some f) b x h = refl
not_more None true x h = absurd (true≢false (sym (h refl)))
not_more None false x h = refl

-- what a reference is carried with once another one was added
carried_with : (c : Carried) (r t : Reference) (f : List MsgId) → fence_with (with_fence c t f) r ≡ or_else (fence_with c r) (cond (same_reference t r) (cell_of f) None)
carried_with c r t [] = nothing_more (fence_with c r) (same_reference t r)
carried_with c r t (m ∷ f) = go (carries c t) refl
  where
    go : (q : Bool) → carries c t ≡ q → fence_with (cond q c (c ++ (t, m ∷ f) ∷ [])) r ≡ or_else (fence_with c r) (cond (same_reference t r) (Some (m ∷ f)) None)
    go true e = not_more (fence_with c r) (same_reference t r) (Some (m ∷ f)) (λ q. subst (λ x. carries c x ≡ true) (reference_equal t r q) e)
    go false e = put_behind c r t (m ∷ f) ∙ ap (λ b. or_else (fence_with c r) (cond b (Some (m ∷ f)) None)) (same_other_way r t)

step_case : (o : Option (List MsgId)) (b : Bool) (f : List MsgId) (l s : Bool) (n : MsgId) → (b ≡ true → member f n ≡ s)
    → cond (is_some (or_else o (cond b (cell_of f) None))) (names (or_else o (cond b (cell_of f) None)) n) (l && s) ≡ cond (is_some o) (names o n) ((b || l) && s)
step_case (Some g) b f l s n h = refl
step_case None false f l s n h = refl
step_case None true [] l s n h = ap (λ s. l && s) (sym (h refl)) ∙ and_none l ∙ h refl
step_case None true (m ∷ f) l s n h = h refl

last_case : (o : Option (List MsgId)) (n : MsgId) → names o n ≡ cond (is_some o) (names o n) false
last_case None n = refl
last_case (Some f) n = refl

carried_state : (rs : List Reference) (c : Carried) (u : Under Cell Content) → (play same_cell (carried c rs) u).1.state ≡ u.state
carried_state [] c u = refl
carried_state (r ∷ rs) c u = carried_state rs (with_fence c r (names_of (u.state (fence_cell r)))) (touching same_cell (fence_cell r) u)

carried_names : (rs : List Reference) (c : Carried) (u : Under Cell Content) (r : Reference) (n : MsgId)
    → names (fence_with (play same_cell (carried c rs) u).0 r) n ≡ cond (carries c r) (names (fence_with c r) n) (among rs r && fences_in u.state r n)
carried_names [] c u r n = last_case (fence_with c r) n
carried_names (t ∷ rs) c u r n =
    let f : List MsgId = names_of (u.state (fence_cell t)) in
    carried_names rs (with_fence c t f) (touching same_cell (fence_cell t) u) r n
    ∙ ap (λ o. cond (is_some o) (names o n) (among rs r && fences_in u.state r n)) (carried_with c r t f)
    ∙ step_case (fence_with c r) (same_reference t r) f (among rs r) (fences_in u.state r n) n (λ q. ap (λ x. fences_in u.state x n) (reference_equal t r q))

-- what leaves has the fences of this moment
pub leaving_state : (rs : List Reference) (u : Under Cell Content) → (play same_cell (leaving rs) u).1.state ≡ u.state
leaving_state rs u = carried_state (each_once [] rs) [] u

pub leaving_names : (rs : List Reference) (u : Under Cell Content) (r : Reference) (n : MsgId) → member (names_for (play same_cell (leaving rs) u).0 r) n ≡ (among (each_once [] rs) r && fences_in u.state r n)
leaving_names rs u r n = names_of_fence (fence_with (play same_cell (leaving rs) u).0 r) n ∙ carried_names (each_once [] rs) [] u r n

-- ---- what is made

-- what is made by something that is done, from these fences, leaves those
abbrev pub Makes : {R : Type 0} → (Sets → R → Sets → Type 0) → Vat R → Type 0
Makes P d = (u : Under Cell Content) → P (fences_in u.state) (play same_cell d u).0 (fences_in (play same_cell d u).1.state)

-- so does what is done behind what changes no fence
makes_behind : {A B : Type 0} (P : Sets → B → Sets → Type 0) (d : Vat A) (f : A → Vat B) → Still d → ((x : A) → Makes P (f x)) → Makes P (and_then d f)
makes_behind {A} {B} P d f h g u =
    let q : A × Under Cell Content = play same_cell d u in
    subst (λ y. P (fences_in u.state) y.0 (fences_in y.1.state)) (sym (one_after_another Cell Content A B same_cell d f u))
    (subst (λ s. P s (play same_cell (f q.0) q.1).0 (fences_in (play same_cell (f q.0) q.1).1.state)) (h u) (g q.0 q.1))

makes_settled : {A R : Type 0} (P : Sets → Making R → Sets → Type 0) (make : A → Vat (Making R)) (o : Option A) → ((s : Sets) (why : Refusal) → P s (refused why) s) → ((x : A) → Makes P (make x)) → Makes P (of_settled make o)
makes_settled P make None r h u = r (fences_in u.state) value_too_large
makes_settled P make (Some x) r h u = h x u

makes_in_room : {R : Type 0} (P : Sets → Making R → Sets → Type 0) (room : Bool) (make : Vat (Making R)) → ((s : Sets) (why : Refusal) → P s (refused why) s) → Makes P make → Makes P (with_room room make)
makes_in_room P true make r h u = h u
makes_in_room P false make r h u = r (fences_in u.state) turn_too_large

-- ---- a send

-- a message was sent from these fences, which leaves those
pub record SentBy (m : MsgId) (s : Sets) (x : Sent) (t : Sets) : Type 0 where
  pub moved : t ≡ sent_sets m (reference_in x.target) s
  pub after : (n : MsgId) → member x.after n ≡ sent_names (reference_in x.target) s n
  pub fences : (r : Reference) (n : MsgId) → member (names_for x.fences r) n ≡ (among (each_once [] (references_in x.arguments)) r && t r n)

abbrev pub SentTo : MsgId → Sets → Making Sent → Sets → Type 0
SentTo m s (refused why) t = t ≡ s
SentTo m s (makes x) t = SentBy m s x t

module _ (here : VatNo) (m : MsgId) (result : VatNo → PromId) where
  -- the message that is sent so
  abbrev sending_of : Val → Vals → List MsgId → Carried → Sent
  sending_of t us after c = record { target = t; arguments = us; fences = c; after = after; result = result (goes_to here t) }

  -- what is left to do once it is known what it comes after
  abbrev rest_of : Val → Vals → List MsgId → Vat (Making Sent)
  rest_of t us after = and_then (leaving (references_in us)) (λ c. and_then (comes_in (result (goes_to here t))) (λ n. over (makes (sending_of t us after c))))

  rest_plays : (t : Val) (us : Vals) (after : List MsgId) (u : Under Cell Content)
      → play same_cell (rest_of t us after) u ≡ (makes (sending_of t us after (play same_cell (leaving (references_in us)) u).0), (play same_cell (comes_in (result (goes_to here t))) (play same_cell (leaving (references_in us)) u).1).1)
  rest_plays t us after u =
      let p : PromId = result (goes_to here t) in
      let l : Carried × Under Cell Content = play same_cell (leaving (references_in us)) u in
      one_after_another Cell Content Carried (Making Sent) same_cell (leaving (references_in us)) (λ c. and_then (comes_in p) (λ n. over (makes (sending_of t us after c)))) u
      ∙ one_after_another Cell Content Nothing (Making Sent) same_cell (comes_in p) (λ n. over (makes (sending_of t us after l.0))) l.1

  rest_sends : (t : Val) (us : Vals) (after : List MsgId) (u : Under Cell Content) (s : Sets) → fences_in u.state ≡ sent_sets m (reference_in t) s → ((n : MsgId) → member after n ≡ sent_names (reference_in t) s n)
      → SentTo m s (play same_cell (rest_of t us after) u).0 (fences_in (play same_cell (rest_of t us after) u).1.state)
  rest_sends t us after u s e h =
      let rs : List Reference = references_in us in
      let l : Carried × Under Cell Content = play same_cell (leaving rs) u in
      let q : fences_in (play same_cell (comes_in (result (goes_to here t))) l.1).1.state ≡ fences_in u.state = comes_in_still (result (goes_to here t)) l.1 ∙ ap fences_in (leaving_state rs u) in
      subst (λ y. SentTo m s y.0 (fences_in y.1.state)) (sym (rest_plays t us after u))
      (record { moved = q ∙ e; after = h; fences = λ r n. leaving_names rs u r n ∙ ap (λ f. among (each_once [] rs) r && f r n) (sym q) })

  alone_case : (b : Bool) (x : Option Content) (n : MsgId) → member (names_of (cond b (Some (fenced (m ∷ []))) x)) n ≡ cond b (same_message m n) (member (names_of x) n)
  alone_case true x n = or_false (same_message m n)
  alone_case false x n = refl

  placed_sends : (t : Val) (us : Vals) (o : Option Reference) → reference_in t ≡ o → Makes (SentTo m) (and_then (sent_after m o) (rest_of t us))
  placed_sends t us None e u = rest_sends t us [] u (fences_in u.state) (ap (λ o. sent_sets m o (fences_in u.state)) (sym e)) (λ n. ap (λ o. sent_names o (fences_in u.state) n) (sym e))
  placed_sends t us (Some r) e u =
      let k : Cell = fence_cell r in
      let s : Sets = fences_in u.state in
      rest_sends t us (names_of (u.state k)) (holding same_cell k (fenced (m ∷ [])) (touching same_cell k u)) s
      ((λ i x n. alone_case (same_reference r x) (u.state (fence_cell x)) n i) ∙ ap (λ o. sent_sets m o s) (sym e)) (λ n. ap (λ o. sent_names o s n) (sym e))

  pub sending_makes : (room : Bool) (v : Val) (vs : Vals) → Makes (SentTo m) (sending here m room result v vs)
  sending_makes room v vs =
      let place : Val → Vals → Vat (Making Sent) = λ t us. with_room room (send_placed here m result t us) in
      let rest : Val → Vat (Making Sent) = λ t. and_then (all_settled vs) (of_settled (place t)) in
      makes_behind (SentTo m) (settled v) (of_settled rest) (settled_still v)
      (λ o. makes_settled (SentTo m) rest o (λ s why. refl)
      (λ t. makes_behind (SentTo m) (all_settled vs) (of_settled (place t)) (all_settled_still vs)
      (λ o. makes_settled (SentTo m) (place t) o (λ s why. refl)
      (λ us. makes_in_room (SentTo m) room (send_placed here m result t us) (λ s why. refl) (placed_sends t us (reference_in t) refl)))))

-- ---- names are added to a fence

abbrev pub more_sets : Option Reference → List MsgId → Sets → Sets
more_sets None f s = s
more_sets (Some t) f s = with_names t (member f) s

no_more : (s : Sets) (t : Reference) → s ≡ with_names t (member []) s
no_more s t = λ i r n. (sym (or_false (s r n)) ∙ ap (λ q. s r n || q) (sym (and_none (same_reference t r)))) i

more_case : (b : Bool) (f g : List MsgId) (x : Option Content) (n : MsgId) → (b ≡ true → f ≡ names_of x) → member (names_of (cond b (Some (fenced (both f g))) x)) n ≡ (member (names_of x) n || (b && member g n))
more_case true f g x n h = fences_are_sets.members f g n ∙ ap (λ f. member f n || member g n) (h refl)
more_case false f g x n h = sym (or_false (member (names_of x) n))

-- what was joined: the reference of an end
pub record Joins (o : Option Reference) (f : List MsgId) (u : Under Cell Content) (q : Option Reference × Under Cell Content) : Type 0 where
  pub result : q.0 ≡ o
  pub moved : fences_in q.1.state ≡ more_sets o f (fences_in u.state)
  pub views : views_in q.1.state ≡ views_in u.state

joins : (o : Option Reference) (f : List MsgId) (u : Under Cell Content) → Joins o f u (play same_cell (and_then (fence_joined o f) (λ n. over o)) u)
joins None f u = record { result = refl; moved = refl; views = refl }
joins (Some t) [] u = record { result = refl; moved = no_more (fences_in u.state) t; views = refl }
joins (Some t) (m ∷ f) u =
    record {
      result = refl;
      moved = λ i r n. more_case (same_reference t r) (names_of (u.state (fence_cell t))) (m ∷ f) (u.state (fence_cell r)) n (λ q. ap (λ x. names_of (u.state (fence_cell x))) (reference_equal t r q)) i;
      views = refl;
    }

-- in the cells that an end leaves
joins_from : (o : Option Reference) (f : List MsgId) (u w : Under Cell Content) (q : Option Reference × Under Cell Content) → w.state ≡ u.state → Joins o f w q → Joins o f u q
joins_from o f u w q e j = record { result = j.result; moved = j.moved ∙ ap (λ s. more_sets o f (fences_in s)) e; views = j.views ∙ ap views_in e }

-- the reference to which a value settles by these views
abbrev pub settles_to : Resolutions → Val → Option Reference
settles_to m v = reference_in (followed m v)

pub end_joins : (v : Val) (f : List MsgId) (u : Under Cell Content) → Joins (settles_to (views_in u.state) v) f u (play same_cell (end_joined v f) u)
end_joins v f u =
    let w : Val = followed (views_in u.state) v in
    let x : Under Cell Content = looked_at (walked (views_in u.state) v) u in
    let rest : Val → Vat (Option Reference) = λ w. and_then (fence_joined (reference_in w) f) (λ n. over (reference_in w)) in
    subst (Joins (reference_in w) f u) (sym (played (ended v) rest u x w (ends_are_followed u v)))
    (joins_from (reference_in w) f u x (play same_cell (rest w) x) (looked_state (walked (views_in u.state) v) u) (joins (reference_in w) f x))

-- ---- what is published

-- a promise was entered as what settles to this
abbrev pub EnteredTo : PromId → Sets → Option Reference → Sets → Type 0
EnteredTo p s o t = t ≡ join_sets p o s

more_is_joined : (p : PromId) (o : Option Reference) (u : Under Cell Content) → more_sets o (names_of (u.state (fence_cell (reference.Promise p)))) (fences_in u.state) ≡ join_sets p o (fences_in u.state)
more_is_joined p None u = refl
more_is_joined p (Some t) u = refl

pub entered_makes : (p : PromId) (v : Val) → Makes (EnteredTo p) (entered p v)
entered_makes p v u =
    let w : Under Cell Content = touching same_cell (fence_cell (reference.Promise p)) (holding same_cell (view_cell p) (viewed (resolved v)) u) in
    let f : List MsgId = names_of (u.state (fence_cell (reference.Promise p))) in
    let j = end_joins v f w in
    j.moved ∙ more_is_joined p (settles_to (views_in w.state) v) w ∙ ap (λ o. join_sets p o (fences_in u.state)) (sym j.result)

entered_at_makes : (p : PromId) (v : Val) (x : Option Content) → Makes (EnteredTo p) (entered_at p v x)
entered_at_makes p v None u = refl
entered_at_makes p v (Some x) u = entered_makes p v u

if_come_makes : (p : PromId) (v : Val) → Makes (EnteredTo p) (entered_if_come p v)
if_come_makes p v u = entered_at_makes p v (u.state (view_cell p)) (touching same_cell (view_cell p) u)

-- a promise was published from these fences, which leaves those
pub record PublishedBy (p : PromId) (s : Sets) (b : Published) (t : Sets) : Type 0 where
  pub moved : t ≡ join_sets p b.joined s
  pub fences : (r : Reference) (n : MsgId) → member (names_for b.fences r) n ≡ (among (each_once [] (references b.value)) r && s r n)

abbrev pub PublishedTo : PromId → Sets → Making Published → Sets → Type 0
PublishedTo p s (refused why) t = t ≡ s
PublishedTo p s (makes b) t = PublishedBy p s b t

publishing_plays : (p : PromId) (v : Val) (u : Under Cell Content)
    → play same_cell (publishing p v) u
    ≡ (record { value = v; fences = (play same_cell (leaving (references v)) u).0; joined = (play same_cell (entered_if_come p v) (play same_cell (leaving (references v)) u).1).0 }, (play same_cell (entered_if_come p v) (play same_cell (leaving (references v)) u).1).1)
publishing_plays p v u =
    let out : Carried → Option Reference → Published = λ c t. record { value = v; fences = c; joined = t } in
    let l : Carried × Under Cell Content = play same_cell (leaving (references v)) u in
    one_after_another Cell Content Carried Published same_cell (leaving (references v)) (λ c. and_then (entered_if_come p v) (λ t. over (out c t))) u
    ∙ one_after_another Cell Content (Option Reference) Published same_cell (entered_if_come p v) (λ t. over (out l.0 t)) l.1

pub publishing_makes : (p : PromId) (v : Val) → Makes (PublishedBy p) (publishing p v)
publishing_makes p v u =
    let rs : List Reference = references v in
    let l : Carried × Under Cell Content = play same_cell (leaving rs) u in
    subst (λ y. PublishedBy p (fences_in u.state) y.0 (fences_in y.1.state)) (sym (publishing_plays p v u))
    (record { moved = if_come_makes p v l.1 ∙ ap (λ s. join_sets p (play same_cell (entered_if_come p v) l.1).0 (fences_in s)) (leaving_state rs u); fences = λ r n. leaving_names rs u r n })

made_makes : (p : PromId) (v : Val) → Makes (PublishedTo p) (and_then (publishing p v) (λ b. over (makes b)))
made_makes p v u = subst (λ y. PublishedTo p (fences_in u.state) y.0 (fences_in y.1.state)) (sym (one_after_another Cell Content Published (Making Published) same_cell (publishing p v) (λ b. over (makes b)) u)) (publishing_makes p v u)

first_makes : (p : PromId) (v : Val) (x : Option Content) → Makes (PublishedTo p) (first_use p v x)
first_makes p v None u = refl
first_makes p v (Some (bound b)) u = refl
first_makes p v (Some (held w)) u = refl
first_makes p v (Some (made o)) u = refl
first_makes p v (Some (viewed pending)) u = made_makes p v u
first_makes p v (Some (viewed (resolved w))) u = refl
first_makes p v (Some (fenced f)) u = refl

used_makes : (p : PromId) (v : Val) → Makes (PublishedTo p) (used p v)
used_makes p v u = first_makes p v (u.state (view_cell p)) (touching same_cell (view_cell p) u)

pub resolving_makes : (p : PromId) (v : Val) → Makes (PublishedTo p) (resolving p v)
resolving_makes p v = makes_behind (PublishedTo p) (settled v) (of_settled (used p)) (settled_still v) (λ o. makes_settled (PublishedTo p) (used p) o (λ s why. refl) (used_makes p))

smashed_makes : (p : PromId) (w : Val) (o : Option Name) → Makes (PublishedTo p) (smashed_by p w o)
smashed_makes p w None u = refl
smashed_makes p w (Some words) u = used_makes p (broken words) u

pub smashing_makes : (p : PromId) (v : Val) → Makes (PublishedTo p) (smashing p v)
smashing_makes p v = makes_behind (PublishedTo p) (ended v) (λ w. smashed_by p w (text_in w)) (ended_still v) (λ w. smashed_makes p w (text_in w))
