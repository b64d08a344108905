-- Of sends, whens, promises with their resolvers, and publications: what they do to the views and resolvers of their vat.
use Rattle.std.proofs.Common.{◌≡◌, Bool, true, false, cond, is_some, List, Option, Some, None, refl, sym, ap, ◌∙◌, subst, inl, inr, ◌⊎◌}
use Rattle.ids.proofs.Keys.{object_equal}
use Rattle.ids.specs.Cells.{object_cmp}
use Rattle.std.specs.Ordering.{is_eq}
use Rattle.ids.specs.declared.names.VatNo.{VatNo}
use Rattle.ids.specs.declared.names.MsgId.{MsgId}
use Rattle.ids.specs.declared.names.PromId.{PromId}
use Rattle.ids.specs.declared.names.ObjId.{ObjId}
use Rattle.cells.specs.Doing.{over, reads, writes, Under, touching, holding, play, and_then}
use Rattle.cells.proofs.Doings.{one_after_another}
use Rattle.eorder.specs.Carried.{Carried}
use Rattle.kernele.specs.Tree.{Name}
use Rattle.values.specs.Data.{Val, broken, Vals}
use Rattle.values.specs.Replies.{text_in}
use Rattle.ids.specs.declared.reference.Reference.{Reference}
use Rattle.heap.specs.State.{Cell, view_cell, object_cell, pending, resolved, resolver, Content, bound, held, made, viewed, fenced, same_cell}
use Rattle.sends.specs.Vats.{Vat, Nothing, ended, settled, all_settled, reference_in, references, references_in, leaving, comes_in, sent_after, goes_to, resolution_in}
use Rattle.sends.specs.Making.{Making, refused, makes, of_settled, with_room, Sent, send_placed, sending, condition, waiting, promising, Published, entered_at, entered_if_come, publishing, first_use, used, resolving, smashed_by, smashing}
use Rattle.event_ordering.proofs.Effects.{ended_state, leaving_state}
use Rattle.event_publishing.proofs.Calm.{knows, HasResolver, Calm, CalmIn, all_calm, Calmly, calmly_then, settled_state, ended_calm, settled_calm, all_settled_calm, leaving_calm, comes_in_calm, entered_calm, entered_knows, sent_after_calm}

of_settled_calm : {A R : Type 0} (make : A → Vat (Making R)) (o : Option A) → ((x : A) → Calmly (make x)) → Calmly (of_settled make o)
of_settled_calm make None h u = all_calm
of_settled_calm make (Some x) h u = h x u

room_calm : {R : Type 0} (room : Bool) (make : Vat (Making R)) → Calmly make → Calmly (with_room room make)
room_calm true make h u = h u
room_calm false make h u = all_calm

-- ---- a send

module _ (here : VatNo) (m : MsgId) (result : VatNo → PromId) where
  placed_calm : (t : Val) (us : Vals) → Calmly (send_placed here m result t us)
  placed_calm t us =
      let p : PromId = result (goes_to here t) in
      let last : List MsgId → Carried → Nothing → Vat (Making Sent) = λ after c n. over (makes (record { target = t; arguments = us; fences = c; after = after; result = p })) in
      let rest : List MsgId → Carried → Vat (Making Sent) = λ after c. and_then (comes_in p) (last after c) in
      calmly_then (sent_after m (reference_in t)) (λ after. and_then (leaving (references_in us)) (rest after)) (sent_after_calm m (reference_in t))
      (λ after. calmly_then (leaving (references_in us)) (rest after) (leaving_calm (references_in us)) (λ c. calmly_then (comes_in p) (last after c) (comes_in_calm p) (λ n u. all_calm)))

  pub sending_calm : (room : Bool) (v : Val) (vs : Vals) → Calmly (sending here m room result v vs)
  sending_calm room v vs =
      let place : Val → Vals → Vat (Making Sent) = λ t us. with_room room (send_placed here m result t us) in
      let rest : Val → Vat (Making Sent) = λ t. and_then (all_settled vs) (of_settled (place t)) in
      calmly_then (settled v) (of_settled rest) (settled_calm v)
      (λ o. of_settled_calm rest o (λ t. calmly_then (all_settled vs) (of_settled (place t)) (all_settled_calm vs)
      (λ o. of_settled_calm (place t) o (λ us. room_calm room (send_placed here m result t us) (placed_calm t us)))))

  -- its result is one of these
  abbrev pub IsOne : Making Sent → Type 0
  IsOne (refused why) = Unit {0}
  IsOne (makes x) = (to : VatNo) × (x.result ≡ result to)

  abbrev Gives : Vat (Making Sent) → Type 0
  Gives d = (u : Under Cell Content) → IsOne (play same_cell d u).0

  gives_then : {A : Type 0} (d : Vat A) (f : A → Vat (Making Sent)) → ((x : A) → Gives (f x)) → Gives (and_then d f)
  gives_then (over x) f h = h x
  gives_then (reads k next) f h = λ u. gives_then (next (u.state k)) f h (touching same_cell k u)
  gives_then (writes k x next) f h = λ u. gives_then next f h (holding same_cell k x u)

  gives_settled : {A : Type 0} (make : A → Vat (Making Sent)) (o : Option A) → ((x : A) → Gives (make x)) → Gives (of_settled make o)
  gives_settled make None h u = tt
  gives_settled make (Some x) h u = h x u

  gives_in_room : (room : Bool) (make : Vat (Making Sent)) → Gives make → Gives (with_room room make)
  gives_in_room true make h u = h u
  gives_in_room false make h u = tt

  placed_gives : (t : Val) (us : Vals) → Gives (send_placed here m result t us)
  placed_gives t us =
      let p : PromId = result (goes_to here t) in
      let last : List MsgId → Carried → Nothing → Vat (Making Sent) = λ after c n. over (makes (record { target = t; arguments = us; fences = c; after = after; result = p })) in
      let rest : List MsgId → Carried → Vat (Making Sent) = λ after c. and_then (comes_in p) (last after c) in
      gives_then (sent_after m (reference_in t)) (λ after. and_then (leaving (references_in us)) (rest after))
      (λ after. gives_then (leaving (references_in us)) (rest after) (λ c. gives_then (comes_in p) (last after c) (λ n u. (goes_to here t, refl))))

  pub sending_gives : (room : Bool) (v : Val) (vs : Vals) → Gives (sending here m room result v vs)
  sending_gives room v vs =
      let place : Val → Vals → Vat (Making Sent) = λ t us. with_room room (send_placed here m result t us) in
      let rest : Val → Vat (Making Sent) = λ t. and_then (all_settled vs) (of_settled (place t)) in
      gives_then (settled v) (of_settled rest)
      (λ o. gives_settled rest o (λ t. gives_then (all_settled vs) (of_settled (place t)) (λ o. gives_settled (place t) o (λ us. gives_in_room room (send_placed here m result t us) (placed_gives t us)))))

-- ---- a when

pub waiting_calm : (room : Bool) (result : PromId) (v : Val) → Calmly (waiting room result v)
waiting_calm room result v =
    let make : Val → Vat (Making PromId) = λ w. and_then (comes_in result) (λ n. over (makes (condition result w))) in
    calmly_then (ended v) (λ w. with_room room (make w)) (ended_calm v)
    (λ w. room_calm room (make w) (calmly_then (comes_in result) (λ n. over (makes (condition result w))) (comes_in_calm result) (λ n u. all_calm)))

-- ---- a promise and its resolver

-- what was known is known, and a resolver that is new is this one of this promise
pub record PairsIn (o : ObjId) (p : PromId) (ks : PromId → Bool) (rs : ObjId → PromId → Type 0) (ls : PromId → Bool) (ts : ObjId → PromId → Type 0) : Type 0 where
  pub known : (q : PromId) → ks q ≡ true → ls q ≡ true
  pub resolvers : (i : ObjId) (q : PromId) → ts i q → rs i q ⊎ ((i ≡ o) × (q ≡ p))

-- where there was no room, nothing happened
abbrev pub PairedIn : ObjId → PromId → (PromId → Bool) → (ObjId → PromId → Type 0) → Making ObjId → (PromId → Bool) → (ObjId → PromId → Type 0) → Type 0
PairedIn o p ks rs (refused why) ls ts = Calm ks rs ls ts
PairedIn o p ks rs (makes n) ls ts = PairsIn o p ks rs ls ts

same_resolver : {p q : PromId} → Some (made (resolver p)) ≡ Some (made (resolver q)) → q ≡ p
same_resolver e = cc

pub promising_pairs : (room : Bool) (p : PromId) (o : ObjId) (u : Under Cell Content)
    → PairedIn o p (knows u.state) (HasResolver u.state) (play same_cell (promising room p o) u).0 (knows (play same_cell (promising room p o) u).1.state) (HasResolver (play same_cell (promising room p o) u).1.state)
promising_pairs false p o u = all_calm
promising_pairs true p o u =
    let made_one : Nothing → Vat (Making ObjId) = λ n. writes (object_cell o) (made (resolver p)) (over (makes o)) in
    let w : Under Cell Content = (play same_cell (comes_in p) u).1 in
    let c : CalmIn u.state w.state = comes_in_calm p u in
    subst (λ y. PairedIn o p (knows u.state) (HasResolver u.state) y.0 (knows y.1.state) (HasResolver y.1.state)) (sym (one_after_another Cell Content Nothing (Making ObjId) same_cell (comes_in p) made_one u))
    (record { known = c.known; resolvers = λ i q h. by i q w c (is_eq (object_cmp o i)) refl h })
  where
    by : (i : ObjId) (q : PromId) (w : Under Cell Content) → CalmIn u.state w.state → (b : Bool) → is_eq (object_cmp o i) ≡ b → cond b (Some (made (resolver p))) (w.state (object_cell i)) ≡ Some (made (resolver q))
        → HasResolver u.state i q ⊎ ((i ≡ o) × (q ≡ p))
    by i q w c true e h = inr (sym (object_equal o i e), same_resolver h)
    by i q w c false e h = inl (c.resolvers i q h)

-- ---- what is published

-- what is left to do once the fences are known
abbrev published_rest : PromId → Val → Carried → Vat Published
published_rest p v c = and_then (entered_if_come p v) (λ t. over (record { value = v; fences = c; joined = t }))

if_come_calm : (p : PromId) (v : Val) (x : Option Content) → Calmly (entered_at p v x)
if_come_calm p v None u = all_calm
if_come_calm p v (Some x) u = entered_calm p v u

entered_if_come_calm : (p : PromId) (v : Val) → Calmly (entered_if_come p v)
entered_if_come_calm p v u = if_come_calm p v (u.state (view_cell p)) (touching same_cell (view_cell p) u)

pub publishing_calm : (p : PromId) (v : Val) → Calmly (publishing p v)
publishing_calm p v =
    calmly_then (leaving (references v)) (published_rest p v) (leaving_calm (references v))
    (λ c. calmly_then (entered_if_come p v) (λ t. over (record { value = v; fences = c; joined = t })) (entered_if_come_calm p v) (λ t u. all_calm))

-- behind it a promise that had come is known
if_come_knows : (p : PromId) (v : Val) (x : Option Content) (u : Under Cell Content) → is_some x ≡ true → knows (play same_cell (entered_at p v x) u).1.state p ≡ true
if_come_knows p v None u h = absurd (cc)
if_come_knows p v (Some x) u h = entered_knows p v u

publishing_knows : (p : PromId) (v : Val) (u : Under Cell Content) → is_some (u.state (view_cell p)) ≡ true → knows (play same_cell (publishing p v) u).1.state p ≡ true
publishing_knows p v u h =
    let l : Carried × Under Cell Content = play same_cell (leaving (references v)) u in
    let s : l.1.state ≡ u.state = leaving_state (references v) u in
    let out : Option Reference → Vat Published = λ t. over (record { value = v; fences = l.0; joined = t }) in
    subst (λ y. knows y.1.state p ≡ true) (sym (one_after_another Cell Content Carried Published same_cell (leaving (references v)) (published_rest p v) u ∙ one_after_another Cell Content (Option Reference) Published same_cell (entered_if_come p v) out l.1))
    (if_come_knows p v (l.1.state (view_cell p)) (touching same_cell (view_cell p) l.1) (ap (λ x. is_some (x (view_cell p))) s ∙ h))

-- ---- the use of a resolver

-- where something is published, the promise was open before, and is known behind it
abbrev pub UsedIn : PromId → (PromId → Bool) → Making Published → (PromId → Bool) → Type 0
UsedIn p ks (refused why) ls = Unit {0}
UsedIn p ks (makes b) ls = (ks p ≡ false) × (ls p ≡ true)

abbrev UsesOnce : PromId → Vat (Making Published) → Type 0
UsesOnce p d = (u : Under Cell Content) → UsedIn p (knows u.state) (play same_cell d u).0 (knows (play same_cell d u).1.state)

pub record Uses (p : PromId) (d : Vat (Making Published)) : Type 0 where
  pub calm : Calmly d
  pub once : UsesOnce p d

-- behind what writes no cell
once_behind : {A : Type 0} (p : PromId) (d : Vat A) (f : A → Vat (Making Published)) → ((u : Under Cell Content) → (play same_cell d u).1.state ≡ u.state) → ((x : A) → UsesOnce p (f x)) → UsesOnce p (and_then d f)
once_behind {A} p d f h g u =
    let q : A × Under Cell Content = play same_cell d u in
    subst (λ y. UsedIn p (knows u.state) y.0 (knows y.1.state)) (sym (one_after_another Cell Content A (Making Published) same_cell d f u))
    (subst (λ s. UsedIn p (knows s) (play same_cell (f q.0) q.1).0 (knows (play same_cell (f q.0) q.1).1.state)) (h u) (g q.0 q.1))

first_calm : (p : PromId) (v : Val) (x : Option Content) → Calmly (first_use p v x)
first_calm p v None u = all_calm
first_calm p v (Some (bound b)) u = all_calm
first_calm p v (Some (held w)) u = all_calm
first_calm p v (Some (made o)) u = all_calm
first_calm p v (Some (viewed pending)) u = calmly_then (publishing p v) (λ b. over (makes b)) (publishing_calm p v) (λ b u. all_calm) u
first_calm p v (Some (viewed (resolved w))) u = all_calm
first_calm p v (Some (fenced f)) u = all_calm

first_once : (p : PromId) (v : Val) (x : Option Content) (u : Under Cell Content) → u.state (view_cell p) ≡ x → UsedIn p (knows u.state) (play same_cell (first_use p v x) u).0 (knows (play same_cell (first_use p v x) u).1.state)
first_once p v None u e = tt
first_once p v (Some (bound b)) u e = tt
first_once p v (Some (held w)) u e = tt
first_once p v (Some (made o)) u e = tt
first_once p v (Some (viewed pending)) u e =
    subst (λ y. UsedIn p (knows u.state) y.0 (knows y.1.state)) (sym (one_after_another Cell Content Published (Making Published) same_cell (publishing p v) (λ b. over (makes b)) u))
    (ap (λ x. is_some (resolution_in x)) e, publishing_knows p v u (ap is_some e))
first_once p v (Some (viewed (resolved w))) u e = tt
first_once p v (Some (fenced f)) u e = tt

used_once : (p : PromId) (v : Val) → Uses p (used p v)
used_once p v = record {
  calm = λ u. first_calm p v (u.state (view_cell p)) (touching same_cell (view_cell p) u);
  once = λ u. first_once p v (u.state (view_cell p)) (touching same_cell (view_cell p) u) refl;
}

settled_once : (p : PromId) (o : Option Val) → Uses p (of_settled (used p) o)
settled_once p None = record { calm = λ u. all_calm; once = λ u. tt }
settled_once p (Some v) = used_once p v

pub resolving_uses : (p : PromId) (v : Val) → Uses p (resolving p v)
resolving_uses p v = record {
  calm = calmly_then (settled v) (of_settled (used p)) (settled_calm v) (λ o. (settled_once p o).calm);
  once = once_behind p (settled v) (of_settled (used p)) (settled_state v) (λ o. (settled_once p o).once);
}

smashed_once : (p : PromId) (w : Val) (o : Option Name) → Uses p (smashed_by p w o)
smashed_once p w None = record { calm = λ u. all_calm; once = λ u. tt }
smashed_once p w (Some words) = used_once p (broken words)

pub smashing_uses : (p : PromId) (v : Val) → Uses p (smashing p v)
smashing_uses p v = record {
  calm = calmly_then (ended v) (λ w. smashed_by p w (text_in w)) (ended_calm v) (λ w. (smashed_once p w (text_in w)).calm);
  once = once_behind p (ended v) (λ w. smashed_by p w (text_in w)) (ended_state v) (λ w. (smashed_once p w (text_in w)).once);
}
