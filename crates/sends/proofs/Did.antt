-- What the steps of the program do under a turn.
use Rattle.std.proofs.Common.{◌≡◌, Option, Some, None, List, [], ◌∷◌, ◌++◌, Result, Ok, Err, IfOk, refl, sym, ap, ◌∙◌, subst}
use Rattle.ids.specs.declared.names.MsgId.{MsgId}
use Rattle.ids.specs.declared.names.PromId.{PromId}
use Rattle.ids.specs.declared.reference.Reference.{Reference}
use Rattle.ids.specs.declared.reference.Reference.TheVariants as reference
use Rattle.cells.specs.Doing.{over, reads, writes, touching, holding, play, and_then}
use Rattle.eorder.specs.Fences.{joined}
use Rattle.values.specs.Data.{Val}
use Rattle.heap.specs.State.{Cell, view_cell, fence_cell, Content, fenced, viewed, pending, resolved, same_cell, write, also}
use Rattle.heap.specs.Drafted.{Drafted}
use Rattle.heap.specs.Drafts.{draft_of, touched_of, written_of}
use Rattle.refs.specs.Walks.{walked, followed}
use Rattle.refs.specs.Settling.{settling}
use Rattle.sends.specs.Vats.{Vat, nothing, names_of, fence_of, reference_in, fence_joined, end_joined, entrance, comes_in, entered, sent_after, ended, settled}
use Rattle.sends.specs.Playing.{under, Did, views_in, looked_at}
use Rattle.sends.proofs.Playing.{did_then}
use Rattle.sends.proofs.Followed.{ends_are_followed}
use Rattle.sends.proofs.Settled.{settled_alike}

-- a cell that was touched, and one that was written
pub touched_one : (k : Cell) (d e : Drafted) → draft_of e ≡ draft_of d → touched_of e ≡ also k (touched_of d) → written_of e ≡ written_of d → under e ≡ touching same_cell k (under d)
touched_one k d e s t w = λ i. record { state = s i; touched = t i; written = w i }

pub written_one : (k : Cell) (x : Content) (d e : Drafted) → draft_of e ≡ write (draft_of d) k x → touched_of e ≡ also k (touched_of d) → written_of e ≡ also k (written_of d) → under e ≡ holding same_cell k x (under d)
written_one k x d e s t w = λ i. record { state = s i; touched = t i; written = w i }

-- the views of a walk were looked at
pub did_end : (v w : Val) (d e : Drafted) (ps qs : List PromId) → qs ≡ [] → ps ≡ qs ++ walked (views_in (draft_of d)) v → w ≡ followed (views_in (draft_of d)) v → under e ≡ looked_at ps (under d) → Did (ended v) d w e
did_end v w d e ps qs n p q h =
    let its : ps ≡ walked (views_in (draft_of d)) v = p ∙ ap (λ qs. qs ++ walked (views_in (draft_of d)) v) n in
    ends_are_followed (under d) v ∙ (λ i. (sym q i, looked_at (sym its i) (under d))) ∙ ap (λ u. (w, u)) (sym h)

-- those of the walks of a settled form
pub did_settle : (v : Val) (o : Option Val) (d e : Drafted) (ps qs : List PromId) → qs ≡ [] → ps ≡ qs ++ (settling (views_in (draft_of d)) v).through → o ≡ (settling (views_in (draft_of d)) v).settled → under e ≡ looked_at ps (under d) → Did (settled v) d o e
did_settle v o d e ps qs n p q h =
    let its : ps ≡ (settling (views_in (draft_of d)) v).through = p ∙ ap (λ qs. qs ++ (settling (views_in (draft_of d)) v).through) n in
    settled_alike (under d) v ∙ (λ i. (sym q i, looked_at (sym its i) (under d))) ∙ ap (λ u. (o, u)) (sym h)

-- a fence was read
pub did_fence : (r : Reference) (f : List MsgId) (d e : Drafted) → under e ≡ touching same_cell (fence_cell r) (under d) → names_of (draft_of e (fence_cell r)) ≡ f → Did (fence_of r) d f e
did_fence r f d e h q = ap (λ u. (names_of (u.state (fence_cell r)), u)) (sym h) ∙ ap (λ f. (f, under e)) q

-- what a fence that was read has, and the cells then
read_fence : (r : Reference) (f : List MsgId) (d e : Drafted) → Did (fence_of r) d f e → (names_of (draft_of d (fence_cell r)) ≡ f) × (touching same_cell (fence_cell r) (under d) ≡ under e)
read_fence r f d e h = (ap (λ p. p.0) h, ap (λ p. p.1) h)

-- names were added to it
pub did_join : (t : Reference) (f g : List MsgId) (d e k : Drafted) → (f ≡ [] → ⊥) → Did (fence_of t) d g e → under k ≡ holding same_cell (fence_cell t) (fenced (joined g f)) (under e) → Did (fence_joined (Some t) f) d nothing k
did_join t [] g d e k n h w = absurd (n refl)
did_join t (m ∷ f) g d e k n h w =
    let r = read_fence t g d e h in
    (λ i. (nothing, holding same_cell (fence_cell t) (fenced (joined (r.0 i) (m ∷ f))) (r.1 i))) ∙ ap (λ u. (nothing, u)) (sym w)

-- no names were
pub did_join_none : (t : Reference) (f : List MsgId) (d : Drafted) → f ≡ [] → Did (fence_joined (Some t) f) d nothing d
did_join_none t [] d h = refl
did_join_none t (m ∷ f) d h = absurd (cc)

-- a message stands behind its target
pub did_send : (m : MsgId) (t : Reference) (f : List MsgId) (d e k : Drafted) → Did (fence_of t) d f e → under k ≡ holding same_cell (fence_cell t) (fenced (m ∷ [])) (under e) → Did (sent_after m (Some t)) d f k
did_send m t f d e k h w =
    let r = read_fence t f d e h in
    (λ i. (r.0 i, holding same_cell (fence_cell t) (fenced (m ∷ [])) (r.1 i))) ∙ ap (λ u. (f, u)) (sym w)

-- a promise came before
pub did_come_before : (p : PromId) (x : Content) (d e : Drafted) → under e ≡ touching same_cell (view_cell p) (under d) → draft_of e (view_cell p) ≡ Some x → Did (comes_in p) d nothing e
did_come_before p x d e h q = ap (λ u. play same_cell (entrance p (u.state (view_cell p))) u) (sym h) ∙ ap (λ x. play same_cell (entrance p x) (under e)) q

-- it came in now
pub did_come_now : (p : PromId) (d e k : Drafted) → under e ≡ touching same_cell (view_cell p) (under d) → draft_of e (view_cell p) ≡ None → under k ≡ holding same_cell (view_cell p) (viewed pending) (under e) → Did (comes_in p) d nothing k
did_come_now p d e k h q w =
    ap (λ u. play same_cell (entrance p (u.state (view_cell p))) u) (sym h)
    ∙ ap (λ x. play same_cell (entrance p x) (under e)) q
    ∙ ap (λ u. (nothing, u)) (sym w)

-- a cell was read first
pub did_read : {R : Type 0} (c : Cell) (f : Option Content → Vat R) (d e k : Drafted) (x : Option Content) (r : R) → under e ≡ touching same_cell c (under d) → draft_of e c ≡ x → Did (f x) e r k → Did (reads c f) d r k
did_read c f d e k x r h q i = ap (λ u. play same_cell (f (u.state c)) u) (sym h) ∙ ap (λ x. play same_cell (f x) (under e)) q ∙ i

-- a cell was written first
pub did_write_then : {R : Type 0} (c : Cell) (x : Content) (f : Vat R) (d e k : Drafted) (r : R) → under e ≡ holding same_cell c x (under d) → Did f e r k → Did (writes c x f) d r k
did_write_then c x f d e k r h i = ap (λ u. play same_cell f u) (sym h) ∙ i

-- names were added to the fence of an end
pub did_join_end : (v w : Val) (f : List MsgId) (t : Option Reference) (d e k : Drafted) → Did (ended v) d w e → t ≡ reference_in w → Did (fence_joined t f) e nothing k → Did (end_joined v f) d t k
did_join_end v w f t d e k h q i =
    let its : Did (fence_joined (reference_in w) f) e nothing k = subst (λ (t : Option Reference). Did (fence_joined t f) e nothing k) q i in
    did_then (ended v) (λ w. and_then (fence_joined (reference_in w) f) (λ n. over (reference_in w))) d e k w t h
    (did_then (fence_joined (reference_in w) f) (λ n. over (reference_in w)) e k k nothing t its (ap (λ t. (t, under k)) (sym q)))

-- a promise was entered
pub did_enter : {E : Type 0} (s : Result (Option Reference) E) (p : PromId) (v : Val) (f : List MsgId) (d e k l : Drafted) → under e ≡ holding same_cell (view_cell p) (viewed (resolved v)) (under d) → Did (fence_of (reference.Promise p)) e f k
    → IfOk s (λ t. Did (end_joined v f) k t l) → IfOk s (λ t. Did (entered p v) d t l)
did_enter (Ok t) p v f d e k l w h i =
    did_write_then (view_cell p) (viewed (resolved v)) (and_then (fence_of (reference.Promise p)) (end_joined v)) d e l t w
    (did_then (fence_of (reference.Promise p)) (end_joined v) e k l f t h i)
did_enter (Err x) p v f d e k l w h i = i
