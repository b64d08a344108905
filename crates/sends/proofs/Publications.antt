-- What is published.
use Rattle.std.proofs.Common.{◌≡◌, Option, Some, None, List, [], Result, Ok, Err, IfOk, refl, sym, ap, ◌∙◌, subst}
use Rattle.ids.specs.declared.names.PromId.{PromId}
use Rattle.ids.specs.declared.reference.Reference.{Reference}
use Rattle.cells.specs.Doing.{over, touching, and_then}
use Rattle.eorder.specs.Carried.{Carried}
use Rattle.kernele.specs.Tree.{Name}
use Rattle.values.specs.Data.{Val, text, broken, Reply}
use Rattle.values.specs.Replies.{text_in}
use Rattle.heap.specs.State.{view_cell, Content, viewed, pending, same_cell}
use Rattle.heap.specs.Drafted.{Drafted}
use Rattle.heap.specs.Drafts.{draft_of}
use Rattle.sends.specs.Vats.{Vat, ended, settled, references, each_once, carried, leaving, entered}
use Rattle.sends.specs.Making.{Refusal, Making, refused, makes, value_too_large, of_settled, Published, entered_at, entered_if_come, publishing, already_used, first_use, used, resolving, smashed_by, smashing, told, ending}
use Rattle.sends.specs.Playing.{under, Did}
use Rattle.sends.proofs.Playing.{did_then}
use Rattle.sends.proofs.Did.{did_read}

-- nothing was made
pub did_refuse : {R : Type 0} (x y : Refusal) (d : Drafted) → x ≡ y → (let none : Vat (Making R) = over (refused y) in Did none d (refused x) d)
did_refuse {R} x y d h = ap (λ x. let its : Making R = refused x in (its, under d)) (sym h)

-- a promise has come into the vat, and was entered; or it has not
pub entered_now : {E : Type 0} (s : Result (Option Reference) E) (p : PromId) (v : Val) (x : Content) (d e k : Drafted) → under e ≡ touching same_cell (view_cell p) (under d) → draft_of e (view_cell p) ≡ Some x → IfOk s (λ t. Did (entered p v) e t k)
    → IfOk s (λ t. Did (entered_if_come p v) d t k)
entered_now (Ok t) p v x d e k h q i = did_read (view_cell p) (entered_at p v) d e k (Some x) t h q i
entered_now (Err y) p v x d e k h q i = i

pub not_entered : (p : PromId) (v : Val) (d e : Drafted) → under e ≡ touching same_cell (view_cell p) (under d) → draft_of e (view_cell p) ≡ None → Did (entered_if_come p v) d None e
not_entered p v d e h q = did_read (view_cell p) (entered_at p v) d e e None None h q refl

-- a value was published
pub did_publish : (p : PromId) (v : Val) (c : Carried) (t : Option Reference) (d e k : Drafted) → Did (leaving (references v)) d c e → Did (entered_if_come p v) e t k → Did (publishing p v) d (record { value = v; fences = c; joined = t }) k
did_publish p v c t d e k h i =
    let out : Carried → Option Reference → Published = λ c t. record { value = v; fences = c; joined = t } in
    did_then (leaving (references v)) (λ c. and_then (entered_if_come p v) (λ t. over (out c t))) d e k c (out c t) h
    (did_then (entered_if_come p v) (λ t. over (out c t)) e k k t (out c t) i refl)

-- a resolver was used for the first time; or it was used before
pub used_now : (p : PromId) (v : Val) (b : Published) (d e k : Drafted) → under e ≡ touching same_cell (view_cell p) (under d) → draft_of e (view_cell p) ≡ Some (viewed pending) → Did (publishing p v) e b k → Did (used p v) d (makes b) k
used_now p v b d e k h q i = did_read (view_cell p) (first_use p v) d e k (Some (viewed pending)) (makes b) h q (did_then (publishing p v) (λ b. over (makes b)) e k k b (makes b) i refl)

pub used_before : {A E : Type 0} (s : Result A E) (f : A → Making Published) (p : PromId) (v : Val) (x : Option Content) (d e : Drafted) → under e ≡ touching same_cell (view_cell p) (under d) → draft_of e (view_cell p) ≡ x
    → first_use p v x ≡ over already_used → IfOk s (λ m. f m ≡ already_used) → IfOk s (λ m. Did (used p v) d (f m) e)
used_before (Ok m) f p v x d e h q n r =
    let its : Did (first_use p v x) e (f m) e = subst (λ (g : Vat (Making Published)). Did g e (f m) e) (sym n) (ap (λ y. (y, under e)) (sym r)) in
    did_read (view_cell p) (first_use p v) d e e x (f m) h q its
used_before (Err y) f p v x d e h q n r = r

-- what a resolver is given has a settled form; or it has none
pub resolved_to : {A E : Type 0} (s : Result A E) (f : A → Making Published) (p : PromId) (v w : Val) (d e k : Drafted) → Did (settled v) d (Some w) e → IfOk s (λ m. Did (used p w) e (f m) k) → IfOk s (λ m. Did (resolving p v) d (f m) k)
resolved_to (Ok m) f p v w d e k h i = did_then (settled v) (of_settled (used p)) d e k (Some w) (f m) h i
resolved_to (Err x) f p v w d e k h i = i

pub not_resolved : (p : PromId) (v : Val) (w : Refusal) (d e : Drafted) → Did (settled v) d None e → w ≡ value_too_large → Did (resolving p v) d (refused w) e
not_resolved p v w d e h r = did_then (settled v) (of_settled (used p)) d e e None (refused w) h (did_refuse w value_too_large e r)

-- what it is broken by has this end
pub smashed : {A E : Type 0} (s : Result A E) (f : A → Making Published) (p : PromId) (v w : Val) (d e k : Drafted) → Did (ended v) d w e → IfOk s (λ m. Did (smashed_by p w (text_in w)) e (f m) k) → IfOk s (λ m. Did (smashing p v) d (f m) k)
smashed (Ok m) f p v w d e k h i = did_then (ended v) (λ w. smashed_by p w (text_in w)) d e k w (f m) h i
smashed (Err x) f p v w d e k h i = i

-- it is a text
pub smashed_by_text : {A E : Type 0} (s : Result A E) (f : A → Making Published) (p : PromId) (w : Val) (words : Name) (d e : Drafted) → w ≡ text words → IfOk s (λ m. Did (used p (broken words)) d (f m) e) → IfOk s (λ m. Did (smashed_by p w (text_in w)) d (f m) e)
smashed_by_text (Ok m) f p w words d e h i = subst (λ (w : Val). Did (smashed_by p w (text_in w)) d (f m) e) (sym h) i
smashed_by_text (Err x) f p w words d e h i = i

-- a turn ends with this value
pub ended_with : {A E : Type 0} (s : Result A E) (f : A → Published) (p : PromId) (r : Reply) (v : Val) (d e : Drafted) → v ≡ told r → IfOk s (λ b. Did (publishing p v) d (f b) e) → IfOk s (λ b. Did (ending p r) d (f b) e)
ended_with (Ok b) f p r v d e h i = subst (λ (v : Val). Did (publishing p v) d (f b) e) h i
ended_with (Err x) f p r v d e h i = i

-- the references in a value leave
pub did_leave : {E : Type 0} (s : Result Carried E) (rs none found slice : List Reference) (d e : Drafted) → none ≡ [] → found ≡ each_once none rs → slice ≡ found → IfOk s (λ c. Did (carried [] slice) d c e) → IfOk s (λ c. Did (leaving rs) d c e)
did_leave (Ok c) rs none found slice d e n h q i =
    let its : slice ≡ each_once [] rs = q ∙ h ∙ ap (λ n. each_once n rs) n in
    subst (λ (xs : List Reference). Did (carried [] xs) d c e) its i
did_leave (Err x) rs none found slice d e n h q i = i
