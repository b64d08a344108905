-- Single steps under a turn, where they succeed.
use Rattle.std.proofs.Common.{◌≡◌, List, [], Some, None, Result, Ok, Err, IfOk, sym, ap, ◌∙◌}
use Rattle.std.specs.Result.{OnOk}
use Rattle.ids.specs.declared.names.MsgId.{MsgId}
use Rattle.ids.specs.declared.names.PromId.{PromId}
use Rattle.ids.specs.declared.reference.Reference.{Reference}
use Rattle.cells.specs.Doing.{touching, holding}
use Rattle.eorder.specs.Fences.{joined}
use Rattle.heap.specs.State.{Cell, view_cell, fence_cell, Content, fenced, viewed, pending, same_cell, write, also}
use Rattle.heap.specs.Drafted.{Drafted}
use Rattle.heap.specs.Drafts.{draft_of, touched_of, written_of}
use Rattle.sends.specs.Vats.{nothing, names_of, fence_of, fence_joined, comes_in}
use Rattle.sends.specs.Playing.{under, Did}
use Rattle.sends.proofs.Did.{written_one, did_fence, did_join, did_come_now}

-- what holds of a cell where it was written
abbrev pub Wrote : {X E : Type 0} → Result X E → Cell → Content → Drafted → Drafted → Type 0
Wrote r c x d e = OnOk r (draft_of e ≡ write (draft_of d) c x) × (OnOk r (touched_of e ≡ also c (touched_of d)) × OnOk r (written_of e ≡ also c (written_of d)))

pub fence_shared : {E : Type 0} (r : Reference) (s : Result (List MsgId) E) (g : List MsgId) (d e : Drafted) → under e ≡ touching same_cell (fence_cell r) (under d) → Some (fenced g) ≡ draft_of e (fence_cell r) → IfOk s (λ f. f ≡ g) → IfOk s (λ f. Did (fence_of r) d f e)
fence_shared r (Ok f) g d e h q s = did_fence r f d e h (ap names_of (sym q) ∙ sym s)
fence_shared r (Err x) g d e h q s = s

pub names_added : {X E : Type 0} (s : Result X E) (t : Reference) (f g h : List MsgId) (d e k : Drafted) → (f ≡ [] → ⊥) → Did (fence_of t) d g e → h ≡ joined g f → Wrote s (fence_cell t) (fenced h) e k → OnOk s (Did (fence_joined (Some t) f) d nothing k)
names_added (Ok x) t f g h d e k n did j w = did_join t f g d e k n did (written_one (fence_cell t) (fenced h) e k w.0 w.1.0 w.1.1 ∙ ap (λ y. holding same_cell (fence_cell t) (fenced y) (under e)) j)
names_added (Err x) t f g h d e k n did j w = w.0

pub came_now : {X E : Type 0} (s : Result X E) (p : PromId) (d e k : Drafted) → under e ≡ touching same_cell (view_cell p) (under d) → None ≡ draft_of e (view_cell p) → Wrote s (view_cell p) (viewed pending) e k → OnOk s (Did (comes_in p) d nothing k)
came_now (Ok x) p d e k h q w = did_come_now p d e k h (sym q) (written_one (view_cell p) (viewed pending) e k w.0 w.1.0 w.1.1)
came_now (Err x) p d e k h q w = w.0
