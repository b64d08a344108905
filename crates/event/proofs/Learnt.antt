-- What the program has of what a vat learns is what it learns.
use Rattle.std.proofs.Common.{◌≡◌, Option, is_some, Result, Ok, Err, IfOk, sym, ap, ◌∙◌, subst}
use Rattle.std.specs.declared.alloc.AllocError.{AllocError}
use Rattle.ids.specs.declared.names.PromId.{PromId}
use Rattle.ids.specs.declared.reference.Reference.{Reference}
use Rattle.cells.specs.Doing.{Under, play}
use Rattle.heap.specs.State.{Cell, Cells, Content, State, no_cells, same_cell}
use Rattle.heap.specs.Drafted.{Drafted}
use Rattle.heap.specs.Drafts.{draft_of, touched_of, writes_of, written_of, began_with}
use Rattle.heap.specs.Found.{Found, touched_in, writes_in}
use Rattle.heap.specs.declared.reach.Footprint.{Footprint}
use Rattle.heap.proofs.Drafting.{draft_as_written}
use Rattle.sends.specs.Vats.{Nothing, nothing, entered, coming_in, references}
use Rattle.sends.specs.Playing.{under, Did, IsSameTurn}
use Rattle.sends.proofs.Playing.{did_then}
use Rattle.post.specs.Messages.{Published}
use Rattle.event.specs.Events.{learning, untouched}
use Rattle.event.specs.Learning.{Learns, behind_learning}

-- a promise is entered, what was published comes in, and then it is seen what was touched and written
pub learns : (s : State) (p : PromId) (b : Published) (d e k : Drafted) (t : Option Reference) (r : Footprint)
    → draft_of d ≡ s → touched_of d ≡ no_cells → written_of d ≡ no_cells → began_with d ≡ s
    → Did (entered p b.value) d t e → IsSameTurn d e → Did (coming_in b.fences (references b.value)) e nothing k → IsSameTurn e k
    → touched_in r ≡ touched_of k → writes_in r ≡ writes_of k → Found r (began_with k) → Learns s p b r
learns s p b d e k t r state none nowhere began enters one comes two touched writes found =
    let start : under d ≡ untouched s = λ i. record { state = state i; touched = none i; written = nowhere i } in
    let all : Did (learning p b) d nothing k = did_then (entered p b.value) (λ t. coming_in b.fences (references b.value)) d e k t nothing enters comes in
    let ends : behind_learning s p b ≡ under k = ap (λ (u : Under Cell Content). (play same_cell (learning p b) u).1) (sym start) ∙ ap (λ (q : Nothing × Under Cell Content). q.1) all in
    let is_there : State → Cells = λ w c. is_some (w c) in
    record {
      found = subst (Found r) (two.began ∙ one.began ∙ began) found;
      touched = touched ∙ ap (λ (u : Under Cell Content). u.touched) (sym ends);
      written = ap is_there writes ∙ ap (λ (u : Under Cell Content). u.written) (sym ends);
      holds = λ c x h. ap (λ (u : Under Cell Content). u.state c) ends ∙ draft_as_written k c x (sym (ap (λ (w : State). w c) writes) ∙ h);
    }

-- the same of what may have failed for want of memory
pub learns_if : (x : Result Footprint AllocError) (s : State) (p : PromId) (b : Published) (d e k : Drafted) (t : Option Reference)
    → draft_of d ≡ s → touched_of d ≡ no_cells → written_of d ≡ no_cells → began_with d ≡ s
    → Did (entered p b.value) d t e → IsSameTurn d e → Did (coming_in b.fences (references b.value)) e nothing k → IsSameTurn e k
    → IfOk x (λ r. touched_in r ≡ touched_of k) → IfOk x (λ r. writes_in r ≡ writes_of k) → IfOk x (λ r. Found r (began_with k)) → IfOk x (Learns s p b)
learns_if (Ok r) s p b d e k t state none nowhere began enters one comes two touched writes found = learns s p b d e k t r state none nowhere began enters one comes two touched writes found
learns_if (Err y) s p b d e k t state none nowhere began enters one comes two touched writes found = tt
