-- What the program has of what a vat learnt.
use Rattle.std.specs.Prelude.{◌≡◌, Some, is_some}
use Rattle.cells.specs.Doing.{Under, play}
use Rattle.ids.specs.declared.names.PromId.{PromId}
use Rattle.heap.specs.State.{Cell, Content, State, same_cell}
use Rattle.heap.specs.Found.{Found, touched_in, writes_in}
use Rattle.heap.specs.declared.reach.Footprint.{Footprint}
use Rattle.post.specs.Messages.{Published}
use Rattle.event.specs.Events.{learning, untouched}

-- a vat's cells in this state behind what it learns of a promise
abbrev pub behind_learning : State → PromId → Published → Under Cell Content
behind_learning s p b = (play same_cell (learning p b) (untouched s)).1

-- a vat in this state touches and writes just these cells when it learns that
pub record Learns (s : State) (p : PromId) (b : Published) (r : Footprint) : Type 0 where
  pub found : Found r s
  pub touched : touched_in r ≡ (behind_learning s p b).touched
  pub written : (λ c. is_some (writes_in r c)) ≡ (behind_learning s p b).written
  pub holds : (c : Cell) (x : Content) → writes_in r c ≡ Some x → (behind_learning s p b).state c ≡ Some x
