-- What is done to the cells of a vat's state under a turn.
use Rattle.std.specs.Prelude.{◌≡◌, List, [], ◌∷◌}
use Rattle.ids.specs.declared.names.PromId.{PromId}
use Rattle.ids.specs.declared.names.ObjId.{ObjId}
use Rattle.cells.specs.Doing.{Under, touching, play}
use Rattle.heap.specs.State.{Cell, view_cell, Content, State, same_cell}
use Rattle.heap.specs.Drafted.{Drafted}
use Rattle.heap.specs.Drafts.{draft_of, touched_of, written_of, counts_of, began_with}
use Rattle.refs.specs.Walks.{Resolutions}
use Rattle.sends.specs.Vats.{Vat, resolution_in}

-- the cells under a turn
abbrev pub under : Drafted → Under Cell Content
under d = record { state = draft_of d; touched = touched_of d; written = written_of d }

-- this was done under a turn, with this result
abbrev pub Did : {R : Type 0} → Vat R → Drafted → R → Drafted → Type 0
Did f d r e = play same_cell f (under d) ≡ (r, under e)

-- it is the same turn, which has made no slot and no object more
pub record IsSameTurn (d e : Drafted) : Type 0 where
  pub counts : counts_of e ≡ counts_of d
  pub began : began_with e ≡ began_with d

-- what promises were resolved to, by their cells
abbrev pub views_in : State → Resolutions
views_in s p = resolution_in (s (view_cell p))

-- cells whose views of promises were looked at, in this order
abbrev pub looked_at : List PromId → Under Cell Content → Under Cell Content
looked_at [] u = u
looked_at (p ∷ ps) u = looked_at ps (touching same_cell (view_cell p) u)

-- the name of the object that a turn makes next
abbrev pub next_object : Drafted → ObjId
next_object d = record { event = (counts_of d).event; index = (counts_of d).objects; vat = (counts_of d).vat }
