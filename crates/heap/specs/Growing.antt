-- A slot whose value a verb made longer.
use Rattle.std.specs.Prelude.{◌≡◌, ℕ, Bool, true, false, ◌&&◌, is_some, Option, Some, List}
use Rattle.ids.specs.declared.names.SlotId.{SlotId}
use Rattle.values.specs.Data.{Val, no_vals, and_val, gives}
use Rattle.values.specs.Growing.{adds_to}
use Rattle.values.specs.Replies.{data_reply, value_given}
use Rattle.heap.specs.State.{slot_cell, Content, held, read, write, also}
use Rattle.heap.specs.Drafted.{Drafted}
use Rattle.heap.specs.Drafts.{draft_of, touched_of, written_of}

-- whether a verb with one argument adds something to what a cell holds, and gives a value
abbrev pub lengthens : List ℕ → Val → Option Content → Bool
lengthens verb more (Some (held v)) = adds_to v verb more && is_some (value_given (data_reply v verb (and_val more no_vals)))
lengthens verb more _ = false

-- a slot that was touched before holds what a verb with one argument gives for what it held
pub record SlotGrew (i : SlotId) (verb : List ℕ) (more : Val) (d e : Drafted) : Type 0 where
  pub before : Val
  pub after : Val
  pub touched : touched_of d (slot_cell i) ≡ true
  pub content : read (draft_of d) (slot_cell i) ≡ Some (held before)
  pub given : data_reply before verb (and_val more no_vals) ≡ gives after
  pub state : draft_of e ≡ write (draft_of d) (slot_cell i) (held after)
  pub cells : touched_of e ≡ also (slot_cell i) (touched_of d)
  pub written : written_of e ≡ also (slot_cell i) (written_of d)

-- it grew, or nothing has changed
abbrev pub SlotGrows : Bool → SlotId → List ℕ → Val → Drafted → Drafted → Type 0
SlotGrows true i verb more d e = SlotGrew i verb more d e
SlotGrows false i verb more d e = e ≡ d
