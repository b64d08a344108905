-- A journal that stands in a vector, the oldest item first: items at chosen positions are exchanged with a state, one after another.
use Rattle.std.specs.Prelude.{ℕ, Bool, cond, List, [], ◌∷◌, length, slice_get, slice_set}
use Rattle.std.specs.Option.{option_map_or}
use Rattle.history.specs.Subject.{Subject}
use Rattle.history.specs.Records.{Row, State, swap_state, swap_row}

-- the positions of the items that pass a test, counted from the oldest; the items are the newest first, and so are the positions
abbrev pub spots : {A : Type 0} → (A → Bool) → List A → List ℕ
spots c [] = []
spots c (e ∷ es) = cond (c e) (length es ∷ spots c es) (spots c es)

module _ {A S : Type 0} (one : A → S → A × S) where
  -- the items and the state after the item at a position is exchanged
  abbrev pub step_at : ℕ → List A × S → List A × S
  step_at p j = option_map_or (λ x. (slice_set j.0 p (one x j.1).0, (one x j.1).1)) (slice_get j.0 p) j

  -- the same at each of these positions in turn
  abbrev pub walk : List ℕ → List A × S → List A × S
  walk [] j = j
  walk (p ∷ ps) j = walk ps (step_at p j)

-- a row and the state after they are exchanged
abbrev pub exchange : (s : Subject) → Bool → Row s → State s → Row s × State s
exchange s live p state = (swap_row s live p state, swap_state s p.1 state)
