use Rattle.std.proofs.Common.{◌≡◌, ℕ, ◌+◌, List, ◌∷◌, ◌++◌, length}
use Rattle.stepper_questions.specs.ChainView.{near_of, Back}
use Rattle.stepper_questions.proofs.chain.places_back.Given as goal

-- the places so far, and those that are left
abbrev pub invariant-loop-step : goal.invariant-loop-step
invariant-loop-step l = (ps : List ℕ) → Back (near_of l.known.entries) l.fn.end ps → length ps ≡ l.fn.end.steps
    → (rest : List ℕ) × Back (near_of l.known.entries) l.near rest × (length rest + l._step ≡ l.fn.end.steps) × (l.places.items ++ rest ≡ l.fn.end.place ∷ ps)
