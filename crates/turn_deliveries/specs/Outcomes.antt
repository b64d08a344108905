-- What the program's outcomes of turns stand for.
use Rattle.std.specs.Prelude.{◌≡◌, ℕ, is_some}
use Rattle.ids.specs.declared.names.EventName.{EventName}
use Rattle.ids.specs.declared.names.VatNo.{VatNo}
use Rattle.values.specs.Data.{gives, throws}
use Rattle.values.specs.View.{val_of}
use Rattle.heap.specs.State.{State, Cells}
use Rattle.heap.specs.Found.{Found as FoundCells, left_by, touched_in, writes_in}
use Rattle.post.specs.Messages.{Message}
use Rattle.eval_rules.specs.OutboxView.{outbox_of}
use Rattle.eval_rules.specs.View.{cause_of}
use Rattle.turn_deliveries.specs.Turn.{Found, Told, told, lost, Outcome, Delivers}
use Rattle.turn_deliveries.specs.Touched.{delivery_touched, delivery_written}
use Rattle.turn_deliveries.specs.declared.outcome.TurnEnd.{TurnEnd}
use Rattle.turn_deliveries.specs.declared.outcome.TurnEnd.TheVariants as code-ended
use Rattle.turn_deliveries.specs.declared.outcome.Outcome as code-outcome
use Rattle.turn_deliveries.specs.declared.lead.Lead.{Lead}

abbrev pub told_of : TurnEnd → Told
told_of (code-ended.Value v) = told (gives (val_of v))
told_of (code-ended.Problem problem) = told (throws problem)
told_of (code-ended.Abandoned why) = lost (cause_of why)

-- all but an abandoned turn keeps what was written; that leaves the state as it was
abbrev pub kept : Told → State → State → State
kept (told r) old new = new
kept (lost why) old new = old

-- the outcome of a turn that was begun in this state: what it wrote over it, unless it was abandoned
abbrev pub outcome_on : code-outcome.Outcome → State → Outcome
outcome_on o u = record { state = kept (told_of o.ended) u (left_by o.footprint u); told = told_of o.ended; left = o.steps; out = outbox_of o.out }

-- the cells that it wrote, also where that is not kept
abbrev pub written_by : code-outcome.Outcome → Cells
written_by o c = is_some (writes_in o.footprint c)

-- where a delivery leads, as the program has it
abbrev pub found_of : Lead → Found
found_of l = record { end = val_of l.end; fences = l.fences.value }

-- on each state that agrees with what was found, a message has this outcome, and touches and writes just these cells
abbrev pub Meets : Message → Found → EventName → VatNo → ℕ → code-outcome.Outcome → Type 0
Meets g f e v n o = (u : State) → FoundCells o.footprint u
    → ∥ ((r : Delivers g f e v u n (outcome_on o u)) × (delivery_touched r ≡ touched_in o.footprint) × (delivery_written r ≡ written_by o)) ∥₁
