-- What the program finds to do, message by message and promise by promise.
use Rattle.std.specs.Prelude.{cond, List, [], ◌∷◌, Option, Some, None, is_some, is_none}
use Rattle.std.specs.List.{filter_map}
use Rattle.ids.specs.declared.names.VatNo.{VatNo}
use Rattle.ids.specs.declared.names.MsgId.{MsgId}
use Rattle.post.specs.Messages.{Place, flying, at_vat, done, Message}
use Rattle.world_cells.specs.World.{World, message_of}
use Rattle.event.specs.Forwarding.{onward_of}
use Rattle.event.specs.Ready.{unready_at}
use Rattle.book_agenda.specs.Enabled.{Out}
use Rattle.book_agenda.specs.Waiting.{how}
use Rattle.book_agenda.specs.declared.waiting.Waits.{Waits}
use Rattle.book_agenda.specs.declared.waiting.Waits.TheVariants as waits
use Rattle.book_agenda.specs.declared.agenda.Known.{Known}
use Rattle.book_agenda.specs.declared.agenda.Agenda.{Agenda}
use Rattle.book_agenda.specs.declared.agenda.Step.{Step}
use Rattle.book_agenda.specs.declared.agenda.Move.TheVariants as move
use Rattle.book_agenda.specs.declared.agenda.Step.TheVariants as step

-- what a message does that moves: it arrives, or goes on
abbrev pub moves_in : MsgId → Place → Option Step
moves_in m (flying v) = Some (step.Move (move.Arrive m))
moves_in m (at_vat v) = Some (step.Move (move.Forward m))
moves_in m (done e) = None

abbrev pub moves : MsgId → Option Message → Option Step
moves m None = None
moves m (Some g) = moves_in m g.place

module _ (w : World) (out : Out) where
  -- a message at a vat goes on if it can, and has its turn if it is ready and no ticket of the vat is out
  abbrev pub step_at : MsgId → Message → VatNo → Option Step
  step_at m g v = cond (is_some (onward_of w v g)) (Some (step.Move (move.Forward m))) (cond (out v) None (cond (is_none (unready_at w v g)) (Some (step.Turn m)) None))

  abbrev pub step_in : MsgId → Message → Place → Option Step
  step_in m g (flying v) = Some (step.Move (move.Arrive m))
  step_in m g (at_vat v) = step_at m g v
  step_in m g (done e) = None

  abbrev pub step_of : MsgId → Option Message → Option Step
  step_of m None = None
  step_of m (Some g) = step_in m g g.place

  -- what a message can do
  abbrev pub message_step : MsgId → Option Step
  message_step m = step_of m (message_of w m)

  -- what a message does that waits so
  abbrev pub step_by : MsgId → Waits → Option Step
  step_by m waits.Moving = moves m (message_of w m)
  step_by m (waits.Ready v) = cond (out v) None (Some (step.Turn m))
  step_by m waits.Behind = None

  -- what messages can do
  abbrev pub message_steps : Agenda → List Step
  message_steps a = filter_map (λ e. step_by e.0 e.1) a.waiting.all.entries

  abbrev pub step_if : MsgId → Option Waits → Option Step
  step_if m None = None
  step_if m (Some x) = step_by m x

  -- what those at the front can do
  abbrev pub front_step : Agenda → MsgId → Option Step
  front_step a m = step_if m (how a.waiting m)

  abbrev pub front_steps : Agenda → List Step
  front_steps a = filter_map (front_step a) a.waiting.fronts.keys

-- a vat learns what it can learn if no ticket of it is out
abbrev pub learn_step : Out → Known → Option Step
learn_step out k = cond (out k.vat) None (Some (step.Move (move.Learn k.vat k.promise)))

-- what vats can learn
abbrev pub learn_steps : Out → Agenda → List Step
learn_steps out a = filter_map (learn_step out) a.known.keys

-- the first of a list
abbrev pub first_in : {A : Type 0} → List A → Option A
first_in [] = None
first_in (x ∷ xs) = Some x
