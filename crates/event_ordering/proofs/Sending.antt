-- What turns send is new in the world of a run.
use Rattle.std.proofs.Common.{◌≡◌, ℕ, ◌+◌, List, [], ◌∷◌, Option, Some, None, refl, sym, subst}
use Rattle.std.proofs.Math.Logic.{∥∥₁_elim, ∥∥₁_map}
use Rattle.std.proofs.Props.{props}
use Rattle.history.specs.Subject.{Run}
use Rattle.ids.specs.declared.names.EventName.{EventName}
use Rattle.ids.specs.declared.names.MsgId.{MsgId}
use Rattle.ids.specs.declared.cells.CellKey.TheVariants as key
use Rattle.post.specs.Messages.{Message}
use Rattle.world_cells.specs.Events.{Event}
use Rattle.world_cells.specs.World.{World, empty}
use Rattle.event.specs.Events.{events, letters_from, AreNew}
use Rattle.event.specs.Laws.{HasNoMessage}
use Rattle.event.proofs.Readiness.{ready_exactly}
use Rattle.event_ordering.specs.Sending.{IsNewName, OthersSendNothingOfIt, SendsAreNew, NewTurnsWantReadyMessages}
use Rattle.event_ordering.proofs.Runs.{runs_do, names_run}

-- what merely is nothing is nothing
nothing_there : {A : Type 0} (o : Option A) → ∥ (o ≡ None) ∥₁ → o ≡ None
nothing_there None h = refl
nothing_there (Some x) h = absurd (∥∥₁_elim h (hlevel props) (λ (e : Some x ≡ None). some_none e))
  where
    some_none : Some x ≡ None → ⊥
    some_none e = cc

run_sends_nothing : (e : EventName) (es : List Event) (w : World) → Run events empty es w → IsNewName e es → HasNoMessage e w
run_sends_nothing e es w r new = let d = runs_do r in names_run d.0 w d.1.ran e (subst (IsNewName e) (sym d.1.events) new)

pub others_send_nothing : OthersSendNothingOfIt
others_send_nothing e es w (r, new) i = nothing_there (w (key.Msg (record { event = e; index = i }))) (∥∥₁_map r (λ r. run_sends_nothing e es w r new i))

letters_new : (e : EventName) (w : World) (i : ℕ) (letters : List (MsgId × Message)) → HasNoMessage e w → AreNew w (letters_from e i letters)
letters_new e w i [] none = tt
letters_new e w i (l ∷ letters) none = (none i, letters_new e w (i + 1) letters none)

pub sends_are_new : SendsAreNew
sends_are_new e es w h letters = letters_new e w 0 letters (others_send_nothing e es w h)

pub new_turns : NewTurnsWantReadyMessages
new_turns e es w h m budget = ready_exactly e w m budget (others_send_nothing e es w h)
