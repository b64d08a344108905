-- Events with their notes: those that are no turns have none, and what they are without these.
use Rattle.std.proofs.Common.{◌≡◌, ℕ, false, List, [], ◌∷◌, map, filter, refl, ap, ◌∙◌, subst, sym}
use Rattle.std.proofs.lemmas.Bool.{false≢true}
use Rattle.history.specs.Subject.{Run, run_none, run_more}
use Rattle.history.specs.Journal.{Entry, live_set}
use Rattle.history.specs.Records.{Row, State, contents, entries_of}
use Rattle.history.specs.Stands.{Stands}
use Rattle.history.proofs.Standing.{standing_run}
use Rattle.eval_rules.specs.OutboxView.{note_of}
use Rattle.eval_rules.specs.declared.outbox.Note as code-note
use Rattle.world_cells.specs.Events.{Noted, Event, event_in, with_notes}
use Rattle.world_cells.specs.World.{World, empty}
use Rattle.event.specs.Events.{Foot, Does, births, asks, arrives, forwards, learns, turns, notes_of, DoesNoted, events, noted_events}
use Rattle.event.proofs.Law.{is_turn, noted_laws}

-- an event that is no turn makes no notes
quiet_notes : {e : Event} {w : World} {f : Foot} (d : Does e w f) → is_turn e.act ≡ false → notes_of d ≡ []
quiet_notes (births vats free named) quiet = refl
quiet_notes (asks named) quiet = refl
quiet_notes (arrives there moved) quiet = refl
quiet_notes (forwards there waiting is onward) quiet = refl
quiet_notes (learns unresolved resolved leaves) quiet = refl
quiet_notes (turns possible leaves) quiet = absurd (false≢true (sym quiet))

-- so it is possible with no notes
pub quietly : {e : Event} {w : World} {f : Foot} → Does e w f → is_turn e.act ≡ false → (notes : List code-note.Note) → notes ≡ [] → DoesNoted (with_notes e (map note_of notes)) w f
quietly d quiet notes none = (d, quiet_notes d quiet ∙ sym (ap (map note_of) none))

-- a run of events with their notes is one of the events alone
pub plain_of : {es : List Noted} {w : World} → Run noted_events empty es w → Run events empty (map event_in es) w
plain_of run_none = run_none
plain_of (run_more r does) = run_more (plain_of r) does.0

events_in : (es : List (Entry noted_events)) → map event_in (map (λ e. e.event) es) ≡ map (λ e. event_in e.event) es
events_in [] = refl
events_in (e ∷ es) = ap (λ ds. event_in e.event ∷ ds) (events_in es)

-- the events of the live entries of a journal that stands ran from the empty world to what is seen
pub live_run : {next : ℕ} {rows : List (Row noted_events)} {state : State noted_events} → Stands noted_events empty next rows state
    → Run events empty (map (λ e. event_in e.event) (filter (live_set noted_events) (entries_of rows))) (contents noted_events state)
live_run {rows = rows} {state = state} h =
    subst (λ (es : List Event). Run events empty es (contents noted_events state)) (events_in (filter (live_set noted_events) (entries_of rows)))
    (plain_of (standing_run noted_events noted_laws h))
