-- The events of the live lines lead from the empty world to what is seen.
use Rattle.std.proofs.Common.{◌≡◌, ℕ, List, map, filter, reverse, sym, ap, ◌∙◌, subst}
use Rattle.history.specs.Subject.{Run, empty}
use Rattle.history.specs.Journal.{Entry, live_set}
use Rattle.history.specs.Records.{State, Row, contents, entries_of}
use Rattle.world_cells.specs.Events.{Event, event_in}
use Rattle.world_cells.specs.Theory.{cells}
use Rattle.event.specs.Events.{DoesNoted, events, noted_events}
use Rattle.event.proofs.Law.{noted_laws}
use Rattle.event.proofs.Noted.{live_run}
use Rattle.journal.specs.Items.{Item}
use Rattle.journal.specs.Lines.{plain, Line, entries_in, lines_of}
use Rattle.journal.specs.Standing.{ItemsStand}
use Rattle.journal.proofs.Reversed.{map-map, filter-map, filter-reverse, map-reverse}
use Rattle.journal.proofs.Telling.{told_entry, entries_told}
use Rattle.event.specs.Runs.{PlainRun}
use Rattle.book.specs.Calls.{live_events}

event_of : Entry plain → Event
event_of e = event_in e.event

-- the events of the live lines, the newest first
lines_forth : (lines : List Line) → live_events lines ≡ map event_of (filter (live_set plain) (map (λ l. l.entry) lines))
unfolding event_of
lines_forth lines = sym (ap (map event_of) (filter-map (λ (l : Line). l.entry) (live_set plain) lines) ∙ map-map event_of (λ (l : Line). l.entry) _)

lines_back : (lines : List Line) → reverse (live_events lines) ≡ map event_of (filter (live_set plain) (entries_in lines))
lines_back lines =
    ap reverse (lines_forth lines)
    ∙ sym (map-reverse event_of (filter (live_set plain) (map (λ (l : Line). l.entry) lines)))
    ∙ ap (map event_of) (sym (filter-reverse (live_set plain) (map (λ (l : Line). l.entry) lines)))

module _ {next : ℕ} {rows : List (Row noted_events)} {items : List Item} {state : State cells} (h : ItemsStand DoesNoted (empty noted_events) next rows items state) where
  -- those of the rows
  pub live_told : reverse (live_events (lines_of items)) ≡ map (λ e. event_in e.event) (filter (live_set noted_events) (entries_of rows))
  unfolding event_of
  live_told =
      lines_back (lines_of items)
      ∙ ap (λ es. map event_of (filter (live_set plain) es)) (entries_told DoesNoted noted_laws h)
      ∙ ap (map event_of) (filter-map (told_entry DoesNoted (entries_of rows)) (live_set plain) rows)
      ∙ map-map event_of (told_entry DoesNoted (entries_of rows)) _
      ∙ sym (ap (map (λ (e : Entry noted_events). event_in e.event)) (filter-map (λ (p : Row noted_events). p.0) (live_set noted_events) rows) ∙ map-map (λ (e : Entry noted_events). event_in e.event) (λ (p : Row noted_events). p.0) _)

  -- THE LEMMA
  pub plain_run : PlainRun (live_events (lines_of items)) (contents cells state)
  plain_run = ∣ subst (λ es. Run events (empty events) es (contents cells state)) (sym live_told) (live_run h.stands) ∣₁
