-- What holds of each book that stands: its journal is one, its world is the plain run, and last writers are those of the journal.
use Rattle.std.proofs.Common.{◌≡◌, ℕ, Bool, List, [], ◌∷◌, Option, Some, None, is_some, ◌&&◌, cond, map, filter, reverse, refl, sym, ap, ap₂, ◌∙◌, subst}
use Rattle.std.proofs.Math.Logic.{∥∥₁_elim, ∥∥₁_prop}
use Rattle.std.proofs.Props.{props}
use Rattle.std.specs.List.{AllByRecursion}
use Rattle.history.proofs.Lists.{all_map}
use Rattle.journal.proofs.Touching.{told_new}
use Rattle.history.specs.Subject.{empty, new, Run}
use Rattle.history.specs.Journal.{Entry, live_set}
use Rattle.history.specs.Chains.{last_writer}
use Rattle.history.specs.Records.{State, Row, contents, entries_of}
use Rattle.history.proofs.Standing.{last_shown}
use Rattle.ids.specs.declared.cells.CellKey.{CellKey}
use Rattle.world_cells.specs.Events.{Noted, event_in}
use Rattle.world_cells.specs.Theory.{cells}
use Rattle.event.specs.Events.{DoesNoted, events, noted_events}
use Rattle.event.proofs.Law.{noted_laws}
use Rattle.event.proofs.Noted.{live_run}
use Rattle.journal.specs.Items.{Item}
use Rattle.journal.specs.Lines.{plain, Line, lines_of, entries_in}
use Rattle.journal.specs.Standing.{ItemsStand}
use Rattle.journal.proofs.Reversed.{map-map, map-reverse, filter-map, filter-reverse}
use Rattle.journal.proofs.Telling.{told_entry, entries_told}
use Rattle.causality.specs.Journals.{IsJournal}
use Rattle.desk.specs.Desks.{Lent}
use Rattle.undo.specs.CoreView.{items_of, state_of}
use Rattle.undo.specs.declared.undoing.Core.{Core}
use Rattle.undo.proofs.Standing.{begins}
use Rattle.event.specs.Runs.{PlainRun}
use Rattle.book.specs.Calls.{live_events}
use Rattle.book.specs.Standing.{Stands}

-- nothing has happened, and the book stands
pub blank_stands : (core : Core) (out : List Lent) → items_of core ≡ [] → ((k : CellKey) → state_of core k ≡ (None, None)) → out ≡ [] → Stands core 1 out
blank_stands core out items cells none = subst (Stands core 1) (sym none) ∣ record { rows = []; stands = begins DoesNoted noted_laws 1 core items cells; free = tt; drawn = tt; apart = tt } ∣₁

pub stands_journal : (core : Core) (next : ℕ) (out : List Lent) → Stands core next out → IsJournal (items_of core)
stands_journal core next out h = ∥∥₁_elim h ∥∥₁_prop (λ k. ∣ (next, k.rows, state_of core, k.stands) ∣₁)

-- the live events of the lines, the newest first, are those of the rows
live_told : {next : ℕ} {rows : List (Row noted_events)} {items : List Item} {state : State cells} → ItemsStand DoesNoted (empty noted_events) next rows items state
    → reverse (live_events (lines_of items)) ≡ map (λ e. event_in e.event) (filter (live_set noted_events) (entries_of rows))
live_told {rows = rows} {items = items} h =
    let told = told_entry DoesNoted (entries_of rows) in
    let live : Row noted_events → Bool = λ p. p.0.live in
    ap reverse (sym (map-map (λ (e : Entry plain). event_in e.event) (λ (l : Line). l.entry) (filter (λ l. l.entry.live) (lines_of items))) ∙ ap (map (λ (e : Entry plain). event_in e.event)) (sym (filter-map (λ (l : Line). l.entry) (live_set plain) (lines_of items))))
    ∙ sym (map-reverse (λ (e : Entry plain). event_in e.event) (filter (live_set plain) (map (λ l. l.entry) (lines_of items))))
    ∙ ap (map (λ (e : Entry plain). event_in e.event)) (sym (filter-reverse (live_set plain) (map (λ l. l.entry) (lines_of items))))
    ∙ ap (λ es. map (λ (e : Entry plain). event_in e.event) (filter (live_set plain) es)) (entries_told DoesNoted noted_laws h)
    ∙ ap (map (λ (e : Entry plain). event_in e.event)) (filter-map told (live_set plain) rows)
    ∙ map-map (λ (e : Entry plain). event_in e.event) told (filter live rows)
    ∙ sym (map-map (λ (e : Entry noted_events). event_in e.event) (λ (p : Row noted_events). p.0) (filter live rows))
    ∙ ap (map (λ (e : Entry noted_events). event_in e.event)) (sym (filter-map (λ (p : Row noted_events). p.0) (live_set noted_events) rows))

-- the headline: the world is the plain run of the live events in the journal's order
pub stands_run : (core : Core) (next : ℕ) (out : List Lent) → Stands core next out → PlainRun (live_events (lines_of (items_of core))) (contents cells (state_of core))
stands_run core next out h = ∥∥₁_elim h ∥∥₁_prop (λ k.
    ∣ subst (λ es. Run events (empty events) es (contents cells (state_of core))) (sym (live_told k.stands)) (live_run k.stands.stands) ∣₁)

numbers_set : IsSet (Option ℕ)
numbers_set = hlevel props

-- the newest member that wrote a cell is told as it is
writer_told : (k : CellKey) (told : Row noted_events → Entry plain) → ((p : Row noted_events) → (told p).event ≡ p.0.event) → (rows : List (Row noted_events))
    → AllByRecursion (λ p. ((told p).live ≡ p.0.live) × (is_some (new plain (told p).foot k) ≡ is_some (new noted_events p.0.foot k))) rows
    → last_writer plain k (live_set plain) (map told rows) ≡ last_writer noted_events k (live_set noted_events) (entries_of rows)
writer_told k told name [] h = refl
writer_told k told name (p ∷ rows) ((live, wrote), h) =
    ap₂ (λ (b : Bool) (o : Option ℕ). cond b (Some (told p).event.name.0) o) (ap₂ (λ a b. a && b) live wrote) (writer_told k told name rows h)
    ∙ ap (λ (n : ℕ). cond (p.0.live && is_some (new noted_events p.0.foot k)) (Some n) (last_writer noted_events k (live_set noted_events) (entries_of rows))) (ap (λ (e : Noted). e.name.0) (name p))

-- each cell has as its last writer the newest live event that wrote it
pub stands_writers : (core : Core) (next : ℕ) (out : List Lent) → Stands core next out → (k : CellKey) → (state_of core k).1 ≡ last_writer plain k (live_set plain) (entries_in (lines_of (items_of core)))
stands_writers core next out h k = ∥∥₁_elim h (numbers_set _ _) (λ q.
    last_shown noted_events q.stands.stands k
    ∙ sym (ap (last_writer plain k (live_set plain)) (entries_told DoesNoted noted_laws q.stands)
    ∙ writer_told k (told_entry DoesNoted (entries_of q.rows)) (λ p. refl) q.rows
    (all_map _ _ q.rows (λ p fits. (refl, told_new DoesNoted noted_laws p.0.foot p.0.lasts p.1 fits k)) q.stands.stands.follows.fit)))
