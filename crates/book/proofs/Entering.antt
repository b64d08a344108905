-- An event is entered: the book stands, the world goes one step, and the journal has one more line.
use Rattle.std.proofs.Common.{◌≡◌, ◌≢◌, ℕ, ◌+◌, ◌<◌, ◌≤◌, true, List, [], ◌∷◌, ◌++◌, map, is_some, refl, sym, ap, ap₂, ◌∙◌, subst, arith}
use Rattle.std.proofs.Math.Logic.{∥∥₁_elim, ∥∥₁_prop}
use Rattle.std.specs.List.{AllByRecursion}
use Rattle.history.specs.Subject.{empty, new, touches}
use Rattle.history.specs.Journal.{Free, causes_of, new_entry}
use Rattle.history.specs.Records.{State, Row, Record, contents, entries_of, swap_record}
use Rattle.history.specs.Chains.{HasCells}
use Rattle.history.proofs.Exchanges.{contents_after}
use Rattle.history.proofs.Lists.{all_map, all_both}
use Rattle.history.proofs.Naming.{causes_named, causes_below, free_causes, free_from}
use Rattle.ids.specs.CellKeys.{same_key}
use Rattle.ids.specs.declared.cells.CellKey.{CellKey}
use Rattle.eval_rules.specs.OutboxView.{note_of}
use Rattle.eval_rules.specs.declared.outbox.Note.{Note}
use Rattle.world_cells.specs.Events.{Event, Noted, with_notes}
use Rattle.world_cells.specs.Theory.{cells}
use Rattle.world_cells.specs.World.{World}
use Rattle.event.specs.Events.{Foot, DoesNoted, noted_events}
use Rattle.event.specs.Effects.{Brings, Happens}
use Rattle.event.specs.declared.effects.Effects.{Effects}
use Rattle.event.proofs.Law.{noted_laws}
use Rattle.journal.specs.Items.{Item, swap_item, entered}
use Rattle.journal.specs.Lines.{plain, bare, lines_of}
use Rattle.journal.specs.Standing.{ItemsStand}
use Rattle.journal.proofs.Appending.{next_line, lines_appended}
use Rattle.journal.proofs.Touching.{any-map, told_new, told_touches}
use Rattle.desk.specs.Desks.{Lent}
use Rattle.undo.specs.CoreView.{items_of, settled_of, state_of, shown}
use Rattle.undo.specs.Standing.{CoreStands}
use Rattle.undo.specs.declared.undoing.Core.{Core}
use Rattle.undo.proofs.Standing.{enters}
use Rattle.book.specs.Books.{Book}
use Rattle.book.specs.Calls.{Enters, EntersNext, Tells}
use Rattle.book.specs.Standing.{Apart, Kept, Stands}
use Rattle.book.proofs.Sets.{Bool-set, Lines-set}

-- the book of a core
abbrev pub book_with : Core → ℕ → List Lent → Book
book_with core next out = record { world = contents cells (state_of core); journal = lines_of (items_of core); settled = settled_of core; next = next; out = out }

-- what stands is what is shown
pub kept_same : (old new : Core) (next : ℕ) (out : List Lent) → shown new ≡ shown old → Kept old next out → Kept new next out
kept_same old new next out is k = record {
  rows = k.rows;
  stands = subst (λ (j : List Item × State cells). ItemsStand DoesNoted (empty noted_events) next k.rows j.0 j.1) (sym is) k.stands;
  free = k.free;
  drawn = k.drawn;
  apart = k.apart;
}

pub stands_same : (old new : Core) (next : ℕ) (out : List Lent) → shown new ≡ shown old → Stands old next out → Stands new next out
stands_same old new next out is h = ∥∥₁_elim h ∥∥₁_prop (λ k. ∣ kept_same old new next out is k ∣₁)

-- and so is the book
pub book_same : (old new : Core) (next : ℕ) (out : List Lent) → shown new ≡ shown old → settled_of new ≡ settled_of old → book_with new next out ≡ book_with old next out
book_same old new next out is many = ap₂ (λ (j : List Item × State cells) n. record { world = contents cells j.1; journal = lines_of j.0; settled = n; next = next; out = out }) is many

-- an event that is entered with these cells and this record
module _ (old now : Core) (next later : ℕ) (out : List Lent) (e : Noted) (seat : ℕ) (touched : List CellKey) (kept : Record cells) (f : Foot)
    (brings : Brings e.name f touched kept) (is : shown now ≡ entered e seat touched kept (shown old)) (le : next ≤ later) (lt : e.name.0 < later) where
  -- the item that is added
  abbrev item : Item
  item = (swap_item true (record { event = e; seat = seat; live = true; lasts = map (λ k. (k, (state_of old k).1)) touched; kept = kept }) (state_of old)).0

  items : items_of now ≡ items_of old ++ item ∷ []
  items = ap (λ (j : List Item × State cells). j.0) is

  touches_all : HasCells noted_events f (map (λ k. (k, (state_of old k).1)) touched)
  touches_all k = any-map (λ (c : CellKey). (c, (state_of old c).1)) (λ p. same_key k p.0) touched ∙ brings.touch k

  -- the row of the event among these
  abbrev row : List (Row noted_events) → Row noted_events
  row rows = (new_entry noted_events e f (causes_of noted_events f (entries_of rows)) (map (λ k. (k, (state_of old k).1)) touched), swap_record noted_events kept (state_of old))

  module _ (rows : List (Row noted_events)) (h : CoreStands DoesNoted (empty noted_events) next rows old) (d : DoesNoted e (contents cells (state_of old)) f) (free : Free noted_events e.name.0 (entries_of rows)) where
    pub entered_stands : CoreStands DoesNoted (empty noted_events) later (row rows ∷ rows) now
    entered_stands = (enters DoesNoted noted_laws (empty noted_events) next later rows old now e seat touched kept f (causes_of noted_events f (entries_of rows)) h d free le lt
        (causes_named noted_events f h.stands.named)
        (all_map _ _ (causes_of noted_events f (entries_of rows)) (λ n m. omega (arith, m, le)) (causes_below noted_events f h.stands.named))
        (free_causes noted_events e.name.0 f (entries_of rows) free) touches_all brings.write is).0

    stands_with : ItemsStand DoesNoted (empty noted_events) later (row rows ∷ rows) (items_of old ++ item ∷ []) (state_of now)
    stands_with = subst (λ its. ItemsStand DoesNoted (empty noted_events) later (row rows ∷ rows) its (state_of now)) items entered_stands

    pub entered_lines : lines_of (items_of now) ≡ lines_of (items_of old) ++ next_line (lines_of (items_of old)) item ∷ []
    entered_lines = ap lines_of items ∙ lines_appended DoesNoted noted_laws (row rows) item h stands_with refl

    touch_told : (k : CellKey) → touches plain (bare item).foot k ≡ touches noted_events f k
    touch_told k = told_touches DoesNoted noted_laws f (map (λ k. (k, (state_of old k).1)) touched) (swap_record noted_events kept (state_of old)) touches_all (stands_with.stands.follows.fit.0) k

    new_told : (k : CellKey) → is_some (new plain (bare item).foot k) ≡ is_some (new noted_events f k)
    new_told k = told_new DoesNoted noted_laws f (map (λ k. (k, (state_of old k).1)) touched) (swap_record noted_events kept (state_of old)) (stands_with.stands.follows.fit.0) k

  -- THE LEMMA: the event is entered in the book, wherever its name is free
  module _ (h : Stands old next out) (does : ∥ DoesNoted e (contents cells (state_of old)) f ∥₁) (free : (k : Kept old next out) → Free noted_events e.name.0 (entries_of k.rows)) where
    tells : Tells e f seat (lines_of (items_of old)) (next_line (lines_of (items_of old)) item)
    tells = record {
      event = refl;
      same_seat = refl;
      live = refl;
      touched = λ k. ∥∥₁_elim h (Bool-set _ _) (λ q. ∥∥₁_elim does (Bool-set _ _) (λ d. touch_told q.rows q.stands d (free q) k));
      written = λ k. ∥∥₁_elim h (Bool-set _ _) (λ q. ∥∥₁_elim does (Bool-set _ _) (λ d. new_told q.rows q.stands d (free q) k));
      causes = refl;
    }

    pub book_enters : (last : ℕ) (others : List Lent) → Enters e f seat (book_with old next out) (book_with now last others)
    book_enters last others = record {
      does = does;
      step = ap (λ (j : List Item × State cells). contents cells j.1) is ∙ contents_after noted_events noted_laws e.name.0 f kept (state_of old) brings.write;
      line = next_line (lines_of (items_of old)) item;
      tells = tells;
      entered = ∥∥₁_elim h (Lines-set _ _) (λ q. ∥∥₁_elim does (Lines-set _ _) (λ d. entered_lines q.rows q.stands d (free q)));
    }

    pub book_stands : (others : List Lent) → ((k : Kept old next out) (d : DoesNoted e (contents cells (state_of old)) f) → Kept now later others) → Stands now later others
    book_stands others keeps = ∥∥₁_elim h ∥∥₁_prop (λ q. ∥∥₁_elim does ∥∥₁_prop (λ d. ∣ keeps q d ∣₁))

  -- what is kept after it, of other names that are free
  pub kept_entered : (k : Kept old next out) → DoesNoted e (contents cells (state_of old)) f → Free noted_events e.name.0 (entries_of k.rows) → (others : List Lent)
      → AllByRecursion (λ t. Free noted_events t.number.0 (entries_of k.rows)) others → AllByRecursion (λ t. e.name.0 ≢ t.number.0) others → AllByRecursion (λ t. t.number.0 < later) others → Apart others → Kept now later others
  kept_entered k d free others still differ drawn apart = record {
    rows = row k.rows ∷ k.rows;
    stands = entered_stands k.rows k.stands d free;
    free = all_both _ _ _ others (λ t q ne. ((ne, free_causes noted_events t.number.0 f (entries_of k.rows) q), q)) still differ;
    drawn = drawn;
    apart = apart;
  }

-- what happens without notes
pub quiet_does : {e : Event} {f : Foot} {w : World} {it : Effects} → Happens e f w it → it.notes.items ≡ [] → ∥ DoesNoted (with_notes e []) w f ∥₁
quiet_does {e = e} {f = f} {w = w} h quiet = subst (λ (ns : List Note). ∥ DoesNoted (with_notes e (map note_of ns)) w f ∥₁) quiet h.does

-- an event is entered under the next name, without notes
module _ (old now : Core) (next : ℕ) (out : List Lent) (e : Event) (seat : ℕ) (touched : List CellKey) (kept : Record cells) (f : Foot)
    (brings : Brings e.name f touched kept) (is : shown now ≡ entered (with_notes e []) seat touched kept (shown old)) (name : e.name.0 ≡ next) (h : Stands old next out) (does : ∥ DoesNoted (with_notes e []) (contents cells (state_of old)) f ∥₁) where
  drawn_lt : e.name.0 < next + 1
  drawn_lt = omega (arith, name)

  next_le : next ≤ next + 1
  next_le = omega arith

  next_free : (k : Kept old next out) → Free noted_events e.name.0 (entries_of k.rows)
  next_free k = free_from noted_events e.name.0 next (entries_of k.rows) k.stands.stands.named.below (omega (arith, name))

  pub next_stands : Stands now (next + 1) out
  next_stands = book_stands old now next (next + 1) out (with_notes e []) seat touched kept f brings is next_le drawn_lt h does next_free out (λ k d.
      kept_entered old now next (next + 1) out (with_notes e []) seat touched kept f brings is next_le drawn_lt k d (next_free k) out k.free
      (all_map _ _ out (λ t lt same. omega (arith, lt, same, name)) k.drawn) (all_map _ _ out (λ t lt. omega (arith, lt)) k.drawn) k.apart)

  pub next_enters : settled_of now ≡ settled_of old → EntersNext e f seat (book_with old next out) (book_with now (next + 1) out)
  next_enters many = record {
    named = name;
    drawn = refl;
    same_settled = many;
    same_out = refl;
    enters = book_enters old now next (next + 1) out (with_notes e []) seat touched kept f brings is next_le drawn_lt h does next_free (next + 1) out;
  }
