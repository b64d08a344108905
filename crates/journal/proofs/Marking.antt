-- What the journal tells after entries were marked anew: the same lines, each with its mark.
use Rattle.std.proofs.Common.{◌≡◌, ℕ, Bool, true, false, cond, List, [], ◌∷◌, map, filter, reverse, zip, refl, sym, ap, ap₂, ◌∙◌}
use Rattle.std.specs.List.{AllByRecursion}
use Rattle.history.specs.Subject.{Laws}
use Rattle.history.specs.Journal.{Entry, name_of, caused, live_set, without, both, mark, marked}
use Rattle.history.specs.Records.{Seen, State, Record, Row, hold, entries_of, swap_state, swap_record, swap_row, undo_rows, redo_rows, redo_state}
use Rattle.history.proofs.Lists.{all_map}
use Rattle.history.proofs.Standing.{entries_undone, entries_redone}
use Rattle.ids.specs.declared.cells.CellKey.{CellKey}
use Rattle.world_cells.specs.World.{World}
use Rattle.world_cells.specs.Theory.{Rule, subject, cells}
use Rattle.journal.specs.Items.{Item}
use Rattle.journal.specs.Lines.{plain, Line, lines_of}
use Rattle.journal.specs.Standing.{ItemsStand}
use Rattle.journal.proofs.Reversed.{map-map, map-reverse, map_same, numbers_reversed}
use Rattle.journal.proofs.Lifting.{SameMembers}
use Rattle.journal.proofs.Seats.{map_pair, lines_same, seats_of}
use Rattle.journal.proofs.Telling.{told_entry, entries_told}

-- a line that is live exactly in this set
abbrev pub mark_line : (Entry plain → Bool) → Line → Line
mark_line t l = record l { entry = mark plain t l.entry }

-- the cells of a row's record
abbrev pub keys_kept : (does : Rule) → Row (subject does) → List CellKey
keys_kept does p = map (λ r. r.0) p.1

-- the cells of the records of rows
abbrev pub keys_in : (does : Rule) → List (Row (subject does)) → List (List CellKey)
keys_in does rows = map (keys_kept does) rows

module _ (does : Rule) where
  -- an exchange keeps a record's cells
  keys_swapped : (kept : Record (subject does)) (w : State (subject does)) → map (λ (r : CellKey × Seen (subject does)). r.0) (swap_record (subject does) kept w) ≡ map (λ (r : CellKey × Seen (subject does)). r.0) kept
  keys_swapped [] w = refl
  keys_swapped (r ∷ kept) w = ap (λ l. r.0 ∷ l) (keys_swapped kept (hold (subject does) w r.0 r.1))

  keys_row : (live b : Bool) (p : Row (subject does)) (w : State (subject does)) → keys_kept does (cond b (swap_row (subject does) live p w) p) ≡ keys_kept does p
  keys_row live true p w = keys_swapped p.1 w
  keys_row live false p w = refl

  -- so do an undo and a redo
  pub keys_undone : (c : Entry (subject does) → Bool) (rows : List (Row (subject does))) (w : State (subject does)) → keys_in does (undo_rows (subject does) c rows w) ≡ keys_in does rows
  keys_undone c [] w = refl
  keys_undone c (p ∷ rows) w = ap₂ (λ k ks. k ∷ ks) (keys_row false (c p.0) p w) (keys_undone c rows (cond (c p.0) (swap_state (subject does) p.1 w) w))

  pub keys_redone : (c : Entry (subject does) → Bool) (rows : List (Row (subject does))) (w : State (subject does)) → keys_in does (redo_rows (subject does) c rows w) ≡ keys_in does rows
  keys_redone c [] w = refl
  keys_redone c (p ∷ rows) w = ap₂ (λ k ks. k ∷ ks) (keys_row true (c p.0) p (redo_state (subject does) c rows w)) (keys_redone c rows w)

  -- the entry that is told of an entry of which the record has these cells
  told_keys : List (Entry (subject does)) → Entry (subject does) × List CellKey → Entry plain
  told_keys es p = record {
    event = p.0.event;
    foot = record { reads = map (λ q. q.0) p.0.lasts; writes = map (λ k. (k, tt)) p.1 };
    causes = map (name_of (subject does)) (filter (caused (subject does) p.0) (reverse es));
    live = p.0.live;
    lasts = p.0.lasts;
  }

  told_is : (es : List (Entry (subject does))) (p : Row (subject does)) → told_entry does es p ≡ told_keys es (p.0, keys_kept does p)
  unfolding told_keys
  told_is es p = ap (λ ws. record (told_entry does es p) { foot = record { reads = map (λ q. q.0) p.0.lasts; writes = ws } })
      (sym (map-map (λ (k : CellKey). (k, tt {0})) (λ (r : CellKey × Seen (subject does)). r.0) p.1))

  with_mark : Entry plain → Bool → Entry plain
  with_mark e b = record e { live = b }

  -- the causes that are told do not depend on marks
  causes_marked : (u : Entry (subject does) → Bool) (es : List (Entry (subject does))) (p : Entry (subject does) × List CellKey) → told_keys (marked (subject does) u es) (mark (subject does) u p.0, p.1) ≡ with_mark (told_keys es p) (u p.0)
  unfolding told_keys with_mark
  causes_marked u es p = ap (λ ns. record (told_keys es p) { causes = ns; live = u p.0 })
      (numbers_reversed (mark (subject does) u) (caused (subject does) (mark (subject does) u p.0)) (name_of (subject does)) es)

  told_all : (rows : List (Row (subject does))) → map (told_entry does (entries_of rows)) rows ≡ map (told_keys (entries_of rows)) (zip (entries_of rows) (keys_in does rows))
  told_all rows =
      map_same _ _ rows (all_same rows)
      ∙ sym (map-map (told_keys (entries_of rows)) (λ (p : Row (subject does)). (p.0, keys_kept does p)) rows)
      ∙ ap (map (told_keys (entries_of rows))) (map_pair (λ (p : Row (subject does)). p.0) (keys_kept does) rows)
    where
      all_same : (ps : List (Row (subject does))) → AllByRecursion (λ p. told_entry does (entries_of rows) p ≡ told_keys (entries_of rows) (p.0, keys_kept does p)) ps
      all_same [] = tt
      all_same (p ∷ ps) = (told_is (entries_of rows) p, all_same ps)

  told_marked : (u : Entry (subject does) → Bool) (es : List (Entry (subject does))) (fs : List (Entry (subject does))) (ks : List (List CellKey))
      → map (told_keys (marked (subject does) u es)) (zip (marked (subject does) u fs) ks) ≡ map (λ p. with_mark (told_keys es p) (u p.0)) (zip fs ks)
  told_marked u es [] ks = refl
  told_marked u es (f ∷ fs) [] = refl
  told_marked u es (f ∷ fs) (k ∷ ks) = ap₂ (λ x xs. x ∷ xs) (causes_marked u es (f, k)) (told_marked u es fs ks)

  -- THE LEMMA: entries that are marked by a set are told as they were, with these marks
  entries_marked : (t : Entry plain → Bool) (u : Entry (subject does) → Bool) (rows others : List (Row (subject does))) → SameMembers does t u rows
      → entries_of others ≡ marked (subject does) u (entries_of rows) → keys_in does others ≡ keys_in does rows
      → map (told_entry does (entries_of others)) others ≡ map (mark plain t) (map (told_entry does (entries_of rows)) rows)
  unfolding told_keys with_mark
  entries_marked t u rows others same entries keys =
      told_all others
      ∙ ap₂ (λ es ks. map (told_keys es) (zip es ks)) entries keys
      ∙ told_marked u (entries_of rows) (entries_of rows) (keys_in does rows)
      ∙ ap (map (λ p. with_mark (told_keys (entries_of rows) p) (u p.0))) (sym (map_pair (λ (p : Row (subject does)). p.0) (keys_kept does) rows))
      ∙ map-map _ (λ (p : Row (subject does)). (p.0, keys_kept does p)) rows
      ∙ map_same _ _ rows (all_map _ _ rows (λ p agree. ap (λ (e : Entry plain). with_mark e (u p.0)) (sym (told_is (entries_of rows) p)) ∙ ap (with_mark (told_entry does (entries_of rows) p)) (sym agree)) same)
      ∙ sym (map-map (mark plain t) (told_entry does (entries_of rows)) rows)

  module _ (l : Laws (subject does)) {start then : World} {next later : ℕ} {rows others : List (Row (subject does))} {items after : List Item} {state other : State cells}
      (h : ItemsStand does start next rows items state) (g : ItemsStand does then later others after other) where
    pub lines_marked : (t : Entry plain → Bool) (u : Entry (subject does) → Bool) → SameMembers does t u rows
        → entries_of others ≡ marked (subject does) u (entries_of rows) → keys_in does others ≡ keys_in does rows → map (λ i. i.seat) after ≡ map (λ i. i.seat) items
        → lines_of after ≡ map (mark_line t) (lines_of items)
    lines_marked t u same entries keys seats = lines_same _ _
        (seats_of after ∙ seats ∙ sym (seats_of items) ∙ sym (map-map (λ (m : Line). m.seat) (mark_line t) (lines_of items)))
        (entries_told does l g ∙ entries_marked t u rows others same entries keys ∙ sym (ap (map (mark plain t)) (entries_told does l h))
        ∙ map-reverse (mark plain t) (map (λ (m : Line). m.entry) (lines_of items))
        ∙ ap reverse (map-map (mark plain t) (λ (m : Line). m.entry) (lines_of items) ∙ sym (map-map (λ (m : Line). m.entry) (mark_line t) (lines_of items))))

-- what is told after an undo, and after a redo
module _ (does : Rule) (l : Laws (subject does)) {start then : World} {next later : ℕ} {rows : List (Row (subject does))} {items after : List Item} {state other : State cells} (h : ItemsStand does start next rows items state)
    (t : Entry plain → Bool) (c : Entry (subject does) → Bool) where
  pub lines_undone : ItemsStand does then later (undo_rows (subject does) c rows state) after other → SameMembers does t (without (live_set (subject does)) c) rows → map (λ i. i.seat) after ≡ map (λ i. i.seat) items
      → lines_of after ≡ map (mark_line t) (lines_of items)
  lines_undone g same seats = lines_marked does l h g t (without (live_set (subject does)) c) same (entries_undone (subject does) c rows state) (keys_undone does c rows state) seats

  pub lines_redone : ItemsStand does then later (redo_rows (subject does) c rows state) after other → SameMembers does t (both (live_set (subject does)) c) rows → map (λ i. i.seat) after ≡ map (λ i. i.seat) items
      → lines_of after ≡ map (mark_line t) (lines_of items)
  lines_redone g same seats = lines_marked does l h g t (both (live_set (subject does)) c) same (entries_redone (subject does) c rows state) (keys_redone does c rows state) seats
