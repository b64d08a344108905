-- What the journal tells after one more entry: the lines that it told before, and a line for this one.
use Rattle.std.proofs.Common.{◌≡◌, ℕ, true, false, cond, ◌&&◌, List, [], ◌∷◌, ◌++◌, map, filter, reverse, sym, ap, ap₂, ◌∙◌}
use Rattle.std.specs.List.{AllByRecursion}
use Rattle.std.proofs.lemmas.List.{reverse-append, map-append}
use Rattle.history.specs.Subject.{Laws, meets}
use Rattle.history.specs.Journal.{Entry, name_of, caused, causes_of}
use Rattle.history.specs.Records.{State, Row, entries_of}
use Rattle.history.proofs.Lists.{all_map, all_both, filter_same}
use Rattle.world_cells.specs.World.{World}
use Rattle.world_cells.specs.Theory.{Rule, subject, cells}
use Rattle.journal.specs.Items.{Item}
use Rattle.journal.specs.Lines.{plain, Line, entries_in, bare, lines_of}
use Rattle.journal.specs.Standing.{Told, told, row_told, ItemsStand}
use Rattle.journal.proofs.Reversed.{map-map, map-reverse, filter-map, filter-reverse, map_same, all_unmapped}
use Rattle.journal.proofs.Seats.{lines_same, seats_of}
use Rattle.journal.proofs.Telling.{bare_told, told_entry, entries_told, same_meets}

-- the line of an item after these lines: its causes are what is live and wrote a cell that it touches
abbrev pub next_line : List Line → Item → Line
next_line lines i = record { seat = i.seat; entry = record (bare i) { causes = reverse (causes_of plain (bare i).foot (entries_in lines)) } }

-- what is told, with what is live among these and wrote a cell that it touches as its causes
told_next : List (Entry plain) → Told → Entry plain
told_next es t = record (bare_told t) { causes = reverse (causes_of plain (bare_told t).foot es) }

first_told : Told → List Told → Told
first_told t [] = t
first_told t (u ∷ us) = u

module _ (does : Rule) where
  -- an entry that is no cause of the older ones changes nothing that is told of them
  older_told : (p : Row (subject does)) (rows others : List (Row (subject does))) → AllByRecursion (λ a. caused (subject does) a p.0 ≡ false) (entries_of others)
      → map (told_entry does (p.0 ∷ entries_of rows)) others ≡ map (told_entry does (entries_of rows)) others
  older_told p rows others none = map_same _ _ others (all_map _ _ others (λ q no. ap (λ (es : List (Entry (subject does))). record (told_entry does (entries_of rows) q) { causes = map (name_of (subject does)) es })
      (filter-reverse (caused (subject does) q.0) (p.0 ∷ entries_of rows)
      ∙ ap (λ b. reverse (cond b (p.0 ∷ filter (caused (subject does) q.0) (entries_of rows)) (filter (caused (subject does) q.0) (entries_of rows)))) no
      ∙ sym (filter-reverse (caused (subject does) q.0) (entries_of rows))))
      (all_unmapped (λ (q : Row (subject does)). q.0) _ others none))

  -- the newest entry has as causes what is live and wrote a cell that it touches
  newest_told : (p : Row (subject does)) (rows : List (Row (subject does))) → caused (subject does) p.0 p.0 ≡ false
      → AllByRecursion (λ q. caused (subject does) p.0 q.0 ≡ (q.0.live && meets plain (told_entry does (entries_of rows) q).foot (bare_told (row_told does p)).foot)) rows
      → told_entry does (p.0 ∷ entries_of rows) p ≡ told_next (map (told_entry does (entries_of rows)) rows) (row_told does p)
  unfolding told_next
  newest_told p rows own causes = ap (λ ns. record (bare_told (row_told does p)) { causes = ns })
      (ap (map (name_of (subject does))) (filter-reverse (caused (subject does) p.0) (p.0 ∷ entries_of rows)
      ∙ ap (λ b. reverse (cond b (p.0 ∷ filter (caused (subject does) p.0) (entries_of rows)) (filter (caused (subject does) p.0) (entries_of rows)))) own)
      ∙ map-reverse (name_of (subject does)) (filter (caused (subject does) p.0) (entries_of rows))
      ∙ ap reverse
      (ap (map (name_of (subject does))) (filter-map (λ (q : Row (subject does)). q.0) (caused (subject does) p.0) rows)
      ∙ map-map (name_of (subject does)) (λ (q : Row (subject does)). q.0) _
      ∙ ap (map (λ (q : Row (subject does)). name_of (subject does) q.0)) (filter_same _ _ rows causes)
      ∙ sym (map-map (name_of plain) (told_entry does (entries_of rows)) _)
      ∙ ap (map (name_of plain)) (sym (filter-map (told_entry does (entries_of rows)) (λ a. a.live && meets plain a.foot (bare_told (row_told does p)).foot) rows))))

  module _ (l : Laws (subject does)) {start then : World} {next later : ℕ} {rows : List (Row (subject does))} {items : List Item} {state other : State cells} (p : Row (subject does)) (i : Item)
      (h : ItemsStand does start next rows items state) (g : ItemsStand does then later (p ∷ rows) (items ++ i ∷ []) other) where
    -- the item is what is told of the newest row
    item_told : row_told does p ≡ told i
    unfolding first_told
    item_told = ap (first_told (told i)) (g.shows ∙ ap reverse (map-append told items (i ∷ [])) ∙ reverse-append (map told items) (told i ∷ []))

    met_causes : p.0.live ≡ true → AllByRecursion (λ q. caused (subject does) p.0 q.0 ≡ (q.0.live && meets plain (told_entry does (entries_of rows) q).foot (bare_told (row_told does p)).foot)) rows
    met_causes live = all_both _ _ _ rows (λ q is met. is ∙ ap (λ b. q.0.live && b) (sym met))
        (all_unmapped (λ (q : Row (subject does)). q.0) _ rows (g.stands.good.sound.0 live)) (same_meets does l g).0.1

    newest_line : p.0.live ≡ true → told_entry does (p.0 ∷ entries_of rows) p ≡ (next_line (lines_of items) i).entry
    unfolding told_next
    newest_line live =
        newest_told p rows g.stands.named.own.0 (met_causes live)
        ∙ ap₂ told_next (sym (entries_told does l h)) item_told

    -- THE LEMMA
    pub lines_appended : p.0.live ≡ true → lines_of (items ++ i ∷ []) ≡ lines_of items ++ next_line (lines_of items) i ∷ []
    lines_appended live = lines_same _ _
        (seats_of (items ++ i ∷ [])
        ∙ map-append (λ (j : Item). j.seat) items (i ∷ [])
        ∙ ap (λ ns. ns ++ i.seat ∷ []) (sym (seats_of items))
        ∙ sym (map-append (λ (m : Line). m.seat) (lines_of items) (next_line (lines_of items) i ∷ [])))
        (entries_told does l g
        ∙ ap₂ (λ e es. e ∷ es) (newest_line live) (older_told p rows rows g.stands.good.ordered.0 ∙ sym (entries_told does l h))
        ∙ sym (ap reverse (map-append (λ (m : Line). m.entry) (lines_of items) (next_line (lines_of items) i ∷ []))
        ∙ reverse-append (map (λ (m : Line). m.entry) (lines_of items)) ((next_line (lines_of items) i).entry ∷ [])))
