-- What an older and a newer line of a journal have to do with one another.
use Rattle.std.proofs.Common.{◌≡◌, ◌≢◌, Bool, true, false, ◌&&◌, ◌||◌, List, [], ◌∷◌, map, reverse, ap, sym, refl, ◌∙◌}
use Rattle.std.specs.List.{list_any, AllByRecursion}
use Rattle.history.specs.Subject.{meets, touches}
use Rattle.history.specs.Chains.{HasCells, Chained}
use Rattle.history.specs.Records.{Record}
use Rattle.ids.specs.CellKeys.{same_key}
use Rattle.ids.specs.declared.cells.CellKey.{CellKey}
use Rattle.world_cells.specs.Theory.{cells}
use Rattle.history.specs.Journal.{Entry, name_of, caused, live_set, Distinct, Ordered, Sound}
use Rattle.journal.specs.Items.{Item, wrote_one_of}
use Rattle.journal.specs.Lines.{plain, Line, line_of, lines_of, entries_in}
use Rattle.journal.proofs.Reversed.{map-map, map-reverse}
use Rattle.causality.proofs.Telling.{Tells}
use Rattle.causality.proofs.Pairs.{Pairs, pairs_both, pairs_unmapped, all_unmapped, pairs_from_end, all_from_end}

-- an item's entry, among these items
abbrev pub entry_at : List Item → Item → Entry plain
entry_at all i = (line_of all i).entry

-- the entries of the lines, the newest first
pub same_entries : (all : List Item) → map (entry_at all) (reverse all) ≡ entries_in (lines_of all)
same_entries all = map-reverse (entry_at all) all ∙ ap reverse (sym (map-map (λ (l : Line). l.entry) (line_of all) all))

-- an older entry and a newer one
pub record Older (a e : Entry plain) : Type 0 where
  pub other : name_of plain a ≢ name_of plain e
  pub order : caused plain a e ≡ false
  pub causes : e.live ≡ true → caused plain e a ≡ (a.live && meets plain a.foot e.foot)
  pub met : caused plain e a ≡ true → meets plain a.foot e.foot ≡ true

-- what holds of all under a premise
pub all_then : {A : Type 0} (M : Type 0) (P : A → Type 0) (xs : List A) → (M → AllByRecursion P xs) → AllByRecursion (λ a. M → P a) xs
all_then M P [] h = tt
all_then M P (x ∷ xs) h = (λ m. (h m).0, all_then M P xs (λ m. (h m).1))

pub sound_pairs : (t : Entry plain → Bool) (es : List (Entry plain)) → Sound plain t es → Pairs (λ e a. t e ≡ true → caused plain e a ≡ (t a && meets plain a.foot e.foot)) es
sound_pairs t [] h = tt
sound_pairs t (e ∷ es) (p, h) = (all_then (t e ≡ true) _ es p, sound_pairs t es h)

distinct_pairs : (es : List (Entry plain)) → Distinct plain es → Pairs (λ e a. name_of plain a ≢ name_of plain e) es
distinct_pairs [] h = tt
distinct_pairs (e ∷ es) (p, h) = (p, distinct_pairs es h)

ordered_pairs : (es : List (Entry plain)) → Ordered plain es → Pairs (λ e a. caused plain a e ≡ false) es
ordered_pairs [] h = tt
ordered_pairs (e ∷ es) (p, h) = (p, ordered_pairs es h)

met_pairs : (es : List (Entry plain)) → Chained plain es → Pairs (λ e a. caused plain e a ≡ true → meets plain a.foot e.foot ≡ true) es
met_pairs [] h = tt
met_pairs (e ∷ es) (p, h) = (p.met, met_pairs es h)

pub older_pairs : (lines : List Line) → Tells lines → Pairs (λ a e. Older e a) (entries_in lines)
older_pairs lines h =
    let es = entries_in lines in
    pairs_both _ (λ e a. (caused plain a e ≡ false) × ((e.live ≡ true → caused plain e a ≡ (a.live && meets plain a.foot e.foot)) × (caused plain e a ≡ true → meets plain a.foot e.foot ≡ true))) (λ e a. Older a e) es
    (λ e a n q. record { other = n; order = q.0; causes = q.1.0; met = q.1.1 })
    (distinct_pairs es h.lines_are.distinct)
    (pairs_both _ _ _ es (λ e a o q. (o, q)) (ordered_pairs es h.lines_are.ordered) (pairs_both _ _ _ es (λ e a c m. (c, m)) (sound_pairs (live_set plain) es h.lines_are.sound) (met_pairs es h.chained)))

-- among items, the oldest first
pub older_items : (all : List Item) → Tells (lines_of all) → Pairs (λ i j. Older (entry_at all i) (entry_at all j)) all
older_items all h = pairs_unmapped (line_of all) (λ l m. Older l.entry m.entry) all (pairs_from_end (λ l. l.entry) (λ e a. Older a e) (lines_of all) (older_pairs (lines_of all) h))

-- no item is its own cause
pub own_items : (all : List Item) → Tells (lines_of all) → AllByRecursion (λ i. caused plain (entry_at all i) (entry_at all i) ≡ false) all
own_items all h = all_unmapped (line_of all) (λ l. caused plain l.entry l.entry ≡ false) all (all_from_end (λ l. l.entry) (λ e. caused plain e e ≡ false) (lines_of all) h.lines_are.own)

cells_each : (es : List (Entry plain)) → Chained plain es → AllByRecursion (λ e. HasCells plain e.foot e.lasts) es
cells_each [] h = tt
cells_each (e ∷ es) (p, h) = (p.cells, cells_each es h)

-- each item has a last writer of each cell that it touched
pub cells_items : (all : List Item) → Tells (lines_of all) → AllByRecursion (λ i. HasCells plain (entry_at all i).foot i.lasts) all
cells_items all h = all_unmapped (line_of all) (λ l. HasCells plain l.entry.foot l.entry.lasts) all (all_from_end (λ l. l.entry) (λ e. HasCells plain e.foot e.lasts) (lines_of all) (cells_each (entries_in (lines_of all)) h.chained))

-- that one item wrote what another touched is that their entries meet
pub wrote_meets : (all : List Item) (a b : Item) → HasCells plain (entry_at all b).foot b.lasts → meets plain (entry_at all a).foot (entry_at all b).foot ≡ wrote_one_of a b
wrote_meets all a b h = each a.kept
  where
    each : (rs : Record cells) → list_any (λ (p : CellKey × Unit {0}). touches plain (entry_at all b).foot p.0) (map (λ r. (r.0, tt)) rs) ≡ list_any (λ r. list_any (λ q. same_key r.0 q.0) b.lasts) rs
    each [] = refl
    each (r ∷ rs) = λ i. sym (h r.0) i || each rs i
