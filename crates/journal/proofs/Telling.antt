-- What the journal tells of rows that stand: an entry without contents for each row, with the names of its causes, the oldest first.
use Rattle.std.proofs.Common.{◌≡◌, ℕ, Bool, cond, List, [], ◌∷◌, Option, map, filter, reverse, refl, sym, ap, ap₂, ◌∙◌}
use Rattle.std.specs.List.{list_any, AllByRecursion}
use Rattle.std.proofs.lemmas.List.{reverse-reverse}
use Rattle.history.specs.Subject.{Laws}
use Rattle.history.specs.Journal.{Entry, name_of, is_in, named, caused, Distinct}
use Rattle.history.specs.Records.{State, Row, Fits, entries_of}
use Rattle.history.specs.Chains.{HasCells, Chained, chain, last_of, is_name}
use Rattle.history.proofs.Lists.{all_map, all_of, filter_same, all_reversed}
use Rattle.history.proofs.Naming.{named_filter, named_reversed}
use Rattle.history.proofs.Standing.{chains_stand}
use Rattle.ids.specs.declared.cells.CellKey.{CellKey}
use Rattle.world_cells.specs.World.{World}
use Rattle.world_cells.specs.Theory.{Rule, subject, cells}
use Rattle.journal.specs.Items.{Item}
use Rattle.journal.specs.Lines.{plain, Line, entries_in, bare, reached, is_cause, line_of, lines_of}
use Rattle.journal.specs.Standing.{Told, told, row_told, ItemsStand}
use Rattle.journal.proofs.Reversed.{map-map, map-reverse, filter-map, filter-reverse, numbers_reversed, map_same, all_unmapped, all_zip, all_pairs}
use Rattle.journal.proofs.Touching.{told_foot, told_meets}
use Rattle.journal.proofs.Alike.{SameCauses, SameMeets}

-- the number of an event that is told
number_of : Told → ℕ
number_of t = t.event.name.0

-- what is told, as an entry of which no cause is known
abbrev pub bare_told : Told → Entry plain
bare_told t = record { event = t.event; foot = record { reads = map (λ p. p.0) t.lasts; writes = map (λ r. (r.0, tt)) t.kept }; causes = []; live = t.live; lasts = t.lasts }

-- whether one is on the chains of another
on_chains : (CellKey → Option ℕ → List ℕ) → Told → Told → Bool
on_chains chains t a = list_any (λ p. is_in (chains p.0 p.1) (number_of a)) t.lasts

-- what is told, with the names of those on its chains
told_by : (CellKey → Option ℕ → List ℕ) → List Told → Told → Entry plain
told_by chains ts t = record (bare_told t) { causes = map number_of (filter (on_chains chains t) ts) }

bares_told : (items : List Item) → map bare items ≡ map bare_told (map told items)
bares_told items = sym (map-map bare_told told items)

-- the entry of a line
line_told : (items : List Item) (i : Item) → (line_of items i).entry ≡ told_by (reached items) (map told items) (told i)
unfolding told_by on_chains number_of
line_told items i = ap (λ ns. record (bare i) { causes = ns })
    (sym (ap (map number_of) (filter-map told (on_chains (reached items) (told i)) items) ∙ map-map number_of told (filter (is_cause items i) items)))

entries_by : (items : List Item) → entries_in (lines_of items) ≡ reverse (map (told_by (reached items) (map told items)) (map told items))
entries_by items =
    ap reverse (map-map (λ (l : Line). l.entry) (line_of items) items
    ∙ map_same _ _ items (all_of _ items (line_told items))
    ∙ sym (map-map (told_by (reached items) (map told items)) told items))

module _ (does : Rule) where
  -- the entry that the journal tells of a row of one of these entries
  abbrev pub told_entry : List (Entry (subject does)) → Row (subject does) → Entry plain
  told_entry es p = record {
    event = p.0.event;
    foot = told_foot does p.0.lasts p.1;
    causes = map (name_of (subject does)) (filter (caused (subject does) p.0) (reverse es));
    live = p.0.live;
    lasts = p.0.lasts;
  }

  -- chains are followed along names and last writers alone
  chain_told : (k : CellKey) (o : Option ℕ) (rows : List (Row (subject does))) → chain plain k o (map bare_told (map (row_told does) rows)) ≡ chain (subject does) k o (entries_of rows)
  chain_told k o [] = refl
  chain_told k o (p ∷ rows) =
      ap₂ (λ ms ns. cond (is_name o p.0.event.name.0) (p.0.event.name.0 ∷ ms) ns) (chain_told k (last_of (subject does) p.0 k) rows) (chain_told k o rows)

  module _ (rows : List (Row (subject does))) (items : List Item) (shows : map (row_told does) rows ≡ reverse (map told items)) where
    pub items_told : map told items ≡ reverse (map (row_told does) rows)
    items_told = sym (reverse-reverse (map told items)) ∙ ap reverse (sym shows)

    pub reached_is : (k : CellKey) (o : Option ℕ) → reached items k o ≡ chain (subject does) k o (entries_of rows)
    reached_is k o =
        ap (chain plain k o) (ap reverse (bares_told items) ∙ sym (map-reverse bare_told (map told items)) ∙ ap (map bare_told) (sym shows))
        ∙ chain_told k o rows

    -- what lines tell, by the chains of the entries
    entries_chained : entries_in (lines_of items) ≡ map (λ p. told_by (λ k o. chain (subject does) k o (entries_of rows)) (reverse (map (row_told does) rows)) (row_told does p)) rows
    entries_chained =
        entries_by items
        ∙ ap₂ (λ c ts. reverse (map (told_by c ts) ts)) (λ j k o. reached_is k o j) items_told
        ∙ ap reverse (map-reverse _ (map (row_told does) rows))
        ∙ reverse-reverse _
        ∙ map-map _ (row_told does) rows

  -- THE LEMMA: where causes are on chains, the journal tells of each row its entry
  row_entry : (rows : List (Row (subject does))) (p : Row (subject does))
      → AllByRecursion (λ q. caused (subject does) p.0 q.0 ≡ list_any (λ r. named (subject does) (chain (subject does) r.0 r.1 (entries_of rows)) q.0) p.0.lasts) rows
      → told_by (λ k o. chain (subject does) k o (entries_of rows)) (reverse (map (row_told does) rows)) (row_told does p) ≡ told_entry (entries_of rows) p
  unfolding told_by on_chains number_of
  row_entry rows p h = ap (λ ns. record (bare_told (row_told does p)) { causes = ns })
      (numbers_reversed (row_told does) _ number_of rows
      ∙ ap (map (λ q. q.0.event.name.0)) (filter_same _ _ (reverse rows) (all_reversed _ rows (all_map _ _ rows (λ q e. sym e) h)))
      ∙ sym (numbers_reversed (λ (q : Row (subject does)). q.0) (caused (subject does) p.0) (name_of (subject does)) rows))

  -- the causes that are told are the causes
  pub told_causes : (rows : List (Row (subject does))) → Distinct (subject does) (entries_of rows) → SameCauses plain (subject does) (told_entry (entries_of rows)) (λ p. p.0) rows
  told_causes rows distinct = all_of _ rows (λ p. all_map _ _ rows (λ q same. same_named p q ∙ same) (all_unmapped (λ (q : Row (subject does)). q.0) _ rows (named_filter (subject does) (caused (subject does) p.0) (entries_of rows) distinct)))
    where
      same_named : (p q : Row (subject does)) → is_in (map (name_of (subject does)) (filter (caused (subject does) p.0) (reverse (entries_of rows)))) q.0.event.name.0
          ≡ is_in (map (name_of (subject does)) (filter (caused (subject does) p.0) (entries_of rows))) q.0.event.name.0
      same_named p q =
          ap (λ l. is_in (map (name_of (subject does)) l) q.0.event.name.0) (filter-reverse (caused (subject does) p.0) (entries_of rows))
          ∙ ap (λ ns. is_in ns q.0.event.name.0) (map-reverse (name_of (subject does)) (filter (caused (subject does) p.0) (entries_of rows)))
          ∙ named_reversed (map (name_of (subject does)) (filter (caused (subject does) p.0) (entries_of rows))) q.0.event.name.0

  -- each entry has its cells
  cells_of : (rows : List (Row (subject does))) → Chained (subject does) (entries_of rows) → AllByRecursion (λ p. HasCells (subject does) p.0.foot p.0.lasts) rows
  cells_of [] h = tt
  cells_of (p ∷ rows) (h, hs) = (h.cells, cells_of rows hs)

  module _ (l : Laws (subject does)) where
    -- the entries that are told meet where the entries do
    pub told_meet : (rows : List (Row (subject does))) → Chained (subject does) (entries_of rows) → AllByRecursion (λ p. Fits (subject does) p.0.foot p.1) rows
        → SameMeets plain (subject does) (told_entry (entries_of rows)) (λ p. p.0) rows
    told_meet rows chained fit = all_pairs _ _ rows
        (λ p q of_p of_q. told_meets does l q.0.foot p.0.foot q.0.lasts p.0.lasts q.1 p.1 of_q.1 of_p.0 of_p.1)
        (all_zip _ _ rows (cells_of rows chained) fit)

    module _ {start : World} {next : ℕ} {rows : List (Row (subject does))} {items : List Item} {state : State cells} (h : ItemsStand does start next rows items state) where
      -- THE LEMMA: the lines tell of each row its entry
      pub entries_told : entries_in (lines_of items) ≡ map (told_entry (entries_of rows)) rows
      entries_told =
          entries_chained rows items h.shows
          ∙ map_same _ _ rows (all_map _ _ rows (λ p same. row_entry rows p (all_unmapped (λ (q : Row (subject does)). q.0) _ rows same))
          (all_unmapped (λ (p : Row (subject does)). p.0) _ rows (chains_stand (subject does) l h.stands)))

      pub same_causes : SameCauses plain (subject does) (told_entry (entries_of rows)) (λ p. p.0) rows
      same_causes = told_causes rows h.stands.named.distinct

      pub same_meets : SameMeets plain (subject does) (told_entry (entries_of rows)) (λ p. p.0) rows
      same_meets = told_meet rows h.stands.chained h.stands.follows.fit
