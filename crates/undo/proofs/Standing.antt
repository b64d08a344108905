-- A core stands after its calls.
use Rattle.std.proofs.Common.{◌≡◌, ℕ, Bool, true, false, List, [], ◌∷◌, ◌++◌, Option, map, reverse, refl, sym, ap, ◌∙◌, subst}
use Rattle.std.specs.List.{AllByRecursion}
use Rattle.std.proofs.lemmas.List.{reverse-reverse, reverse-append, map-append}
use Rattle.history.specs.Subject.{Laws, empty}
use Rattle.history.specs.Journal.{Entry, new_entry}
use Rattle.history.specs.Records.{State, Row, contents, swap_state, swap_record, undo_rows, undo_state, redo_rows, redo_state}
use Rattle.history.specs.Stands.{Stands}
use Rattle.history.specs.Walks.{walk, spots}
use Rattle.history.proofs.Exchanges.{contents_after}
use Rattle.history.proofs.Standing.{begun, appended_stands, undone_stands, undone_contents, redone_stands, redone_contents}
use Rattle.history.proofs.Walking.{walk_undo, walk_redo}
use Rattle.ids.specs.declared.cells.CellKey.{CellKey}
use Rattle.world_cells.specs.Theory.{Rule, subject, cells}
use Rattle.journal.specs.Items.{Item, swap_item}
use Rattle.undo.specs.CoreView.{items_of, state_of, shown}
use Rattle.journal.specs.Standing.{Told, told, row_told}
use Rattle.undo.specs.Standing.{places, Begins, Enters, Undoes, Redoes}
use Rattle.undo.specs.declared.undoing.Core.{Core}
use Rattle.undo.proofs.Looping.{ext}
use Rattle.undo.proofs.Mapping.{walk_told}

-- what is told of an item with its record exchanged with the state and marked so
swap_told : Bool → Told → State cells → Told × State cells
swap_told live t w = (record { event = t.event; live = live; lasts = t.lasts; kept = swap_record cells t.kept w }, swap_state cells t.kept w)

module _ (does : Rule) (l : Laws (subject does)) where
  pub begins : Begins does
  begins next core items state = record {
    shows = sym (ap (λ is. reverse (map told is)) items);
    stands = subst (Stands (subject does) (empty (subject does)) next []) (sym (ext _ _ state)) (begun (subject does) (empty (subject does)) next);
  }

  lasts_shown : (w : State cells) (ks : List CellKey) → AllByRecursion (λ (q : CellKey × Option ℕ). q.1 ≡ (w q.0).1) (map (λ k. (k, (w k).1)) ks)
  lasts_shown w [] = tt
  lasts_shown w (k ∷ ks) = (refl, lasts_shown w ks)

  pub enters : Enters does
  enters start next later rows old new e seat touched kept f ns h d free le lt causes below other have writes is =
      let w = state_of old in
      let lasts = map (λ k. (k, (w k).1)) touched in
      let state : state_of new ≡ swap_state (subject does) kept w = ap (λ (r : List Item × State cells). r.1) is in
      let items : items_of new ≡ items_of old ++ (swap_item true (record { event = e; seat = seat; live = true; lasts = lasts; kept = kept }) w).0 ∷ [] = ap (λ (r : List Item × State cells). r.0) is in (
        record {
          shows = ap (λ ts. row_told does (new_entry (subject does) e f ns lasts, swap_record (subject does) kept w) ∷ ts) h.shows
              ∙ sym (ap (λ its. reverse (map told its)) items ∙ ap reverse (map-append told (items_of old) _) ∙ reverse-append (map told (items_of old)) _);
          stands = subst (Stands (subject does) start later ((new_entry (subject does) e f ns lasts, swap_record (subject does) kept w) ∷ rows)) (sym state)
              (appended_stands (subject does) l e f ns lasts kept h.stands d free le lt causes below other have (lasts_shown w touched) writes);
        },
        ap (contents (subject does)) state ∙ contents_after (subject does) l e.name.0 f kept w writes,
      )

  module _ (rows : List (Row (subject does))) (old new : Core) (shows : map (row_told does) rows ≡ reverse (map told (items_of old))) where
    items : map told (items_of old) ≡ reverse (map (row_told does) rows)
    items = sym (reverse-reverse (map told (items_of old))) ∙ ap reverse (sym shows)

    walked : (live : Bool) (ps : List ℕ) → shown new ≡ walk (swap_item live) ps (shown old) → ◌≡◌ {A = List Told × State cells} (map told (items_of new), state_of new) (walk (swap_told live) ps (reverse (map (row_told does) rows), state_of old))
    unfolding swap_told
    walked live ps is =
        ap (λ (r : List Item × State cells). (map told r.0, r.1)) is
        ∙ sym (walk_told told (swap_item live) (swap_told live) (λ i w. refl) ps (shown old))
        ∙ ap (λ ts. walk (swap_told live) ps (ts, state_of old)) items

    pub undo_shown : (c : Entry (subject does) → Bool) → shown new ≡ walk (swap_item false) (reverse (places does c rows)) (shown old)
        → ◌≡◌ {A = List Told × State cells} (map told (items_of new), state_of new) (reverse (map (row_told does) (undo_rows (subject does) c rows (state_of old))), undo_state (subject does) c rows (state_of old))
    unfolding swap_told
    undo_shown c is =
        walked false (reverse (places does c rows)) is
        ∙ ap (λ ps. walk (swap_told false) ps (reverse (map (row_told does) rows), state_of old)) (reverse-reverse (spots (λ (p : Row (subject does)). c p.0) rows))
        ∙ walk_undo (subject does) (row_told does) c (swap_told false) (λ p w. refl) rows [] (state_of old)

    pub redo_shown : (c : Entry (subject does) → Bool) → shown new ≡ walk (swap_item true) (places does c rows) (shown old)
        → ◌≡◌ {A = List Told × State cells} (map told (items_of new), state_of new) (reverse (map (row_told does) (redo_rows (subject does) c rows (state_of old))), redo_state (subject does) c rows (state_of old))
    unfolding swap_told
    redo_shown c is =
        walked true (places does c rows) is
        ∙ walk_redo (subject does) (row_told does) c (swap_told true) (λ p w. refl) rows [] (state_of old)

  pub undoes : Undoes does
  undoes start next c rows old new positions h at closed part is =
      let both = undo_shown rows old new h.shows c (is ∙ ap (λ ps. walk (swap_item false) (reverse ps) (shown old)) at) in
      let state : state_of new ≡ undo_state (subject does) c rows (state_of old) = ap (λ (r : List Told × State cells). r.1) both in (
        record {
          shows = sym (reverse-reverse (map (row_told does) (undo_rows (subject does) c rows (state_of old)))) ∙ ap (λ (r : List Told × State cells). reverse r.0) (sym both);
          stands = subst (Stands (subject does) start next (undo_rows (subject does) c rows (state_of old))) (sym state) (undone_stands (subject does) l c rows (state_of old) h.stands closed part);
        },
        ap (contents (subject does)) state ∙ undone_contents (subject does) l c rows (state_of old) h.stands closed part,
      )

  pub redoes : Redoes does
  redoes start next c rows old new positions h at dead sound is =
      let both = redo_shown rows old new h.shows c (is ∙ ap (λ ps. walk (swap_item true) ps (shown old)) at) in
      let state : state_of new ≡ redo_state (subject does) c rows (state_of old) = ap (λ (r : List Told × State cells). r.1) both in (
        record {
          shows = sym (reverse-reverse (map (row_told does) (redo_rows (subject does) c rows (state_of old)))) ∙ ap (λ (r : List Told × State cells). reverse r.0) (sym both);
          stands = subst (Stands (subject does) start next (redo_rows (subject does) c rows (state_of old))) (sym state) (redone_stands (subject does) l c rows (state_of old) h.stands dead sound);
        },
        ap (contents (subject does)) state ∙ redone_contents (subject does) l c rows (state_of old) h.stands dead sound,
      )
