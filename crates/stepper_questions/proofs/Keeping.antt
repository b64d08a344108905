-- The writers that entries keep are those of the definition.
use Rattle.std.proofs.Common.{◌≡◌, ℕ, Bool, true, false, cond, ◌&&◌, List, [], ◌∷◌, ◌++◌, Option, Some, slice_get, refl, sym, ap, ◌∙◌, subst, append_assoc}
use Rattle.std.specs.List.{AllByRecursion}
use Rattle.history.specs.Subject.{touches}
use Rattle.history.specs.Journal.{Entry, name_of, caused, Ordered}
use Rattle.history.specs.Chains.{wrote, last_writer, HasCells, Chained}
use Rattle.history.proofs.Lists.{all_map, all_both, all_of, all_append}
use Rattle.ids.specs.CellKeys.{same_key}
use Rattle.ids.specs.declared.cells.CellKey.{CellKey}
use Rattle.ids.proofs.CellKeys.{same_exact, same_self}
use Rattle.journal.specs.Lines.{plain, Line, entries_in}
use Rattle.causality.proofs.Following.{all_place}
use Rattle.causality.proofs.Pairs.{all_from_end}
use Rattle.causality.proofs.Telling.{Tells}
use Rattle.stepper_questions.specs.Writers.{writer}
use Rattle.stepper_questions.proofs.Places.{place_any, any_at}

abbrev pub Last : Type 0
Last = CellKey × Option ℕ

-- what is no member is passed
pub last_past : (k : CellKey) (t : Entry plain → Bool) (xs ys : List (Entry plain)) → AllByRecursion (λ a. t a ≡ false) xs → last_writer plain k t (xs ++ ys) ≡ last_writer plain k t ys
last_past k t [] ys h = refl
last_past k t (x ∷ xs) ys (h, hs) = ap (λ b. cond (b && wrote plain k x) (Some (name_of plain x)) (last_writer plain k t (xs ++ ys))) h ∙ last_past k t xs ys hs

abbrev Keeps : List (Entry plain) → Entry plain → Type 0
Keeps all e = AllByRecursion (λ p. p.1 ≡ last_writer plain p.0 (caused plain e) all) e.lasts

kept_from : (newer es : List (Entry plain)) → Chained plain es → Ordered plain es → AllByRecursion (λ e. caused plain e e ≡ false) es
    → AllByRecursion (λ e. AllByRecursion (λ a. caused plain e a ≡ false) newer) es → AllByRecursion (Keeps (newer ++ es)) es
kept_from newer [] chained ordered own none = tt
kept_from newer (e ∷ es) (traced, chained) (later, ordered) (own, owns) (none, nones) = (
  all_map _ _ e.lasts (λ p is. is ∙ sym (last_past p.0 (caused plain e) newer (e ∷ es) none ∙ ap (λ b. cond (b && wrote plain p.0 e) (Some (name_of plain e)) (last_writer plain p.0 (caused plain e) es)) own)) traced.lasts,
  subst (λ all. AllByRecursion (Keeps all) es) (append_assoc newer (e ∷ []) es)
      (kept_from (newer ++ e ∷ []) es chained ordered owns (all_both _ _ _ es (λ a before last. all_append _ newer (e ∷ []) before (last, tt)) nones later)),
)

cells_each : (es : List (Entry plain)) → Chained plain es → AllByRecursion (λ e. HasCells plain e.foot e.lasts) es
cells_each [] h = tt
cells_each (e ∷ es) (p, h) = (p.cells, cells_each es h)

module _ (lines : List Line) (h : Tells lines) where
  kept : AllByRecursion (Keeps (entries_in lines)) (entries_in lines)
  kept = kept_from [] (entries_in lines) h.chained h.lines_are.ordered h.lines_are.own (all_of _ (entries_in lines) (λ e. tt))

  -- THE LEMMA: an entry keeps of each cell its writer
  pub kept_writers : AllByRecursion (λ (l : Line). AllByRecursion (λ p. p.1 ≡ writer lines l.entry p.0) l.entry.lasts) lines
  kept_writers = all_from_end (λ (l : Line). l.entry) (Keeps (entries_in lines)) lines kept

  pub kept_cells : AllByRecursion (λ (l : Line). HasCells plain l.entry.foot l.entry.lasts) lines
  kept_cells = all_from_end (λ (l : Line). l.entry) (λ e. HasCells plain e.foot e.lasts) lines (cells_each (entries_in lines) h.chained)

  module _ (q : ℕ) (l : Line) (at : slice_get lines q ≡ Some l) where
    -- what it keeps of a cell that it touched
    pub keeps_touched : (k : CellKey) → touches plain l.entry.foot k ≡ true → (i : ℕ) × (p : Last) × (slice_get l.entry.lasts i ≡ Some p) × (p.0 ≡ k) × (p.1 ≡ writer lines l.entry k)
    keeps_touched k touched =
        let g = place_any (λ (p : Last). same_key k p.0) l.entry.lasts (all_place _ lines kept_cells q l at k ∙ touched) in
        let one : k ≡ g.1.0 = same_exact k g.1.0 g.3 in
        (g.0, g.1, g.2, sym one, all_place _ l.entry.lasts (all_place _ lines kept_writers q l at) g.0 g.1 g.2 ∙ ap (writer lines l.entry) (sym one))

    -- and it touched what it keeps
    pub touched_kept : (i : ℕ) (p : Last) → slice_get l.entry.lasts i ≡ Some p → (touches plain l.entry.foot p.0 ≡ true) × (writer lines l.entry p.0 ≡ p.1)
    touched_kept i p there = (
      sym (all_place _ lines kept_cells q l at p.0) ∙ any_at (λ (r : Last). same_key p.0 r.0) l.entry.lasts i p there (same_self p.0),
      sym (all_place _ l.entry.lasts (all_place _ lines kept_writers q l at) i p there),
    )
