-- The cells that an entry touched, as the program finds them.
use Rattle.std.proofs.Common.{◌≡◌, ℕ, zero, suc, ◌+◌, ◌≤◌, Bool, true, false, cond, ◌||◌, List, [], ◌∷◌, map, Option, Some, None, is_some, length, take, slice_get, take_all, refl, sym, ap, ◌∙◌, subst, arith}
use Rattle.std.specs.BTreeMap.{BTreeMap, IsOrdered, is_at}
use Rattle.std.specs.List.{list_any}
use Rattle.std.specs.Map.{lookup}
use Rattle.std.specs.Option.{option_map}
use Rattle.std.proofs.lemmas.Bool.{false≢true}
use Rattle.history.specs.Chains.{wrote}
use Rattle.history.specs.Records.{Record}
use Rattle.history.specs.Subject.{found, touches}
use Rattle.ids.specs.CellKeys.{same_key}
use Rattle.ids.specs.declared.cells.CellKey.{CellKey}
use Rattle.ids.proofs.CellKeys.{same_exact, same_self}
use Rattle.world_cells.specs.Records.{record_of}
use Rattle.world_cells.specs.Theory.{cells, kepts_of, kept_of}
use Rattle.world_cells.specs.declared.record.CellRecord.{CellRecord}
use Rattle.journal.specs.Items.{Item, lasts_of, last_of, number_of}
use Rattle.journal.specs.Lines.{plain, line_of, lines_of}
use Rattle.journal.specs.declared.entry.Touched.{Touched}
use Rattle.journal.proofs.Touching.{any-map}
use Rattle.causality.specs.Journals.{IsJournal}
use Rattle.causality.proofs.Following.{all_place}
use Rattle.causality.proofs.Telling.{Tells, journal_tells}
use Rattle.stepper_printing.proofs.Listings.{entries_list}
use Rattle.stepper_questions.specs.Cells.{key_of, cell_cmp}
use Rattle.stepper_questions.specs.TouchedView.{has_cell, kept_has, told_of, seen_as, told_entries, SeenIn}
use Rattle.stepper_questions.specs.Writers.{Told, writer, told, Cells}
use Rattle.stepper_questions.specs.declared.cell.ToldCell.{ToldCell}
use Rattle.stepper_questions.specs.declared.touched.Seen.{Seen}
use Rattle.stepper_questions.proofs.CellNames.{cells_same}
use Rattle.stepper_questions.proofs.Consequences.{line_at}
use Rattle.stepper_questions.proofs.Keeping.{Last, kept_cells, touched_kept}

or_end : (a b : Bool) → a ≡ b → (a || false) ≡ (false || b)
or_end true b is = is
or_end false b is = is

or_further : (a b c d : Bool) → b ≡ (c || d) → (a || b) ≡ ((a || c) || d)
or_further true b c d is = refl
or_further false b c d is = is

-- what is so of one of some more is so of one of the others, or of the last
any_more : {A : Type 0} (test : A → Bool) (xs : List A) (i : ℕ) (x : A) → slice_get xs i ≡ Some x → list_any test (take (suc i) xs) ≡ (list_any test (take i xs) || test x)
any_more test [] i x at = cc
any_more test (y ∷ xs) zero x at = let is : y ≡ x = cc in or_end (test y) (test x) (ap test is)
any_more test (y ∷ xs) (suc i) x at = or_further (test y) _ _ (test x) (any_more test xs i x at)

-- ---- the cells of records

-- one record more
pub record_more : (rs : List CellRecord) (i : ℕ) (r : CellRecord) (here : ToldCell) (old new : List ToldCell) → slice_get rs i ≡ Some r → key_of here ≡ (record_of r).0
    → ((c : ToldCell) → list_any (is_at (cell_cmp c)) new ≡ cond (is_at (cell_cmp here) c) true (list_any (is_at (cell_cmp c)) old))
    → ((c : ToldCell) → has_cell old c ≡ list_any (λ (s : CellRecord). same_key (record_of s).0 (key_of c)) (take i rs))
    → (c : ToldCell) → has_cell new c ≡ list_any (λ (s : CellRecord). same_key (record_of s).0 (key_of c)) (take (i + 1) rs)
record_more rs i r here old new at is updates so_far c =
    updates c
    ∙ ap (λ b. cond b true (has_cell old c)) (cells_same here c ∙ ap (λ k. same_key k (key_of c)) is)
    ∙ ap (cond (same_key (record_of r).0 (key_of c)) true) (so_far c)
    ∙ turned (same_key (record_of r).0 (key_of c)) (list_any test (take i rs))
    ∙ sym (any_more test rs i r at)
    ∙ (let next : suc i ≡ i + 1 = omega arith in ap (λ n. list_any test (take n rs)) next)
  where
    test : CellRecord → Bool
    test s = same_key (record_of s).0 (key_of c)

    turned : (a b : Bool) → cond a true b ≡ (b || a)
    turned true true = refl
    turned true false = refl
    turned false true = refl
    turned false false = refl

-- all records
pub records_all : (rs : List CellRecord) (i : ℕ) (cs : List ToldCell) → length rs ≤ i → ((c : ToldCell) → has_cell cs c ≡ list_any (λ (s : CellRecord). same_key (record_of s).0 (key_of c)) (take i rs))
    → (c : ToldCell) → has_cell cs c ≡ kept_has (kepts_of rs) (key_of c)
records_all rs i cs done h c =
    h c ∙ ap (list_any (λ (s : CellRecord). same_key (record_of s).0 (key_of c))) (take_all i rs done)
    ∙ sym (any-map kept_of (λ (p : CellKey × _). same_key p.0 (key_of c)) rs)

-- ---- the cells that are touched

-- the last of some more, and those before it
last_taken : {A B : Type 0} (f : A → B) (xs : List A) (i : ℕ) (x : A) → slice_get xs i ≡ Some x → slice_get (map f (take (suc i) xs)) i ≡ Some (f x)
last_taken f [] i x at = cc
last_taken f (y ∷ xs) zero x at = let is : y ≡ x = cc in ap (λ z. Some (f z)) is
last_taken f (y ∷ xs) (suc i) x at = last_taken f xs i x at

still_taken : {A B : Type 0} (f : A → B) (xs : List A) (i j : ℕ) (y : B) → slice_get (map f (take i xs)) j ≡ Some y → slice_get (map f (take (suc i) xs)) j ≡ Some y
still_taken f [] zero j y at = cc
still_taken f [] (suc i) j y at = cc
still_taken f (x ∷ xs) zero j y at = cc
still_taken f (x ∷ xs) (suc i) zero y at = at
still_taken f (x ∷ xs) (suc i) (suc j) y at = still_taken f xs i j y at

-- keys that are not the same are not so either way round
same_turned : (k d : CellKey) → same_key k d ≡ false → same_key d k ≡ false
same_turned k d h = by (same_key d k) refl
  where
    by : (b : Bool) → same_key d k ≡ b → b ≡ false
    by true is = absurd (false≢true (sym h ∙ ap (same_key k) (same_exact d k is) ∙ same_self k))
    by false is = refl

-- what one more of another cell does not change
widened : (ts : List Touched) (i : ℕ) (t : Touched) (kept : Record cells) (k : CellKey) (o : Option Told) → slice_get ts i ≡ Some t → same_key t.key k ≡ false → SeenIn (lasts_of (take i ts)) kept k o → SeenIn (lasts_of (take (suc i) ts)) kept k o
widened ts i t kept k None at apart none =
    let test : Touched → Bool = λ u. same_key k u.key in
    any-map last_of (λ (p : Last). same_key k p.0) (take (suc i) ts) ∙ any_more test ts i t at
    ∙ ap (λ b. b || same_key k t.key) (sym (any-map last_of (λ (p : Last). same_key k p.0) (take i ts)) ∙ none) ∙ same_turned t.key k apart
widened ts i t kept k (Some u) at apart (j, p, there, key, is) = (j, p, still_taken last_of ts i j p there, key, is)

-- one touched cell more
pub touched_more : (ts : List Touched) (i : ℕ) (t : Touched) (kept : Record cells) (here : ToldCell) (seen : Seen) (old new : List (ToldCell × Seen)) → slice_get ts i ≡ Some t → key_of here ≡ t.key
    → seen.writer ≡ t.writer → seen.is_written ≡ kept_has kept (key_of here)
    → ((c : ToldCell) → lookup (is_at (cell_cmp c)) new ≡ cond (is_at (cell_cmp here) c) (Some seen) (lookup (is_at (cell_cmp c)) old))
    → ((c : ToldCell) → SeenIn (lasts_of (take i ts)) kept (key_of c) (seen_as old c)) → (c : ToldCell) → SeenIn (lasts_of (take (i + 1) ts)) kept (key_of c) (seen_as new c)
touched_more ts i t kept here seen old new at is wrote_by written updates so_far c =
    let next : suc i ≡ i + 1 = omega arith in
    subst (λ n. SeenIn (lasts_of (take n ts)) kept (key_of c) (seen_as new c)) next
    (subst (SeenIn (lasts_of (take (suc i) ts)) kept (key_of c))
    (sym (ap (option_map told_of) (updates c ∙ ap (λ b. cond b (Some seen) (lookup (is_at (cell_cmp c)) old)) (cells_same here c ∙ ap (λ k. same_key k (key_of c)) is))))
    (by (same_key t.key (key_of c)) refl))
  where
    by : (b : Bool) → same_key t.key (key_of c) ≡ b → SeenIn (lasts_of (take (suc i) ts)) kept (key_of c) (option_map told_of (cond b (Some seen) (lookup (is_at (cell_cmp c)) old)))
    by true same =
        let key : t.key ≡ key_of c = same_exact t.key (key_of c) same in
        let has : seen.is_written ≡ kept_has kept (key_of c) = written ∙ ap (kept_has kept) (is ∙ key) in
        (i, last_of t, last_taken last_of ts i t at, key, (λ j. record { writer = number_of (wrote_by j); written = has j }))
    by false same = widened ts i t kept (key_of c) (seen_as old c) at same (so_far c)

-- no cell yet
pub touched_none : (ts : List Touched) (kept : Record cells) (es : List (ToldCell × Seen)) → es ≡ [] → (c : ToldCell) → SeenIn (lasts_of (take 0 ts)) kept (key_of c) (seen_as es c)
touched_none ts kept es none c = subst (λ (fs : List (ToldCell × Seen)). SeenIn (lasts_of (take 0 ts)) kept (key_of c) (seen_as fs c)) (sym none) refl

-- all cells
pub touched_all : (ts us : List Touched) (i : ℕ) (kept : Record cells) (es : List (ToldCell × Seen)) → us ≡ ts → length us ≤ i → ((c : ToldCell) → SeenIn (lasts_of (take i us)) kept (key_of c) (seen_as es c)) → (c : ToldCell) → SeenIn (lasts_of ts) kept (key_of c) (seen_as es c)
touched_all ts us i kept es is done h c = subst (λ (vs : List Touched). SeenIn (lasts_of vs) kept (key_of c) (seen_as es c)) (take_all i us done ∙ is) (h c)

-- ---- what is told of them

wrote_kept : (kept : Record cells) (k : CellKey) → is_some (found plain (map (λ r. (r.0, tt {0})) kept) k) ≡ kept_has kept k
wrote_kept [] k = refl
wrote_kept (r ∷ kept) k = by (same_key r.0 k) (wrote_kept kept k)
  where
    by : (b : Bool) → is_some (found plain (map (λ r. (r.0, tt {0})) kept) k) ≡ kept_has kept k → is_some (cond b (Some (tt {0})) (found plain (map (λ r. (r.0, tt {0})) kept) k)) ≡ (b || kept_has kept k)
    by true h = refl
    by false h = h

module _ (items : List Item) (journal : IsJournal items) (q : ℕ) (i : Item) (at : slice_get items q ≡ Some i) where
  -- what the program sees is what is told
  pub seen_told : (es : List (ToldCell × Seen)) → ((c : ToldCell) → SeenIn i.lasts i.kept (key_of c) (seen_as es c)) → (c : ToldCell) → told (lines_of items) (line_of items i).entry (key_of c) ≡ seen_as es c
  seen_told es seen c = by (seen_as es c) (seen c)
    where
      h : Tells (lines_of items)
      h = journal_tells items journal

      there : slice_get (lines_of items) q ≡ Some (line_of items i)
      there = line_at items q i at

      by : (o : Option Told) → SeenIn i.lasts i.kept (key_of c) o → told (lines_of items) (line_of items i).entry (key_of c) ≡ o
      by None none =
          ap (λ b. cond b (Some (record { writer = writer (lines_of items) (line_of items i).entry (key_of c); written = wrote plain (key_of c) (line_of items i).entry })) None)
          (sym (all_place _ (lines_of items) (kept_cells (lines_of items) h) q (line_of items i) there (key_of c)) ∙ none)
      by (Some t) (j, p, within, key, is) =
          let kept = touched_kept (lines_of items) h q (line_of items i) there j p within in
          let touched : touches plain (line_of items i).entry.foot (key_of c) ≡ true = ap (touches plain (line_of items i).entry.foot) (sym key) ∙ kept.0 in
          let by_it : writer (lines_of items) (line_of items i).entry (key_of c) ≡ p.1 = ap (writer (lines_of items) (line_of items i).entry) (sym key) ∙ kept.1 in
          let wrote_it : wrote plain (key_of c) (line_of items i).entry ≡ kept_has i.kept (key_of c) = wrote_kept i.kept (key_of c) in
          ap (λ b. cond b (Some (record { writer = writer (lines_of items) (line_of items i).entry (key_of c); written = wrote plain (key_of c) (line_of items i).entry })) None) touched
          ∙ (λ n. Some (record { writer = by_it n; written = wrote_it n })) ∙ ap (λ (u : Told). let o : Option Told = Some u in o) (sym is)

  -- THE LEMMA: the entries of the map are the cells that the line touched
  pub cells_told : (m : BTreeMap ToldCell Seen) → IsOrdered cell_cmp m → ((c : ToldCell) → SeenIn i.lasts i.kept (key_of c) (seen_as m.entries c)) → Cells (lines_of items) (line_of items i).entry (told_entries m.entries)
  cells_told m ordered seen =
      let listed = entries_list cell_cmp told_of m ordered in
      record { ordered = listed.ordered; listed = λ c. seen_told m.entries seen c ∙ listed.listed c }
