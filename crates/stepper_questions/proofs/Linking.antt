-- The steps of chains, and where entries cross.
use Rattle.std.proofs.Common.{◌≡◌, ℕ, zero, suc, ◌+◌, ◌-◌, ◌<◌, ◌≤◌, Bool, true, false, cond, List, [], ◌∷◌, ◌++◌, drop, length, get_or, Option, Some, None, is_some, slice_get, refl, sym, ap, ◌∙◌, subst, append-nil, append_assoc, eq-eqb, arith, codes}
use Rattle.std.specs.BTreeMap.{BTreeMap, IsOrdered}
use Rattle.std.specs.Map.{lookup}
use Rattle.std.specs.Ordering.{is_eq}
use Rattle.std.proofs.lemmas.Bool.{false≢true}
use Rattle.std.proofs.lemmas.List.{length_push}
use Rattle.history.specs.Chains.{is_name, wrote}
use Rattle.history.specs.Subject.{touches}
use Rattle.ids.specs.declared.cells.CellKey.{CellKey}
use Rattle.ids.specs.declared.names.EventName.{EventName}
use Rattle.journal.specs.Items.{Item}
use Rattle.journal.specs.Lines.{plain, Line, line_of, lines_of}
use Rattle.causality.specs.Journals.{IsJournal}
use Rattle.causality.specs.Selections.{name_of}
use Rattle.stepper_questions.specs.Cells.{key_of, cell_cmp}
use Rattle.stepper_questions.specs.Chains.{Step, Chain, chain_none, chain_more}
use Rattle.stepper_questions.specs.TouchedView.{seen_as, told_entries, SeenIn}
use Rattle.stepper_questions.specs.Why.{step_text, is_by, crossed_with, first_crossed, Steps, steps_none, steps_more, Crossing, is_crossed, is_neither}
use Rattle.stepper_questions.specs.WhyView.{crossed_in, link_text, links_text, IsLink, AreLinks, OpenChain}
use Rattle.stepper_questions.specs.Writers.{Told, told, writer, first_cell}
use Rattle.stepper_questions.specs.declared.cell.ToldCell.{ToldCell}
use Rattle.stepper_questions.specs.declared.reason.ChainLink.{ChainLink}
use Rattle.stepper_questions.specs.declared.touched.Seen.{Seen}
use Rattle.stepper_questions.proofs.CellNames.{cell_at, key_back}
use Rattle.stepper_questions.proofs.Consequences.{line_at}
use Rattle.stepper_questions.proofs.Places.{one_item}
use Rattle.causality.proofs.Telling.{Tells}
use Rattle.stepper_questions.proofs.Stepping.{step_rises, chain_rises}
use Rattle.stepper_questions.proofs.Touching.{seen_told, cells_told}

-- where a cell that is listed is told of an event there is a first one
first_some : (e : EventName) (test : ToldCell → Bool) (cells : List (ToldCell × Told)) (t : Told) → lookup test cells ≡ Some t → is_name t.writer e.0 ≡ true → is_some (first_cell (is_by e) cells) ≡ true
first_some e test [] t h is = cc
first_some e test (d ∷ cells) t h is = by (test d.0) refl h (is_name d.1.writer e.0) refl (first_some e test cells t)
  where
    by : (b : Bool) → test d.0 ≡ b → cond b (Some d.1) (lookup test cells) ≡ Some t → (n : Bool) → is_name d.1.writer e.0 ≡ n
        → (lookup test cells ≡ Some t → is_name t.writer e.0 ≡ true → is_some (first_cell (is_by e) cells) ≡ true) → is_some (cond n (Some d.0) (first_cell (is_by e) cells)) ≡ true
    by b same g true named rest = refl
    by true same g false named rest = let one : d.1 ≡ t = cc in absurd (false≢true (sym named ∙ ap (λ (u : Told). is_name u.writer e.0) one ∙ is))
    by false same g false named rest = rest g is

module _ (items : List Item) (journal : IsJournal items) (p q : ℕ) (a b : Item) (at : slice_get items p ≡ Some a) (there : slice_get items q ≡ Some b) where
  abbrev first : Line
  first = line_of items a

  abbrev second : Line
  second = line_of items b

  module _ (m : BTreeMap ToldCell Seen) (ordered : IsOrdered cell_cmp m) (seen : (c : ToldCell) → SeenIn b.lasts b.kept (key_of c) (seen_as m.entries c)) where
    -- a step goes by its first cell
    pub link_is : (c : ToldCell) → first_cell (is_by a.event.name) (told_entries m.entries) ≡ Some c → IsLink (lines_of items) p q (record { from = a.event.name; to = b.event.name; cell = c })
    link_is c is = record {
      from = first;
      to = second;
      starts = line_at items p a at;
      ends = line_at items q b there;
      leaves = refl;
      reaches = refl;
      cells = told_entries m.entries;
      listed = cells_told items journal q b there m ordered seen;
      first = is;
    }

    -- and where there is a step there is such a cell
    pub link_there : (k : CellKey) → Step (lines_of items) p k q → first_cell (is_by a.event.name) (told_entries m.entries) ≡ None → ⊥
    link_there k s none =
        let to : s.to ≡ second = one_item (lines_of items) q s.to second s.ends (line_at items q b there) in
        let from : s.from ≡ first = one_item (lines_of items) p s.from first s.starts (line_at items p a at) in
        let c : ToldCell = cell_at k in
        let key : key_of c ≡ k = key_back k in
        let listed = cells_told items journal q b there m ordered seen in
        let touched : touches plain second.entry.foot (key_of c) ≡ true = ap (touches plain second.entry.foot) key ∙ ap (λ (l : Line). touches plain l.entry.foot k) (sym to) ∙ s.touched in
        let by_it : writer (lines_of items) second.entry (key_of c) ≡ Some (a.event.name.0) =
        ap (writer (lines_of items) second.entry) key ∙ ap (λ (l : Line). writer (lines_of items) l.entry k) (sym to) ∙ s.by ∙ ap (λ (l : Line). let o : Option ℕ = Some ((name_of l).0) in o) from in
        let t : Told = record { writer = writer (lines_of items) second.entry (key_of c); written = wrote plain (key_of c) second.entry } in
        let told_is : told (lines_of items) second.entry (key_of c) ≡ Some t = ap (λ x. cond x (Some t) None) touched in
        let named : is_name t.writer a.event.name.0 ≡ true = ap (λ o. is_name o a.event.name.0) by_it ∙ eq-eqb a.event.name.0 a.event.name.0 refl in
        false≢true (ap is_some (sym none) ∙ first_some a.event.name (λ d. is_eq (cell_cmp c d)) (told_entries m.entries) t (sym (listed.listed c) ∙ told_is) named)

    module _ (n : BTreeMap ToldCell Seen) (seen_first : (c : ToldCell) → SeenIn a.lasts a.kept (key_of c) (seen_as n.entries c)) where
      crossed_same : first_cell (crossed_in n.entries) (told_entries m.entries) ≡ first_crossed (lines_of items) first.entry (told_entries m.entries)
      crossed_same = λ j. first_cell (λ c t. crossed_with (sym (seen_told items journal p a at n.entries seen_first c) j) t) (told_entries m.entries)

      -- the first cell at which they cross, or that there is none
      pub crossing_is : (c : ToldCell) → first_cell (crossed_in n.entries) (told_entries m.entries) ≡ Some c → Crossing (lines_of items) p q (codes "crossed\n" ++ step_text a.event.name b.event.name c)
      crossing_is c is = is_crossed (line_at items p a at) (line_at items q b there) (cells_told items journal q b there m ordered seen) (sym crossed_same ∙ is)

      pub crossing_none : first_cell (crossed_in n.entries) (told_entries m.entries) ≡ None → Crossing (lines_of items) p q (codes "none\n")
      crossing_none is = is_neither (line_at items p a at) (line_at items q b there) (cells_told items journal q b there m ordered seen) (sym crossed_same ∙ is)

-- ---- the steps along a chain

-- the step at a place of a chain
pub chain_link : {lines : List Line} {s : ℕ} {q : ℕ} {qs : List ℕ} → Chain lines s (q ∷ qs) → (i : ℕ) (d e : ℕ) → suc i < length (q ∷ qs) → (k : CellKey) × Step lines (get_or (q ∷ qs) (suc i) d) k (get_or (q ∷ qs) i e)
chain_link chain_none i d e lt = absurd (omega arith)
chain_link (chain_more k c step) zero d e lt = (k, step)
chain_link (chain_more k c step) (suc i) d e lt = chain_link c i d e (omega arith)

pub drop_here : (xs : List ℕ) (i d : ℕ) → i < length xs → drop i xs ≡ get_or xs i d ∷ drop (suc i) xs
drop_here [] i d lt = absurd (omega arith)
drop_here (x ∷ xs) zero d lt = refl
drop_here (x ∷ xs) (suc i) d lt = drop_here xs i d (omega arith)

-- no place is before the first one, or behind the last
chain_between : {lines : List Line} → Tells lines → {s : ℕ} {q : ℕ} {qs : List ℕ} → Chain lines s (q ∷ qs) → (i : ℕ) → i < length (q ∷ qs) → (s ≤ get_or (q ∷ qs) i 0) × (get_or (q ∷ qs) i 0 ≤ q)
chain_between h chain_none zero lt = (omega arith, omega arith)
chain_between h chain_none (suc i) lt = absurd (omega arith)
chain_between {lines = lines} h {s = s} (chain_more {p = p} {q = q} k c step) zero lt =
    let low : s ≤ p = chain_rises lines h c in
    let up : p < q = step_rises lines h p q k step in
    (omega arith, omega arith)
chain_between {lines = lines} h {s = s} (chain_more {p = p} {q = q} {ps = ps} k c step) (suc i) lt =
    let both = chain_between h c i (omega arith) in
    let low : s ≤ get_or (p ∷ ps) i 0 = both.0 in
    let high : get_or (p ∷ ps) i 0 ≤ p = both.1 in
    let up : p < q = step_rises lines h p q k step in
    (low, omega arith)

module _ (lines : List Line) (h : Tells lines) (base end : ℕ) (places : List ℕ) (o : OpenChain lines base end places) where
  pub some_places : 0 < length places
  some_places = let same : length places ≡ length (o.l ∷ o.ps) = ap length o.are in let some : 0 < length (o.l ∷ o.ps) = omega arith in omega arith

  pub place_low : (i : ℕ) → i < length places → base ≤ get_or places i 0
  place_low i lt =
      let low : o.s ≤ get_or (o.l ∷ o.ps) i 0 = (chain_between h o.chain i (subst (λ (ps : List ℕ). i < length ps) o.are lt)).0 in
      let behind : base ≤ o.s = o.behind in
      subst (λ (ps : List ℕ). base ≤ get_or ps i 0) (sym o.are) (omega arith)

  pub place_high : (i : ℕ) → i < length places → get_or places i 0 < end
  place_high i lt =
      let high : get_or (o.l ∷ o.ps) i 0 ≤ o.l = (chain_between h o.chain i (subst (λ (ps : List ℕ). i < length ps) o.are lt)).1 in
      let before : o.l < end = o.before in
      subst (λ (ps : List ℕ). get_or ps i 0 < end) (sym o.are) (omega arith)

  pub place_link : (left : ℕ) → 0 < left → left < length places → (k : CellKey) × Step lines (get_or places left 0) k (get_or places (left - 1) 0)
  place_link zero some lt = absurd (omega arith)
  place_link (suc i) some lt =
      let less : suc i - 1 ≡ i = omega arith in
      subst (λ n. (k : CellKey) × Step lines (get_or places (suc i) 0) k (get_or places n 0)) (sym less)
      (subst (λ (ps : List ℕ). (k : CellKey) × Step lines (get_or ps (suc i) 0) k (get_or ps i 0)) (sym o.are) (chain_link o.chain i 0 0 (subst (λ (ps : List ℕ). suc i < length ps) o.are lt)))

-- where nothing is written yet the last place stands alone
one_left : (xs : List ℕ) (i : ℕ) → suc i ≡ length xs → (x : ℕ) × (drop i xs ≡ x ∷ [])
one_left [] i h = absurd (omega arith)
one_left (x ∷ []) zero h = (x, refl)
one_left (x ∷ y ∷ xs) zero h = absurd (omega arith)
one_left (x ∷ xs) (suc i) h = one_left xs i (omega arith)

pub links_begin : (lines : List Line) (places : List ℕ) (i : ℕ) (links : List ChainLink) → links ≡ [] → suc i ≡ length places → AreLinks lines (drop i places) links
links_begin lines places i links none h =
    let o = one_left places i h in
    subst (AreLinks lines (drop i places)) (sym none) (record { steps = subst (λ (ps : List ℕ). Steps lines ps []) (sym o.1) steps_none; count = sym (ap length o.1) })

links_text-append : (links : List ChainLink) (l : ChainLink) → links_text (links ++ l ∷ []) ≡ links_text links ++ link_text l
links_text-append [] l = append-nil (link_text l)
links_text-append (k ∷ links) l = ap (λ t. link_text k ++ t) (links_text-append links l) ∙ sym (append_assoc (link_text k) (links_text links) (link_text l))

pub links_next : (lines : List Line) (places : List ℕ) (left : ℕ) (links now : List ChainLink) (l : ChainLink) → now ≡ links ++ l ∷ [] → 0 < left → left < length places → AreLinks lines (drop left places) links
    → IsLink lines (get_or places left 0) (get_or places (left - 1) 0) l → AreLinks lines (drop (left - 1) places) now
links_next lines places zero links now l pushed some lt are link = absurd (omega arith)
links_next lines places (suc i) links now l pushed some lt are link =
    let less : suc i - 1 ≡ i = omega arith in
    let before : i < length places = omega arith in
    let k = subst (λ n. IsLink lines (get_or places (suc i) 0) (get_or places n 0) l) less link in
    let steps : Steps lines (get_or places (suc i) 0 ∷ drop (suc (suc i)) places) (links_text links) = subst (λ (ps : List ℕ). Steps lines ps (links_text links)) (drop_here places (suc i) 0 lt) are.steps in
    let more : Steps lines (get_or places i 0 ∷ get_or places (suc i) 0 ∷ drop (suc (suc i)) places) (links_text links ++ step_text (name_of k.from) (name_of k.to) l.cell) = steps_more steps k.starts k.ends k.listed k.first in
    let all : get_or places i 0 ∷ get_or places (suc i) 0 ∷ drop (suc (suc i)) places ≡ drop i places =
    ap (λ (ps : List ℕ). get_or places i 0 ∷ ps) (sym (drop_here places (suc i) 0 lt)) ∙ sym (drop_here places i 0 before) in
    let text : links_text links ++ step_text (name_of k.from) (name_of k.to) l.cell ≡ links_text now =
    ap (λ e. links_text links ++ step_text e (name_of k.to) l.cell) (sym k.leaves) ∙ ap (λ e. links_text links ++ step_text l.from e l.cell) (sym k.reaches) ∙ sym (links_text-append links l) ∙ ap links_text (sym pushed) in
    let pushed_one : length now ≡ length (links ++ l ∷ []) = ap length pushed in
    let one_more : length (links ++ l ∷ []) ≡ length links + 1 = length_push links l in
    let so_far : suc (length links) ≡ length (drop (suc i) places) = are.count in
    let longer : length (drop i places) ≡ suc (length (drop (suc i) places)) = ap length (drop_here places i 0 before) in
    subst (λ n. AreLinks lines (drop n places) now) (sym less) (record {
      steps = subst (λ (ps : List ℕ). Steps lines ps (links_text now)) all (subst (Steps lines (get_or places i 0 ∷ get_or places (suc i) 0 ∷ drop (suc (suc i)) places)) text more);
      count = omega arith;
    })
