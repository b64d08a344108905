-- Steps and chains among the lines of a journal.
use Rattle.std.proofs.Common.{◌≡◌, ℕ, ◌<◌, ◌≤◌, ◌==◌, Bool, true, false, cond, ◌&&◌, List, [], ◌∷◌, map, reverse, Some, slice_get, refl, sym, ap, ◌∙◌, subst, arith, eqb-true, eq-eqb, inl, inr, ◌⊎◌}
use Rattle.std.specs.List.{list_any}
use Rattle.std.proofs.lemmas.Bool.{and_parts, or_left, or_right}
use Rattle.std.proofs.lemmas.List.Sorted.{list_any-IsPermutation, IsPermutation-reverse}
use Rattle.history.specs.Journal.{Entry, name_of, caused}
use Rattle.history.specs.Chains.{wrote, last_writer}
use Rattle.ids.specs.declared.cells.CellKey.{CellKey}
use Rattle.journal.specs.Lines.{plain, Line, entries_in}
use Rattle.causality.proofs.Telling.{Tells}
use Rattle.stepper_questions.specs.Chains.{Step, Chain, chain_none, chain_more}
use Rattle.stepper_questions.proofs.Keeping.{Last, keeps_touched, touched_kept}
use Rattle.journal.proofs.Touching.{any-map}
use Rattle.stepper_questions.proofs.Places.{place_any, one_item, one_name, cause_rises}

-- the newest member that wrote a cell is a member of its name that wrote the cell
last_is : (k : CellKey) (t : Entry plain → Bool) (es : List (Entry plain)) (n : ℕ) → last_writer plain k t es ≡ Some n → list_any (λ a. (name_of plain a == n) && (t a && wrote plain k a)) es ≡ true
last_is k t [] n h = cc
last_is k t (e ∷ es) n h = by (t e && wrote plain k e) refl h (last_is k t es n)
  where
    by : (b : Bool) → (t e && wrote plain k e) ≡ b → cond b (Some (name_of plain e)) (last_writer plain k t es) ≡ Some n
        → (last_writer plain k t es ≡ Some n → list_any (λ a. (name_of plain a == n) && (t a && wrote plain k a)) es ≡ true)
        → list_any (λ a. (name_of plain a == n) && (t a && wrote plain k a)) (e ∷ es) ≡ true
    by true is g ih = let one : name_of plain e ≡ n = cc in or_left _ _ (ap (λ b. b && (t e && wrote plain k e)) (eq-eqb (name_of plain e) n one) ∙ is)
    by false is g ih = or_right ((name_of plain e == n) && (t e && wrote plain k e)) _ (ih g)

-- a member of a name among the entries of lines stands in some place
member_at : (lines : List Line) (n : ℕ) (test : Entry plain → Bool) → list_any (λ a. (name_of plain a == n) && test a) (entries_in lines) ≡ true
    → (p : ℕ) × (l : Line) × (slice_get lines p ≡ Some l) × (name_of plain l.entry ≡ n) × (test l.entry ≡ true)
member_at lines n test h =
    let both : Entry plain → Bool = λ a. (name_of plain a == n) && test a in
    let entries : List (Entry plain) = map (λ (l : Line). l.entry) lines in
    let any : list_any (λ (l : Line). both l.entry) lines ≡ true =
    sym (any-map (λ (l : Line). l.entry) both lines) ∙ list_any-IsPermutation both entries (reverse entries) (IsPermutation-reverse entries) ∙ h in
    let g = place_any (λ (l : Line). both l.entry) lines any in
    let parts = and_parts (name_of plain g.1.entry == n) (test g.1.entry) g.3 in
    (g.0, g.1, g.2, eqb-true (name_of plain g.1.entry) n parts.0, parts.1)

module _ (lines : List Line) (h : Tells lines) where
  -- a line of which another one came by a step wrote the cell, and is its cause
  pub step_caused : (p q : ℕ) (k : CellKey) (s : Step lines p k q) → (caused plain s.to.entry s.from.entry ≡ true) × (wrote plain k s.from.entry ≡ true)
  step_caused p q k s =
      let g = member_at lines (name_of plain s.from.entry) (λ e. caused plain s.to.entry e && wrote plain k e) (last_is k (caused plain s.to.entry) (entries_in lines) (name_of plain s.from.entry) s.by) in
      let same : g.0 ≡ p = one_name lines h g.0 p g.1 s.from g.2 s.starts g.3 in
      let one : g.1 ≡ s.from = one_item lines p g.1 s.from (subst (λ r. slice_get lines r ≡ Some g.1) same g.2) s.starts in
      let both = and_parts (caused plain s.to.entry g.1.entry) (wrote plain k g.1.entry) g.4 in (
        subst (λ (l : Line). caused plain s.to.entry l.entry ≡ true) one both.0,
        subst (λ (l : Line). wrote plain k l.entry ≡ true) one both.1,
      )

  -- a step rises in the journal
  pub step_rises : (p q : ℕ) (k : CellKey) → Step lines p k q → p < q
  step_rises p q k s = cause_rises lines h p q s.from s.to s.starts s.ends (step_caused p q k s).0

  -- what a line keeps makes steps
  pub step_kept : (p q : ℕ) (a b : Line) (i : ℕ) (c : Last) → slice_get lines p ≡ Some a → slice_get lines q ≡ Some b → slice_get b.entry.lasts i ≡ Some c → c.1 ≡ Some (name_of plain a.entry) → Step lines p c.0 q
  step_kept p q a b i c at there kept is =
      let t = touched_kept lines h q b there i c kept in
      record { from = a; to = b; starts = at; ends = there; touched = t.0; by = t.1 ∙ is }

  -- and each step is kept
  pub step_keeps : (p q : ℕ) (k : CellKey) (s : Step lines p k q) → (i : ℕ) × (c : Last) × (slice_get s.to.entry.lasts i ≡ Some c) × (c.1 ≡ Some (name_of plain s.from.entry)) × (c.0 ≡ k)
  step_keeps p q k s =
      let g = keeps_touched lines h q s.to s.ends k s.touched in
      (g.0, g.1, g.2, g.4 ∙ s.by, g.3)

  module _ {s : ℕ} where
    -- a chain rises from where it begins
    pub chain_rises : {q : ℕ} {qs : List ℕ} → Chain lines s (q ∷ qs) → s ≤ q
    chain_rises chain_none = omega arith
    chain_rises (chain_more {p = p} {q = q} k c step) = let le : s ≤ p = chain_rises c in let lt : p < q = step_rises p q k step in omega arith

    -- it ends where it begins, or with a step
    pub chain_parts : {q : ℕ} {qs : List ℕ} → Chain lines s (q ∷ qs) → ((q ≡ s) × (qs ≡ [])) ⊎ ((p : ℕ) × (ps : List ℕ) × (k : CellKey) × (qs ≡ p ∷ ps) × Chain lines s (p ∷ ps) × Step lines p k q)
    chain_parts chain_none = inl (refl, refl)
    chain_parts (chain_more {p = p} {ps = ps} k c step) = inr (p, ps, k, refl, c, step)
