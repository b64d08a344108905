-- A chain leads to a line exactly where that is a consequence.
use Rattle.std.proofs.Common.{◌≡◌, ◌⊎◌, inl, inr, ℕ, zero, suc, ◌<◌, ◌==◌, Bool, true, false, ◌||◌, List, [], ◌∷◌, Option, Some, None, map, filter, reverse, slice_get, refl, sym, ap, ◌∙◌, subst, arith, eqb-true}
use Rattle.std.proofs.Math.Logic.{∥∥₁_elim}
use Rattle.std.proofs.Props.{props}
use Rattle.std.specs.List.{list_any, AllByRecursion}
use Rattle.std.specs.Option.{option_map}
use Rattle.std.specs.Prelude.{unwrap_or, cond}
use Rattle.std.proofs.lemmas.Bool.{false≢true, or_cases}
use Rattle.std.proofs.lemmas.Option.{slice_get-map}
use Rattle.history.specs.Journal.{Entry, is_in, caused}
use Rattle.history.specs.Subject.{found}
use Rattle.history.specs.Chains.{chain}
use Rattle.history.proofs.Chaining.{chain_ends}
use Rattle.history.proofs.Lists.{all_mapped, all_reversed}
use Rattle.ids.specs.CellKeys.{same_key}
use Rattle.ids.specs.declared.cells.CellKey.{CellKey}
use Rattle.event.specs.Events.{DoesNoted}
use Rattle.event.proofs.Law.{noted_laws}
use Rattle.journal.specs.Items.{Item}
use Rattle.journal.specs.Lines.{plain, Line, bare, writer_of, reached, is_cause, causes_in, line_of, lines_of}
use Rattle.causality.specs.Journals.{IsJournal}
use Rattle.causality.proofs.Following.{number, follows}
use Rattle.causality.proofs.Telling.{Tells, journal_tells}
use Rattle.stepper_questions.specs.Chains.{Step, Chain, chain_none, chain_more, Consequence, consequence_next, consequence_more}
use Rattle.stepper_questions.specs.Laws.{ChainsAreConsequences}
use Rattle.stepper_questions.proofs.Keeping.{Last}
use Rattle.stepper_questions.proofs.Places.{place_any, one_name}
use Rattle.stepper_questions.proofs.Stepping.{step_caused, step_rises, step_kept}

numbers_prop : (x y : List ℕ) → IsProp (x ≡ y)
numbers_prop = hlevel props

-- chains one after another
join : {lines : List Line} {s p : ℕ} {q : ℕ} {qs ps : List ℕ} → Chain lines p (q ∷ qs) → Chain lines s (p ∷ ps) → (us : List ℕ) × Chain lines s (q ∷ us)
join {ps = ps} chain_none first = (ps, first)
join (chain_more {p = r} k more step) first = let d = join more first in (r ∷ d.0, chain_more k d.1 step)

-- the last step of a chain, and a chain without steps
last_step : {lines : List Line} {s q r : ℕ} {ps : List ℕ} → Chain lines s (q ∷ r ∷ ps) → (k : CellKey) × Chain lines s (r ∷ ps) × Step lines r k q
last_step (chain_more k before step) = (k, before, step)

alone : {lines : List Line} {s p : ℕ} → Chain lines s (p ∷ []) → s ≡ p
alone chain_none = refl

-- what a list has of a cell is one of it
found_place : (k : CellKey) (ls : List Last) (n : ℕ) → unwrap_or (found plain ls k) None ≡ Some n → (i : ℕ) × (c : Last) × (slice_get ls i ≡ Some c) × (c.1 ≡ Some n)
found_place k [] n h = cc
found_place k (c ∷ ls) n h = by (same_key c.0 k) h (found_place k ls n)
  where
    by : (b : Bool) → unwrap_or (cond b (Some c.1) (found plain ls k)) None ≡ Some n → (unwrap_or (found plain ls k) None ≡ Some n → (i : ℕ) × (d : Last) × (slice_get ls i ≡ Some d) × (d.1 ≡ Some n))
        → (i : ℕ) × (d : Last) × (slice_get (c ∷ ls) i ≡ Some d) × (d.1 ≡ Some n)
    by true g rest = (0, c, refl, g)
    by false g rest = let r = rest g in (suc r.0, r.1, r.2, r.3)

-- a number among those of some items is that of one of them
numbered : (test : Item → Bool) (items : List Item) (n : ℕ) → is_in (map number (filter test items)) n ≡ true → (a : Item) × (test a ≡ true) × (number a ≡ n)
numbered test [] n h = absurd (false≢true h)
numbered test (i ∷ items) n h = by (test i) refl h (numbered test items n)
  where
    by : (b : Bool) → test i ≡ b → is_in (map number (cond b (i ∷ filter test items) (filter test items))) n ≡ true → (is_in (map number (filter test items)) n ≡ true → (a : Item) × (test a ≡ true) × (number a ≡ n))
        → (a : Item) × (test a ≡ true) × (number a ≡ n)
    by true is g rest = elim (or_cases (number i == n) _ g) [ inl here ↦ (i, is, eqb-true (number i) n here) | inr there ↦ rest there ]
    by false is g rest = rest g

-- nothing is reached from a name that no entry has
none_reached : (k : CellKey) (m : ℕ) (es : List (Entry plain)) → AllByRecursion (λ e. (m == e.event.name.0) ≡ false) es → chain plain k (Some m) es ≡ []
none_reached k m [] h = refl
none_reached k m (e ∷ es) (h, hs) = rw h (none_reached k m es hs)

-- a name that is not found is that of none
none_named : (m : ℕ) (items : List Item) → list_any (λ i. m == number i) items ≡ false → AllByRecursion (λ i. (m == number i) ≡ false) items
none_named m [] h = tt
none_named m (i ∷ items) h = by (m == number i) refl h (none_named m items)
  where
    by : (b : Bool) → (m == number i) ≡ b → (b || list_any (λ j. m == number j) items) ≡ false → (list_any (λ j. m == number j) items ≡ false → AllByRecursion (λ j. (m == number j) ≡ false) items)
        → ((m == number i) ≡ false) × AllByRecursion (λ j. (m == number j) ≡ false) items
    by true is g rest = absurd (false≢true (sym g))
    by false is g rest = (is, rest g)

pub line_at : (items : List Item) (p : ℕ) (i : Item) → slice_get items p ≡ Some i → slice_get (lines_of items) p ≡ Some (line_of items i)
line_at items p i at = slice_get-map (line_of items) items p ∙ ap (option_map (line_of items)) at

-- the item of a line
pub item_of_line : (items : List Item) (p : ℕ) (l : Line) → slice_get (lines_of items) p ≡ Some l → (i : Item) × (slice_get items p ≡ Some i) × (line_of items i ≡ l)
item_of_line items p l at = by (slice_get items p) refl (sym (slice_get-map (line_of items) items p) ∙ at)
  where
    by : (o : Option Item) → slice_get items p ≡ o → option_map (line_of items) o ≡ Some l → (i : Item) × (slice_get items p ≡ Some i) × (line_of items i ≡ l)
    by None is g = cc
    by (Some i) is g = (i, is, (let one : line_of items i ≡ l = cc in one))

module _ (items : List Item) (journal : IsJournal items) where
  tells : Tells (lines_of items)
  tells = journal_tells items journal

  -- from the name of an item on its own is reached, and what is reached from its last writer
  reached_on : (k : CellKey) (p : ℕ) (i : Item) → slice_get items p ≡ Some i → reached items k (Some (number i)) ≡ number i ∷ reached items k (writer_of i k)
  reached_on k p i at = ∥∥₁_elim journal (numbers_prop _ _) (λ j. (follows DoesNoted noted_laws j.3).on k p i at)

  none_from : (k : CellKey) → reached items k None ≡ []
  none_from k = chain_ends plain k (reverse (map bare items))

  module _ (s : ℕ) (a : Item) (at : slice_get items s ≡ Some a) where
    abbrev Led : ℕ → Type 0
    Led q = (r : ℕ) × (ps : List ℕ) × Chain (lines_of items) s (q ∷ r ∷ ps)

    -- what is reached from what an item keeps leads to it
    led : (fuel q : ℕ) (b : Item) → slice_get items q ≡ Some b → q < fuel → (i : ℕ) (c : Last) → slice_get b.lasts i ≡ Some c → (k : CellKey) → is_in (reached items k c.1) (number a) ≡ true → Led q
    led zero q b there few i c kept k h = absurd (omega arith)
    led (suc fuel) q b there few i c kept k h = by (λ r d there few i c kept h. led fuel r d there few i c kept k h) c.1 refl h
      where
        by : ((r : ℕ) (d : Item) → slice_get items r ≡ Some d → r < fuel → (i : ℕ) (c : Last) → slice_get d.lasts i ≡ Some c → is_in (reached items k c.1) (number a) ≡ true → Led r)
            → (o : Option ℕ) → c.1 ≡ o → is_in (reached items k o) (number a) ≡ true → Led q
        by before None is g = absurd (false≢true (ap (λ ns. is_in ns (number a)) (sym (none_from k)) ∙ g))
        by before (Some m) is g = named (list_any (λ d. m == number d) items) refl
          where
            named : (t : Bool) → list_any (λ d. m == number d) items ≡ t → Led q
            named false none = absurd (false≢true (ap (λ ns. is_in ns (number a))
                (sym (none_reached k m (reverse (map bare items)) (all_reversed _ (map bare items) (all_mapped bare _ items (none_named m items none))))) ∙ g))
            named true some = last (or_cases (number d == number a) _ (ap (λ ns. is_in ns (number a)) (sym (reached_on k r d found_d.2) ∙ ap (λ n. reached items k (Some n)) (sym m_is)) ∙ g))
              where
                found_d : (p : ℕ) × (x : Item) × (slice_get items p ≡ Some x) × ((m == number x) ≡ true)
                found_d = place_any (λ d. m == number d) items some

                r : ℕ
                r = found_d.0

                d : Item
                d = found_d.1

                m_is : m ≡ number d
                m_is = eqb-true m (number d) found_d.3

                step : Step (lines_of items) r c.0 q
                step = step_kept (lines_of items) tells r q (line_of items d) (line_of items b) i c (line_at items r d found_d.2) (line_at items q b there) kept (is ∙ ap (λ n. let o : Option ℕ = Some n in o) m_is)

                last : ((number d == number a) ≡ true) ⊎ (is_in (reached items k (writer_of d k)) (number a) ≡ true) → Led q
                last (inl here) =
                    let same : s ≡ r = one_name (lines_of items) tells s r (line_of items a) (line_of items d) (line_at items s a at) (line_at items r d found_d.2) (sym (eqb-true (number d) (number a) here)) in
                    (s, [], chain_more c.0 chain_none (subst (λ p. Step (lines_of items) p c.0 q) (sym same) step))
                last (inr there) = further (writer_of d k) refl there
                  where
                    further : (w : Option ℕ) → writer_of d k ≡ w → is_in (reached items k w) (number a) ≡ true → Led q
                    further None e g = absurd (false≢true (ap (λ ns. is_in ns (number a)) (sym (none_from k)) ∙ g))
                    further (Some n) e g =
                        let w = found_place k d.lasts n e in
                        let lt : r < q = step_rises (lines_of items) tells r q c.0 step in
                        let led_on = before r d found_d.2 (omega arith) w.0 w.1 w.2 (ap (λ o. is_in (reached items k o) (number a)) w.3 ∙ g) in
                        (r, led_on.0 ∷ led_on.1, chain_more c.0 led_on.2 step)

    -- a cause leads to what it caused
    pub cause_leads : (q : ℕ) (b : Line) → slice_get (lines_of items) q ≡ Some b → is_in b.entry.causes (number a) ≡ true → Led q
    cause_leads q b there is =
        let i = item_of_line items q b there in
        let named : is_in (causes_in items i.0) (number a) ≡ true = ap (λ (l : Line). is_in l.entry.causes (number a)) i.2 ∙ is in
        let one = numbered (is_cause items i.0) items (number a) named in
        let w = place_any (λ (p : Last). is_in (reached items p.0 p.1) (number one.0)) i.0.lasts one.1 in
        led (suc q) q i.0 i.1 (omega arith) w.0 w.1 w.2 w.1.0 (ap (λ n. is_in (reached items w.1.0 w.1.1) n) (sym one.2) ∙ w.3)

  -- a chain leads to a consequence
  chain_consequence : (s q r : ℕ) (ps : List ℕ) → Chain (lines_of items) s (q ∷ r ∷ ps) → Consequence (lines_of items) s q
  chain_consequence s q r [] c =
      let d = last_step c in
      let step = d.2 in
      subst (λ p. Consequence (lines_of items) p q) (sym (alone d.1)) (consequence_next step.from step.to step.starts step.ends (step_caused (lines_of items) tells r q d.0 step).0)
  chain_consequence s q r (t ∷ ps) c =
      let d = last_step c in
      let step = d.2 in
      consequence_more step.from step.to (chain_consequence s r t ps d.1) step.starts step.ends (step_caused (lines_of items) tells r q d.0 step).0

  consequence_chain : {s q : ℕ} → Consequence (lines_of items) s q → (r : ℕ) × (ps : List ℕ) × Chain (lines_of items) s (q ∷ r ∷ ps)
  consequence_chain {s = s} {q = q} (consequence_next a b at there is) =
      let i = item_of_line items s a at in
      cause_leads s i.0 i.1 q b there (subst (λ (l : Line). caused plain b.entry l.entry ≡ true) (sym i.2) is)
  consequence_chain {s = s} {q = q} (consequence_more {p = p} a b first at there is) =
      let i = item_of_line items p a at in
      let last = cause_leads p i.0 i.1 q b there (subst (λ (l : Line). caused plain b.entry l.entry ≡ true) (sym i.2) is) in
      let before = consequence_chain first in
      let d = last_step last.2 in
      let joined = join d.1 before.2 in
      (last.0, joined.0, chain_more d.0 joined.1 d.2)

-- THE LAW
pub chains_are_consequences : ChainsAreConsequences
chains_are_consequences items journal s q = (λ r ps c. chain_consequence items journal s q r ps c, λ c. consequence_chain items journal c)
