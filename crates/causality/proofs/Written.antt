-- Whoever an entry of a journal has as the last writer of a cell wrote the cell.
use Rattle.std.proofs.Common.{◌≡◌, ◌≢◌, ◌∙◌, ℕ, ◌==◌, Bool, true, false, cond, ◌&&◌, ◌||◌, List, [], ◌∷◌, Option, Some, None, unwrap_or, refl, sym, ap₂, subst, eqb-true, eq-eqb, true≢false}
use Rattle.std.specs.List.{list_any, AllByRecursion}
use Rattle.std.proofs.lemmas.Bool.{or_left, or_right}
use Rattle.history.specs.Subject.{found}
use Rattle.history.specs.Journal.{Entry, name_of, caused, Distinct}
use Rattle.history.specs.Chains.{wrote, last_writer, Chained}
use Rattle.history.proofs.Lists.{all_map, all_of}
use Rattle.ids.specs.CellKeys.{same_key}
use Rattle.ids.specs.declared.cells.CellKey.{CellKey}
use Rattle.ids.proofs.CellKeys.{same_exact}
use Rattle.journal.specs.Items.{Item}
use Rattle.journal.specs.Lines.{plain, Line, line_of, lines_of, entries_in, last_among}
use Rattle.causality.specs.Causes.{IsWriter}
use Rattle.causality.proofs.Pairs.{all_unmapped, all_from_end}
use Rattle.causality.proofs.Telling.{Tells}

-- an entry of this name that wrote the cell
abbrev is_it : CellKey → ℕ → Entry plain → Bool
is_it k n a = (name_of plain a == n) && wrote plain k a

-- the newest member of a set that wrote a cell is one
last_wrote : (k : CellKey) (t : Entry plain → Bool) (es : List (Entry plain)) (n : ℕ) → last_writer plain k t es ≡ Some n → list_any (is_it k n) es ≡ true
last_wrote k t [] n h = cc
last_wrote k t (e ∷ es) n h = by (t e) (wrote plain k e) refl h (last_wrote k t es n)
  where
    by : (b c : Bool) → wrote plain k e ≡ c → cond (b && c) (Some (name_of plain e)) (last_writer plain k t es) ≡ Some n → (last_writer plain k t es ≡ Some n → list_any (is_it k n) es ≡ true)
        → list_any (is_it k n) (e ∷ es) ≡ true
    by true true w g ih = let one : name_of plain e ≡ n = cc in or_left _ _ (ap₂ (λ a b. a && b) (eq-eqb (name_of plain e) n one) w)
    by true false w g ih = or_right (is_it k n e) _ (ih g)
    by false c w g ih = or_right (is_it k n e) _ (ih g)

-- where names are apart, what holds of one entry of a name holds of each
none_named : (q : Entry plain → Bool) (n : ℕ) (es : List (Entry plain)) → AllByRecursion (λ a. name_of plain a ≢ n) es → list_any (λ a. (name_of plain a == n) && q a) es ≡ true → ⊥
none_named q n [] ne h = true≢false (sym h)
none_named q n (e ∷ es) (ne, nes) h = by (name_of plain e == n) refl h (none_named q n es nes)
  where
    by : (b : Bool) → (name_of plain e == n) ≡ b → ((b && q e) || list_any (λ a. (name_of plain a == n) && q a) es) ≡ true → (list_any (λ a. (name_of plain a == n) && q a) es ≡ true → ⊥) → ⊥
    by true same g rest = ne (eqb-true (name_of plain e) n same)
    by false same g rest = rest g

only_one : (q : Entry plain → Bool) (n : ℕ) (es : List (Entry plain)) → Distinct plain es → list_any (λ a. (name_of plain a == n) && q a) es ≡ true → AllByRecursion (λ a. name_of plain a ≡ n → q a ≡ true) es
only_one q n [] d h = tt
only_one q n (e ∷ es) (ne, d) h = by (name_of plain e == n) refl (q e) refl h (only_one q n es d)
  where
    by : (b : Bool) → (name_of plain e == n) ≡ b → (c : Bool) → q e ≡ c → ((b && c) || list_any (λ a. (name_of plain a == n) && q a) es) ≡ true
        → (list_any (λ a. (name_of plain a == n) && q a) es ≡ true → AllByRecursion (λ a. name_of plain a ≡ n → q a ≡ true) es)
        → (name_of plain e ≡ n → q e ≡ true) × AllByRecursion (λ a. name_of plain a ≡ n → q a ≡ true) es
    by true same true holds g rest = (λ _. holds, all_map _ _ es (λ a other is. absurd (other (is ∙ sym (eqb-true (name_of plain e) n same)))) ne)
    by true same false holds g rest = absurd (none_named q n es (all_map _ _ es (λ a other is. other (is ∙ sym (eqb-true (name_of plain e) n same))) ne) g)
    by false same c holds g rest = ((λ is. absurd (true≢false (sym (eq-eqb (name_of plain e) n is) ∙ same))), rest g)

-- whoever of these it names wrote the cell
abbrev Wrote : List (Entry plain) → CellKey → Option ℕ → Type 0
Wrote es k w = AllByRecursion (λ a. w ≡ Some (name_of plain a) → wrote plain k a ≡ true) es

module _ (all : List (Entry plain)) (d : Distinct plain all) where
  writer_did : (k : CellKey) (w o : Option ℕ) → w ≡ o → ((n : ℕ) → o ≡ Some n → list_any (is_it k n) all ≡ true) → Wrote all k w
  writer_did k w None is h = all_of _ all (λ a named. cc)
  writer_did k w (Some n) is h = all_map _ _ all (λ a did named. did (let one : name_of plain a ≡ n = cc in one)) (only_one (wrote plain k) n all d (h n refl))

  writers_did : (es : List (Entry plain)) → ((test : Entry plain → Bool) → list_any test es ≡ true → list_any test all ≡ true) → Chained plain es → AllByRecursion (λ e. AllByRecursion (λ p. Wrote all p.0 p.1) e.lasts) es
  writers_did [] sub c = tt
  writers_did (e ∷ es) sub (traced, c) = (
    all_map _ _ e.lasts (λ p is. writer_did p.0 p.1 (last_writer plain p.0 (caused plain e) es) is (λ n last. sub (is_it p.0 n) (or_right (is_it p.0 n e) _ (last_wrote p.0 (caused plain e) es n last)))) traced.lasts,
    writers_did es (λ test h. sub test (or_right (test e) _ h)) c,
  )

-- THE LEMMA
pub writers_wrote : (items : List Item) → Tells (lines_of items) → AllByRecursion (λ i. AllByRecursion (λ p. IsWriter items p.0 p.1) i.lasts) items
writers_wrote items h =
    let es = entries_in (lines_of items) in
    all_map _ _ items (λ i here. all_map _ _ i.lasts (λ p did. all_unmapped (line_of items) (λ l. p.1 ≡ Some (name_of plain l.entry) → wrote plain p.0 l.entry ≡ true) items
    (all_from_end (λ (l : Line). l.entry) (λ a. p.1 ≡ Some (name_of plain a) → wrote plain p.0 a ≡ true) (lines_of items) did)) here)
    (all_unmapped (line_of items) (λ l. AllByRecursion (λ p. Wrote es p.0 p.1) l.entry.lasts) items
    (all_from_end (λ (l : Line). l.entry) (λ e. AllByRecursion (λ p. Wrote es p.0 p.1) e.lasts) (lines_of items) (writers_did es h.lines_are.distinct es (λ test g. g) h.chained)))

-- so is the last writer that is found
pub found_writer : (items : List Item) (k : CellKey) (ls : List (CellKey × Option ℕ)) → AllByRecursion (λ p. IsWriter items p.0 p.1) ls → IsWriter items k (last_among ls k)
found_writer items k [] h = all_of _ items (λ a named. cc)
found_writer items k (p ∷ ls) (h, hs) = by (same_key p.0 k) refl (found_writer items k ls hs)
  where
    by : (b : Bool) → same_key p.0 k ≡ b → IsWriter items k (unwrap_or (found plain ls k) None) → IsWriter items k (unwrap_or (cond b (Some p.1) (found plain ls k)) None)
    by true same g = subst (λ q. IsWriter items q p.1) (same_exact p.0 k same) h
    by false same g = g
