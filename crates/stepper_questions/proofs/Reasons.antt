-- The lines of open entries, and the places of a chain.
use Rattle.std.proofs.Common.{◌≡◌, ℕ, suc, ◌+◌, ◌<◌, ◌≤◌, List, [], ◌∷◌, ◌++◌, Some, length, map, get_or, slice_get, sym, ap, ◌∙◌, subst, append_assoc, append-nil, length-append, arith}
use Rattle.std.proofs.lemmas.List.{length-map}
use Rattle.journal.specs.Items.{item_of}
use Rattle.journal.specs.Journals.{items_of, settled_item}
use Rattle.journal.specs.Lines.{line_of, lines_of}
use Rattle.journal.specs.declared.entry.Entry.{Entry}
use Rattle.journal.specs.declared.journal.Journal.{Journal}
use Rattle.causality.proofs.Collecting.{behind_there, item_at}
use Rattle.ids.specs.declared.names.EventName.{EventName}
use Rattle.stepper_questions.specs.ChainView.{Known, Back}
use Rattle.stepper_questions.specs.Refusals.{standing_of}
use Rattle.stepper_questions.specs.declared.standing.Standing.TheVariants as standing
use Rattle.stepper_questions.specs.declared.chain.Near.{Near}
use Rattle.stepper_questions.proofs.Consequences.{line_at}
use Rattle.stepper_questions.proofs.Standings.{open_below}

-- the item of an open entry, and its line
pub item_read : (j : Journal) (p : ℕ) (d : Entry) → p < length j.entries.now → slice_get (items_of j) (length j.settled.now + p) ≡ Some (item_of (get_or j.entries.now p d))
item_read j p d within =
    ap (λ n. slice_get (items_of j) (n + p)) (sym (length-map j.settled.now settled_item))
    ∙ behind_there (map settled_item j.settled.now) (map item_of j.entries.now) p ∙ item_at j.entries.now p d within

pub line_read : (j : Journal) (p : ℕ) (d : Entry) → p < length j.entries.now
    → slice_get (lines_of (items_of j)) (length j.settled.now + p) ≡ Some (line_of (items_of j) (item_of (get_or j.entries.now p d)))
line_read j p d within = line_at (items_of j) (length j.settled.now + p) (item_of (get_or j.entries.now p d)) (item_read j p d within)

-- an open event stands among the open entries
pub open_within : (j : Journal) (e : EventName) (p : ℕ) → standing_of (length j.settled.now) (lines_of (items_of j)) e ≡ standing.Open p → p < length j.entries.now
open_within j e p is =
    let ss = j.settled.now in
    let es = j.entries.now in
    let low = open_below (length ss) (lines_of (items_of j)) e p is in
    let a : length (lines_of (items_of j)) ≡ length (items_of j) = length-map (items_of j) (line_of (items_of j)) in
    let b : length (items_of j) ≡ length (map settled_item ss) + length (map item_of es) = length-append (map settled_item ss) (map item_of es) in
    let c : length (map settled_item ss) ≡ length ss = length-map ss settled_item in
    let d : length (map item_of es) ≡ length es = length-map es item_of in
    omega (arith, low, a, b, c, d)

-- the places so far, and those that are left
abbrev pub Left : Known → Near → ℕ → ℕ → List ℕ → List ℕ → Type 0
Left known near steps done places whole = (rest : List ℕ) × Back known near rest × (length rest + done ≡ steps) × (places ++ rest ≡ whole)

pub places_more : (known : Known) (near next : Near) (steps done : ℕ) (old new whole : List ℕ) → done < steps → ((y : Near) → near.before ≡ Some y.event → known y.event ≡ Some y → next ≡ y) → new ≡ old ++ next.place ∷ []
    → Left known near steps done old whole → Left known next steps (done + 1) new whole
places_more known near next steps done old new whole lt back pushed ([], b, count, is) = let none : 0 + done ≡ steps = count in absurd (omega arith)
places_more known near next steps done old new whole lt back pushed (p ∷ rest, b, count, is) =
    let y = b.0 in
    let one : next ≡ y = back y b.1 b.2 in
    let many : suc (length rest) + done ≡ steps = count in (
      rest,
      subst (λ (z : Near). Back known z rest) (sym one) b.4,
      omega arith,
      ap (λ xs. xs ++ rest) pushed ∙ append_assoc old (next.place ∷ []) rest ∙ ap (λ q. old ++ q ∷ rest) (ap (λ (z : Near). z.place) one ∙ b.3) ∙ is,
    )

pub places_done : (known : Known) (near : Near) (steps done : ℕ) (places whole : List ℕ) → steps ≤ done → Left known near steps done places whole → places ≡ whole
places_done known near steps done places whole le ([], b, count, is) = sym (append-nil places) ∙ is
places_done known near steps done places whole le (p ∷ rest, b, count, is) = let many : suc (length rest) + done ≡ steps = count in absurd (omega arith)
