-- Names are told apart by their numbers, and lines have the names of their entries.
use Rattle.std.proofs.Common.{◌≡◌, ℕ, ◌==◌, Bool, true, false, List, map, refl, sym, ◌∙◌, eqb-true, eq-eqb}
use Rattle.std.specs.BTreeMap.{is_at}
use Rattle.std.specs.Cmp.{unsigned_ties}
use Rattle.ids.specs.declared.names.EventName.{EventName}
use Rattle.ids.specs.contracts.names.EventNameOrd.TheImpl.{cmp-value}
use Rattle.journal.specs.Items.{Item}
use Rattle.journal.specs.Lines.{Line, line_of, lines_of}
use Rattle.journal.proofs.Reversed.{map-map}

pub flipped : (a b : ℕ) → (a == b) ≡ (b == a)
flipped a b = one (a == b) (b == a) refl refl
  where
    one : (c d : Bool) → (a == b) ≡ c → (b == a) ≡ d → c ≡ d
    one true true e f = refl
    one false false e f = refl
    one true false e f = sym (eq-eqb b a (sym (eqb-true a b e))) ∙ f
    one false true e f = sym e ∙ eq-eqb a b (sym (eqb-true b a f))

-- the order of names tells them apart by their numbers
pub by_name : (e n : EventName) → is_at (cmp-value.it e) n ≡ (n.0 == e.0)
by_name e n = sym (unsigned_ties e.0 n.0) ∙ flipped e.0 n.0

-- the names of lines are those of the entries
pub names_told : (items : List Item) → map (λ (l : Line). l.entry.event.name) (lines_of items) ≡ map (λ (i : Item). i.event.name) items
names_told items = map-map (λ (l : Line). l.entry.event.name) (line_of items) items
