-- Two cells that are told are one where their keys are the same.
use Rattle.std.proofs.Common.{◌≡◌, true, refl, sym, ap, ap₂, ◌∙◌}
use Rattle.std.specs.Cmp.{both_ways, tied_itself}
use Rattle.std.specs.Ordering.{is_eq}
use Rattle.std.proofs.lemmas.Bool.{and_parts}
use Rattle.std.proofs.lemmas.Map.Lookups.{CmpEqualImpliesEq}
use Rattle.ids.specs.CellKeys.{same_key}
use Rattle.ids.specs.KeyLaws.{exact_text, exact_vat, exact_slot, exact_object, exact_message, exact_promise, exact_reference}
use Rattle.ids.specs.declared.cells.CellKey.{CellKey}
use Rattle.ids.specs.declared.cells.CellKey.TheVariants as key
use Rattle.ids.proofs.CellKeys.{same_exact, same_self}
use Rattle.stepper_questions.specs.Cells.{key_of, cell_cmp}
use Rattle.stepper_questions.specs.contracts.cell.ToldCellPartialEq.TheImpl as cell_test
use Rattle.stepper_questions.specs.contracts.cell.ToldCellOrd.TheImpl.Laws.{total-law, matches_eq-law}
use Rattle.stepper_questions.specs.declared.cell.ToldCell.{ToldCell}
use Rattle.stepper_questions.specs.declared.cell.ToldCell.TheVariants as cell

-- cells that the program's test finds equal
exact : (a b : ToldCell) → (cell_test.ghosts).eq a b ≡ true → a ≡ b
exact (cell.Vat x) (cell.Vat y) h = ap cell.Vat (exact_text x y h)
exact (cell.Noun v x) (cell.Noun w y) h = let p = and_parts _ _ h in ap₂ cell.Noun (exact_vat v w p.0) (exact_text x y p.1)
exact (cell.Slot s) (cell.Slot t) h = ap cell.Slot (exact_slot s t h)
exact (cell.Object i) (cell.Object j) h = ap cell.Object (exact_object i j h)
exact (cell.View v p) (cell.View w q) h = let t = and_parts _ _ h in ap₂ cell.View (exact_vat v w t.0) (exact_promise p q t.1)
exact (cell.Fence v r) (cell.Fence w t) h = let p = and_parts _ _ h in ap₂ cell.Fence (exact_vat v w p.0) (exact_reference r t p.1)
exact (cell.Message m) (cell.Message n) h = ap cell.Message (exact_message m n h)
exact (cell.Board p) (cell.Board q) h = ap cell.Board (exact_promise p q h)
exact _ _ h = cc

-- the cell of a key
pub cell_at : CellKey → ToldCell
cell_at (key.Name x) = cell.Vat x
cell_at (key.Top v x) = cell.Noun v x
cell_at (key.Slot s) = cell.Slot s
cell_at (key.Object i) = cell.Object i
cell_at (key.View v p) = cell.View v p
cell_at (key.Fence v r) = cell.Fence v r
cell_at (key.Msg m) = cell.Message m
cell_at (key.Board p) = cell.Board p

cell_back : (c : ToldCell) → cell_at (key_of c) ≡ c
unfolding cell_at
cell_back (cell.Vat x) = refl
cell_back (cell.Noun v x) = refl
cell_back (cell.Slot s) = refl
cell_back (cell.Object i) = refl
cell_back (cell.View v p) = refl
cell_back (cell.Fence v r) = refl
cell_back (cell.Message m) = refl
cell_back (cell.Board p) = refl

pub key_back : (k : CellKey) → key_of (cell_at k) ≡ k
unfolding cell_at
key_back (key.Name x) = refl
key_back (key.Slot s) = refl
key_back (key.Object i) = refl
key_back (key.Top v x) = refl
key_back (key.View v p) = refl
key_back (key.Fence v r) = refl
key_back (key.Msg m) = refl
key_back (key.Board p) = refl

-- cells that are equal in their order are one
pub exact_cells : CmpEqualImpliesEq cell_cmp
exact_cells a b h = exact a b (matches_eq-law a b ∙ ap is_eq h)

-- THE LEMMA
pub cells_same : (a b : ToldCell) → is_eq (cell_cmp a b) ≡ same_key (key_of a) (key_of b)
cells_same a b = both_ways _ _
    (λ h. let one : a ≡ b = exact a b (matches_eq-law a b ∙ h) in ap (λ c. same_key (key_of a) (key_of c)) (sym one) ∙ same_self (key_of a))
    (λ h. let one : a ≡ b = sym (cell_back a) ∙ ap cell_at (same_exact (key_of a) (key_of b) h) ∙ cell_back b in ap (λ c. is_eq (cell_cmp a c)) (sym one) ∙ ap is_eq (tied_itself total-law a))
