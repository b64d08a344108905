-- A cell that was touched before is touched by no reading.
use Rattle.std.proofs.Common.{◌≡◌, Bool, true, false, ◌||◌, refl, sym, ap, ◌∙◌}
use Rattle.heap.specs.State.{Cell, same_cell, Cells, also}
use Rattle.heap.proofs.Cells.{cell_exact}
use Rattle.eval_rules.specs.At.{At}
use Rattle.eval_rules.specs.Rules.{reached}

-- a cell that was touched before is touched by no reading
within_already : (c d : Cell) (q : Cells) (b : Bool) → same_cell c d ≡ b → q c ≡ true → (b || q d) ≡ q d
within_already c d q true e h = sym (ap q (sym (cell_exact c d e)) ∙ h)
within_already c d q false e h = refl

already : (c : Cell) (q : Cells) → q c ≡ true → also c q ≡ q
already c q h = λ i d. within_already c d q (same_cell c d) refl h i

pub reached_already : (c : Cell) (a : At) → a.touched c ≡ true → reached c a ≡ a
reached_already c a h = ap (λ q. record a { touched = q }) (already c a.touched h)
