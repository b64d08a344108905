-- Values are settled in a loop.
use Rattle.std.proofs.Common.{◌≡◌, ◌<◌, ◌≤◌, ◌+◌, ℕ, List, ◌∷◌, [], ◌++◌, drop, length, get_or, Option, Some, None, option_map, refl, sym, ap, ◌∙◌}
use Rattle.cells.specs.Doing.{over, Under, play}
use Rattle.heap.specs.State.{Cell, Content, same_cell}
use Rattle.heap.specs.Drafted.{Drafted}
use Rattle.values.specs.Data.{Val, Vals, no_vals, and_val}
use Rattle.values.specs.Replies.{joined}
use Rattle.values.specs.View.{val_of, vals_of}
use Rattle.values.specs.declared.value.Value.{Value}
use Rattle.values.proofs.Tables.{vals_from, joined-joined, joined-no_vals, joined-vals_of}
use Rattle.refs.proofs.Making.{none_left}
use Rattle.sends.specs.Vats.{settled, settled_behind, all_settled}
use Rattle.sends.specs.Playing.{under, Did}
use Rattle.sends.proofs.Playing.{played}

-- behind those that are settled already
abbrev pub behind_row : Vals → Option Vals × Under Cell Content → Option Vals × Under Cell Content
behind_row row p = (option_map (joined row) p.0, p.1)

-- what is settled in all, by what is left
abbrev pub Settles : Vals → Vals → Vals → Drafted → Drafted → Type 0
Settles all row rest d e = behind_row row (play same_cell (all_settled rest) (under e)) ≡ play same_cell (all_settled all) (under d)

-- a value, and those behind it
one : (v : Val) (vs : Vals) (o : Option Val) (e k : Drafted) → Did (settled v) e o k → play same_cell (all_settled (and_val v vs)) (under e) ≡ play same_cell (settled_behind (λ w. all_settled vs) o) (under k)
one v vs o e k h = played (settled v) (settled_behind (λ w. all_settled vs)) (under e) (under k) o h

row_on : (row : Vals) (w : Val) (o : Option Vals) → option_map (joined (joined row (and_val w no_vals))) o ≡ option_map (joined row) (option_map (and_val w) o)
row_on row w None = refl
row_on row w (Some us) = ap Some (joined-joined row (and_val w no_vals) us)

-- one more in a row
row_more : (row new : List Value) (x : Value) → new ≡ row ++ x ∷ [] → joined (vals_of row) (and_val (val_of x) no_vals) ≡ vals_of new
row_more row new x e = sym (ap vals_of e ∙ joined-vals_of row (x ∷ []))

-- one more is settled
pub settle_next : (all : Vals) (xs row new : List Value) (i : ℕ) (x w : Value) (o : Option Val) (d e k : Drafted) → i < length xs → x ≡ get_or xs i x → Settles all (vals_of row) (vals_of (drop i xs)) d e → Did (settled (val_of x)) e o k → o ≡ Some (val_of w) → new ≡ row ++ w ∷ []
    → Settles all (vals_of new) (vals_of (drop (i + 1) xs)) d k
settle_next all xs row new i x w o d e k h q inv did s n =
    let vs : Vals = vals_of (drop (i + 1) xs) in
    let p : Option Vals × Under Cell Content = play same_cell (all_settled vs) (under k) in
    ap (λ r. behind_row r p) (sym (row_more row new w n))
    ∙ ap (λ y. (y, p.1)) (row_on (vals_of row) (val_of w) p.0)
    ∙ ap (behind_row (vals_of row)) (sym (played (all_settled vs) (λ y. over (option_map (and_val (val_of w)) y)) (under k) p.1 p.0 refl))
    ∙ ap (λ y. behind_row (vals_of row) (play same_cell (settled_behind (λ w. all_settled vs) y) (under k))) (sym s)
    ∙ ap (behind_row (vals_of row)) (sym (one (val_of x) vs o e k did))
    ∙ ap (λ us. behind_row (vals_of row) (play same_cell (all_settled us) (under e))) (sym (vals_from xs i x h q))
    ∙ inv

-- one passes a limit
pub settle_none : (all : Vals) (xs row : List Value) (i : ℕ) (x : Value) (o : Option Val) (d e k : Drafted) → i < length xs → x ≡ get_or xs i x → Settles all (vals_of row) (vals_of (drop i xs)) d e → Did (settled (val_of x)) e o k → o ≡ None → Did (all_settled all) d None k
settle_none all xs row i x o d e k h q inv did s =
    let vs : Vals = vals_of (drop (i + 1) xs) in
    sym inv
    ∙ ap (λ us. behind_row (vals_of row) (play same_cell (all_settled us) (under e))) (vals_from xs i x h q)
    ∙ ap (behind_row (vals_of row)) (one (val_of x) vs o e k did)
    ∙ ap (λ y. behind_row (vals_of row) (play same_cell (settled_behind (λ w. all_settled vs) y) (under k))) s

-- none is left
pub settle_last : (all : Vals) (xs row : List Value) (i : ℕ) (d e : Drafted) → length xs ≤ i → Settles all (vals_of row) (vals_of (drop i xs)) d e → Did (all_settled all) d (Some (vals_of row)) e
settle_last all xs row i d e h inv =
    sym inv
    ∙ ap (λ us. behind_row (vals_of row) (play same_cell (all_settled us) (under e))) (none_left xs i h)
    ∙ ap (λ r. (Some r, under e)) (joined-no_vals (vals_of row))
