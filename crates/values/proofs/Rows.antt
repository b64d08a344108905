-- Rows of the tables, found by a verb's word.
use Rattle.std.proofs.Common.{◌≡◌, ℕ, ℤ, ◌<◌, ◌≤◌, List, [], ◌∷◌, length, get_or, Option, Some, Result, Ok, Err, IfOk, SomeIff, w64, refl, sym, ap, ◌∙◌, arith}
use Rattle.std.specs.Prelude.{FitsSigned}
use Rattle.std.specs.declared.alloc.AllocError.{AllocError}
use Rattle.values.specs.declared.value.Answer.{Answer}
use Rattle.values.specs.declared.value.Value.{Value}
use Rattle.values.specs.declared.verb.Word.{Word}
use Rattle.values.specs.Data.{no_vals, and_val}
use Rattle.values.specs.Replies.{Table, fitted}
use Rattle.values.specs.Verbs.{text_of, word_of}
use Rattle.values.specs.View.{val_of, vals_of, reply_of}
use Rattle.values.proofs.VerbTexts.{spelled}

no_items : (vs : List Value) → length vs < 1 → vals_of vs ≡ no_vals
no_items [] l = refl
no_items (v ∷ vs) l = absurd (omega arith)

pub one_item : (vs : List Value) (v : Value) → v ≡ get_or vs 0 v → 1 ≤ length vs → length vs < 2 → and_val (val_of v) no_vals ≡ vals_of vs
one_item [] v e m l = absurd (omega arith)
one_item (w ∷ []) v e m l = ap (λ x. and_val (val_of x) no_vals) e
one_item (w ∷ u ∷ us) v e m l = absurd (omega arith)

-- the text of a verb whose word was found
pub found_word : (s : List ℕ) {r : Option Word} {w : Word} (u : Word) → r ≡ word_of s → r ≡ Some w → w ≡ u → s ≡ text_of u
found_word s u e f g = spelled s u (sym e ∙ f ∙ ap Some g)

-- what a table leads to without arguments, and with one
pub alone_leads : (t : Table) {s u : List ℕ} (vs : List Value) → s ≡ u → length vs < 1 → t u no_vals ≡ t s (vals_of vs)
alone_leads t {s = s} vs e l = ap (λ z. t z no_vals) (sym e) ∙ ap (t s) (sym (no_items vs l))

pub with_one_leads : (t : Table) {s u : List ℕ} (vs : List Value) (v : Value) → s ≡ u → v ≡ get_or vs 0 v → 1 ≤ length vs → length vs < 2 → t u (and_val (val_of v) no_vals) ≡ t s (vals_of vs)
with_one_leads t {s = s} vs v e f m l = ap (λ z. t z (and_val (val_of v) no_vals)) (sym e) ∙ ap (t s) (one_item vs v f m l)

-- an integer that is known
pub fitted_so : (r : Result Answer AllocError) (o : Option ℤ) (z : ℤ) → IfOk r (λ a. (y : ℤ) → SomeIff o (FitsSigned w64 y) y → reply_of a ≡ fitted y) → SomeIff o (FitsSigned w64 z) z → IfOk r (λ a. reply_of a ≡ fitted z)
fitted_so (Ok a) o z h s = h z s
fitted_so (Err x) o z h s = tt
