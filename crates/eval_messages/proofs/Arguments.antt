-- A call on data, once its arguments are taken.
use Rattle.std.proofs.Common.{◌≡◌, ◌<◌, ◌≤◌, Bool, true, false, List, [], ◌∷◌, length, get_or, refl, sym, ap, ◌∙◌, arith}
use Rattle.cells.specs.Doing.{over, play}
use Rattle.cells.proofs.Doings.{one_after_another}
use Rattle.kernele.specs.Tree.{Name}
use Rattle.values.specs.Data.{Val, Vals, no_vals, and_val, Reply}
use Rattle.values.specs.Replies.{data_reply}
use Rattle.values.specs.View.{val_of, vals_of}
use Rattle.values.specs.declared.value.Value.{Value}
use Rattle.values.specs.Wanted.{wants_datum}
use Rattle.heap.specs.State.{Cell, Content, same_cell}
use Rattle.sends.specs.Vats.{Vat, ended}
use Rattle.eval_rules.specs.At.{At}
use Rattle.eval_rules.specs.Doings.{under, with_under, given_by, behind, data_with, data_of}
use Rattle.eval_messages.specs.Arguments.{wanted_args, data_args}

-- the reply is that for the arguments that were taken
abbrev Answers : Vat Reply → Val → Name → Vat Vals → At → Type 0
Answers d v verb args a = play same_cell d (under a) ≡ (data_reply v verb (play same_cell args (under a)).0, (play same_cell args (under a)).1)

wanted_answers : (q : Bool) (v : Val) (verb : Name) (w : Val) (a : At) → Answers (data_with q v verb w) v verb (wanted_args q w) a
wanted_answers true v verb w a =
    one_after_another Cell Content Val Reply same_cell (ended w) (λ u. over (data_reply v verb (and_val u no_vals))) (under a)
    ∙ ap (λ p. (data_reply v verb p.0, p.1)) (sym (one_after_another Cell Content Val Vals same_cell (ended w) (λ u. over (and_val u no_vals)) (under a)))
wanted_answers false v verb w a = refl

data_answers : (v : Val) (verb : Name) (vs : Vals) (a : At) → Answers (data_of v verb vs) v verb (data_args v verb vs) a
data_answers v verb no_vals a = refl
data_answers v verb (and_val w no_vals) a = wanted_answers (wants_datum v verb) v verb w a
data_answers v verb (and_val w (and_val u us)) a = refl

pub data_given : (v : Val) (verb : Name) (vs : Vals) (a : At) → given_by (data_of v verb vs) a ≡ data_reply v verb (given_by (data_args v verb vs) a)
data_given v verb vs a = ap (λ p. p.0) (data_answers v verb vs a)

pub data_behind : (v : Val) (verb : Name) (vs : Vals) (a : At) → behind (data_of v verb vs) a ≡ behind (data_args v verb vs) a
data_behind v verb vs a = ap (λ p. with_under p.1 a) (data_answers v verb vs a)

-- an end that is wanted
pub end_given : (w : Val) (a : At) → given_by (wanted_args true w) a ≡ and_val (given_by (ended w) a) no_vals
end_given w a = ap (λ p. p.0) (one_after_another Cell Content Val Vals same_cell (ended w) (λ u. over (and_val u no_vals)) (under a))

pub end_behind : (w : Val) (a : At) → behind (wanted_args true w) a ≡ behind (ended w) a
end_behind w a = ap (λ p. with_under p.1 a) (one_after_another Cell Content Val Vals same_cell (ended w) (λ u. over (and_val u no_vals)) (under a))

-- the arguments, where there is one, and where there are more
pub one_argument : (v : Val) (verb : Name) (xs : List Value) (x : Value) → 1 ≤ length xs → length xs < 2 → data_args v verb (vals_of xs) ≡ wanted_args (wants_datum v verb) (val_of (get_or xs 0 x))
one_argument v verb [] x some one = absurd (omega arith)
one_argument v verb (y ∷ []) x some one = refl
one_argument v verb (y ∷ z ∷ zs) x some one = absurd (omega arith)

pub more_arguments : (v : Val) (verb : Name) (xs : List Value) → 2 ≤ length xs → data_args v verb (vals_of xs) ≡ over (vals_of xs)
more_arguments v verb [] more = absurd (omega arith)
more_arguments v verb (y ∷ []) more = absurd (omega arith)
more_arguments v verb (y ∷ z ∷ zs) more = refl
