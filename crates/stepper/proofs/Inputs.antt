-- A whole input has one text of replies.
use Rattle.std.proofs.Common.{◌≡◌, ℕ, ◌<◌, Bool, false, List, [], ◌∷◌, Option, Result, refl, sym, subst, length, arith}
use Rattle.std.specs.Prelude.{◌||◌}
use Rattle.std.proofs.lemmas.Bool.{false≢true}
use Rattle.book.specs.Books.{Book, blank}
use Rattle.stepper_commands.specs.Commands.{Spelled}
use Rattle.stepper_commands.specs.declared.command.LineFault.{LineFault}
use Rattle.stepper.specs.Replies.{FirstReply, skipped, no_command, born, answered, Replies, no_more, first_and_more, IsWhole, RepliesBefore, none_yet, whole_and_more}
use Rattle.stepper.specs.Laws.{SameBook, EndsForWant, SameAnswer, IsToldLine, AllTold, no_replies, same_and_more, SameRun, InputsHaveOneText, WholeOnesAreAll}
use Rattle.stepper.proofs.Entered.{same_book}
use Rattle.stepper.proofs.OneMove.{answer_once}
use Rattle.stepper.proofs.OneAnswer.{no_birth, answer_once_told, one_birth}
use Rattle.stepper.proofs.Reached.{Reached, blank_reached, reached_once, reached_first}
use Rattle.stepper.specs.declared.engine.Limits.{Limits}

-- the first line has one answer, and one rest of the input is behind it
first_once : {limits : Limits} {b c d e : Book} {says : Result (Option Spelled) LineFault} {input rest left r s : List ℕ} {q p : Bool} → Reached b → SameBook b c → IsToldLine says
    → FirstReply limits b says input r q d rest → FirstReply limits c says input s p e left → ¬ EndsForWant r → ¬ EndsForWant s → SameAnswer r q d s p e × (left ≡ rest)
first_once b same told skipped skipped n m = (answer_once refl same, refl)
first_once b same told no_command no_command n m = (answer_once refl same, refl)
first_once b same told (born h) (born k) n m = (one_birth _ _ _ _ _ _ _ _ _ _ _ same h k n m, refl)
first_once b same told (born h) (answered k) n m = no_birth k
first_once b same told (answered h) (born k) n m = no_birth h
first_once b same told (answered {c = x} h) (answered k) n m = (answer_once_told x (reached_once b) same told h k n m, refl)

-- nothing more comes of nothing
nothing : {A : Type 0} → 0 < length {A = ℕ} [] → A
nothing h = absurd (omega (arith, h))

input_once : {limits : Limits} {b c d e : Book} {input rs ss : List ℕ} {q p : Bool} → Reached b → SameBook b c → (h : Replies limits b input rs q d) (k : Replies limits c input ss p e) → AllTold h → AllTold k → SameRun rs q d ss p e
input_once reached same no_more no_more told also = record { replies = no_replies; refusal = refl; book = same }
input_once reached same no_more (first_and_more some y k) told also = nothing some
input_once reached same (first_and_more some x h) no_more told also = nothing some
input_once {limits = limits} {d = d} {e = e} reached same (first_and_more {replies = rs} {s = q} some x h) (first_and_more {c = c} {replies = ss} {s = p} more y k) told also =
    let one = first_once reached same told.0 x y told.1 also.1 in
    let rest = subst (λ (left : List ℕ). (k : Replies limits c left ss p e) → AllTold k → SameRun rs q d ss p e) (sym one.1) (λ k its. input_once (reached_first reached told.0 x) one.0.book h k told.2 its) k also.2 in
    record { replies = same_and_more one.0.reply rest.replies; refusal = λ i. one.0.refusal i || rest.refusal i; book = rest.book }

pub inputs_have_one_text : InputsHaveOneText
inputs_have_one_text limits input rs ss q p d e h k told also = input_once blank_reached (same_book blank) h k told also

-- what is whole is something
some_bytes : (input : List ℕ) → IsWhole input → 0 < length input
some_bytes [] w = absurd (false≢true w.line)
some_bytes (x ∷ xs) w = omega arith

whole_so : {limits : Limits} {b d : Book} {input replies left : List ℕ} {refusal : Bool} → RepliesBefore limits b input replies refusal d left → left ≡ [] → Replies limits b input replies refusal d
whole_so {limits = limits} {b = b} {input = input} none_yet e = subst (λ (z : List ℕ). Replies limits b z [] false b) (sym e) no_more
whole_so {input = input} (whole_and_more w first more) e = first_and_more (some_bytes input w) first (whole_so more e)

pub whole_ones_are_all : WholeOnesAreAll
whole_ones_are_all limits b d input replies refusal h = whole_so h refl
