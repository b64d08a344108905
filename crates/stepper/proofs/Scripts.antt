-- What is answered to a script that is held, or lost, or faulty.
use Rattle.std.proofs.Common.{◌≡◌, ℕ, List, true, Option, Result, Ok, Err, sym, subst}
use Rattle.std.specs.declared.string.String.{String}
use Rattle.std.specs.declared.alloc.Global.{Global}
use Rattle.book.specs.Books.{Book}
use Rattle.stepper_commands.specs.Commands.{fault_text}
use Rattle.stepper_commands.specs.ScriptView.{IsHeld, IsScript}
use Rattle.stepper_commands.specs.declared.command.LineFault.{LineFault}
use Rattle.stepper.specs.Replies.{AnswersBirth, refused, script_refused}

-- what holds of each text that may be held holds of the script
pub by_held : (P : Result (List ℕ) LineFault → Type 0) (found : Result (Option (String Global)) LineFault) (held : Option (String Global)) (script : Result (List ℕ) LineFault) → found ≡ Ok held → IsScript found script
    → ((text : List ℕ) → IsHeld held text → P (Ok text)) → P script
by_held P found held (Ok text) e is f = f text (subst (λ z. IsScript z (Ok text)) e is)
by_held P found held (Err fault) e is f = absurd (subst (λ z. IsScript z (Err fault)) e is)

faulty_by : (b : Book) (x : List ℕ) (earlier : List (List ℕ)) (f : LineFault) (script : Result (List ℕ) LineFault) → IsScript (Err f) script → AnswersBirth b x earlier script (refused (fault_text f)) true b
faulty_by b x earlier f script is = subst (λ z. AnswersBirth b x earlier z (refused (fault_text f)) true b) (sym is) script_refused

-- one with a fault
pub faulty_script : (b : Book) (x : List ℕ) (earlier : List (List ℕ)) (found : Result (Option (String Global)) LineFault) (f : LineFault) (script : Result (List ℕ) LineFault) → found ≡ Err f → IsScript found script
    → AnswersBirth b x earlier script (refused (fault_text f)) true b
faulty_script b x earlier found f script e is = faulty_by b x earlier f script (subst (λ z. IsScript z script) e is)
