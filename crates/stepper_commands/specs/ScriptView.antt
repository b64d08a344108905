-- What the program's lines and scripts stand for.
use Rattle.std.specs.Prelude.{◌≡◌, ℕ, List, [], ◌∷◌, ◌++◌, Bool, cond, Option, Some, None, Result, Ok, Err, string_bytes}
use Rattle.std.specs.Borrow.{Bor}
use Rattle.std.specs.declared.string.String.{String}
use Rattle.std.specs.declared.alloc.Global.{Global}
use Rattle.stepper_commands.specs.declared.command.LineFault.{LineFault}

abbrev pub fault_at : {A : Type 0} → Result A LineFault → Option LineFault
fault_at (Ok x) = None
fault_at (Err fault) = Some fault

-- a text that is held is this one
abbrev pub IsHeld : Option (String Global) → List ℕ → Type 0
IsHeld None text = Unit {0}
IsHeld (Some held) text = string_bytes held ≡ text

-- a text with one more line, if it is one, which is the first or has a line feed before it
abbrev pub with_line : Result (Bor (List ℕ)) LineFault → Bool → List ℕ → List ℕ
with_line (Ok line) first text = text ++ (cond first [] (10 ∷ []) ++ line.now)
with_line (Err fault) first text = text

-- this is why a script is refused, or its text, if that is held
abbrev pub IsScript : Result (Option (String Global)) LineFault → Result (List ℕ) LineFault → Type 0
IsScript (Ok held) (Ok text) = IsHeld held text
IsScript (Ok held) (Err fault) = ⊥
IsScript (Err found) script = script ≡ Err found
