-- The script of a vat: the lines that follow the command.
use Rattle.std.specs.Prelude.{ℕ, zero, suc, List, [], ◌∷◌, Bool, cond, map, Option, Some, None, Result, Ok, Err}
use Rattle.std.specs.List.{list_any, join_with_byte}
use Rattle.std.specs.Str.{is_utf8}
use Rattle.stepper_commands.specs.Lines.{line_of, behind_line, is_long}
use Rattle.stepper_commands.specs.Commands.{is_empty}
use Rattle.stepper_commands.specs.declared.command.LineFault.{LineFault}
use Rattle.stepper_commands.specs.declared.command.LineFault.TheVariants.{BadWord, LineTooLong, Truncated}

-- why a line is no text: it is too long, or its bytes are no UTF-8
abbrev pub fault_in : List ℕ → Bool → Option LineFault
fault_in line long = cond long (Some LineTooLong) (cond (is_utf8 line) None (Some BadWord))

-- the same of the first line of an input
abbrev pub fault_of : List ℕ → Option LineFault
fault_of input = fault_in (line_of input) (is_long input)

-- the input from each of its first n lines on
abbrev pub starts : ℕ → List ℕ → List (List ℕ)
starts zero input = []
starts (suc n) input = input ∷ starts n (behind_line input)

-- what is behind the first n lines
abbrev pub behind_lines : ℕ → List ℕ → List ℕ
behind_lines zero input = input
behind_lines (suc n) input = behind_lines n (behind_line input)

abbrev pub or_fault : Option LineFault → Option LineFault → Option LineFault
or_fault None next = next
or_fault (Some fault) next = Some fault

-- the first of the lines' faults
abbrev pub first_fault : List (List ℕ) → Option LineFault
first_fault [] = None
first_fault (input ∷ inputs) = or_fault (fault_of input) (first_fault inputs)

abbrev pub unless : Option LineFault → List ℕ → Result (List ℕ) LineFault
unless None text = Ok text
unless (Some fault) text = Err fault

-- the script in the first n lines of an input: truncated where there are fewer, else refused by its first faulty line, else
-- the lines joined by line feeds
abbrev pub script_of : ℕ → List ℕ → Result (List ℕ) LineFault
script_of n input =
    cond (list_any is_empty (starts n input)) (Err Truncated)
    (unless (first_fault (starts n input)) (join_with_byte 10 (map line_of (starts n input))))
