-- How an input is cut into lines.
use Rattle.std.specs.Prelude.{ℕ, ◌+◌, ◌-◌, List, [], length, take, drop, Bool, cond, ◌==◌, nat_lt, slice_index, Option, Some, None}
use Rattle.std.specs.List.{position}
use Rattle.stepper_commands.specs.declared.command.TheConstants.{LONGEST_LINE}

abbrev pub is_line_feed : ℕ → Bool
is_line_feed b = b == 10

-- a line feed that ends the first line is at this place, if there is one
abbrev pub line_end : List ℕ → Option ℕ
line_end input = position is_line_feed input

-- without one carriage return at its end
abbrev pub without_return : List ℕ → List ℕ
without_return line = cond (slice_index line (length line - 1) == 13) (take (length line - 1) line) line

-- a line that a line feed ends loses a carriage return before it; one that the input's end ends keeps it
abbrev pub line_to : Option ℕ → List ℕ → List ℕ
line_to (Some at) input = without_return (take at input)
line_to None input = input

-- the first line as it is read
abbrev pub line_of : List ℕ → List ℕ
line_of input = line_to (line_end input) input

abbrev pub rest_from : Option ℕ → List ℕ → List ℕ
rest_from (Some at) input = drop (at + 1) input
rest_from None input = []

-- what stands behind the first line and its line feed
abbrev pub behind_line : List ℕ → List ℕ
behind_line input = rest_from (line_end input) input

abbrev pub long_to : Option ℕ → List ℕ → Bool
long_to (Some at) input = nat_lt LONGEST_LINE at
long_to None input = nat_lt LONGEST_LINE (length input)

-- more bytes than a line may have stand before the line's end
abbrev pub is_long : List ℕ → Bool
is_long input = long_to (line_end input) input
