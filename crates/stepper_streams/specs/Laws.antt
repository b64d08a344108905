-- What holds of the lines of a reader, however it cuts its bytes into pieces.
use Rattle.std.specs.Prelude.{◌≡◌, ◌<◌, ◌≤◌, ℕ, List, [], length, Option, Some}
use Rattle.stepper_commands.specs.Lines.{behind_line}
use Rattle.stepper_streams.specs.declared.lines.Lines.{Lines}
use Rattle.stepper_streams.specs.declared.line.Line.{Line}
use Rattle.stepper_streams.specs.Pieces.{Reads}
use Rattle.stepper_streams.specs.Lines.{unread, TakesLine, HasNoLine}
use Rattle.stepper_commands.specs.declared.command.TheConstants.{LONGEST_LINE}

-- no line keeps more bytes than may stand before a line feed
abbrev pub KeptIsShort : Type 0
KeptIsShort = (line : Line) → length line.text.items ≤ LONGEST_LINE

module _ {R : Type 0} (remaining : R → Option (List ℕ)) where
  -- the line that is taken is the first of the bytes that were left, of which there was one, and what is behind it is left
  abbrev pub FirstLineIsTaken : Type 0
  FirstLineIsTaken = (old new : Lines R) (line : Line) (input : List ℕ) → unread remaining old ≡ Some input → TakesLine remaining old new line
      → (0 < length input) × Reads line input × (unread remaining new ≡ Some (behind_line input))

  -- no line is told only where no byte is left
  abbrev pub NoneIsLeftAtEnd : Type 0
  NoneIsLeftAtEnd = (old new : Lines R) (input : List ℕ) → unread remaining old ≡ Some input → HasNoLine remaining old new → input ≡ []
