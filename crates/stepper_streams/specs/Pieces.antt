-- Bytes that are one line, and what is gathered of them piece by piece.
use Rattle.std.specs.Prelude.{◌≡◌, ℕ, ◌<◌, ◌≤◌, List, [], ◌∷◌, ◌++◌, length, Bool, true, false, cond, None}
use Rattle.stepper_commands.specs.Lines.{line_end, line_of, is_long}
use Rattle.stepper_streams.specs.declared.line.Line.{Line}
use Rattle.stepper_commands.specs.declared.command.TheConstants.{LONGEST_LINE}

-- no line feed is among these bytes
abbrev pub HasNoFeed : List ℕ → Type 0
HasNoFeed bytes = line_end bytes ≡ None

-- what is kept of the line that bytes begin with: nothing where it is too long
abbrev pub kept_of : List ℕ → List ℕ
kept_of bytes = cond (is_long bytes) [] (line_of bytes)

-- this is the line that bytes begin with
pub record Reads (line : Line) (bytes : List ℕ) : Type 0 where
  pub long : line.is_long ≡ is_long bytes
  pub text : line.text.items ≡ kept_of bytes

-- these bytes are one line with its line feed, or the last line of an input, which has none
pub data IsOneLine : List ℕ → Bool → Type 0 where
  fed : (body : List ℕ) {bytes : List ℕ} {ended : Bool} → HasNoFeed body → bytes ≡ body ++ 10 ∷ [] → IsOneLine bytes ended
  last : {bytes : List ℕ} → HasNoFeed bytes → 0 < length bytes → IsOneLine bytes true

-- these bytes of a line were gathered: they are kept, and nothing is where they are too many
pub record Gathers (line : Line) (bytes : List ℕ) : Type 0 where
  pub kept : line.is_long ≡ false → line.text.items ≡ bytes
  pub short : line.is_long ≡ false → length bytes ≤ LONGEST_LINE
  pub long : line.is_long ≡ true → LONGEST_LINE < length bytes
  pub dropped : line.is_long ≡ true → line.text.items ≡ []

-- a line gathers these bytes too
abbrev pub GathersMore : Line → Line → List ℕ → Type 0
GathersMore old new more = (bytes : List ℕ) → Gathers old bytes → Gathers new (bytes ++ more)

-- From bytes at hand a line gathers those before the first line feed, which is taken with them; where there is none it
-- gathers all.
pub data GivesPart (old new : List ℕ) (before after : Line) : Bool → Type 0 where
  to_feed : (body : List ℕ) → HasNoFeed body → old ≡ body ++ (10 ∷ new) → GathersMore before after body → GivesPart old new before after true
  all : HasNoFeed old → new ≡ [] → GathersMore before after old → GivesPart old new before after false
