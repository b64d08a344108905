-- What the next line of a reader is, and what is left behind it.
use Rattle.std.specs.Prelude.{◌≡◌, ℕ, ◌+◌, ◌^◌, ◌<◌, List, [], Bool, true, false, ◌||◌, is_some, Option, Some, Result, Ok, Err}
use Rattle.std.specs.Io.KnownBytes.{Keeps, Consumes, IsAtEnd, prepend_known}
use Rattle.stepper_commands.specs.Lines.{line_end}
use Rattle.stepper_streams.specs.Counted.{inner, failures, IsOneMore}
use Rattle.stepper_streams.specs.Held.{held_bytes}
use Rattle.stepper_streams.specs.declared.lines.Lines.{Lines}
use Rattle.stepper_streams.specs.declared.line.Line.{Line}
use Rattle.stepper_streams.specs.declared.lines.TakeFault.{TakeFault}
use Rattle.stepper_streams.specs.declared.lines.TakeFault.TheVariants.{Reader, Memory}
use Rattle.stepper_streams.specs.Pieces.{HasNoFeed, Reads, IsOneLine}

-- what was read and not taken yet
abbrev pub held : {R : Type 0} → Lines R → List ℕ
held l = held_bytes l.held

-- the reader that the lines come from
abbrev pub reader : {R : Type 0} → Lines R → R
reader l = inner l.source

-- how many reads failed, modulo 2^64
abbrev pub reads_failed : {R : Type 0} → Lines R → ℕ
reads_failed l = failures l.source

-- how many lines were taken
abbrev pub lines_taken : {R : Type 0} → Lines R → ℕ
lines_taken l = l.taken

-- for how many lines there was no room, modulo 2^64
abbrev pub lines_refused : {R : Type 0} → Lines R → ℕ
lines_refused l = l.refused

-- a line is counted where it was taken, and only there; no more are than can be
abbrev pub CountsTaken : {L : Type 0} → ℕ → ℕ → Result (Option L) TakeFault → Type 0
CountsTaken old new (Ok (Some line)) = (new ≡ old + 1) × (new < 2 ^ 64)
CountsTaken old new r = new ≡ old

-- a line for which there was no room is counted, and only such a one
abbrev pub CountsRefused : {L : Type 0} → ℕ → ℕ → Result L TakeFault → Type 0
CountsRefused old new (Err Memory) = IsOneMore old new
CountsRefused old new r = new ≡ old

-- the reader was seen to have no more
abbrev pub is_ended : {R : Type 0} → Lines R → Bool
is_ended l = l.is_ended

-- the next line, or that there is none, is known without a read
abbrev pub is_at_hand : {R : Type 0} → Lines R → Bool
is_at_hand l = is_ended l || is_some (line_end (held l))

-- no read was made
pub record ReadsNothing {R : Type 0} (old new : Lines R) : Type 0 where
  pub same : reader new ≡ reader old
  pub none_failed : reads_failed new ≡ reads_failed old

-- the bytes that are not taken yet: those read, and those that the reader has left, where it tells them
abbrev pub unread : {R : Type 0} → (R → Option (List ℕ)) → Lines R → Option (List ℕ)
unread remaining l = prepend_known (held l) (remaining (reader l))

module _ {R : Type 0} (remaining : R → Option (List ℕ)) where
  -- where the reader was seen to have no more, no byte is left to be taken
  abbrev pub IsSound : Lines R → Type 0
  IsSound l = is_ended l ≡ true → IsAtEnd (unread remaining l)

  -- a line is taken from the bytes that are not taken yet
  pub record TakesLine (old new : Lines R) (line : Line) : Type 0 where
    pub bytes : List ℕ
    pub one : IsOneLine bytes (is_ended new)
    pub taken : Consumes (unread remaining old) (unread remaining new) bytes
    pub reads : Reads line bytes
    pub not_ended : is_ended old ≡ false
    pub sound : IsSound new
    pub none_failed : reads_failed new ≡ reads_failed old

  -- no line is left
  pub record HasNoLine (old new : Lines R) : Type 0 where
    pub none : IsAtEnd (unread remaining old)
    pub kept : Keeps (unread remaining old) (unread remaining new)
    pub ended : is_ended new ≡ true
    pub end : IsAtEnd (unread remaining new)
    pub none_failed : reads_failed new ≡ reads_failed old

  -- the line in hand is given up: what was taken of it, without its line feed, is lost
  pub record LosesPart (old new : Lines R) : Type 0 where
    pub bytes : List ℕ
    pub feedless : HasNoFeed bytes
    pub taken : Consumes (unread remaining old) (unread remaining new) bytes
    pub was_open : is_ended old ≡ false
    pub not_ended : is_ended new ≡ false

  -- a read failed before the line's end: nothing that was read is left, so no line was read whole and not taken
  pub record FailsWithin (old new : Lines R) : Type 0 where
    pub part : LosesPart old new
    pub none_held : held new ≡ []
    pub one_failed : IsOneMore (reads_failed old) (reads_failed new)

  -- there was no room for the line, and no read failed
  pub record RunsOut (old new : Lines R) : Type 0 where
    pub part : LosesPart old new
    pub none_failed : reads_failed new ≡ reads_failed old

  -- what each fault leaves
  abbrev pub Faults : Lines R → Lines R → TakeFault → Type 0
  Faults old new Reader = FailsWithin old new
  Faults old new Memory = RunsOut old new
