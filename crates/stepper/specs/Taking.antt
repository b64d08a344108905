-- What is taken of a source and given to a sink for one command, line by line.
use Rattle.std.specs.Prelude.{◌≡◌, ℕ, ◌<◌, ◌≤◌, List, [], ◌++◌, Bool, true, false, ◌||◌, Option, Result, Ok, Err, MatchResult}
use Rattle.std.specs.Io.KnownBytes.{Consumes}
use Rattle.std.specs.declared.string.String.{String}
use Rattle.std.specs.declared.alloc.Global.{Global}
use Rattle.book.specs.Books.{Book}
use Rattle.book.specs.BookView.{book_of}
use Rattle.stepper_commands.specs.Commands.{Spelled}
use Rattle.stepper_commands.specs.Lines.{behind_line}
use Rattle.stepper_commands.specs.Scripts.{script_of, behind_lines}
use Rattle.stepper_commands.specs.ScriptView.{IsScript}
use Rattle.stepper_commands.specs.declared.command.LineFault.{LineFault}
use Rattle.stepper_streams.specs.Counted.{IsOneMore}
use Rattle.stepper_streams.specs.Lines.{held, reads_failed, lines_taken, lines_refused, is_ended, unread, IsSound, FailsWithin, RunsOut}
use Rattle.stepper_streams.specs.Outlet.{is_cut, Gives, IsCutShort, Tells}
use Rattle.stepper_streams.specs.declared.lines.Lines.{Lines}
use Rattle.stepper_streams.specs.declared.outlet.Outlet.{Outlet}
use Rattle.stepper.specs.Replies.{said, FirstReply, IsWhole, script_lines, line_feeds}
use Rattle.stepper.specs.Engine.{Happens}
use Rattle.stepper.specs.declared.engine.Engine.{Engine}
use Rattle.stepper.specs.declared.fault.Fault.{Fault}
use Rattle.stepper.specs.declared.fault.Fault.TheVariants.{Reader, Writer, Memory}
use Rattle.stepper.specs.declared.engine.Limits.{Limits}

-- what a line says is answered, with the lines of its script behind it: where the input did not end with them, the answer is the same
-- whatever follows
pub record Follows (limits : Limits) (says : Result (Option Spelled) LineFault) (script : List ℕ) (ended : Bool) (b : Book) (reply : List ℕ) (refusal : Bool) (d : Book) : Type 0 where
  pub here : FirstReply limits b says script reply refusal d []
  pub lines : ended ≡ false → script_lines says ≤ line_feeds script
  pub before : ended ≡ false → (more : List ℕ) → FirstReply limits b says (script ++ more) reply refusal d more

-- a sink stays open, unless it was a write that failed
abbrev pub StaysOpen : {A : Type 0} → Result A Fault → Bool → Type 0
StaysOpen (Ok x) cut = cut ≡ false
StaysOpen (Err Reader) cut = cut ≡ false
StaysOpen (Err Writer) cut = Unit {0}
StaysOpen (Err Memory) cut = cut ≡ false

module _ {R W : Type 0} (remaining : R → Option (List ℕ)) (contents : W → Option (List ℕ)) where
  -- what a fault says where the next line was to be taken
  abbrev pub StopsAtLine : Lines R → Lines R → Outlet W → Outlet W → Fault → Type 0
  StopsAtLine source later sink after Reader = FailsWithin remaining source later × (lines_refused later ≡ lines_refused source) × Gives contents sink after [] × (is_cut after ≡ false)
  StopsAtLine source later sink after Writer = IsCutShort contents sink after []
  StopsAtLine source later sink after Memory = RunsOut remaining source later × IsOneMore (lines_refused source) (lines_refused later) × Gives contents sink after [] × (is_cut after ≡ false)

  -- the lines of a script are taken
  pub record TakesScript (lines : ℕ) (source later : Lines R) (sink after : Outlet W) (script : Result (List ℕ) LineFault) : Type 0 where
    pub bytes : List ℕ
    pub taken : Consumes (unread remaining source) (unread remaining later) bytes
    pub sound : IsSound remaining later
    pub none_failed : reads_failed later ≡ reads_failed source
    pub none_refused : lines_refused later ≡ lines_refused source
    pub counted : lines_taken source ≤ lines_taken later
    pub gives : Gives contents sink after []
    pub stays : is_ended source ≡ true → (bytes ≡ []) × (is_ended later ≡ true)
    pub text : script ≡ script_of lines bytes
    pub left : behind_lines lines bytes ≡ []
    pub whole : is_ended later ≡ false → lines ≤ line_feeds bytes
    pub before : is_ended later ≡ false → (more : List ℕ) → (script ≡ script_of lines (bytes ++ more)) × (more ≡ behind_lines lines (bytes ++ more))

  -- the lines of a script are taken, and held as far as there is memory for them
  pub record TakesHeld (lines : ℕ) (source later : Lines R) (sink after : Outlet W) (held : Result (Option (String Global)) LineFault) : Type 0 where
    pub script : Result (List ℕ) LineFault
    pub takes : TakesScript lines source later sink after script
    pub is : IsScript held script
    pub uncut : is_cut after ≡ false

  -- what a line says is answered
  pub record Does (old new : Engine) (source later : Lines R) (sink after : Outlet W) (says : Result (Option Spelled) LineFault) : Type 0 where
    pub bytes : List ℕ
    pub taken : Consumes (unread remaining source) (unread remaining later) bytes
    pub sound : IsSound remaining later
    pub none_failed : reads_failed later ≡ reads_failed source
    pub none_refused : lines_refused later ≡ lines_refused source
    pub counted : lines_taken source ≤ lines_taken later
    pub stays : is_ended source ≡ true → (bytes ≡ []) × (is_ended later ≡ true)
    pub happens : Happens contents old new sink after (Follows old.limits says bytes (is_ended later))

  -- a read failed before so many lines were taken: what was read of them was taken
  pub record FailsBefore (lines : ℕ) (source later : Lines R) (sink after : Outlet W) : Type 0 where
    pub bytes : List ℕ
    pub taken : Consumes (unread remaining source) (unread remaining later) bytes
    pub none_held : held later ≡ []
    pub few : line_feeds bytes < lines
    pub not_ended : is_ended source ≡ false
    pub one_failed : IsOneMore (reads_failed source) (reads_failed later)
    pub none_refused : lines_refused later ≡ lines_refused source
    pub gives : Gives contents sink after []
    pub uncut : is_cut after ≡ false

  -- there was no room for a line before so many lines were taken
  pub record RunsOutBefore (lines : ℕ) (source later : Lines R) (sink after : Outlet W) : Type 0 where
    pub bytes : List ℕ
    pub taken : Consumes (unread remaining source) (unread remaining later) bytes
    pub few : line_feeds bytes < lines
    pub not_ended : is_ended source ≡ false
    pub none_failed : reads_failed later ≡ reads_failed source
    pub one_refused : IsOneMore (lines_refused source) (lines_refused later)
    pub gives : Gives contents sink after []
    pub uncut : is_cut after ≡ false

  -- what a fault says where so many lines were to be taken, and answered
  abbrev pub StopsWithin : Lines R → Lines R → Outlet W → Outlet W → ℕ → Fault → Type 0
  StopsWithin source later sink after lines Reader = FailsBefore lines source later sink after
  StopsWithin source later sink after lines Writer = IsCutShort contents sink after []
  StopsWithin source later sink after lines Memory = RunsOutBefore lines source later sink after

  -- the command that a line begins is answered: its line and the lines of its script were taken
  pub record AnswersLine (old new : Engine) (source later : Lines R) (sink after : Outlet W) (line : List ℕ) : Type 0 where
    pub bytes : List ℕ
    pub taken : Consumes (unread remaining source) (unread remaining later) bytes
    pub sound : IsSound remaining later
    pub none_failed : reads_failed later ≡ reads_failed source
    pub none_refused : lines_refused later ≡ lines_refused source
    pub counted : lines_taken source ≤ lines_taken later
    pub reply : List ℕ
    pub tells : Tells contents sink after reply
    pub refusal : Bool
    pub here : FirstReply old.limits (book_of old.book) (said (line ++ bytes)) (behind_line (line ++ bytes)) reply refusal (book_of new.book) []
    pub whole : is_ended later ≡ false → (more : List ℕ) → IsWhole ((line ++ bytes) ++ more)
    pub before : is_ended later ≡ false → (more : List ℕ)
        → FirstReply old.limits (book_of old.book) (said ((line ++ bytes) ++ more)) (behind_line ((line ++ bytes) ++ more)) reply refusal (book_of new.book) more
    pub refused : is_cut after ≡ false → new.written.refused ≡ (old.written.refused || refusal)
    pub limits : new.limits ≡ old.limits

  -- a read failed before the command that a line begins was whole
  pub record FailsBehind (source later : Lines R) (sink after : Outlet W) (line : List ℕ) : Type 0 where
    pub bytes : List ℕ
    pub taken : Consumes (unread remaining source) (unread remaining later) bytes
    pub none_held : held later ≡ []
    pub none_whole : ¬ IsWhole (line ++ bytes)
    pub one_failed : IsOneMore (reads_failed source) (reads_failed later)
    pub none_refused : lines_refused later ≡ lines_refused source
    pub gives : Gives contents sink after []
    pub uncut : is_cut after ≡ false

  -- there was no room for a line before the command that a line begins was whole
  pub record RunsOutBehind (source later : Lines R) (sink after : Outlet W) (line : List ℕ) : Type 0 where
    pub bytes : List ℕ
    pub taken : Consumes (unread remaining source) (unread remaining later) bytes
    pub none_whole : ¬ IsWhole (line ++ bytes)
    pub none_failed : reads_failed later ≡ reads_failed source
    pub one_refused : IsOneMore (lines_refused source) (lines_refused later)
    pub gives : Gives contents sink after []
    pub uncut : is_cut after ≡ false

  -- what a fault says behind a line
  abbrev pub StopsLine : Lines R → Lines R → Outlet W → Outlet W → List ℕ → Fault → Type 0
  StopsLine source later sink after line Reader = FailsBehind source later sink after line
  StopsLine source later sink after line Writer = IsCutShort contents sink after []
  StopsLine source later sink after line Memory = RunsOutBehind source later sink after line

  -- what a line says is answered, or this fault stopped it
  abbrev pub DoesOrStops : {A : Type 0} → Result A Fault → Engine → Engine → Lines R → Lines R → Outlet W → Outlet W → Result (Option Spelled) LineFault → Type 0
  DoesOrStops result old new source later sink after says =
      MatchResult result (λ _. Does old new source later sink after says) (StopsWithin source later sink after (script_lines says))

  -- the command that a line begins is answered, or this fault stopped it
  abbrev pub AnswersOrStops : {A : Type 0} → Result A Fault → Engine → Engine → Lines R → Lines R → Outlet W → Outlet W → List ℕ → Type 0
  AnswersOrStops result old new source later sink after line =
      MatchResult result (λ _. AnswersLine old new source later sink after line) (StopsLine source later sink after line)
