-- What a run takes of its source and gives to its sink, and what each fault leaves.
use Rattle.std.specs.Prelude.{◌≡◌, ℕ, List, [], ◌++◌, Bool, Option}
use Rattle.std.specs.Io.KnownBytes.{Consumes, IsAtEnd}
use Rattle.book.specs.Books.{Book, blank}
use Rattle.stepper_streams.specs.Counted.{IsOneMore}
use Rattle.stepper_streams.specs.Lines.{held, reads_failed, lines_refused, unread}
use Rattle.stepper_streams.specs.Outlet.{Gives, IsCutShort}
use Rattle.stepper_streams.specs.declared.lines.Lines.{Lines}
use Rattle.stepper_streams.specs.declared.outlet.Outlet.{Outlet}
use Rattle.stepper.specs.Replies.{Replies, RepliesBefore, RepliesToAll, IsWhole}
use Rattle.stepper.specs.declared.fault.Fault.{Fault}
use Rattle.stepper.specs.declared.fault.Fault.TheVariants.{Reader, Writer, Memory}
use Rattle.stepper.specs.declared.engine.Limits.{Limits}

module _ {R W : Type 0} (remaining : R → Option (List ℕ)) (contents : W → Option (List ℕ)) (limits : Limits) (source later : Lines R) (sink after : Outlet W) where
  -- the whole input was read, and just the replies to it were given; no read and no write failed, and there was room for each line
  pub record RunsToEnd (refused : Bool) : Type 0 where
    pub input : List ℕ
    pub read : Consumes (unread remaining source) (unread remaining later) input
    pub end : IsAtEnd (unread remaining later)
    pub text : List ℕ
    pub book : Book
    pub replies : Replies limits blank input text refused book
    pub gives : Gives contents sink after text
    pub none_failed : reads_failed later ≡ reads_failed source
    pub none_refused : lines_refused later ≡ lines_refused source

  -- a read failed: all that was read are whole commands, which are answered, and a rest in which none is whole
  pub record RunsToFailedRead : Type 0 where
    pub input : List ℕ
    pub left : List ℕ
    pub read : Consumes (unread remaining source) (unread remaining later) (input ++ left)
    pub none_held : held later ≡ []
    pub text : List ℕ
    pub refused : Bool
    pub book : Book
    pub replies : RepliesBefore limits blank input text refused book []
    pub none_whole : ¬ IsWhole left
    pub gives : Gives contents sink after text
    pub one_failed : IsOneMore (reads_failed source) (reads_failed later)
    pub none_refused : lines_refused later ≡ lines_refused source

  -- a write failed: of the replies to a beginning of the input a beginning went out
  pub record RunsToFailedWrite : Type 0 where
    pub input : List ℕ
    pub rest : Option (List ℕ)
    pub begins : Consumes (unread remaining source) rest input
    pub text : List ℕ
    pub refused : Bool
    pub book : Book
    pub replies : RepliesToAll limits input (IsAtEnd rest) text refused book
    pub cut : IsCutShort contents sink after text

  -- there was no room for a line: all that was taken are whole commands, which are answered, and a rest in which none is whole
  pub record RunsOutOfMemory : Type 0 where
    pub input : List ℕ
    pub left : List ℕ
    pub taken : Consumes (unread remaining source) (unread remaining later) (input ++ left)
    pub text : List ℕ
    pub refused : Bool
    pub book : Book
    pub replies : RepliesBefore limits blank input text refused book []
    pub none_whole : ¬ IsWhole left
    pub gives : Gives contents sink after text
    pub none_failed : reads_failed later ≡ reads_failed source
    pub one_refused : IsOneMore (lines_refused source) (lines_refused later)

  -- what a fault says of a run
  abbrev pub RunsTo : Fault → Type 0
  RunsTo Reader = RunsToFailedRead
  RunsTo Writer = RunsToFailedWrite
  RunsTo Memory = RunsOutOfMemory
