-- What holds of replies: each is a function of the book and the command, and all are one of the input, but for want of memory, the place of
-- `L5` and the work of threads.
use Rattle.std.specs.Prelude.{◌≡◌, ℕ, List, [], ◌∷◌, ◌++◌, Bool, is_some, Option, Some, Result, Ok}
use Rattle.history.specs.Subject.{touches, new}
use Rattle.ids.specs.declared.cells.CellKey.{CellKey}
use Rattle.ereader.specs.Shown as reading
use Rattle.kernele_scopes.specs.Words.{no_memory}
use Rattle.ereader.specs.declared.fault.ReadFault.TheVariants as read_fault
use Rattle.journal.specs.Lines.{plain, Line}
use Rattle.book.specs.Books.{Book, blank}
use Rattle.book.specs.Good.{IsGood}
use Rattle.stepper_commands.specs.Commands as command
use Rattle.stepper_commands.specs.Commands.{Spelled}
use Rattle.stepper_commands.specs.declared.command.LineFault.{LineFault}
use Rattle.stepper.specs.Replies.{refused, Answers, AnswersBirth, said, Replies, no_more, first_and_more, RepliesBefore}
use Rattle.stepper.specs.declared.engine.Limits.{Limits}

-- two lines of a journal tell the same: one event from one seat, live or undone, with the same causes, which touched and wrote the same cells
pub record SameLine (l m : Line) : Type 0 where
  pub event : m.entry.event ≡ l.entry.event
  pub seat : m.seat ≡ l.seat
  pub live : m.entry.live ≡ l.entry.live
  pub causes : m.entry.causes ≡ l.entry.causes
  pub touched : (k : CellKey) → touches plain m.entry.foot k ≡ touches plain l.entry.foot k
  pub written : (k : CellKey) → is_some (new plain m.entry.foot k) ≡ is_some (new plain l.entry.foot k)

abbrev pub SameLines : List Line → List Line → Type 0
SameLines [] [] = Unit {0}
SameLines (l ∷ ls) (m ∷ ms) = SameLine l m × SameLines ls ms
SameLines _ _ = ⊥

-- two books are the same: one world, as many lines settled, one name that comes next, the same tickets out, and journals that tell the same
-- line by line
pub record SameBook (b d : Book) : Type 0 where
  pub world : d.world ≡ b.world
  pub settled : d.settled ≡ b.settled
  pub next : d.next ≡ b.next
  pub out : d.out ≡ b.out
  pub journal : SameLines b.journal d.journal

-- memory ran out for a text, or for the book
pub data IsForWant : List ℕ → Type 0 where
  book_without_memory : IsForWant (refused no_memory)
  text_without_memory : IsForWant (refused (reading.shown read_fault.Memory))

-- A reply ends for want of memory. Of a run only the last step can be refused, and what the steps before it told stands before; of another
-- command this is the whole reply.
pub record EndsForWant (reply : List ℕ) : Type 0 where
  pub before : List ℕ
  pub last : List ℕ
  pub want : IsForWant last
  pub whole : reply ≡ before ++ last

-- two replies are one, but for the place at which a text is unexpected
pub data SameReply : List ℕ → List ℕ → Type 0 where
  one_reply : {r : List ℕ} → SameReply r r
  other_place : (i j : ℕ) → SameReply (refused (reading.shown (read_fault.Unexpected i))) (refused (reading.shown (read_fault.Unexpected j)))

-- two answers are one: the reply, whether it is a refusal, and the book
pub record SameAnswer (r : List ℕ) (q : Bool) (b : Book) (s : List ℕ) (p : Bool) (d : Book) : Type 0 where
  pub reply : SameReply r s
  pub refusal : p ≡ q
  pub book : SameBook b d

-- commands whose answer is a function of the book: what workers do is never one
abbrev pub IsTold : Spelled → Type 0
IsTold (command.work k n) = ⊥
IsTold _ = Unit {0}

-- books that are the same, and good, have one answer at most to a command, where memory does not run out; each book is the same as itself
abbrev pub OneAnswer : Type 0
OneAnswer = (limits : Limits) (b c : Book) (x : Spelled) (r s : List ℕ) (q p : Bool) (d e : Book) → IsGood b → SameBook b c → IsTold x → Answers limits b x r q d → Answers limits c x s p e
    → ¬ EndsForWant r → ¬ EndsForWant s → SameAnswer r q d s p e

-- so has a new vat
abbrev pub OneBirth : Type 0
OneBirth = (b c : Book) (x : List ℕ) (earlier : List (List ℕ)) (script : Result (List ℕ) LineFault) (r s : List ℕ) (q p : Bool) (d e : Book) → SameBook b c → AnswersBirth b x earlier script r q d
    → AnswersBirth c x earlier script s p e → ¬ EndsForWant r → ¬ EndsForWant s → SameAnswer r q d s p e

-- what a line says is no `work`
abbrev pub IsToldLine : Result (Option Spelled) LineFault → Type 0
IsToldLine (Ok (Some x)) = IsTold x
IsToldLine _ = Unit {0}

-- of the replies to a whole input: none ends for want of memory, and none is to `work`
abbrev pub AllTold : {limits : Limits} {b d : Book} {input replies : List ℕ} {refusal : Bool} → Replies limits b input replies refusal d → Type 0
AllTold no_more = Unit {0}
AllTold (first_and_more {input = input} {reply = reply} some first more) = IsToldLine (said input) × (¬ EndsForWant reply) × AllTold more

-- two texts are one, reply by reply
pub data SameReplies : List ℕ → List ℕ → Type 0 where
  no_replies : SameReplies [] []
  same_and_more : {r s rs ss : List ℕ} → SameReply r s → SameReplies rs ss → SameReplies (r ++ rs) (s ++ ss)

-- the replies to two runs are the same: the texts, whether one is a refusal, and the books in the end
pub record SameRun (rs : List ℕ) (q : Bool) (b : Book) (ss : List ℕ) (p : Bool) (d : Book) : Type 0 where
  pub replies : SameReplies rs ss
  pub refusal : p ≡ q
  pub book : SameBook b d

-- A whole input has one text of replies at most, where none ends for want of memory and none is to `work`: from the blank book on, each reply,
-- and in the end the book, is a function of the input.
abbrev pub InputsHaveOneText : Type 0
InputsHaveOneText = (limits : Limits) (input rs ss : List ℕ) (q p : Bool) (d e : Book) (h : Replies limits blank input rs q d) (k : Replies limits blank input ss p e) → AllTold h → AllTold k → SameRun rs q d ss p e

-- the replies to whole commands, behind which nothing is left, are those to a whole input
abbrev pub WholeOnesAreAll : Type 0
WholeOnesAreAll = (limits : Limits) (b d : Book) (input replies : List ℕ) (refusal : Bool) → RepliesBefore limits b input replies refusal d [] → Replies limits b input replies refusal d
