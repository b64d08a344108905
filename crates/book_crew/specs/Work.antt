-- What work leaves of a book.
use Rattle.std.specs.Prelude.{◌≡◌, ◌⊎◌, ℕ, ◌+◌, ◌<◌, ◌≤◌, true, false, Bool, List, ◌++◌, count_by, All, Some, Contains}
use Rattle.world_cells.specs.Events.{Act, birth, ask, arrive, forward, learn, turn, event_in}
use Rattle.journal.specs.Lines.{Line}
use Rattle.book_refusals.specs.Refusals.{bad_budget}
use Rattle.book_refusals.specs.declared.fault.BookFault.TheVariants as fault
use Rattle.book_refusals.specs.declared.fault.WorkFault.{WorkFault}
use Rattle.book_refusals.specs.declared.fault.WorkFault.TheVariants as work
use Rattle.book.specs.Books.{Book}
use Rattle.book.specs.Good.{IsGood}
use Rattle.book.specs.Refusals.{budget_refusal}

-- workers have messages arrive and go on, and vats learn and take turns; they bear no vat and ask nothing
abbrev pub is_work : Act → Bool
is_work (arrive m) = true
is_work (forward m) = true
is_work (learn v p) = true
is_work (turn v m budget) = true
is_work (birth x earlier script) = false
is_work (ask x program) = false

-- how many of the lines are turns
abbrev pub is_turn : Act → Bool
is_turn (turn v m budget) = true
is_turn (birth x earlier script) = false
is_turn (ask x program) = false
is_turn (arrive m) = false
is_turn (forward m) = false
is_turn (learn v p) = false

abbrev pub turns_among : List Line → ℕ
turns_among lines = count_by (λ l. is_turn (event_in l.entry.event).act) lines

-- the greatest seat of an entry or of a ticket that is out; 0 where there is none
pub record IsGreatestSeat (seat : ℕ) (b : Book) : Type 0 where
  pub entries : All (λ l. l.seat ≤ seat) b.journal
  pub tickets : All (λ t. t.seat ≤ seat) b.out
  pub least : (n : ℕ) → All (λ l. l.seat ≤ n) b.journal → All (λ t. t.seat ≤ n) b.out → seat ≤ n

-- a line that a worker entered: it is live, of an event that workers do, and from one of so many seats above this one
pub record IsFromWorker (before workers : ℕ) (l : Line) : Type 0 where
  pub live : l.entry.live ≡ true
  pub work : is_work (event_in l.entry.event).act ≡ true
  pub above : before < l.seat
  pub within : l.seat ≤ before + workers

-- WHAT WORK LEAVES, where so many workers were asked for and so many turns were entered: a good book, with all lines from before as they were, and
-- behind them those that workers entered, from seats above each from before. So many of these are turns, and no more than were allowed. What was
-- settled is settled, and nothing else; no ticket is out that was not out before.
pub record Worked (workers most turns : ℕ) (old now : Book) : Type 0 where
  pub before : ℕ
  pub greatest : IsGreatestSeat before old
  pub lines : List Line
  pub appended : now.journal ≡ old.journal ++ lines
  pub each : All (IsFromWorker before workers) lines
  pub counted : turns ≡ turns_among lines
  pub allowed : turns ≤ most
  pub same_settled : now.settled ≡ old.settled
  pub out : All (Contains old.out) now.out
  pub good : IsGood now

-- why workers did nothing: none could be started, or there was no memory
abbrev pub StopsWork : WorkFault → Type 0
StopsWork work.NoWorker = Unit {0}
StopsWork (work.Book f) = f ≡ fault.Memory

-- why nothing was done, where a turn was to have at most so many steps: workers did nothing, or no turn may have so many
abbrev pub RefusesWork : ℕ → WorkFault → Type 0
RefusesWork budget f = StopsWork f ⊎ ((f ≡ work.Book fault.BadBudget) × (budget_refusal budget ≡ Some bad_budget))
