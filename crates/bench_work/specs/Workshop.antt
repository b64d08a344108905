-- What lies under the lock of a workshop, and how it stands to the book that work began with.
use Rattle.std.specs.Prelude.{◌≡◌, ℕ, ◌+◌, ◌<◌, ◌≤◌, nat_lt, Bool, true, List, ◌++◌, count_by, All, Contains}
use Rattle.journal.specs.Lines.{Line}
use Rattle.desk.specs.Desks.{Lent}
use Rattle.book.specs.Books.{Book}
use Rattle.book_crew.specs.Work.{IsFromWorker, IsGreatestSeat, turns_among}

-- a ticket that is out was lent to a worker, under one of these numbers, or was out before
abbrev pub IsLent : (before first behind : ℕ) → List Lent → Lent → Type 0
IsLent before first behind out t = (before < t.seat → (first ≤ t.number.0) × (t.number.0 < behind)) × (t.seat ≤ before → Contains out t)

-- how many tickets are out with workers
abbrev pub lent_after : ℕ → List Lent → ℕ
lent_after before out = count_by (λ t. nat_lt before t.seat) out

-- THE INVARIANT of a workshop that began with a book: the lines from before are there, and behind them those that workers entered, with so many
-- turns among them; tickets were out before or are with workers, and no more turns were checked out than may be
pub record IsWorkshop (before seats most : ℕ) (began : Book) (left given first behind : ℕ) (untouched : Bool) (b : Book) : Type 0 where
  pub greatest : IsGreatestSeat before began
  pub lines : List Line
  pub appended : b.journal ≡ began.journal ++ lines
  pub each : All (IsFromWorker before seats) lines
  pub counted : given ≡ turns_among lines
  pub same_settled : b.settled ≡ began.settled
  pub out : All (IsLent before first behind began.out) b.out
  pub allowed : given + lent_after before b.out + left ≤ most
  pub ordered : first ≤ behind
  pub drawn : behind ≤ b.next
  pub same : untouched ≡ true → (b ≡ began) × (first ≡ behind)
