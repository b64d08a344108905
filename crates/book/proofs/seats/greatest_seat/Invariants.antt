use Rattle.std.proofs.Common.{ℕ, ◌≤◌, length}
use Rattle.journal.specs.declared.entry.Entry.{Entry}
use Rattle.journal.specs.declared.settled.Settled.{Settled}
use Rattle.desk.proofs.Greatest.{Above}
use Rattle.book.proofs.seats.greatest_seat.Given as goal

abbrev pub invariant-loop-settled : goal.invariant-loop-settled
invariant-loop-settled l = record {
  above : Above (λ (s : Settled). s.seat) l.journal.settled.now l.settled-index l.greatest;
  least : (n : ℕ) → Above (λ (s : Settled). s.seat) l.journal.settled.now (length l.journal.settled.now) n → l.greatest ≤ n;
}

abbrev pub invariant-loop-entry : goal.invariant-loop-entry
invariant-loop-entry l = record {
  settled : Above (λ (s : Settled). s.seat) l.journal.settled.now (length l.journal.settled.now) l.greatest;
  above : Above (λ (e : Entry). e.seat) l.journal.entries.now l.entry-index l.greatest;
  least : (n : ℕ) → Above (λ (s : Settled). s.seat) l.journal.settled.now (length l.journal.settled.now) n → Above (λ (e : Entry). e.seat) l.journal.entries.now (length l.journal.entries.now) n → l.greatest ≤ n;
}
