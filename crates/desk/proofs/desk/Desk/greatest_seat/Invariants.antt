use Rattle.std.proofs.Common.{ℕ, ◌≤◌, length}
use Rattle.desk.proofs.Greatest.{Above}
use Rattle.desk.proofs.desk.Desk.greatest_seat.Given as goal

abbrev pub invariant-loop-lent : goal.invariant-loop-lent
invariant-loop-lent l = record {
  above : Above (λ t. t.seat) l.lent-items l.lent-index l.greatest;
  least : (n : ℕ) → Above (λ t. t.seat) l.lent-items (length l.lent-items) n → l.greatest ≤ n;
}
