use Rattle.std.proofs.Common.{◌≡◌, ◌++◌}
use Rattle.book_agenda.proofs.Ranges.{opens_from, vats_at}
use Rattle.book_agenda.proofs.agenda.Agenda.vats_that_wait.Given as goal

-- the vats so far, and those that come
abbrev pub invariant-loop-open : goal.invariant-loop-open
invariant-loop-open l = l.vats.items ++ vats_at l.promise l.open-iterator ≡ vats_at l.promise (opens_from l.promise l.self.open)
