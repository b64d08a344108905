-- What the faults of a turn tell: of the ticket that carries it, and of the book.
use Rattle.std.specs.Prelude.{◌≡◌, ◌⊎◌, ◌+◌}
use Rattle.world_cells.specs.World.{World}
use Rattle.turn.specs.declared.ticket.Task.{Task}
use Rattle.turn.specs.declared.ticket.Ran.{Ran}
use Rattle.book_refusals.specs.Refusals.{no_ticket, stale, full}
use Rattle.book_refusals.specs.declared.fault.BookFault.{BookFault}
use Rattle.book_refusals.specs.declared.fault.BookFault.TheVariants as fault
use Rattle.book.specs.Books.{Book}
use Rattle.book.specs.Calls.{IsFresh, LeadsAsBefore, RefusesCommit}

-- a fault tells that the message of a ticket is not ready at its vat or leads elsewhere, unless it is want of memory
abbrev pub TellsLost : BookFault → World → Task → Type 0
TellsLost fault.Stale w t = LeadsAsBefore w t → ⊥
TellsLost fault.Memory w t = Unit {0}
TellsLost _ w t = ⊥

-- a fault tells that the world is no longer as a turn found it, unless it is want of memory
abbrev pub TellsStale : BookFault → Book → Ran → Type 0
TellsStale fault.Stale b r = IsFresh b r → ⊥
TellsStale fault.Memory b r = Unit {0}
TellsStale _ b r = ⊥

-- a fault tells why a turn that was run is refused, unless it is want of memory
abbrev pub TellsCommit : BookFault → Book → Ran → Type 0
TellsCommit fault.NoTicket b r = RefusesCommit b r no_ticket
TellsCommit fault.Stale b r = RefusesCommit b r stale
TellsCommit fault.Full b r = RefusesCommit b r full
TellsCommit fault.Memory b r = Unit {0}
TellsCommit _ b r = ⊥

-- a refused turn changes nothing; without memory it may have drawn a name that is not used
abbrev pub Unturned : BookFault → Book → Book → Type 0
Unturned fault.Memory old now = (now ≡ old) ⊎ (now ≡ record old { next = old.next + 1 })
Unturned _ old now = now ≡ old
