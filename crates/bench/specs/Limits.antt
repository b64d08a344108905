-- The limit of seats, as a number.
use Rattle.std.specs.Prelude.{◌≡◌}
use Rattle.bench.specs.declared.under_lock.TheConstants.{LAST_SEAT}

-- the greatest number that a seat may have
abbrev pub LimitIsANumber : Type 0
LimitIsANumber = LAST_SEAT ≡ 4294967295
