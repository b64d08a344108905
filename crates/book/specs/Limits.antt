-- The limits of a book, as numbers.
use Rattle.std.specs.Prelude.{◌≡◌}
use Rattle.book.specs.declared.book.TheConstants.{LAST_NAME, MOST_ENTRIES, MOST_STEPS}

-- the names of events, the entries that are not settled, and a turn's budget
abbrev pub LimitsAreNumbers : Type 0
LimitsAreNumbers = (LAST_NAME ≡ 4294967295) × (MOST_ENTRIES ≡ 1048576) × (MOST_STEPS ≡ 1000000)
