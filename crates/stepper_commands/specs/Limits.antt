-- The limits of commands, as numbers.
use Rattle.std.specs.Prelude.{◌≡◌}
use Rattle.stepper_commands.specs.declared.command.TheConstants.{LONGEST_LINE, MOST_LINES, LONGEST_NAME, MOST_STEPS, MOST_WORKERS, MOST_TURNS}

-- a line, its vat's name and its script, and what may be commanded at once
abbrev pub LimitsAreNumbers : Type 0
LimitsAreNumbers = (LONGEST_LINE ≡ 65536) × (LONGEST_NAME ≡ 64) × (MOST_LINES ≡ 4096) × (MOST_STEPS ≡ 1000000) × (MOST_WORKERS ≡ 64) × (MOST_TURNS ≡ 1000000)
