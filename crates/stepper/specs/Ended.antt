-- What the program ends with: its exit status.
use Rattle.std.specs.Prelude.{ℕ, cond, Ok, Err}
use Rattle.stepper.specs.declared.ended.Ended.{Ended}
use Rattle.stepper.specs.declared.ended.Ended.TheVariants.{Help, Usage, NoFile, Ran}

-- 1 where a command was refused, 2 where not all commands were answered
abbrev pub status_of : Ended → ℕ
status_of Help = 0
status_of Usage = 2
status_of NoFile = 2
status_of (Ran (Ok summary)) = cond summary.refused 1 0
status_of (Ran (Err fault)) = 2
