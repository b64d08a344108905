-- What is said of a run that was cut short.
use Rattle.std.specs.Prelude.{ℕ, List, codes}
use Rattle.stepper_streams.specs.declared.lines.TakeFault.{TakeFault}
use Rattle.stepper_streams.specs.declared.lines.TakeFault.TheVariants as take
use Rattle.stepper.specs.declared.fault.Fault.{Fault}
use Rattle.stepper.specs.declared.fault.Fault.TheVariants.{Reader, Writer, Memory}

-- why not all commands were answered
abbrev pub fault_text : Fault → List ℕ
fault_text Reader = codes "reading failed"
fault_text Writer = codes "writing failed"
fault_text Memory = codes "out of memory"

-- why a line could not be taken
abbrev pub taking : TakeFault → Fault
taking take.Reader = Reader
taking take.Memory = Memory
