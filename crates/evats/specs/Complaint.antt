-- What standard error is told of what the program could not do, and the exit status.
use Rattle.std.specs.Prelude.{ℕ, List, codes, Option, Some, None, Result, Ok, Err}
use Rattle.std.specs.Fmt.{debug_str, ◌++?◌}
use Rattle.stepper.specs.Ended.{status_of}
use Rattle.stepper.specs.Fault.{fault_text}
use Rattle.stepper.specs.declared.ended.Ended.{Ended}
use Rattle.evats.specs.declared.complaint.Complaint.{Complaint}
use Rattle.evats.specs.declared.complaint.Complaint.TheVariants.{NotText, NoFile, NoThread, Cut}

-- what is said; of a word that is not UTF-8, and of a file's name that is not ASCII, it is not said how they are written
abbrev pub complaint_text : Complaint → Option (List ℕ)
complaint_text (NotText word) = None
complaint_text (NoFile name) = Some (codes "cannot read ") ++? debug_str name.now
complaint_text NoThread = Some (codes "no thread can be started")
complaint_text (Cut fault) = Some (fault_text fault)

-- 2 where something is complained of
abbrev pub exit_status_of : Result Ended Complaint → ℕ
exit_status_of (Ok ended) = status_of ended
exit_status_of (Err complaint) = 2
