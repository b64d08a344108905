-- The engine over a reader and a writer.
use Rattle.std.specs.Prelude.{◌≡◌, ℕ, List, [], false, Option, Result, Ok, Err}
use Rattle.stepper_streams.specs.Lines.{reader, held, reads_failed, is_ended}
use Rattle.stepper_streams.specs.Outlet.{writer, waiting, writes_failed}
use Rattle.stepper_streams.specs.declared.lines.Lines.{Lines}
use Rattle.stepper_streams.specs.declared.outlet.Outlet.{Outlet}
use Rattle.stepper.specs.Runs.{RunsToEnd, RunsTo}
use Rattle.stepper.specs.declared.ended.Ended.{Ended}
use Rattle.stepper.specs.declared.ended.Ended.TheVariants.{Ran}
use Rattle.stepper.specs.declared.engine.Summary.{Summary}
use Rattle.stepper.specs.declared.fault.Fault.{Fault}
use Rattle.stepper.specs.declared.fault.Fault.TheVariants.{Memory}
use Rattle.stepper.specs.declared.engine.Limits.{Limits}

-- nothing was read from the reader yet
pub record IsUnread {R : Type 0} (input : R) (source : Lines R) : Type 0 where
  pub from : reader source ≡ input
  pub none_read : held source ≡ []
  pub none_failed : reads_failed source ≡ 0
  pub unended : is_ended source ≡ false

-- nothing was given to the writer yet
pub record IsUnwritten {W : Type 0} (output : W) (sink : Outlet W) : Type 0 where
  pub to : writer sink ≡ output
  pub none_waits : waiting sink ≡ []
  pub none_failed : writes_failed sink ≡ 0

module _ {R W : Type 0} (remaining : R → Option (List ℕ)) (contents : W → Option (List ℕ)) (limits : Limits) where
  -- how a run came to its end, or did not
  abbrev pub RunsAs : Lines R → Lines R → Outlet W → Outlet W → Result Summary Fault → Type 0
  RunsAs source later sink after (Ok summary) = RunsToEnd remaining contents limits source later sink after summary.refused
  RunsAs source later sink after (Err fault) = RunsTo remaining contents limits source later sink after fault

  -- the commands of a reader are answered on a writer, and nothing waits to be written then; without memory for the first block nothing is read
  pub data EndsAs (input : R) (output : W) : Ended → Type 0 where
    no_block : EndsAs input output (Ran (Err Memory))
    ran : (source later : Lines R) (sink after : Outlet W) {r : Result Summary Fault} → IsUnread input source → IsUnwritten output sink
        → RunsAs source later sink after r → waiting after ≡ [] → EndsAs input output (Ran r)
