-- How a run over a reader and a writer ends.
use Rattle.std.proofs.Common.{ℕ, List, Option, Result, Ok, Err}
use Rattle.std.specs.Prelude.{IfOk, IfErr}
use Rattle.stepper_streams.specs.declared.lines.Lines.{Lines}
use Rattle.stepper_streams.specs.declared.outlet.Outlet.{Outlet}
use Rattle.stepper.specs.Runs.{RunsToEnd, RunsTo}
use Rattle.stepper.specs.declared.engine.Summary.{Summary}
use Rattle.stepper.specs.declared.fault.Fault.{Fault}
use Rattle.evats.specs.Edge.{RunsAs}
use Rattle.stepper.specs.declared.engine.Limits.{Limits}

pub runs_as : {R W : Type 0} (remaining : R → Option (List ℕ)) (contents : W → Option (List ℕ)) (limits : Limits) (source later : Lines R) (sink after : Outlet W) (r : Result Summary Fault)
    → IfOk r (λ summary. RunsToEnd remaining contents limits source later sink after summary.refused) → IfErr r (RunsTo remaining contents limits source later sink after) → RunsAs remaining contents limits source later sink after r
runs_as remaining contents limits source later sink after (Ok summary) ends fails = ends
runs_as remaining contents limits source later sink after (Err fault) ends fails = fails
