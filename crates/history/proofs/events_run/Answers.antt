use Rattle.history.proofs.Changes.{good_runs, good_run}
use Rattle.history.proofs.Core.{runs_are_one}
use Rattle.history.proofs.Standing.{standing_run}
use Rattle.history.proofs.events_run.Goals as goal

pub returns : goal.returns
returns g c = let s = g.S.Undoable.subject in let laws = g.S.Undoable.laws in record {
  runs_are_one = λ start es w v r q. runs_are_one s laws r q;
  footprints = λ start t es w h. good_runs s laws h;
  events = λ start t es w h. good_run s laws h;
  standing = λ start next rows state h. standing_run s laws h;
}
