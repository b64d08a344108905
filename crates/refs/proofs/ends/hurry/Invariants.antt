use Rattle.std.proofs.Common.{◌≡◌, ◌≤◌, List, ◌++◌, length}
use Rattle.ids.specs.declared.names.PromId.{PromId}
use Rattle.values.specs.Data.{Val, promise}
use Rattle.refs.specs.Leads.{Leads}
use Rattle.refs.proofs.ends.hurry.Given as goal

-- the promises that were added lead from the first to the one that is at hand
abbrev pub invariant-loop-count : goal.invariant-loop-count
invariant-loop-count g l = record {
  long : l.count ≤ length l.through.items;
  seen : List PromId;
  all : l.through.items ≡ l.initial.through.items ++ seen;
  leads : (w : Val) (qs : List PromId) → Leads (g.R.Resolve.resolutions l.map) (promise l.promise) qs w → Leads (g.R.Resolve.resolutions l.map) (promise l.fn.first) (seen ++ qs) w;
}
