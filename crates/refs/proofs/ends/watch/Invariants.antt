use Rattle.std.proofs.Common.{◌≡◌, ◌+◌, ◌++◌, drop, length}
use Rattle.refs.proofs.Way.{IsOnTheWay}
use Rattle.refs.proofs.ends.watch.Given as goal

-- the promises that were added are those of the walk so far
abbrev pub invariant-loop : goal.invariant-loop
invariant-loop g l = record {
  before : l.through.items ≡ l.initial.through.items ++ drop l.start l.through.items;
  start : l.start ≡ length l.initial.through.items;
  count : length l.through.items ≡ l.start + l.counter;
  way : IsOnTheWay (g.R.Resolve.resolutions l.map) l.first (drop l.start l.through.items) l.promise l.counter;
}
