use Rattle.std.proofs.Common.{◌≡◌}
use Rattle.eorder.specs.Fences.{with_name}
use Rattle.eorder.proofs.Searching.{passed}
use Rattle.eorder.proofs.fence.Fence.place.Given as goal

abbrev pub invariant-loop-place : goal.invariant-loop-place
invariant-loop-place l = with_name l.message l.names ≡ passed l.message l.names l.place
