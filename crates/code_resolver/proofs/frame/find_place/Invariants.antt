use Rattle.std.proofs.Common.{◌≡◌, length}
use Rattle.code.specs.Frames.{place_in}
use Rattle.code_resolver.proofs.frame.find_place.Given as goal

-- among the names that are left the name is found where it is found among all
abbrev pub invariant-loop-newest : goal.invariant-loop-newest
invariant-loop-newest l = place_in l.rest l.name ≡ place_in l.fn.frame l.name

abbrev pub decreases-loop-newest : goal.decreases-loop-newest
decreases-loop-newest l = length l.rest
