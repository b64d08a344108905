use Rattle.std.proofs.Common.{[], length}
use Rattle.code.specs.Frames.{captured_names_of, all_placed}
use Rattle.eval_rules.specs.Fits.{frame_at}
use Rattle.eval_rules.specs.Rules.{captured, all_captured, all_sought}
use Rattle.heap.specs.View.{nouns_of}
use Rattle.eval_rules.specs.View.{at}
use Rattle.eval_rules.proofs.Captures.{Captures}
use Rattle.eval_objects.proofs.objects.capture_all.Given as goal

-- what is captured and sought from here on is what is captured and sought of all, and each is at its place
abbrev pub invariant-loop-first : goal.invariant-loop-first
invariant-loop-first l =
    Captures (captured (nouns_of l.nouns.items)) (captured_names_of l.rest) (at l.w) (all_captured (captured []) (captured_names_of l.captures) (at l.initial.w)) (all_sought (captured []) (captured_names_of l.captures) (at l.initial.w))
    × all_placed (frame_at (at l.w)) l.rest

abbrev pub decreases-loop-first : goal.decreases-loop-first
decreases-loop-first l = length l.rest
