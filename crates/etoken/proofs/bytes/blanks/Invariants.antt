use Rattle.std.proofs.Common.{length}
use denote.Text.{Utf8}
use denote.Shadow.{shadow}
use Rattle.etoken.proofs.Runs.{BlanksSoFar}
use Rattle.etoken.proofs.bytes.blanks.Given as goal

abbrev pub invariant-more : goal.invariant-more
invariant-more l = record { is_text : shadow (Utf8 l.rest); so_far : BlanksSoFar l.fn.text l.broken l.rest }

abbrev pub decreases-more : goal.decreases-more
decreases-more l = length l.rest
