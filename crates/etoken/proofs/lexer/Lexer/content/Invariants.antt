use Rattle.std.proofs.Common.{length}
use Rattle.std.specs.String.{string_bytes}
use denote.Text.{Utf8}
use denote.Shadow.{shadow}
use Rattle.etoken.proofs.Runs.{QuotedSoFar}
use Rattle.etoken.proofs.lexer.Lexer.content.Given as goal

abbrev pub invariant-more : goal.invariant-more
invariant-more l = record { is_text : shadow (Utf8 l.left); so_far : QuotedSoFar l.fn.behind (string_bytes l.content) l.left }

abbrev pub decreases-more : goal.decreases-more
decreases-more l = length l.left
