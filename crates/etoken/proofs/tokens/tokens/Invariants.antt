use Rattle.std.proofs.Common.{length, reverse}
use denote.Text.{Utf8}
use denote.Shadow.{shadow}
use Rattle.etoken.proofs.Progress.{Progress}
use Rattle.etoken.proofs.tokens.tokens.Given as goal

abbrev pub invariant-more : goal.invariant-more
invariant-more l = record {
  is_text : shadow (Utf8 l.rest);
  so_far : Progress l.text l.output.tokens.items (reverse l.output.breaks.brackets.items) l.output.breaks.ended l.rest;
}

abbrev pub decreases-more : goal.decreases-more
decreases-more l = length l.rest
