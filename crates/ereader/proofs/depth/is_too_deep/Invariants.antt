use Rattle.std.proofs.Common.{◌<◌, ◌≤◌, ◌↔◌, drop}
use Rattle.ereader.specs.Brackets.{most_open, most_open_from}
use Rattle.ereader_grammar.specs.View.{plain}
use Rattle.ereader.proofs.depth.is_too_deep.Given as goal

abbrev pub invariant-loop-placed : goal.invariant-loop-placed
invariant-loop-placed l = record {
  few : l.depth ≤ 100;
  same : (100 < most_open (plain l.tokens)) ↔ (100 < most_open_from l.depth (plain (drop l.placed-index l.tokens)));
}
