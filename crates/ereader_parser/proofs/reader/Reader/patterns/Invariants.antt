use Rattle.std.proofs.Common.{length, ◌<◌}
use Rattle.ereader_grammar.specs.Reading.{commas_next, push_pattern, pattern_at, patterns_at}
use Rattle.ereader_grammar.specs.View.{plain}
use Rattle.ereader_grammar.proofs.Turns.{Turns}
use Rattle.ereader_parser.proofs.reader.Reader.patterns.Given as goal

abbrev pub invariant-more : goal.invariant-more
invariant-more l = record {
  comes : Turns (commas_next push_pattern pattern_at) (patterns_at (plain l.fn.self.rest.now)) l.patterns.items (plain l.self.rest.now);
  shorter : length (plain l.self.rest.now) < length (plain l.fn.self.rest.now);
}

abbrev pub decreases-more : goal.decreases-more
decreases-more l = length (plain l.self.rest.now)
