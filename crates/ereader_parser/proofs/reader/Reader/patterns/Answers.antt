use Rattle.std.proofs.Common.{arith, length, sym, ap, ◌∙◌}
use Rattle.ereader_grammar.specs.Reading.{push_pattern, pattern_at}
use Rattle.ereader_grammar.specs.View.{plain}
use Rattle.ereader_grammar.proofs.Steps.{rest_le, commas_more, commas_end}
use Rattle.ereader_parser.proofs.reader.Reader.patterns.Goals as goal

pub more-preserved : goal.more-preserved
more-preserved c = record {
  comes = rw c.in_ok-push.ensures.items
      (commas_more push_pattern pattern_at _ (plain c.skip.new.self.rest.now) _ c.more.invariant.comes (sym c.at_comma.ensures ∙ c.more-test.true) c.skip.ensures c.in_ok-pattern.ensures.gives c.in_ok-pattern.ensures.shorter);
  shorter = omega (arith, c.more.invariant.shorter, c.in_ok-pattern.ensures.shorter, ap length c.skip.ensures, rest_le (plain c.more.self.rest.now));
}

pub returns-clause-gives : goal.returns-clause-gives
returns-clause-gives c = commas_end push_pattern pattern_at c.more.invariant.comes (sym c.at_comma.ensures ∙ c.more-test.false)
