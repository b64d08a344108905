use Rattle.std.proofs.Common.{◌∙◌, sym, ap, length, arith, refl}
use Rattle.ereader_grammar.specs.Reading.{skip_semicolons, is_semicolon}
use Rattle.ereader_grammar.specs.View.{plain}
use Rattle.ereader_grammar.proofs.Steps.{test_length, skip-more, skip-end}
use Rattle.ereader_parser.proofs.reader.Reader.skip_semicolons.Goals as goal

pub more-preserved : goal.more-preserved
more-preserved c = ap skip_semicolons c.skip.ensures ∙ sym (skip-more (plain c.more.self.rest.now) (sym c.at_semicolon.ensures ∙ c.more-test.true)) ∙ c.more.invariant

pub more-smaller : goal.more-smaller
more-smaller c = omega (arith, ap length c.skip.ensures, test_length is_semicolon refl (plain c.more.self.rest.now) (sym c.at_semicolon.ensures ∙ c.more-test.true))

pub returns : goal.returns
returns c = sym (skip-end (plain c.more.self.rest.now) (sym c.at_semicolon.ensures ∙ c.more-test.false)) ∙ c.more.invariant
