use Rattle.std.proofs.Common.{ap, length, arith}
use Rattle.ereader_grammar.specs.View.{plain}
use Rattle.ereader_grammar.proofs.Steps.{skip-le}
use Rattle.ereader_parser.proofs.reader.Reader.separator.Goals as goal

pub returns-clause-shorter : goal.returns-clause-shorter
returns-clause-shorter c = omega (arith, ap length c.skip_semicolons.ensures, skip-le (plain c.args.self.now.rest.now))
