use Rattle.std.proofs.Common.{◌≡◌, length}
use Rattle.ereader_grammar.specs.Reading.{skip_semicolons}
use Rattle.ereader_grammar.specs.View.{plain}
use Rattle.ereader_parser.proofs.reader.Reader.skip_semicolons.Given as goal

abbrev pub invariant-more : goal.invariant-more
invariant-more l = skip_semicolons (plain l.self.rest.now) ≡ skip_semicolons (plain l.fn.self.rest.now)

abbrev pub decreases-more : goal.decreases-more
decreases-more l = length (plain l.self.rest.now)
