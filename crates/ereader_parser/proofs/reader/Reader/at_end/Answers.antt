use Rattle.std.proofs.Common.{◌∙◌}
use Rattle.ereader_parser.proofs.Views.{is_empty-plain}
use Rattle.ereader_parser.proofs.reader.Reader.at_end.Goals as goal

pub returns : goal.returns
returns c = c.is_empty.ensures ∙ is_empty-plain c.args.self.now.rest.now
