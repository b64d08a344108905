use Rattle.std.proofs.Common.{◌∙◌}
use Rattle.ereader_parser.proofs.Views.{program_at-plain}
use Rattle.ereader.proofs.read_items.Goals as goal

pub returns-in-Ok-clause-ok : goal.returns-in-Ok-clause-ok
returns-in-Ok-clause-ok c = program_at-plain c.args.tokens.now ∙ c.in-Ok.ensures

pub returns-in-Err-Unexpected-clause-err : goal.returns-in-Err-Unexpected-clause-err
returns-in-Err-Unexpected-clause-err c = (program_at-plain c.args.tokens.now ∙ rw c.in-Err-Unexpected.field-0-is at c.in-Err-Unexpected.ensures, c.place_at.ensures)
