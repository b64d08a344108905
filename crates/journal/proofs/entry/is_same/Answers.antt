use Rattle.std.proofs.Common.{◌∙◌}
use Rattle.journal.proofs.Touched.{test_is_same}
use Rattle.journal.proofs.entry.is_same.Goals as goal

pub returns : goal.returns
returns c = c.eq.ensures ∙ test_is_same c.args.key.now c.args.other.now
