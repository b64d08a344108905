use Rattle.std.proofs.Common.{rules}
use Rattle.ereader_forms.proofs.operators.join.Goals as goal

pub returns-in_ok-equal-in-Differ : goal.returns-in_ok-equal-in-Differ
returns-in_ok-equal-in-Differ c = search rules

pub returns-in-Subtract : goal.returns-in-Subtract
returns-in-Subtract c = search rules
