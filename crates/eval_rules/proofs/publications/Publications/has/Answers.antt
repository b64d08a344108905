use Rattle.std.proofs.Common.{◌∙◌}
use Rattle.eval_rules.proofs.Publishing.{looked_up}
use Rattle.eval_rules.proofs.publications.Publications.has.Goals as goal

pub returns : goal.returns
returns c = c.contains_key.ensures ∙ looked_up c.args.promise _
