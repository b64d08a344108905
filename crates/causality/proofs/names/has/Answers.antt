use Rattle.std.proofs.Common.{◌∙◌}
use Rattle.causality.proofs.NameSets.{has_is}
use Rattle.causality.proofs.names.has.Goals as goal

pub returns : goal.returns
returns c = c.contains.ensures ∙ has_is c.args.set.now.keys c.args.name
