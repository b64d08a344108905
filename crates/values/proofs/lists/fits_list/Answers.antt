use Rattle.std.proofs.Common.{◌-◌, ap, ◌∙◌}
use Rattle.values.specs.View.{vals_of}
use Rattle.values.proofs.Weighing.{joined_within}
use Rattle.values.proofs.lists.fits_list.Goals as goal

pub returns-clause-fits : goal.returns-clause-fits
returns-clause-fits c = c.is_some.ensures ∙ joined_within c.args.first.now (vals_of c.args.second.now) _ c.items_left.result c.weight.ensures.fits (ap (λ n. 65535 - n) c.weight.ensures.weight) c.items_left.ensures
