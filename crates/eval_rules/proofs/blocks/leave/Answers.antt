use Rattle.std.proofs.Common.{ap}
use Rattle.eval_rules.specs.At.{At}
use Rattle.eval_rules.proofs.blocks.leave.Goals as goal

pub returns-clause-place : goal.returns-clause-place
returns-clause-place c = ap (λ (b : At). record b { own_scope = c.args.outer.own_scope }) c.keep_names.ensures.place
