use Rattle.std.proofs.Common.{arith}
use Rattle.eval_rules.specs.Locals.{captured_in}
use Rattle.eval_rules.proofs.Scopes.{length-names_in}
use Rattle.eval_rules.proofs.blocks.count_names.Goals as goal

pub returns : goal.returns
returns c = omega (arith, length-names_in (captured_in c.args.w.now.captured) c.args.w.now.older c.args.w.now.nouns.items c.args.w.now.within, c.len.ensures)
