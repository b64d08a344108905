use Rattle.std.proofs.Common.{sym, ◌∙◌}
use Rattle.eval_rules.specs.View.{at}
use Rattle.turn.proofs.Knowing.{known_all, known_more}
use Rattle.turn.proofs.opening.know.Goals as goal

pub loop-vat-preserved : goal.loop-vat-preserved
loop-vat-preserved c = known_more c.args.earlier.now (at c.loop-vat.w) c.loop-vat-test.true c.vat-item.is c.in_ok-know_vat.ensures ∙ c.loop-vat.invariant

pub returns : goal.returns
returns c = sym (known_all c.args.earlier.now (at c.loop-vat.w) c.loop-vat-test.false) ∙ c.loop-vat.invariant
