use Rattle.std.proofs.Common.{ap, sym}
use Rattle.values.specs.View.{val_of}
use Rattle.eval_rules.specs.Rules.{choice_by, ends}
use Rattle.eval_rules.proofs.Answering.{unwanted}
use Rattle.eval_rules.proofs.wanted.choose.Goals as goal

pub returns-in-None : goal.returns-in-None
returns-in-None c = unwanted c.mismatch.result c.mismatch.new.w ends _ _ _ (ap (choice_by (val_of c.args.tested.now)) (sym c.in-None.ensures)) c.mismatch.ensures
