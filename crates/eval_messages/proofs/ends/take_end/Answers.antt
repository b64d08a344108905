use Rattle.std.proofs.Common.{sym}
use Rattle.eval_rules.specs.View.{at}
use Rattle.values.specs.View.{val_of}
use Rattle.eval_messages.proofs.Behind.{own_given, own_behind}
use Rattle.eval_messages.proofs.ends.take_end.Goals as goal

pub returns-in-None-clause-end : goal.returns-in-None-clause-end
returns-in-None-clause-end c = sym (own_given (val_of c.args.value.now) (at c.args.w.now) (sym c.in-None.ensures))

pub returns-in-None-clause-place : goal.returns-in-None-clause-place
returns-in-None-clause-place c = sym (own_behind (val_of c.args.value.now) (at c.args.w.now) (sym c.in-None.ensures))
