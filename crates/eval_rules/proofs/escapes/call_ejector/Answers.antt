use Rattle.std.proofs.Common.{rules}
use Rattle.eval_rules.proofs.Answering.{end_is, stop_is}
use Rattle.eval_rules.proofs.escapes.call_ejector.Goals as goal

pub returns-then-ne : goal.returns-then-ne
returns-then-ne c = end_is c.no_such_method.result c.no_such_method.new.into c.no_such_method.new.w _ _ _ (search rules) c.no_such_method.ensures

pub returns-in-Some : goal.returns-in-Some
returns-in-Some c = stop_is c.eject.result c.eject.new.w _ _ _ (search rules) c.eject.ensures.end

pub returns-in-None : goal.returns-in-None
returns-in-None c = end_is c.no_such_method-in-None.result c.no_such_method-in-None.new.into c.no_such_method-in-None.new.w _ _ _ (search rules) c.no_such_method-in-None.ensures
