use Rattle.std.proofs.lemmas.Result.{IfOk-weaker}
use Rattle.values.specs.View.{val_of}
use Rattle.eval_rules.specs.Outcomes.{halt, value}
use Rattle.eval_rules.specs.View.{at, halt_of}
use Rattle.eval_rules.proofs.Answering.{of_halted}
use Rattle.turn.specs.Runs.{Does}
use Rattle.turn.proofs.delivery.run_to_end.Goals as goal

pub returns-in-Ok : goal.returns-in-Ok
returns-in-Ok c = IfOk-weaker c.end.result _ _ (λ e ends. (value (val_of c.run.new.into), at c.run.new.w, c.in-Ok.ensures, ends)) c.end.ensures

pub returns-in-Err-Halted : goal.returns-in-Err-Halted
returns-in-Err-Halted c =
    let does = of_halted c.in-Err-Halted.field-0 c.run.new.w (λ h b. Does _ _ _ (halt h) b) c.in-Err-Halted.field-0-is c.in-Err-Halted.ensures in
    IfOk-weaker c.lose.result _ _ (λ e ends. (halt (halt_of c.run.new.w.halt), at c.run.new.w, does, ends)) c.lose.ensures
