use Rattle.std.proofs.lemmas.Result.{IfOk-weaker}
use Rattle.eval_rules.specs.View.{at}
use Rattle.turn.proofs.Telling.{abandons_told, ejects_told, throws_told}
use Rattle.turn.proofs.ending.lose.Goals as goal

pub returns-in_ok-share-in-Thrown : goal.returns-in_ok-share-in-Thrown
returns-in_ok-share-in-Thrown c = IfOk-weaker c.tell.result _ _ (λ e h x left. throws_told c.args.w.now.halt x c.args.promise (at c.args.w.now) c.in-Thrown.is c.in_ok-share-in-Thrown.ensures (h x left)) c.tell.ensures

pub returns-in_ok-new-in-Ejected : goal.returns-in_ok-new-in-Ejected
returns-in_ok-new-in-Ejected c = IfOk-weaker c.tell-in-Ejected.result _ _ (λ e h x left. ejects_told c.args.w.now.halt x c.args.promise (at c.args.w.now) c.in-Ejected.is c.in_ok-new-in-Ejected.ensures (h x left)) c.tell-in-Ejected.ensures

pub returns-in-Abandoned : goal.returns-in-Abandoned
returns-in-Abandoned c = IfOk-weaker c.abandon.result _ _ (λ e h x left. abandons_told c.args.w.now.halt x c.args.promise (at c.args.w.now) c.in-Abandoned.is (h x left)) c.abandon.ensures
