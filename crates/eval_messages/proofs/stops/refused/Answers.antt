use Rattle.std.proofs.Common.{ap, sym, refl}
use Rattle.eval_rules.specs.Doings.{refusal_end}
use Rattle.sends.specs.View.{refusal_of}
use Rattle.eval_rules.proofs.Answering.{thrown_end_is, halt_to}
use Rattle.eval_messages.proofs.stops.refused.Goals as goal

pub returns-in-Problem : goal.returns-in-Problem
returns-in-Problem c = thrown_end_is c.throw.result c.throw.new.w _ _ _ (ap (λ y. refusal_end (refusal_of y)) (sym c.in-Problem.is)) c.throw.ensures.end

pub returns-in-TurnTooLarge : goal.returns-in-TurnTooLarge
returns-in-TurnTooLarge c = halt_to c.abandon.result c.abandon.new.w _ _ _ _ (ap (λ y. refusal_end (refusal_of y)) (sym c.in-TurnTooLarge.is)) refl c.abandon.ensures.end
