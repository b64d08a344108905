use Rattle.std.proofs.Common.{ap, refl, sym}
use Rattle.kernele.specs.declared.tree.Primitive.{Primitive}
use Rattle.values.specs.View.{val_of}
use Rattle.eval_rules.specs.Outcomes.{value}
use Rattle.eval_rules.specs.Rules.{primitive_end}
use Rattle.eval_rules.specs.View.{at}
use Rattle.eval_rules.proofs.Answering.{end_to, stop_to}
use Rattle.eval.proofs.right.give_made.Goals as goal

pub returns-in-Throw : goal.returns-in-Throw
returns-in-Throw c = stop_to c.thrown.result c.thrown.new.w _ _ _ _ (ap (λ (q : Primitive). primitive_end (value (val_of c.args.into.now)) (at c.args.w.now).vat q) (sym c.in-Throw.is)) refl c.thrown.ensures

pub returns-in-BreakRef : goal.returns-in-BreakRef
returns-in-BreakRef c = end_to c.give_broken.result c.give_broken.new.into c.give_broken.new.w _ _ _ _ (ap (λ (q : Primitive). primitive_end (value (val_of c.args.into.now)) (at c.args.w.now).vat q) (sym c.in-BreakRef.is)) refl c.give_broken.ensures

pub returns-in-StateRef : goal.returns-in-StateRef
returns-in-StateRef c = end_to c.give_state.result c.give_state.new.into c.give_state.new.w _ _ _ _ (ap (λ (q : Primitive). primitive_end (value (val_of c.args.into.now)) (at c.args.w.now).vat q) (sym c.in-StateRef.is)) refl c.give_state.ensures
