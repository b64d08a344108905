use Rattle.std.proofs.Common.{refl, subst, IfSome}
use Rattle.code.specs.View.{tree_of_code}
use Rattle.values.specs.View.{val_of}
use Rattle.eval_rules.specs.View.{at}
use Rattle.eval_quick.specs.Leaves.{Lengthens}
use Rattle.eval_quick.proofs.Lengthened.{slot_grew, slot_stayed, grown_at, stayed_at}
use Rattle.eval_quick.proofs.growing.grow_variable.Goals as goal

pub returns : goal.returns
returns c = grown_at c.args.w.now c.grow_slot.new.self _ (subst (λ o. IfSome o (λ g. Lengthens (at c.args.w.now) c.args.name.now (tree_of_code c.args.right.now) g.slot g.verb.now (val_of g.more))) c.in-Some.is c.in_ok-found.ensures) (slot_grew c.in_ok-grew.ensures.grown c.if-not-grew.false) c.grow_slot.ensures.counts c.grow_slot.ensures.began c.if-w-lt4.false c.if-level.false refl

pub returns-then-not-grew : goal.returns-then-not-grew
returns-then-not-grew c = stayed_at c.args.w.now c.grow_slot.new.self _ (slot_stayed _ _ _ c.in_ok-grew.ensures.grown c.if-not-grew.true) refl
