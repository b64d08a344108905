use Rattle.std.proofs.Common.{rules, w64, refl, ap, ◌∙◌, subst}
use mir.Val.{to_z, of_z}
use Rattle.std.proofs.lemmas.Int.{to_z-of_z}
use Rattle.code.specs.View.{tree_of_code}
use Rattle.values.specs.Data.{int}
use Rattle.values.specs.View.{val_of}
use Rattle.eval_rules.specs.View.{at}
use Rattle.eval_rules.proofs.Fitting.{parts_fit}
use Rattle.eval_quick.specs.Leaves.{AtHand}
use Rattle.eval_quick.proofs.Leaves.{placed_at_hand, set_at_hand}
use Rattle.eval_quick.proofs.quick.quick_setting.Goals as goal

pub slot_of-requires : goal.slot_of-requires
slot_of-requires c = placed_at_hand (at c.args.w.now) c.deref.result.now c.in-Assign.right.value c.in-Assign.name c.deref.ensures c.in-Some-Int.ensures (parts_fit (at c.args.w.now) c.in-Assign.is refl c.requires).1

pub returns-in_ok-slot-in-Assign-clause-ends : goal.returns-in_ok-slot-in-Assign-clause-ends
returns-in_ok-slot-in-Assign-clause-ends c =
    let a = at c.args.w.now in
    let right : AtHand a (tree_of_code c.deref.result.now) 3 (int c.in-Some-Int.integer) = subst (λ v. AtHand a (tree_of_code c.deref.result.now) 3 v) (ap val_of c.in-Some-Int.field-0-is) c.in-Some-Int.ensures in
    set_at_hand a c.args.item.now c.deref.result.now c.in-Assign.right.value (ap tree_of_code c.in-Assign.is) c.deref.ensures right
    (ap (λ n. to_z w64 (of_z w64 n)) c.in-Some-Int.integer-is ∙ to_z-of_z w64 c.in-Some-Int.integer (search rules)) c.if-w-lt4.false c.if-level.false c.in_ok-slot-in-Assign.ensures
