use Rattle.std.proofs.Common.{rules, w64, ap, sym, subst, ◌∙◌}
use mir.Val.{to_z, of_z}
use Rattle.std.proofs.lemmas.Int.{to_z-of_z}
use Rattle.heap.specs.View.{bind_of}
use Rattle.heap.specs.declared.state.Binding.{Binding}
use Rattle.values.specs.Data.{int}
use Rattle.values.specs.View.{val_of}
use Rattle.eval_rules.specs.View.{at}
use Rattle.eval_objects.specs.Finding.{StandsAtHand}
use Rattle.eval_quick.specs.Leaves.{GivesAtHand}
use Rattle.eval_quick.proofs.Leaves.{slot_at_hand}
use Rattle.eval_quick.proofs.quick.integer_of.Goals as goal

pub returns-in-Some-Int : goal.returns-in-Some-Int
returns-in-Some-Int c =
    let x = c.args.name.now in
    let a = at c.args.w.now in
    let stands = subst (λ (b : Binding). StandsAtHand x (bind_of b) a) c.in-Some-Slot.field-0-is c.in-Some-Slot.ensures in
    let gives : GivesAtHand x (int c.in-Some-Int.n) a = subst (λ v. GivesAtHand x v a) (ap val_of c.in-Some-Int.field-0-is) (slot_at_hand x _ _ a stands c.in-Some-Int.ensures.touched c.in-Some-Int.ensures.content) in
    subst (λ z. GivesAtHand x (int z) a) (sym (ap (λ n. to_z w64 (of_z w64 n)) c.in-Some-Int.n-is ∙ to_z-of_z w64 c.in-Some-Int.n (search rules))) gives
