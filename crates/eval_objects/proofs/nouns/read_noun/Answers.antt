use Rattle.std.proofs.Common.{ap, ◌∙◌, sym, refl, Some}
use Rattle.heap.specs.View.{bind_of}
use Rattle.heap.specs.declared.state.Binding.{Binding}
use Rattle.eval_rules.specs.View.{at}
use Rattle.eval_rules.proofs.Answering.{end_to, stop_to}
use Rattle.eval_objects.proofs.Ending.{of_fixed, of_slot, of_none}
use Rattle.eval_objects.proofs.nouns.read_noun.Goals as goal

pub returns-in_ok-into-in-Some-Fixed : goal.returns-in_ok-into-in-Some-Fixed
returns-in_ok-into-in-Some-Fixed c = of_fixed c.args.name.now (at c.args.w.now) (at c.reach_name.new.w) _ _ c.in_ok-reach_name.ensures (sym (ap (λ (b : Binding). Some (bind_of b)) c.in-Some-Fixed.field-0-is) ∙ c.in-Some-Fixed.ensures) c.in_ok-into-in-Some-Fixed.ensures

pub returns-in-Some-Slot : goal.returns-in-Some-Slot
returns-in-Some-Slot c =
    let found = sym (ap (λ (b : Binding). Some (bind_of b)) c.in-Some-Slot.field-0-is) ∙ c.in-Some-Slot.ensures in
    let read = of_slot c.args.name.now (at c.args.w.now) (at c.reach_name.new.w) _ _ _ c.in_ok-reach_name.ensures found refl refl in
    end_to c.read_slot.result c.read_slot.new.into c.read_slot.new.w _ _ _ _ read.0 read.1 c.read_slot.ensures

pub returns-in-None : goal.returns-in-None
returns-in-None c =
    let none = of_none c.args.name.now (at c.args.w.now) (at c.reach_name.new.w) _ c.in_ok-reach_name.ensures c.in-None.ensures refl in
    stop_to c.undefined.result c.undefined.new.w _ _ _ _ none.0 none.1 c.undefined.ensures
