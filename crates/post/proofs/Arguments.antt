-- Arguments that are the same, one by one.
use Rattle.std.proofs.Common.{◌≡◌, ◌↔◌, Bool, IsTrue, refl, sym, ap, ◌∙◌}
use Rattle.values.specs.Data.{Val, list, Vals, no_vals}
use Rattle.values.specs.Same.{same_as, same_items}
use Rattle.values.specs.View.{val_of, vals_of}
use Rattle.values.proofs.Equivalence.{itself, equal}
use Rattle.code.proofs.Zipped.{ItemByItem}

-- one value by one
pub values_by : ItemByItem (λ v w. same_as (val_of v) (val_of w)) (λ vs ws. same_items (vals_of vs) (vals_of ws))
values_by = record { ends = refl; longer = λ v vs. refl; shorter = λ w ws. refl; items = λ v w vs ws. refl }

pub value_told : (v w : Val) (r : Bool) → r ≡ same_as v w → IsTrue r ↔ (v ≡ w)
value_told v w r e = (λ t. equal v w (sym e ∙ t), λ s. e ∙ ap (same_as v) (sym s) ∙ itself v)

items_in : Val → Vals
items_in (list vs) = vs
items_in _ = no_vals

-- the arguments together
pub arguments_told : (vs ws : Vals) (r : Bool) → r ≡ same_items vs ws → IsTrue r ↔ (vs ≡ ws)
unfolding items_in
arguments_told vs ws r e = (λ t. ap items_in ((value_told (list vs) (list ws) r e).0 t), λ s. (value_told (list vs) (list ws) r e).1 (ap list s))
