use Rattle.std.proofs.Common.{rules, w64, ap, ◌∙◌}
use mir.Val.{to_z, of_z}
use Rattle.std.proofs.lemmas.Int.{to_z-of_z}
use Rattle.values.specs.Data.{and_val, no_vals}
use Rattle.values.specs.View.{val_of}
use Rattle.eval_objects.proofs.Leading.{one_value, for_one}
use Rattle.eval_objects.proofs.calls.called_on_integer.Goals as goal

pub returns-in-Int-Int : goal.returns-in-Int-Int
returns-in-Int-Int c =
    let x = c.in-Int-Int.x in
    let y = c.in-Int-Int.y in
    for_one c.call_integers.result (to_z w64 (of_z w64 x)) (to_z w64 (of_z w64 y)) x y c.args.verb.now (ap val_of c.in-Int-Int.is-0)
    (one_value c.args.args.now _ (search rules) c.index-args-0.is ∙ ap (λ v. and_val (val_of v) no_vals) c.in-Int-Int.is-1) c.call_integers.ensures (to_z-of_z w64 x (search rules)) (to_z-of_z w64 y (search rules))
