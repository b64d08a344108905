use Rattle.std.proofs.Common.{rules, w64}
use Rattle.std.proofs.lemmas.Int.{to_z-of_z}
use Rattle.std.proofs.lemmas.Option.{IfSome_then}
use Rattle.values.proofs.Tables.{value_is_given}
use Rattle.eval_rules.specs.View.{at}
use Rattle.eval_quick.proofs.Leaves.{integers_run}
use Rattle.eval_quick.proofs.quick.quick_value.Goals as goal

pub returns-clause-runs : goal.returns-clause-runs
returns-clause-runs c = IfSome_then c.call_integers.result (value_is_given c.call_integers.result _ c.call_integers.ensures) (λ v h. integers_run (at c.args.w.now) c.in_ok-x.ensures c.if-w-lt2.false c.if-level-ge-DEEPEST.false
    (to_z-of_z w64 c.in_ok-x.x (search rules)) (to_z-of_z w64 c.in_ok-x.y (search rules)) h)
