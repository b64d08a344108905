use Rattle.std.proofs.Common.{rules, w64, ap, ◌∙◌}
use Rattle.std.proofs.lemmas.Int.{to_z-of_z}
use Rattle.std.proofs.lemmas.Option.{IfSome_then}
use Rattle.code.specs.View.{tree_of_code}
use Rattle.code.proofs.Fitting.{fits-Call}
use Rattle.code.proofs.Views.{tree_of_code-Call}
use Rattle.heap.specs.State.{frame_of}
use Rattle.values.proofs.Tables.{value_is_given}
use Rattle.eval_rules.specs.View.{at}
use Rattle.eval_rules.proofs.Fitting.{parts_fit}
use Rattle.eval_quick.proofs.Leaves.{code_at_hand, operands_fit}
use Rattle.eval_rules.proofs.Steps.{slice_of}
use Rattle.eval_quick.proofs.quick.called.Goals as goal

pub operands-requires : goal.operands-requires
operands-requires c = operands_fit (at c.args.w.now) c.deref.ensures (slice_of c.deref-in-Call-2.ensures.value c.deref-in-Call.ensures)
    (parts_fit (at c.args.w.now) c.in-Call.is (fits-Call c.args.w.now.own_scope (frame_of (at c.args.w.now).nouns) c.in-Call.receiver c.in-Call.verb c.in-Call.args) c.requires)

pub returns-in_ok-x-in-Call : goal.returns-in_ok-x-in-Call
returns-in_ok-x-in-Call c = IfSome_then c.call_integers.result (value_is_given c.call_integers.result _ c.call_integers.ensures) (λ v h. code_at_hand (at c.args.w.now) c.args.e.now c.deref.result.now c.in-Call.receiver.value
    (ap tree_of_code c.in-Call.is ∙ tree_of_code-Call c.in-Call.receiver c.in-Call.verb c.in-Call.args) c.deref.ensures (slice_of c.deref-in-Call-2.ensures.value c.deref-in-Call.ensures) c.in_ok-x-in-Call.ensures
    (to_z-of_z w64 c.in_ok-x-in-Call.x (search rules)) (to_z-of_z w64 c.in_ok-x-in-Call.y (search rules)) h)
