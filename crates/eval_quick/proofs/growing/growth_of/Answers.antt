use Rattle.std.proofs.Common.{ap, sym, subst, ◌∙◌, IfOk, IfSome}
use Rattle.kernele.specs.Tree.{call}
use Rattle.code.specs.View.{tree_of_code, trees_of_codes}
use Rattle.code.proofs.Fitting.{fits-Call}
use Rattle.code.proofs.Views.{tree_of_code-Call}
use Rattle.heap.specs.State.{frame_of}
use Rattle.values.specs.View.{val_of}
use Rattle.eval_rules.specs.View.{at}
use Rattle.eval_rules.proofs.Fitting.{parts_fit}
use Rattle.eval_rules.proofs.Steps.{slice_of}
use Rattle.eval_quick.specs.Leaves.{Lengthens}
use Rattle.eval_quick.proofs.Leaves.{operands_fit}
use Rattle.eval_quick.proofs.growing.growth_of.Goals as goal

pub growth_of_call-requires : goal.growth_of_call-requires
growth_of_call-requires c = operands_fit (at c.args.w.now) c.deref.ensures (slice_of c.deref-in-Call-2.ensures.value c.deref-in-Call.ensures)
    (parts_fit (at c.args.w.now) c.in-Call.is (fits-Call c.args.w.now.own_scope (frame_of (at c.args.w.now).nouns) c.in-Call.receiver c.in-Call.verb c.in-Call.args) c.requires)

pub returns-in-Call : goal.returns-in-Call
returns-in-Call c =
    subst (λ t. IfOk c.growth_of_call.result (λ o. IfSome o (λ g. Lengthens (at c.args.w.now) c.args.name.now t g.slot g.verb.now (val_of g.more))))
    (sym (ap tree_of_code c.in-Call.is ∙ tree_of_code-Call c.in-Call.receiver c.in-Call.verb c.in-Call.args
    ∙ (λ i. call (tree_of_code (sym c.deref.ensures i)) c.in-Call.verb (trees_of_codes (sym (slice_of c.deref-in-Call-2.ensures.value c.deref-in-Call.ensures) i)))))
    c.growth_of_call.ensures
