use Rattle.std.proofs.Common.{ap, ◌∙◌}
use Rattle.std.proofs.lemmas.Option.{IfSome_then}
use Rattle.code.specs.View.{tree_of_code}
use Rattle.code.proofs.Fitting.{fits-Call}
use Rattle.code.proofs.Views.{tree_of_code-Call}
use Rattle.heap.specs.State.{frame_of}
use Rattle.eval_rules.specs.View.{at}
use Rattle.eval_rules.proofs.Fitting.{parts_fit}
use Rattle.eval_rules.proofs.Steps.{slice_of}
use Rattle.eval_quick.proofs.Leaves.{operands_fit}
use Rattle.eval_quick.proofs.Sent.{returns_as}
use Rattle.eval_quick.proofs.returns.returned.Goals as goal

pub given-requires : goal.given-requires
given-requires c = operands_fit (at c.args.w.now) c.deref.ensures (slice_of c.deref-in-Call-2.ensures.value c.deref-in-Call.ensures)
    (parts_fit (at c.args.w.now) c.in-Call.is (fits-Call c.args.w.now.own_scope (frame_of (at c.args.w.now).nouns) c.in-Call.receiver c.in-Call.verb c.in-Call.args) c.requires)

pub returns-in-Call-clause-returns : goal.returns-in-Call-clause-returns
returns-in-Call-clause-returns c = IfSome_then c.given.result c.given.ensures.returns (λ arg h. returns_as (at c.args.w.now) c.args.item.now c.args.level c.args.ejector (tree_of_code arg.now)
    (ap tree_of_code c.in-Call.is ∙ tree_of_code-Call c.in-Call.receiver c.in-Call.verb c.in-Call.args) c.deref.ensures (slice_of c.deref-in-Call-2.ensures.value c.deref-in-Call.ensures) h)
