use Rattle.std.proofs.Common.{◌∙◌, ◌==◌, sym, ap}
use Rattle.history.specs.Journal.{is_in}
use Rattle.ids.specs.declared.names.EventName.{EventName}
use Rattle.causality.specs.Selections.{numbers}
use Rattle.std.proofs.Common.{List}
use Rattle.causality.proofs.Outsiders.{not_added, was_added}
use Rattle.causality.proofs.parting.add_outsider.Goals as goal

pub returns-then-not-is_outsider : goal.returns-then-not-is_outsider
returns-then-not-is_outsider c = λ e. not_added (c.args.event.0 == e.0) _ (is_in (numbers c.args.outsiders.now.items) e.0) (sym c.is_outsider.ensures ∙ c.if-not-is_outsider.true)

pub returns : goal.returns
returns c = λ e.
    ap (λ (xs : List EventName). is_in (numbers xs) e.0) c.in_ok-push.ensures.items
    ∙ was_added c.args.event e c.args.outsiders.now.items _ (sym c.is_outsider.ensures ∙ c.if-not-is_outsider.false)
