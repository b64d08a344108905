use Rattle.std.proofs.Common.{ap, sym, ◌∙◌}
use Rattle.std.proofs.lemmas.Result.{on_ok_weaker}
use Rattle.values.specs.View.{val_of}
use Rattle.heap.specs.State.{fixed}
use Rattle.eval_rules.specs.Rules.{binding, matched}
use Rattle.eval_rules.specs.View.{at}
use Rattle.eval_objects.proofs.nouns.match_pattern.Goals as goal

pub returns-in_ok-share-in-Name : goal.returns-in_ok-share-in-Name
returns-in_ok-share-in-Name c =
    on_ok_weaker c.bind.result (λ e.
    e ∙ ap (λ v. binding c.in-Name.name (fixed v) (at c.args.w.now)) c.in_ok-share-in-Name.ensures ∙ sym (ap (λ p. matched p (val_of c.args.value.now) (at c.args.w.now)) c.in-Name.is)
    ) c.bind.ensures
