use Rattle.std.proofs.Common.{ap, ◌∙◌, subst}
use Rattle.sends.specs.Vats.{ended}
use Rattle.post.specs.DeliveryView.{when_of}
use Rattle.eval_rules.specs.Answered.{OnEnd}
use Rattle.eval_rules.specs.Doings.{behind, given_by}
use Rattle.eval_rules.specs.View.{at}
use Rattle.turn_deliveries.specs.Turn.{Led, when_met}
use Rattle.turn.proofs.whens.run_when.Goals as goal

pub returns : goal.returns
returns c =
    let a = at c.args.w.now in
    let w = when_of c.args.when.now in
    let shared = c.in_ok-value.ensures in
    let end = c.in_ok-take_end.ensures.end ∙ ap (λ v. given_by (ended v) a) shared in
    let place = c.in_ok-take_end.ensures.place ∙ ap (λ v. behind (ended v) a) shared in
    subst (λ (f : Type 0). f) (λ i. OnEnd c.run_by.result c.run_by.new.into c.run_by.new.w (Led (when_met w (end i)) (place i))) c.run_by.ensures
