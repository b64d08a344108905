use Rattle.std.proofs.Common.{ap, ◌∙◌}
use Rattle.values.specs.View.{reply_of}
use Rattle.eval_rules.specs.Doings.{published_out}
use Rattle.eval_rules.specs.OutboxView.{outbox_of}
use Rattle.sends.specs.View.{published_of}
use Rattle.turn_deliveries.specs.Outcomes.{told_of}
use Rattle.turn.proofs.Telling.{tells}
use Rattle.turn.proofs.ending.tell.Goals as goal

pub returns : goal.returns
returns c =
    let ended = c.in_ok-resolved.ensures in
    λ x left. tells c.args.w.now c.end_with.new.draft x c.args.promise (reply_of c.args.told) (published_of c.in_ok-resolved.resolved) ended.did ended.turn left.touched left.written left.found (ap told_of left.ended ∙ c.in_ok-ended.ensures) left.steps
    (ap outbox_of left.out ∙ c.in_ok-publish.ensures.published ∙ ap (published_out c.args.promise (published_of c.in_ok-resolved.resolved)) c.in_ok-comment.ensures.commented)
