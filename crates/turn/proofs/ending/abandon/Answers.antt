use Rattle.std.proofs.Common.{ap, ◌∙◌}
use Rattle.eval_rules.specs.OutboxView.{outbox_of}
use Rattle.eval_rules.specs.View.{cause_of}
use Rattle.turn_deliveries.specs.Outcomes.{told_of}
use Rattle.turn.proofs.Telling.{loses}
use Rattle.turn.proofs.ending.abandon.Goals as goal

pub returns : goal.returns
returns c = λ x left. loses c.args.w.now x c.args.promise (cause_of c.args.why) left.touched left.written left.found (ap told_of left.ended) left.steps (ap outbox_of left.out ∙ c.in_ok-w.ensures)
