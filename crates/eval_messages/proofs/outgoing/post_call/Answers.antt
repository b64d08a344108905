use Rattle.eval_rules.specs.View.{at}
use Rattle.sends.specs.View.{sent_of}
use Rattle.eval_messages.proofs.Made.{call_posted}
use Rattle.eval_messages.proofs.outgoing.post_call.Goals as goal

pub returns-clause-place : goal.returns-clause-place
returns-clause-place c = call_posted (at c.args.w.now) _ c.args.verb.now (sent_of c.args.sent) c.args.draw.here c.args.draw.message _ c.requires.here c.requires.message c.in_ok-message.ensures c.in_ok-post.ensures
