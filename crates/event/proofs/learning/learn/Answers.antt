use Rattle.std.proofs.Common.{rules, ◌≡◌, subst}
use Rattle.std.specs.Arc.{arc_value}
use Rattle.eorder.specs.Carried.{Carried}
use Rattle.heap.specs.View.{state_of}
use Rattle.post.specs.MessageView.{published_of}
use Rattle.sends.specs.Playing.{Did}
use Rattle.sends.specs.Vats.{nothing, coming_in, references}
use Rattle.event.proofs.Learnt.{learns_if}
use Rattle.event.proofs.learning.learn.Goals as goal

pub returns : goal.returns
returns c =
    let n = c.new-draft.ensures in
    let b = published_of c.args.published.now in
    let fences : c.deref.result.now ≡ b.fences = search rules in
    let comes = subst (λ (f : Carried). Did (coming_in f (references b.value)) c.enter.new.draft nothing c.receive.new.draft) fences c.in_ok-receive.ensures.did in
    learns_if c.finish.result (state_of (arc_value c.args.state)) c.args.promise b c.new-draft.result c.enter.new.draft c.receive.new.draft c.in_ok-enter.field-0
    n.state n.touched n.written n.began c.in_ok-enter.ensures.did c.enter.ensures.turn comes c.receive.ensures.turn
    c.finish.ensures.touched c.finish.ensures.written c.finish.ensures.found
