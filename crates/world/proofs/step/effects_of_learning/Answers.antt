use Rattle.std.proofs.Common.{subst}
use Rattle.heap.specs.State.{State}
use Rattle.post.specs.MessageView.{published_of}
use Rattle.world_cells.specs.View.{world_of}
use Rattle.event.specs.Events.{learn_foot}
use Rattle.event.specs.Learning.{Learns}
use Rattle.world.proofs.Stepping.{learns_happen}
use Rattle.world.proofs.step.effects_of_learning.Goals as goal

pub returns-clause-ok : goal.returns-clause-ok
returns-clause-ok c =
    let w = world_of c.args.world.now in
    let v = c.args.vat in
    let p = c.args.promise in
    let b = published_of c.in_ok-published.published in
    let r = c.in_ok-footprint.footprint in
    let l = c.in_ok-learn_effects.ensures w b (subst (λ (s : State). Learns s p b r) c.in_ok-state.ensures.shared c.in_ok-footprint.ensures) in (
      learn_foot v p l.cells l.left,
      learns_happen c.args.event w v p b c.in_ok-learn_effects.field-0 c.in_ok-published.ensures.ok l,
    )
