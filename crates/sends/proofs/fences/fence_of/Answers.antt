use Rattle.std.proofs.Common.{sym, ap, ◌∙◌}
use Rattle.heap.specs.State.{fence_cell}
use Rattle.sends.specs.Vats.{names_of}
use Rattle.sends.proofs.Did.{touched_one, did_fence}
use Rattle.sends.proofs.Steps.{fence_shared}
use Rattle.sends.proofs.fences.fence_of.Goals as goal

pub returns-in-Some-clause-did : goal.returns-in-Some-clause-did
returns-in-Some-clause-did c =
    fence_shared c.args.reference c.share.result c.in-Some.fence.now c.args.draft.now c.reach_fence.new.self
    (touched_one (fence_cell c.args.reference) c.args.draft.now c.reach_fence.new.self c.in_ok-reach_fence.ensures.state c.in_ok-reach_fence.ensures.touched c.in_ok-reach_fence.ensures.written)
    c.in-Some.ensures c.share.ensures.same

pub returns-in-None-clause-did : goal.returns-in-None-clause-did
returns-in-None-clause-did c =
    did_fence c.args.reference c.empty.result c.args.draft.now c.reach_fence.new.self
    (touched_one (fence_cell c.args.reference) c.args.draft.now c.reach_fence.new.self c.in_ok-reach_fence.ensures.state c.in_ok-reach_fence.ensures.touched c.in_ok-reach_fence.ensures.written)
    (ap names_of (sym c.in-None.ensures) ∙ sym c.empty.ensures)
