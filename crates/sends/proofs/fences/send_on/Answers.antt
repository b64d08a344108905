use Rattle.std.proofs.Common.{Option, sym, ap, ◌∙◌, subst}
use Rattle.ids.specs.declared.reference.Reference.{Reference}
use Rattle.cells.specs.Doing.{holding}
use Rattle.heap.specs.State.{fence_cell, fenced, same_cell}
use Rattle.sends.specs.Vats.{sent_after}
use Rattle.sends.specs.Playing.{under, Did}
use Rattle.sends.proofs.Did.{written_one, did_send}
use Rattle.sends.proofs.fences.send_on.Goals as goal

pub returns-in_ok-write_fence-in-Some-clause-did : goal.returns-in_ok-write_fence-in-Some-clause-did
returns-in_ok-write_fence-in-Some-clause-did c =
    let w = written_one (fence_cell c.in-Some.reference) (fenced c.alone.result) c.fence_of.new.draft c.write_fence.new.self c.in_ok-write_fence-in-Some.ensures.ok c.in_ok-write_fence-in-Some.ensures.touched c.in_ok-write_fence-in-Some.ensures.written in
    subst (λ (o : Option Reference). Did (sent_after c.args.message o) c.args.draft.now c.in_ok-after-in-Some.after c.write_fence.new.self) (sym c.in-Some.is)
    (did_send c.args.message c.in-Some.reference c.in_ok-after-in-Some.after c.args.draft.now c.fence_of.new.draft c.write_fence.new.self c.in_ok-after-in-Some.ensures.did
    (w ∙ ap (λ f. holding same_cell (fence_cell c.in-Some.reference) (fenced f) (under c.fence_of.new.draft)) c.alone.ensures))
