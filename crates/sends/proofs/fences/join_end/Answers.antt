use Rattle.values.specs.View.{val_of}
use Rattle.sends.proofs.Did.{did_join_end}
use Rattle.sends.proofs.fences.join_end.Goals as goal

pub returns-clause-did : goal.returns-clause-did
returns-clause-did c =
    did_join_end (val_of c.args.value.now) (val_of c.in_ok-end.end) c.args.names.now c.reference_of-reference.result c.args.draft.now c.end_of.new.draft c.join_fence.new.draft
    c.in_ok-end.ensures.did c.reference_of-reference.ensures c.in_ok-join_fence.ensures.did
