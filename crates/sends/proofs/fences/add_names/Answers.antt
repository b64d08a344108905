use Rattle.std.proofs.lemmas.Bool.{false≢true}
use Rattle.sends.proofs.Steps.{names_added}
use Rattle.sends.proofs.fences.add_names.Goals as goal

pub returns-clause-did : goal.returns-clause-did
returns-clause-did c =
    names_added c.write_fence.result c.args.reference c.args.names.now c.in_ok-fence_of.field-0 c.in_ok-fence.fence c.args.draft.now c.fence_of.new.draft c.write_fence.new.self
    (λ e. false≢true (c.if-is_empty.ensures.1 e)) c.in_ok-fence_of.ensures.did c.in_ok-fence.ensures
    (c.write_fence.ensures.ok, (c.write_fence.ensures.touched, c.write_fence.ensures.written))
