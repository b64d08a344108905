use Rattle.std.proofs.Common.{ap, ◌∙◌}
use Rattle.values.specs.View.{val_of}
use Rattle.sends.specs.Playing.{under, looked_at}
use Rattle.sends.proofs.Did.{did_end}
use Rattle.sends.proofs.ends.end_of.Goals as goal

pub returns-clause-did : goal.returns-clause-did
returns-clause-did c =
    did_end (val_of c.args.value.now) (val_of c.in_ok-end.end) c.args.draft.now c.look_at.new.draft c.end_of.new.through.items c.new-through.result.items c.new-through.ensures.items c.in_ok-end.ensures.through c.in_ok-end.ensures.end
    (c.in_ok-look_at.ensures.looked ∙ ap (λ ps. looked_at ps (under c.args.draft.now)) c.as_slice.ensures.value)
