use Rattle.std.proofs.Common.{option_map, ap, ◌∙◌}
use Rattle.values.specs.View.{val_of}
use Rattle.sends.specs.Playing.{under, looked_at}
use Rattle.sends.proofs.Did.{did_settle}
use Rattle.sends.proofs.ends.settle.Goals as goal

pub returns-clause-did : goal.returns-clause-did
returns-clause-did c =
    did_settle (val_of c.args.value.now) (option_map val_of c.in_ok-form.form) c.args.draft.now c.look_at.new.draft c.settle.new.through.items c.new-through.result.items c.new-through.ensures.items c.in_ok-form.ensures.through c.in_ok-form.ensures.settled
    (c.in_ok-look_at.ensures.looked ∙ ap (λ ps. looked_at ps (under c.args.draft.now)) c.as_slice.ensures.value)
