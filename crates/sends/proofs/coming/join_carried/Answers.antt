use Rattle.std.proofs.Common.{ap, ◌∙◌}
use Rattle.eorder.specs.Fences.{names_in}
use Rattle.values.specs.View.{val_of}
use Rattle.sends.proofs.BroughtIn.{came_with}
use Rattle.sends.proofs.coming.join_carried.Goals as goal

pub returns-in-Some-clause-did : goal.returns-in-Some-clause-did
returns-in-Some-clause-did c =
    came_with c.join_end.result c.args.fences.now c.args.reference (val_of c.value_of-value.result) c.in-Some.names.now c.args.draft.now c.join_end.new.draft c.value_of-value.ensures (ap names_in c.in-Some.ensures) c.join_end.ensures.did

pub returns-clause-did : goal.returns-clause-did
returns-clause-did c =
    came_with c.join_end-in-None-2.result c.args.fences.now c.args.reference (val_of c.value_of-value.result) c.empty.result c.args.draft.now c.join_end-in-None-2.new.draft c.value_of-value.ensures (c.empty.ensures ∙ ap names_in c.in-None.ensures) c.join_end-in-None-2.ensures.did
