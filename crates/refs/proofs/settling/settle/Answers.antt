use Rattle.std.proofs.Common.{Some, option_map, sym, ap, ◌∙◌}
use Rattle.values.specs.View.{val_of}
use Rattle.refs.specs.Forms.{formed}
use Rattle.refs.specs.Settling.{settling}
use Rattle.refs.proofs.settling.settle.Goals as goal

pub returns-in_ok-into_value-in-Some-clause-settled : goal.returns-in_ok-into_value-in-Some-clause-settled
unfolding settling
returns-in_ok-into_value-in-Some-clause-settled g c = ap Some c.in_ok-into_value-in-Some.ensures ∙ ap (option_map (formed (val_of c.args.value.now))) (sym c.in-Some.is) ∙ c.in_ok-form.ensures.settled

pub returns-in_ok-into_value-in-Some-clause-through : goal.returns-in_ok-into_value-in-Some-clause-through
unfolding settling
returns-in_ok-into_value-in-Some-clause-through g c = c.in_ok-form.ensures.through

pub returns-in-None-clause-settled : goal.returns-in-None-clause-settled
unfolding settling
returns-in-None-clause-settled g c = ap (option_map (formed (val_of c.args.value.now))) (sym c.in-None.is) ∙ c.in_ok-form.ensures.settled

pub returns-in-None-clause-through : goal.returns-in-None-clause-through
unfolding settling
returns-in-None-clause-through g c = c.in_ok-form.ensures.through
