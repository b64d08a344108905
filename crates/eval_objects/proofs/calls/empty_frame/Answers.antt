use Rattle.eval_objects.proofs.calls.empty_frame.Goals as goal

pub returns-in-Some-clause-empty : goal.returns-in-Some-clause-empty
returns-in-Some-clause-empty c = c.let_go.ensures
