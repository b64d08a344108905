use Rattle.etoken.proofs.Answered.{one_answer}
use Rattle.etoken.proofs.theorems.one_answer.Goals as goal

pub returns : goal.returns
returns c = one_answer
