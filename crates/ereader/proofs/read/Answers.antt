use Rattle.std.proofs.lemmas.Result.{err_from_is_err_and}
use Rattle.ereader.proofs.Answered.{answered, spoiled}
use Rattle.ereader.proofs.read.Goals as goal

pub returns : goal.returns
returns c =
    let r = c.read_tokens.ensures in
    answered c.args.text.now c.deref.result.now c.read_tokens.result (rw c.deref.ensures.value c.in_ok-tokens.ensures) r.found r.only r.deep r.refusal

pub returns-in_err-tokens : goal.returns-in_err-tokens
returns-in_err-tokens c =
    let k = err_from_is_err_and c.from_residual.result c.from_residual.ensures.1 in
    rw (k.1, k.2) (spoiled c.args.text.now c.in_err-tokens.field-0.0 c.in_err-tokens.ensures)
