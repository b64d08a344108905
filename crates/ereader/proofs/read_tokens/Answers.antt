use Rattle.std.proofs.Common.{rules}
use Rattle.std.proofs.lemmas.Result.{err_from_is_err_and}
use Rattle.ereader_grammar.specs.View.{plain}
use Rattle.ereader.proofs.Programs.{found, only, refused}
use Rattle.ereader.proofs.read_tokens.Goals as goal

pub returns-clause-found : goal.returns-clause-found
returns-clause-found c = found (plain c.args.tokens.now) c.in_ok-new.field-0 c.in_ok-items.items (search rules) c.in_ok-items.ensures.ok

pub returns-clause-only : goal.returns-clause-only
returns-clause-only c = λ ts p. only (plain c.args.tokens.now) c.in_ok-new.field-0 c.in_ok-items.items ts (search rules) c.in_ok-items.ensures.ok p

pub returns-in_err-items-clause-only : goal.returns-in_err-items-clause-only
returns-in_err-items-clause-only c = λ ts p. let k = err_from_is_err_and c.from_residual.result c.from_residual.ensures.1 in
    rw (k.1, k.2) (refused c.in_err-items.field-0.0 c.args.tokens.now c.args.length (plain c.args.tokens.now) ts c.in_err-items.ensures.err p)
