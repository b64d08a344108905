use Rattle.std.proofs.Common.{map, sym, ap, ◌∙◌}
use Rattle.std.proofs.lemmas.Result.{on_ok_weaker, on_err_weaker}
use Rattle.eval_rules.proofs.Publishing.{entry_of, inserted, added}
use Rattle.eval_rules.proofs.publications.Publications.add.Goals as goal

pub returns-clause-ok : goal.returns-clause-ok
returns-clause-ok c =
    let free = sym c.has.ensures ∙ c.if-has.false in
    on_ok_weaker c.insert.result (λ e. ap (map entry_of) e ∙ inserted _ c.args.promise c.args.published free ∙ added _ c.args.promise _ free) c.insert.ensures.ok

pub returns-clause-err : goal.returns-clause-err
returns-clause-err c = on_err_weaker c.insert.result (λ e. ap (map entry_of) e) c.insert.ensures.err
