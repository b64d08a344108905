use Rattle.std.proofs.Common.{ap, ◌∙◌, ◌+◌, drop}
use Rattle.std.proofs.lemmas.Result.{err_from_is_err_and}
use Rattle.std.proofs.lemmas.List.{drop_all}
use Rattle.kernele_scopes.specs.Scope.{in_turn, all_bound}
use Rattle.kernele_scopes.specs.Check.{scopes_in}
use Rattle.kernele.proofs.Walks.{items_from}
use Rattle.kernele_scopes.proofs.Refusals.{refuses_in_turn, refuses_same}
use Rattle.kernele_scopes.proofs.checking.check_patterns.Goals as goal

pub returns-in_err-check_pattern : goal.returns-in_err-check_pattern
returns-in_err-check_pattern c =
    let p = err_from_is_err_and c.from_residual.result c.from_residual.ensures.1 in
    let walk = c.loop-pattern.invariant ∙ ap (λ ps. all_bound ps (scopes_in c.loop-pattern.scopes)) (items_from c.args.patterns.now c.loop-pattern.pattern-index c.pattern-item.result c.loop-pattern-test.true c.pattern-item.is) in
    rw (p.1, p.2) (refuses_same _ _ _ walk (refuses_in_turn _ _ _ c.in_err-check_pattern.ensures))

pub loop-pattern-preserved : goal.loop-pattern-preserved
loop-pattern-preserved c =
    c.loop-pattern.invariant
    ∙ ap (λ ps. all_bound ps (scopes_in c.loop-pattern.scopes)) (items_from c.args.patterns.now c.loop-pattern.pattern-index c.pattern-item.result c.loop-pattern-test.true c.pattern-item.is)
    ∙ ap (λ r. in_turn r (all_bound (drop (c.loop-pattern.pattern-index + 1) c.args.patterns.now))) c.in_ok-check_pattern.ensures

pub returns : goal.returns
returns c = c.loop-pattern.invariant ∙ ap (λ ps. all_bound ps (scopes_in c.loop-pattern.scopes)) (drop_all c.loop-pattern.pattern-index c.args.patterns.now c.loop-pattern-test.false)
