use Rattle.std.proofs.Common.{◌≤◌, length, ap, arith}
use Rattle.eval_rules.specs.Locals.{captured_in}
use Rattle.eval_rules.specs.View.{at}
use Rattle.eval_rules.proofs.Scopes.{oldest_kept, all_kept}
use Rattle.eval_rules.proofs.blocks.keep_names.Goals as goal

pub returns-then-count_names-count-clause-place : goal.returns-then-count_names-count-clause-place
returns-then-count_names-count-clause-place c =
    ap (λ ns. record (at c.args.w.now) { nouns = ns })
    (oldest_kept (captured_in c.args.w.now.captured) c.args.w.now.nouns.items _ _ c.args.w.now.older c.args.count c.args.w.now.within c.min-w.ensures c.let_go.ensures)

pub returns-else-count_names-count-clause-place : goal.returns-else-count_names-count-clause-place
returns-else-count_names-count-clause-place c =
    let few : length (at c.args.w.now).nouns ≤ c.args.count = omega (arith, c.if-count_names-count.false, c.count_names.ensures) in
    ap (λ ns. record (at c.args.w.now) { nouns = ns }) (all_kept (at c.args.w.now).nouns c.args.count few)
