use Rattle.std.proofs.Common.{◌+◌, ◌∷◌, ap, ◌∙◌}
use Rattle.heap.proofs.Reaching.{on_err}
use Rattle.eval_rules.specs.View.{at, opened_of}
use Rattle.eval_rules.proofs.Ejectors.{opened_of-push}
use Rattle.eval_rules.proofs.escapes.open_escape.Goals as goal

pub returns-clause-named : goal.returns-clause-named
returns-clause-named c = c.ejector-ejector.ensures

pub returns-clause-place : goal.returns-clause-place
returns-clause-place c =
    ap (λ js. record (at c.args.w.now) { ejectors = c.args.w.now.ejectors + 1; opened = js })
    (ap opened_of c.in_ok-push.ensures.items ∙ opened_of-push c.args.w.now.opened.items _ ∙ ap (λ j. j ∷ opened_of c.args.w.now.opened.items) c.ejector-ejector.ensures)

pub returns-in_err-push-clause-err : goal.returns-in_err-push-clause-err
returns-in_err-push-clause-err c =
    on_err _ _ (ap (λ js. record (at c.args.w.now) { opened = opened_of js }) c.in_err-push.ensures.items)
