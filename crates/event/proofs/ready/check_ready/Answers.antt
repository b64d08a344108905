use Rattle.std.proofs.Common.{rules, ◌≡◌, true, cond, Some, sym, ap, ◌∙◌}
use Rattle.std.proofs.lemmas.Result.{err_from_is_err_and}
use Rattle.post.specs.MessageView.{message_of}
use Rattle.world_cells.specs.View.{world_of}
use Rattle.event.specs.Ready.{first_undone, leads_there, early_by}
use Rattle.event.specs.Walks.{awaited}
use Rattle.event.specs.declared.ready.Unready.TheVariants as why
use Rattle.event.proofs.ready.check_ready.Goals as goal

pub returns-in_err-check_done-clause-err : goal.returns-in_err-check_done-clause-err
returns-in_err-check_done-clause-err c =
    let w = world_of c.args.world.now in
    let g = message_of c.args.message.now in
    let leads : leads_there w c.args.vat g ≡ true = search rules in
    let all : c.in_ok-awaited.awaited ≡ awaited w g = search rules in
    let p = err_from_is_err_and c.from_residual-in_err-check_done.result c.from_residual-in_err-check_done.ensures.1 in
    rw (p.1, p.2)
    (ap (λ b. cond b (early_by (first_undone w (awaited w g))) (Some why.NotReady)) leads ∙ ap (λ f. early_by (first_undone w f)) (sym all) ∙ c.in_err-check_done.ensures.err)
