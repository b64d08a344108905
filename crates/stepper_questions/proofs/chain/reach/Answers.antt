use Rattle.std.proofs.Common.{◌<◌, None, Some, sym, ap, ◌∙◌, arith}
use Rattle.journal.specs.Items.{lasts_of}
use Rattle.stepper_questions.specs.ChainView.{near_of, reached_by, best_of}
use Rattle.stepper_questions.proofs.Looking.{put}
use Rattle.stepper_questions.proofs.Knowing.{best_known}
use Rattle.stepper_questions.proofs.chain.reach.Goals as goal

pub overflow_add-steps : goal.overflow_add-steps
overflow_add-steps c =
    let known = near_of c.args.known.now.entries in
    let b = best_known known (lasts_of c.deref.result.now) c.in-Some.near (sym c.in-Some.ensures) in
    let few : c.in-Some.near.steps < c.args.place = c.requires b.0 c.in-Some.near b.1 in
    omega (arith, c.ranges.place)

pub returns-in_ok-insert-in-Some : goal.returns-in_ok-insert-in-Some
returns-in_ok-insert-in-Some c = λ e.
    put c.args.known.now.entries c.insert.new.self.entries c.args.entry.now.event.name _ c.in_ok-insert-in-Some.ensures.updates.0 e
    ∙ ap (λ o. reached_by c.args.entry.now.event.name c.args.place o (near_of c.args.known.now.entries) e) (c.in-Some.ensures ∙ ap (λ ts. best_of (near_of c.args.known.now.entries) None (lasts_of ts)) c.deref.ensures.value)

pub returns-in-None : goal.returns-in-None
returns-in-None c = λ e. ap (λ o. reached_by c.args.entry.now.event.name c.args.place o (near_of c.args.known.now.entries) e) (c.in-None.ensures ∙ ap (λ ts. best_of (near_of c.args.known.now.entries) None (lasts_of ts)) c.deref.ensures.value)
