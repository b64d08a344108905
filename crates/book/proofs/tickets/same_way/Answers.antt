use Rattle.std.proofs.Common.{sym, ◌∙◌, subst}
use Rattle.std.proofs.lemmas.Bool.{false≢true}
use Rattle.post.specs.MessageView.{message_of}
use Rattle.world_cells.specs.View.{world_of}
use Rattle.event.specs.ReadyView.{IsUnready}
use Rattle.event.specs.declared.ready.Delay.{Delay}
use Rattle.book.proofs.Freshness.{leads_back, leads_elsewhere, leads_no_more}
use Rattle.book.proofs.tickets.same_way.Goals as goal

pub returns-in-Err-Unready-clause-err : goal.returns-in-Err-Unready-clause-err
returns-in-Err-Unready-clause-err c =
    let t = c.args.out.now in
    let w = world_of c.args.world.now in
    leads_no_more w t c.in-Err-Unready.field-0-0 (subst (λ (d : Delay). IsUnready w t.vat (message_of t.message) d) c.in-Err-Unready.field-0-is c.in-Err-Unready.ensures.err)

pub returns-then-not-is_same-clause-err : goal.returns-then-not-is_same-clause-err
returns-then-not-is_same-clause-err c =
    leads_elsewhere (world_of c.args.world.now) c.args.out.now c.in-Ok.way c.in-Ok.ensures.ok (λ e. false≢true (sym c.if-not-is_same.true ∙ c.is_same.ensures.1 e))

pub returns-clause-ok : goal.returns-clause-ok
returns-clause-ok c = leads_back (world_of c.args.world.now) c.args.out.now c.in-Ok.way c.in-Ok.ensures.ok (c.is_same.ensures.0 c.if-not-is_same.false)
