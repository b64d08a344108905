use Rattle.std.proofs.Common.{◌∙◌, ◌<◌, length, sym, ap, arith}
use Rattle.ids.specs.declared.names.EventName.{EventName}
use Rattle.journal_links.specs.Followers.{may_follow}
use Rattle.journal.specs.Items.{number_of}
use Rattle.journal.specs.Links.{lister}
use Rattle.journal.specs.declared.entry.Touched.{Touched}
use Rattle.journal.proofs.Linked.{follows_more}
use Rattle.journal.proofs.linking.list_follower.Goals as goal

pub loop-cell-preserved : goal.loop-cell-preserved
loop-cell-preserved c =
    let xs = c.args.touched.now in
    let i = c.loop-cell.cell-index in
    let h : i < length xs = omega arith in
    let is = c.lister.ensures ∙ ap (λ (t : Touched). lister t.key (number_of t.writer)) c.cell-item.is in
    record {
      listed = follows_more (may_follow c.loop-cell.followers) (may_follow c.add.new.self) c.args.event xs i c.cell-item.result h c.add.ensures.kept c.loop-cell.invariant.listed
          (ap (λ (w : EventName). may_follow c.add.new.self w c.args.event) (sym is) ∙ c.in_ok-add.ensures.ok);
      kept = λ e f was. c.add.ensures.kept e f (c.loop-cell.invariant.kept e f was);
    }
