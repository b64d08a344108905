use Rattle.std.proofs.Common.{◌∙◌, ◌<◌, length, sym, ap, arith}
use Rattle.ids.specs.declared.names.EventName.{EventName}
use Rattle.journal_links.specs.Heirs.{is_heir}
use Rattle.journal.specs.Items.{number_of}
use Rattle.journal.specs.Links.{lister}
use Rattle.journal.specs.declared.entry.Touched.{Touched}
use Rattle.journal.proofs.Linked.{follows_more}
use Rattle.journal.proofs.linking.list_all.Goals as goal

pub loop-found-preserved : goal.loop-found-preserved
loop-found-preserved c =
    let xs = c.args.touched.now in
    let i = c.loop-found.found-index in
    let h : i < length xs = omega arith in
    let is = c.lister.ensures ∙ ap (λ (t : Touched). lister t.key (number_of t.writer)) c.found-item.is in
    record {
      listed = follows_more (is_heir c.loop-found.heirs) (is_heir c.add.new.self) c.args.event xs i c.found-item.result h c.add.ensures.kept c.loop-found.invariant.listed
          (ap (λ (w : EventName). is_heir c.add.new.self w c.args.event) (sym is) ∙ c.in_ok-add.ensures.ok);
      kept = λ e f was. c.add.ensures.kept e f (c.loop-found.invariant.kept e f was);
    }
