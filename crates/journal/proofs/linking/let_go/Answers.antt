use Rattle.std.proofs.Common.{◌<◌, length, subst, arith}
use Rattle.journal_links.specs.Followers.{IsLetGo}
use Rattle.journal_links.proofs.Following.{still_gone, still_named}
use Rattle.journal.specs.declared.entry.Entry.{Entry}
use Rattle.journal.proofs.Linked.{gone_more}
use Rattle.journal.proofs.linking.let_go.Goals as goal

pub loop-entry-preserved : goal.loop-entry-preserved
loop-entry-preserved c =
    let xs = c.args.entries.now in
    let i = c.loop-entry.entry-index in
    let x = c.entry-item.result in
    let old = c.loop-entry.followers in
    let new = c.let_go.new.self in
    let h : i < length xs = omega arith in
    record {
      gone = gone_more old new xs i x h (still_gone old new x.event.name c.let_go.ensures.others c.let_go.ensures.gone)
          (subst (λ (y : Entry). IsLetGo new y.event.name) c.entry-item.is c.let_go.ensures.gone) c.loop-entry.invariant.gone;
      kept = λ d f was. still_named old new x.event.name c.let_go.ensures.others c.let_go.ensures.kept d f (c.loop-entry.invariant.kept d f was);
    }
