use Rattle.std.proofs.lemmas.Result.{on_ok_weaker}
use Rattle.heap.specs.State.{top, bound}
use Rattle.heap.specs.Drafts.{draft_of, counts_of, began_with, touched_of, written_of}
use Rattle.heap.specs.View.{bind_of}
use Rattle.eval_rules.specs.View.{at}
use Rattle.eval_objects.proofs.Drafted.{put_all}
use Rattle.eval_rules.proofs.Scopes.{bound_on_top}
use Rattle.eval_objects.proofs.nouns.bind.Goals as goal

pub returns-in_ok-share : goal.returns-in_ok-share
returns-in_ok-share c =
    let a = at c.args.w.now in
    let d = c.bind_top.new.self in
    on_ok_weaker c.bind_top.result (λ e. bound_on_top c.args.name.now _ (bind_of c.args.binding) a _ c.if-w.true e c.in_ok-share.ensures)
    (put_all c.bind_top.result (top _) (bound (bind_of c.args.binding)) a (draft_of d) (counts_of d) (began_with d) (touched_of d) (written_of d) c.bind_top.ensures.ok c.bind_top.ensures.counts c.bind_top.ensures.began c.bind_top.ensures.touched c.bind_top.ensures.written)
