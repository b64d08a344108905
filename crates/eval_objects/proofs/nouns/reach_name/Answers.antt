use Rattle.std.proofs.Common.{◌∙◌}
use Rattle.std.proofs.lemmas.Result.{on_ok_weaker}
use Rattle.heap.specs.State.{top}
use Rattle.heap.specs.Drafts.{draft_of, counts_of, began_with, touched_of, written_of}
use Rattle.eval_rules.specs.View.{at}
use Rattle.eval_objects.proofs.Drafted.{reached_all}
use Rattle.eval_objects.proofs.Places.{sought_inside, sought_outside}
use Rattle.eval_objects.proofs.nouns.reach_name.Goals as goal

pub returns-in-Frame : goal.returns-in-Frame
returns-in-Frame c = sought_inside (at c.args.w.now).nouns c.args.name.now c.args.place _ (at c.args.w.now) c.requires c.in-Frame.is

pub returns-in-Top : goal.returns-in-Top
returns-in-Top c =
    let a = at c.args.w.now in
    let d = c.reach_top.new.self in
    let e = c.reach_top.ensures in
    on_ok_weaker c.reach_top.result (λ h. h ∙ sought_outside (at c.args.w.now).nouns c.args.name.now c.args.place a c.requires c.in-Top.is)
    (reached_all c.reach_top.result (top c.args.name.now) a (draft_of d) (counts_of d) (began_with d) (touched_of d) (written_of d) e.state e.counts e.began e.touched e.written)
