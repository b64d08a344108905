use Rattle.std.proofs.Common.{rules, w64, ◌-◌, ap, ◌∙◌}
use Rattle.std.proofs.lemmas.Int.{to_z-of_z}
use Rattle.values.specs.Data.{int}
use Rattle.heap.specs.State.{held, slot_cell}
use Rattle.heap.specs.Drafts.{draft_of, counts_of, began_with, touched_of, written_of}
use Rattle.eval_rules.specs.At.{At}
use Rattle.eval_rules.specs.Rules.{put}
use Rattle.eval_rules.specs.View.{at}
use Rattle.eval_objects.proofs.Drafted.{drafted_put}
use Rattle.eval_quick.proofs.quick.set.Goals as goal

pub returns-clause-place : goal.returns-clause-place
returns-clause-place c =
    let a : At = record (at c.args.w.now) { left = c.args.w.now.steps - 4 } in
    let d = c.write_slot.new.self in
    let e = c.in_ok-write_slot.ensures in
    drafted_put (slot_cell c.args.setting.slot) _ a (draft_of d) (counts_of d) (began_with d) (touched_of d) (written_of d) e.ok e.counts e.began e.touched e.written
    ∙ ap (λ z. put (slot_cell c.args.setting.slot) (held (int z)) a) (to_z-of_z w64 c.args.setting.integer (search rules))
