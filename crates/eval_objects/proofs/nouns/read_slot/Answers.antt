use Rattle.std.proofs.Common.{ap, ◌∙◌}
use Rattle.heap.specs.State.{State, slot_cell, read}
use Rattle.heap.specs.Drafts.{draft_of, counts_of, began_with, touched_of, written_of}
use Rattle.eval_rules.specs.Outcomes.{value}
use Rattle.eval_rules.specs.Rules.{held_end}
use Rattle.eval_rules.specs.View.{at}
use Rattle.eval_rules.proofs.Answering.{stop_to}
use Rattle.eval_objects.proofs.Drafted.{drafted_reached}
use Rattle.eval_objects.proofs.nouns.read_slot.Goals as goal

pub returns-in_ok-into-in-Some : goal.returns-in_ok-into-in-Some
returns-in_ok-into-in-Some c =
    let d = c.reach_slot.new.self in
    let e = c.in_ok-reach_slot.ensures in (
      ap value c.in_ok-into-in-Some.ensures ∙ ap (held_end c.args.name.now) (c.in-Some.ensures ∙ ap (λ (s : State). read s (slot_cell c.args.slot)) e.state),
      drafted_reached (slot_cell c.args.slot) (at c.args.w.now) (draft_of d) (counts_of d) (began_with d) (touched_of d) (written_of d) e.state e.counts e.began e.touched e.written,
    )

pub returns-in-None : goal.returns-in-None
returns-in-None c =
    let d = c.reach_slot.new.self in
    let e = c.in_ok-reach_slot.ensures in
    stop_to c.undefined.result c.undefined.new.w _ _ _ _ (ap (held_end c.args.name.now) (c.in-None.ensures ∙ ap (λ (s : State). read s (slot_cell c.args.slot)) e.state))
    (drafted_reached (slot_cell c.args.slot) (at c.args.w.now) (draft_of d) (counts_of d) (began_with d) (touched_of d) (written_of d) e.state e.counts e.began e.touched e.written) c.undefined.ensures
