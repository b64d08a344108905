use Rattle.std.proofs.Common.{ap, sym, ◌∙◌}
use Rattle.code.specs.Frames.{place_in}
use Rattle.eval_rules.specs.Rules.{slot_in, assigned_end}
use Rattle.eval_rules.specs.Outcomes.{value}
use Rattle.eval_rules.specs.View.{at}
use Rattle.heap.specs.State.{slot_cell, held}
use Rattle.heap.specs.Drafts.{draft_of, counts_of, began_with, touched_of, written_of}
use Rattle.values.specs.View.{val_of}
use Rattle.eval_objects.proofs.Drafted.{drafted_put}
use Rattle.eval_rules.proofs.Answering.{stop_to}
use Rattle.eval_rules.proofs.Scopes.{assigned_there, assigned_nowhere}
use Rattle.eval_rules.proofs.Seeking.{sought_again, frame_again}
use Rattle.eval_objects.proofs.nouns.assign.Goals as goal

pub seek_slot-requires : goal.seek_slot-requires
seek_slot-requires c = c.requires ∙ sym (ap (λ f. place_in f c.args.name.now) (frame_again c.args.name.now (at c.args.w.now) (at c.reach_name.new.w) c.in_ok-reach_name.ensures))

pub returns-in_ok-write_slot-in-Some : goal.returns-in_ok-write_slot-in-Some
returns-in_ok-write_slot-in-Some c =
    let x = c.args.name.now in
    let a = at c.args.w.now in
    let b = at c.reach_name.new.w in
    let d = c.write_slot.new.self in
    let e = c.in_ok-write_slot-in-Some.ensures in
    let is = sym (ap slot_in (sought_again x a b c.in_ok-reach_name.ensures)) ∙ sym c.seek_slot.ensures ∙ c.in-Some.is in (
      sym (ap (assigned_end x (value (val_of c.args.value.now))) is),
      assigned_there x (val_of c.args.value.now) _ c.in-Some.slot a b _ is c.in_ok-reach_name.ensures
          (drafted_put (slot_cell c.in-Some.slot) (held (val_of c.in_ok-share-in-Some.field-0)) b (draft_of d) (counts_of d) (began_with d) (touched_of d) (written_of d) e.ok e.counts e.began e.touched e.written) c.in_ok-share-in-Some.ensures,
    )

pub returns-in-None : goal.returns-in-None
returns-in-None c =
    let x = c.args.name.now in
    let a = at c.args.w.now in
    let b = at c.reach_name.new.w in
    let none = sym (ap slot_in (sought_again x a b c.in_ok-reach_name.ensures)) ∙ sym c.seek_slot.ensures ∙ c.in-None.is in
    stop_to c.undefined.result c.undefined.new.w _ _ _ _ (sym (ap (assigned_end x (value (val_of c.args.value.now))) none)) (assigned_nowhere x (val_of c.args.value.now) a b none c.in_ok-reach_name.ensures) c.undefined.ensures
