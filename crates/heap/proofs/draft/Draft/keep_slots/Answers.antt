use Rattle.std.proofs.Common.{arith, sym, ◌∙◌}
use Rattle.heap.specs.Found.{touched_in, writes_in}
use Rattle.heap.proofs.Overlaid.{slots_none, no_slots_touched, empty_list, slots_kept, slots_set_kept}
use Rattle.heap.proofs.draft.Draft.keep_slots.Goals as goal

pub loop-value-preserved : goal.loop-value-preserved
loop-value-preserved c = record {
  touched = slots_set_kept c.args.event c.args.vat c.loop-value.slots.items c.pop.new.self.items c.in-Some.value (touched_in c.loop-value.base.footprint) (touched_in c.write_slot.new.self.footprint) c.len-index.result c.in-Some.ensures.items (omega (arith, c.len-index.ensures, c.pop.new.self.ok)) c.in_ok-write_slot.ensures.touched
      ∙ c.loop-value.invariant.touched;
  written = slots_kept c.args.event c.args.vat c.loop-value.slots.items c.pop.new.self.items c.in-Some.value (writes_in c.loop-value.base.footprint) (writes_in c.write_slot.new.self.footprint) c.len-index.result c.in-Some.ensures.items (omega (arith, c.len-index.ensures, c.pop.new.self.ok)) c.in_ok-write_slot.ensures.written
      ∙ c.loop-value.invariant.written;
  beneath = c.in_ok-write_slot.ensures.beneath ∙ c.loop-value.invariant.beneath;
  numbered = omega (arith, c.loop-value.invariant.numbered, c.in-Some.ensures.len, c.loop-value.slots.ok, c.pop.new.self.ok);
}

pub returns-clause-touched : goal.returns-clause-touched
returns-clause-touched c =
    sym (no_slots_touched c.args.event c.args.vat c.loop-value.slots.items (touched_in c.loop-value.base.footprint) (empty_list c.loop-value.slots.items (omega (arith, c.in_default.ensures.cases.0, c.loop-value.slots.ok))))
    ∙ c.loop-value.invariant.touched

pub returns-clause-written : goal.returns-clause-written
returns-clause-written c =
    sym (slots_none c.args.event c.args.vat c.loop-value.slots.items (writes_in c.loop-value.base.footprint) (empty_list c.loop-value.slots.items (omega (arith, c.in_default.ensures.cases.0, c.loop-value.slots.ok))))
    ∙ c.loop-value.invariant.written
