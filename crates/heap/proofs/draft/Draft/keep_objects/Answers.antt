use Rattle.std.proofs.Common.{arith, sym, ◌∙◌}
use Rattle.heap.specs.Found.{touched_in, writes_in}
use Rattle.heap.proofs.Overlaid.{objects_none, no_objects_touched, empty_list, objects_kept, objects_set_kept}
use Rattle.heap.proofs.draft.Draft.keep_objects.Goals as goal

pub loop-object-preserved : goal.loop-object-preserved
loop-object-preserved c = record {
  touched = objects_set_kept c.args.event c.args.vat c.loop-object.objects.items c.pop.new.self.items c.in-Some.object (touched_in c.loop-object.base.footprint) (touched_in c.write_object.new.self.footprint) c.len-index.result c.in-Some.ensures.items (omega (arith, c.len-index.ensures, c.pop.new.self.ok)) c.in_ok-write_object.ensures.touched
      ∙ c.loop-object.invariant.touched;
  written = objects_kept c.args.event c.args.vat c.loop-object.objects.items c.pop.new.self.items c.in-Some.object (writes_in c.loop-object.base.footprint) (writes_in c.write_object.new.self.footprint) c.len-index.result c.in-Some.ensures.items (omega (arith, c.len-index.ensures, c.pop.new.self.ok)) c.in_ok-write_object.ensures.written
      ∙ c.loop-object.invariant.written;
  beneath = c.in_ok-write_object.ensures.beneath ∙ c.loop-object.invariant.beneath;
  numbered = omega (arith, c.loop-object.invariant.numbered, c.in-Some.ensures.len, c.loop-object.objects.ok, c.pop.new.self.ok);
}

pub returns-clause-touched : goal.returns-clause-touched
returns-clause-touched c =
    sym (no_objects_touched c.args.event c.args.vat c.loop-object.objects.items (touched_in c.loop-object.base.footprint) (empty_list c.loop-object.objects.items (omega (arith, c.in_default.ensures.cases.0, c.loop-object.objects.ok))))
    ∙ c.loop-object.invariant.touched

pub returns-clause-written : goal.returns-clause-written
returns-clause-written c =
    sym (objects_none c.args.event c.args.vat c.loop-object.objects.items (writes_in c.loop-object.base.footprint) (empty_list c.loop-object.objects.items (omega (arith, c.in_default.ensures.cases.0, c.loop-object.objects.ok))))
    ∙ c.loop-object.invariant.written
