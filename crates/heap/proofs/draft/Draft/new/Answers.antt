use Rattle.std.proofs.Common.{◌∙◌}
use Rattle.heap.specs.Found.{touched_in, writes_in}
use Rattle.heap.specs.Reaches.{state_in}
use Rattle.heap.specs.Drafts.{with_slots, and_slots}
use Rattle.heap.proofs.Overlaid.{slots_none, objects_none, no_slots_touched, no_objects_touched, same_set}
use Rattle.heap.proofs.draft.Draft.new.Goals as goal

pub returns-clause-state : goal.returns-clause-state
returns-clause-state c =
    objects_none c.args.event c.args.vat c.new-3.result.items (with_slots c.args.event c.args.vat c.new-2.result.items (state_in c.new.result)) c.new-3.ensures.items
    ∙ slots_none c.args.event c.args.vat c.new-2.result.items (state_in c.new.result) c.new-2.ensures.items
    ∙ c.new.ensures.state

pub returns-clause-touched : goal.returns-clause-touched
returns-clause-touched c =
    no_objects_touched c.args.event c.args.vat c.new-3.result.items (and_slots c.args.event c.args.vat c.new-2.result.items (touched_in c.new.result.footprint)) c.new-3.ensures.items
    ∙ no_slots_touched c.args.event c.args.vat c.new-2.result.items (touched_in c.new.result.footprint) c.new-2.ensures.items
    ∙ c.new.ensures.touched

pub returns-clause-written : goal.returns-clause-written
returns-clause-written c =
    same_set _ _ (
    objects_none c.args.event c.args.vat c.new-3.result.items (with_slots c.args.event c.args.vat c.new-2.result.items (writes_in c.new.result.footprint)) c.new-3.ensures.items
    ∙ slots_none c.args.event c.args.vat c.new-2.result.items (writes_in c.new.result.footprint) c.new-2.ensures.items
    ∙ c.new.ensures.written)
