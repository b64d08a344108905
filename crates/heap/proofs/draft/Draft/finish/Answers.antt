use Rattle.std.proofs.Common.{ap, subst, ◌∙◌}
use Rattle.std.specs.Arc.{arc_value}
use Rattle.heap.specs.View.{state_of}
use Rattle.heap.specs.Found.{Found, touched_in, writes_in}
use Rattle.heap.specs.Drafts.{with_objects, and_objects}
use Rattle.heap.proofs.draft.Draft.finish.Goals as goal

pub returns-clause-touched : goal.returns-clause-touched
returns-clause-touched c = rw (← c.self.view_is) (
    ap touched_in c.into_footprint.ensures.same ∙ c.in_ok-keep_objects.ensures.touched
    ∙ ap (and_objects c.self.inside.event c.self.inside.vat c.self.inside.objects.items) c.in_ok-keep_slots.ensures.touched)

pub returns-clause-written : goal.returns-clause-written
returns-clause-written c = rw (← c.self.view_is) (
    ap writes_in c.into_footprint.ensures.same ∙ c.in_ok-keep_objects.ensures.written
    ∙ ap (with_objects c.self.inside.event c.self.inside.vat c.self.inside.objects.items) c.in_ok-keep_slots.ensures.written)

pub returns-clause-found : goal.returns-clause-found
returns-clause-found c = rw (← c.self.view_is) (subst (λ a. Found c.into_footprint.result (state_of (arc_value a))) (c.in_ok-keep_objects.ensures.beneath ∙ c.in_ok-keep_slots.ensures.beneath) c.into_footprint.ensures.found)
