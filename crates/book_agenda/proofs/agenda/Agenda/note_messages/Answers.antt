use Rattle.std.proofs.Common.{refl, ◌∙◌}
use Rattle.std.specs.Map.Iter.{deref_pair}
use Rattle.std.specs.Ordering.{is_eq}
use Rattle.std.proofs.lemmas.Map.Iter.{iter_end}
use Rattle.ids.specs.Cells.{message_cmp}
use Rattle.world_cells.specs.View.{world_of}
use Rattle.book_agenda.proofs.Noting.{no_places, more_places, told_places, one_more}
use Rattle.book_agenda.proofs.Noted.{all_messages}
use Rattle.book_agenda.proofs.agenda.Agenda.note_messages.Goals as goal

pub loop-name-init : goal.loop-name-init
loop-name-init c = no_places _ _ _ (λ m. refl)

pub loop-name-preserved : goal.loop-name-preserved
loop-name-preserved c = more_places _ _ _ _ _ _ _ c.loop-name.invariant c.in_ok-place.ensures (λ m. one_more (λ e. is_eq (message_cmp e.0.now m)) c.loop-name.yielded (c.in-Some.name, c.in-Some.field-0-1))

pub returns : goal.returns
returns c =
    let whole = (iter_end deref_pair c.in_ok-messages.messages.entries c.loop-name.yielded c.into_iter-name-iterator.result c.loop-name.name-iterator c.next.new.self c.next.result
    (c.into_iter-name-iterator.ensures.into_iter_gives ∙ c.iter-name-items.ensures.rest) c.loop-name.yielded_by c.in-None.is c.next.ensures.steps).0 in
    told_places _ _ _ _ _ c.loop-name.invariant (all_messages (world_of c.args.world.now) c.in_ok-messages.messages c.loop-name.yielded whole c.in_ok-messages.ensures)
