use Rattle.std.proofs.Common.{◌∙◌}
use Rattle.std.specs.Map.Iter.{deref_pair}
use Rattle.std.specs.Ordering.{is_eq}
use Rattle.std.proofs.lemmas.Map.Iter.{iter_end}
use Rattle.ids.specs.Cells.{promise_cmp, vat_cmp}
use Rattle.heap.specs.View.{state_of}
use Rattle.world_cells.specs.View.{world_of}
use Rattle.book_agenda.proofs.Noting.{more_views, told_views, no_views, one_more_before}
use Rattle.book_agenda.proofs.Noted.{all_views, no_views_there}
use Rattle.book_agenda.proofs.agenda.Agenda.note_vat.Goals as goal

pub returns-in_default : goal.returns-in_default
returns-in_default c = no_views (world_of c.args.world.now) _ _ (no_views_there (world_of c.args.world.now) c.args.vat c.in_default.ensures.absent)

pub loop-promise-preserved : goal.loop-promise-preserved
loop-promise-preserved c = more_views _ _ _ _ _ _ _ c.loop-promise.invariant c.in_ok-note_view.ensures (λ p v. one_more_before (is_eq (vat_cmp c.args.vat v)) (λ e. is_eq (promise_cmp e.0.now p)) c.loop-promise.yielded _)

pub returns : goal.returns
returns c =
    let whole = (iter_end deref_pair c.in_ok-contents.contents.views.entries c.loop-promise.yielded c.into_iter-promise-iterator.result c.loop-promise.promise-iterator c.next.new.self c.next.result
    (c.into_iter-promise-iterator.ensures.into_iter_gives ∙ c.iter-promise-items.ensures.rest) c.loop-promise.yielded_by c.in-None.is c.next.ensures.steps).0 in
    told_views _ _ _ _ _ c.loop-promise.invariant
    (all_views (world_of c.args.world.now) c.args.vat (state_of c.in-Some.state.now) c.in_ok-contents.contents.views c.loop-promise.yielded whole c.in-Some.ensures.there c.in_ok-contents.ensures.views)
