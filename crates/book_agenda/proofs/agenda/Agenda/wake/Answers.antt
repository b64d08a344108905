use Rattle.std.proofs.Common.{refl, arith, ◌∙◌}
use Rattle.std.specs.Ordering.{is_eq}
use Rattle.std.proofs.lemmas.Iterator.Adapters.{YieldsList-from_vec}
use Rattle.std.proofs.lemmas.Iterator.Consumers.{YieldsList-end}
use Rattle.ids.specs.Cells.{message_cmp}
use Rattle.world_cells.specs.View.{world_of}
use Rattle.book_agenda.proofs.Noting.{no_places, more_places, told_places, one_more}
use Rattle.book_agenda.proofs.Noted.{seen_messages}
use Rattle.book_agenda.proofs.agenda.Agenda.wake.Goals as goal

pub loop-watcher-init : goal.loop-watcher-init
loop-watcher-init c = no_places _ _ _ (λ m. refl)

pub loop-watcher-preserved : goal.loop-watcher-preserved
loop-watcher-preserved c = more_places _ _ _ _ _ _ _ c.loop-watcher.invariant c.in_ok-place.ensures (λ m. one_more (λ n. is_eq (message_cmp n m)) c.loop-watcher.yielded c.in-Some.watcher)

pub returns : goal.returns
returns c =
    let gives = c.into_iter-watcher-iterator.ensures.into_iter_gives in
    let names = c.in_ok-watcher-items.watcher-items.items in
    let whole = (YieldsList-end (YieldsList-from_vec names gives.0 (omega (arith, gives.1, c.in_ok-watcher-items.watcher-items.ok.0))) c.loop-watcher.yielded c.loop-watcher.watcher-iterator c.loop-watcher.yielded_by c.next.result c.next.new.self c.in-None.is c.next.ensures.steps).0 in
    told_places (world_of c.args.world.now) _ _ _ _ c.loop-watcher.invariant (λ m. seen_messages c.loop-watcher.yielded names whole m ∙ c.in_ok-watcher-items.ensures m)
