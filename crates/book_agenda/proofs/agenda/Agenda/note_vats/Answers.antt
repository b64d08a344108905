use Rattle.std.proofs.Common.{◌&&◌, is_some, ap, arith, ◌∙◌}
use Rattle.std.proofs.lemmas.Iterator.Adapters.{YieldsList-from_vec}
use Rattle.std.proofs.lemmas.Iterator.Consumers.{YieldsList-end}
use Rattle.heap.specs.State.{view_cell}
use Rattle.world_cells.specs.View.{world_of}
use Rattle.world_cells.specs.World.{vat_state}
use Rattle.book_agenda.proofs.Noting.{told_views}
use Rattle.book_agenda.proofs.Noted.{seen_all, all_vats}
use Rattle.book_agenda.proofs.agenda.Agenda.note_vats.Goals as goal

pub returns : goal.returns
returns c =
    let gives = c.into_iter-vat-iterator.ensures.into_iter_gives in
    let vats = c.in_ok-vat-items.vat-items.items in
    let whole = (YieldsList-end (YieldsList-from_vec vats gives.0 (omega (arith, gives.1, c.in_ok-vat-items.vat-items.ok.0))) c.loop-vat.yielded c.loop-vat.vat-iterator c.loop-vat.yielded_by c.next.result c.next.new.self c.in-None.is c.next.ensures.steps).0 in
    told_views _ _ _ _ _ c.loop-vat.invariant
    (λ p v. ap (λ b. b && is_some (vat_state (world_of c.args.world.now) v (view_cell p))) (seen_all c.loop-vat.yielded vats whole v) ∙ all_vats (world_of c.args.world.now) vats c.in_ok-vat-items.ensures p v)
