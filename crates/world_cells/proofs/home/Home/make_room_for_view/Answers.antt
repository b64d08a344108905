use Rattle.std.proofs.Common.{sym, ap, ◌∙◌}
use Rattle.heap.specs.View.{seen_in}
use Rattle.world_cells.specs.Homes.{state_in, is_ready_in}
use Rattle.world_cells.proofs.Cells.{views_seen, views_kept}
use Rattle.world_cells.proofs.home.Home.make_room_for_view.Goals as goal

pub returns-clause-seen : goal.returns-clause-seen
returns-clause-seen c k = views_seen c.in-Own.own c.make_room.new.self c.make_room.ensures.seen k ∙ ap (λ h. seen_in (state_in h) k) (sym c.in-Own.is) ∙ c.make_own.ensures.seen k

pub returns-clause-ready : goal.returns-clause-ready
returns-clause-ready c k h = views_kept c.in-Own.own c.make_room.new.self c.make_room.ensures.kept k (sym (ap (λ s. is_ready_in s k) c.in-Own.is) ∙ c.make_own.ensures.ready k h)
