use Rattle.std.proofs.Common.{cond, sym, ap, ◌∙◌}
use Rattle.heap.specs.State.{fence_cell, fenced, same_cell}
use Rattle.heap.specs.View.{seen_in, told}
use Rattle.world_cells.specs.Homes.{state_in, is_ready_in}
use Rattle.world_cells.proofs.Cells.{fence_exchanged, fences_room}
use Rattle.world_cells.proofs.home.Home.swap_fence.Goals as goal

pub returns-clause-seen : goal.returns-clause-seen
returns-clause-seen c k =
    fence_exchanged c.in-Own.own c.swap_record.new.self _ (c.args.kept.now.content, c.args.kept.now.writer) c.swap_record.ensures.seen k
    ∙ ap (λ h. cond (same_cell (fence_cell c.args.kept.now.key) k) (told fenced (c.args.kept.now.content, c.args.kept.now.writer)) (seen_in (state_in h) k)) (sym c.in-Own.is)

pub returns-clause-ready : goal.returns-clause-ready
returns-clause-ready c k = fences_room c.in-Own.own c.swap_record.new.self c.swap_record.ensures.room k ∙ ap (λ h. is_ready_in h k) (sym c.in-Own.is)
