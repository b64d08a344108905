use Rattle.std.proofs.Common.{◌+◌, ◌-◌, ◌*◌, drop, take, option_map}
use Rattle.values.specs.View.{vals_of}
use Rattle.refs.specs.Forms.{gathered}
use Rattle.refs.specs.Settling.{settle_at}
use Rattle.refs.proofs.Making.{IsSettled}
use Rattle.refs.proofs.settling.+settling.Given as goal

-- the items up to the index are settled
abbrev pub invariant-settle_list-loop-index : goal.invariant-settle_list-loop-index
invariant-settle_list-loop-index g l =
    IsSettled (settle_at (g.R.Resolve.resolutions l.map) (l.depth - 1)) (l.depth - 1) (l.left - 1) l.initial.through.items l.through.items (vals_of l.items) (vals_of (drop l.index l.items)) (gathered (vals_of (take l.index l.items)) (option_map (λ r. r.items) l.row)) l.rest

-- lists stand less deep each time
abbrev pub decreases-settle_at : goal.decreases-settle_at
decreases-settle_at g l = 3 * l.depth + 2

abbrev pub decreases-settle_end : goal.decreases-settle_end
decreases-settle_end g l = 3 * l.depth + 1

abbrev pub decreases-settle_list : goal.decreases-settle_list
decreases-settle_list g l = 3 * l.depth
