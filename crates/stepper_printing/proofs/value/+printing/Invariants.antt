use denote.Shadow.{shadow}
use denote.Text.{Utf8}
use Rattle.std.proofs.Common.{◌+◌, ◌*◌, drop}
use Rattle.values.specs.Limits.{weight, weights}
use Rattle.values.specs.Shown.{shown_items}
use Rattle.values.specs.View.{val_of, vals_of}
use Rattle.values.proofs.ShownItems.{shown_after}
use Rattle.stepper_streams.proofs.Giving.{LeadsTo}
use Rattle.stepper_printing.proofs.value.+printing.Given as goal

-- what may be put of the items that are left leads to all
abbrev pub invariant-put_list-loop-item : goal.invariant-put_list-loop-item
invariant-put_list-loop-item g l = LeadsTo g.W.Write.contents l.initial.out l.out (shown_after l.separator (vals_of (drop l.item-index l.items))) (shown_items (vals_of l.items)) × shadow (Utf8 l.separator)

-- what is left to put, by its weight
abbrev pub decreases-put_value : goal.decreases-put_value
decreases-put_value g l = 2 * weight (val_of l.value.now)

abbrev pub decreases-put_list : goal.decreases-put_list
decreases-put_list g l = 2 * weights (vals_of l.items.now) + 1
