use denote.Shadow.{shadow}
use denote.Text.{Utf8}
use Rattle.std.proofs.Common.{◌≡◌, ◌+◌, ◌*◌, ◌++◌, drop, string_bytes}
use Rattle.values.specs.Limits.{weight, weights}
use Rattle.values.specs.Shown.{shown_items}
use Rattle.values.specs.View.{val_of, vals_of}
use Rattle.values.proofs.ShownItems.{shown_after}
use Rattle.values.proofs.showing.+showing.Given as goal

-- what is written, and the other items
abbrev pub invariant-write_list-loop-item : goal.invariant-write_list-loop-item
invariant-write_list-loop-item l = (string_bytes l.out ++ shown_after l.separator (vals_of (drop l.item-index l.items)) ≡ string_bytes l.initial.out ++ shown_items (vals_of l.items)) × shadow (Utf8 l.separator)

-- what is left to write, by its weight
abbrev pub decreases-write_value : goal.decreases-write_value
decreases-write_value l = 2 * weight (val_of l.value.now)

abbrev pub decreases-write_list : goal.decreases-write_list
decreases-write_list l = 2 * weights (vals_of l.items.now) + 1
