use Rattle.std.proofs.Common.{drop, ◌-◌, ◌*◌, ◌+◌, ◌≡◌, ◌++◌, length, false}
use Rattle.kernele.specs.Tree.{while_tree}
use Rattle.code.specs.Frames.{fits_all, only_names}
use Rattle.kernele_scopes.specs.Scope.{name_of}
use Rattle.eval_rules.specs.Fits.{fits_at, all_fit_at, frame_at, frame_behind}
use Rattle.code.specs.View.{tree_of_code, trees_of_codes}
use Rattle.values.specs.Data.{null}
use Rattle.values.specs.View.{val_of, vals_of}
use Rattle.eval_rules.specs.At.{At}
use Rattle.eval_rules.specs.Outcomes.{End, Gather}
use Rattle.eval_rules.specs.Rules.{Args, Each, Items, Runs}
use Rattle.eval_rules.specs.View.{at}
use Rattle.eval_rules.proofs.Steps.{after_values}
use Rattle.eval.specs.Escaping.{IsNewest}
use Rattle.eval.proofs.+evaluate.Given as goal

-- a level's rank: a node, its parts in order, a block of them, a block for each value, and the construct one level above
abbrev pub decreases-eval::eval : goal.decreases-eval::eval
decreases-eval::eval l = 9 * (1001 - l.level)

abbrev pub decreases-eval::eval_part : goal.decreases-eval::eval_part
decreases-eval::eval_part l = 9 * (1001 - l.level) + 1

abbrev pub decreases-eval::eval_item : goal.decreases-eval::eval_item
decreases-eval::eval_item l = 9 * (1001 - l.level) + 2

abbrev pub decreases-eval::eval_args : goal.decreases-eval::eval_args
decreases-eval::eval_args l = 9 * (1001 - l.level) + 2

abbrev pub decreases-eval::eval_items : goal.decreases-eval::eval_items
decreases-eval::eval_items l = 9 * (1001 - l.level) + 3

abbrev pub decreases-control::run_items : goal.decreases-control::run_items
decreases-control::run_items l = 9 * (1001 - l.level) + 4

abbrev pub decreases-control::run_block : goal.decreases-control::run_block
decreases-control::run_block l = 9 * (1001 - l.level) + 5

abbrev pub decreases-control::eval_block : goal.decreases-control::eval_block
decreases-control::eval_block l = 9 * (1001 - l.level) + 4

abbrev pub decreases-control::eval_taking : goal.decreases-control::eval_taking
decreases-control::eval_taking l = 9 * (1001 - l.level) + 4

abbrev pub decreases-control::eval_condition : goal.decreases-control::eval_condition
decreases-control::eval_condition l = 9 * (1001 - l.level) + 2

abbrev pub decreases-control::eval_any_condition : goal.decreases-control::eval_any_condition
decreases-control::eval_any_condition l = 9 * (1001 - l.level) + 1

abbrev pub decreases-calling::eval_returned : goal.decreases-calling::eval_returned
decreases-calling::eval_returned l = 9 * (1001 - l.level) + 2

abbrev pub decreases-calling::eval_returning : goal.decreases-calling::eval_returning
decreases-calling::eval_returning l = 9 * (1001 - l.level) + 3

abbrev pub decreases-calling::eval_naming : goal.decreases-calling::eval_naming
decreases-calling::eval_naming l = 9 * (1001 - l.level) + 4

abbrev pub decreases-calling::eval_method : goal.decreases-calling::eval_method
decreases-calling::eval_method l = 9 * (1001 - l.level) + 4

abbrev pub decreases-calling::eval_target : goal.decreases-calling::eval_target
decreases-calling::eval_target l = 9 * (1001 - l.level) + 4

abbrev pub decreases-calling::eval_call : goal.decreases-calling::eval_call
decreases-calling::eval_call l = 9 * (1000 - l.level) + 8

abbrev pub decreases-calling::eval_any_call : goal.decreases-calling::eval_any_call
decreases-calling::eval_any_call l = 9 * (1000 - l.level) + 7

abbrev pub decreases-calling::eval_other_call : goal.decreases-calling::eval_other_call
decreases-calling::eval_other_call l = 9 * (1000 - l.level) + 6

abbrev pub decreases-calling::eval_far_call : goal.decreases-calling::eval_far_call
decreases-calling::eval_far_call l = 9 * (1000 - l.level) + 5

abbrev pub decreases-calling::eval_escape : goal.decreases-calling::eval_escape
decreases-calling::eval_escape l = 9 * (1000 - l.level) + 6

abbrev pub decreases-eval::eval_right : goal.decreases-eval::eval_right
decreases-eval::eval_right l = 9 * (1000 - l.level) + 6

abbrev pub decreases-eval::eval_list : goal.decreases-eval::eval_list
decreases-eval::eval_list l = 9 * (1000 - l.level) + 6

abbrev pub decreases-eval::eval_same : goal.decreases-eval::eval_same
decreases-eval::eval_same l = 9 * (1000 - l.level) + 6

abbrev pub decreases-sending::eval_send : goal.decreases-sending::eval_send
decreases-sending::eval_send l = 9 * (1000 - l.level) + 6

abbrev pub decreases-sending::eval_when : goal.decreases-sending::eval_when
decreases-sending::eval_when l = 9 * (1000 - l.level) + 6

abbrev pub decreases-sending::eval_when_catch : goal.decreases-sending::eval_when_catch
decreases-sending::eval_when_catch l = 9 * (1000 - l.level) + 6

abbrev pub decreases-control::eval_if : goal.decreases-control::eval_if
decreases-control::eval_if l = 9 * (1000 - l.level) + 6

abbrev pub decreases-control::eval_while : goal.decreases-control::eval_while
decreases-control::eval_while l = 9 * (1000 - l.level) + 6

abbrev pub decreases-control::eval_for : goal.decreases-control::eval_for
decreases-control::eval_for l = 9 * (1000 - l.level) + 6

abbrev pub decreases-control::eval_try : goal.decreases-control::eval_try
decreases-control::eval_try l = 9 * (1000 - l.level) + 6

-- what the rest gives, after the values so far, is what all give, and it fits
abbrev pub invariant-eval::eval_args-loop-arg : goal.invariant-eval::eval_args-loop-arg
invariant-eval::eval_args-loop-arg l =
    ((g : Gather) (b : At) → Args l.level (trees_of_codes (drop l.arg-index l.args)) (at l.w) g b → Args l.level (trees_of_codes l.args) (at l.initial.w) (after_values (vals_of l.values.items) g) b)
    × all_fit_at (at l.w) (drop l.arg-index l.args)

-- what the rest gives, after the last value so far, is what all give, and it fits
abbrev pub invariant-eval::eval_items-loop-item : goal.invariant-eval::eval_items-loop-item
invariant-eval::eval_items-loop-item l =
    ((o : End) (b : At) → Items l.level (val_of l.into) (trees_of_codes (drop l.item-index l.items)) (at l.w) o b → Items l.level null (trees_of_codes l.items) (at l.initial.w) o b)
    × all_fit_at (at l.w) (drop l.item-index l.items)

-- the same of an Escape's block, whose Escape stays the innermost one
abbrev pub invariant-calling::eval_returning-loop-item : goal.invariant-calling::eval_returning-loop-item
invariant-calling::eval_returning-loop-item l =
    ((o : End) (b : At) → Items l.level (val_of l.into) (trees_of_codes (drop l.item-index l.items)) (at l.w) o b → Items l.level null (trees_of_codes l.items) (at l.initial.w) o b)
    × all_fit_at (at l.w) (drop l.item-index l.items)
    × IsNewest l.ejector (at l.w)

-- what the block does for the values that are left, is what it does for all, and it fits
abbrev pub invariant-control::eval_for-loop-value : goal.invariant-control::eval_for-loop-value
invariant-control::eval_for-loop-value l =
    ((o : End) (b : At) → Each (l.level + 1) l.pattern (trees_of_codes l.body.value.items) (vals_of (drop l.value-index l.value-items)) (at l.w) o b → Each (l.level + 1) l.pattern (trees_of_codes l.body.value.items) (vals_of l.value-items) (at l.initial.w) o b)
    × fits_all false (frame_at (at l.w) ++ only_names (name_of l.pattern)) l.body.value.items

-- what the rounds from here on give is what all give, and each round begins with as many names, which its parts fit
abbrev pub invariant-control::eval_while-rounds : goal.invariant-control::eval_while-rounds
invariant-control::eval_while-rounds l =
    ((o : End) (b : At) → Runs l.level (while_tree (tree_of_code l.condition.value) (trees_of_codes l.body.value.items)) (at l.w) o b → Runs l.level (while_tree (tree_of_code l.condition.value) (trees_of_codes l.body.value.items)) (at l.initial.w) o b) × (l.names ≡ length (at l.w).nouns)
    × (fits_at (at l.w) l.condition.value × fits_all false (frame_behind (at l.w) l.condition.value) l.body.value.items)

abbrev pub decreases-control::eval_while-rounds : goal.decreases-control::eval_while-rounds
decreases-control::eval_while-rounds l = l.w.steps
