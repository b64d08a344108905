use Rattle.std.proofs.Common.{◌≡◌, ◌+◌, ◌*◌, drop}
use Rattle.kernele_scopes.specs.Scope.{nodes, nodes_in, nodes_of}
use Rattle.code.specs.View.{tree_of_code, trees_of_codes, methods_of_codes}
use Rattle.code_unresolver.proofs.Rows.{before, methods_before}
use Rattle.code_unresolver.proofs.unresolving.+unresolve.Given as goal

-- the trees so far, and what the code that is left was made from
abbrev pub invariant-tree_row-loop-code : goal.invariant-tree_row-loop-code
invariant-tree_row-loop-code l = before l.trees.items (trees_of_codes (drop l.code-index l.code-items)) ≡ trees_of_codes l.code-items

-- the same of methods
abbrev pub invariant-method_trees-loop-method : goal.invariant-method_trees-loop-method
invariant-method_trees-loop-method l = methods_before l.trees.items (methods_of_codes (drop l.method-index l.methods)) ≡ methods_of_codes l.methods

-- the rank of code: its parts in order, a row of them, methods, and the construct above them
abbrev pub decreases-whole : goal.decreases-whole
decreases-whole l = 6 * nodes (tree_of_code l.code.now)

abbrev pub decreases-part : goal.decreases-part
decreases-part l = 6 * nodes (tree_of_code l.code.now.value) + 1

abbrev pub decreases-tree_row : goal.decreases-tree_row
decreases-tree_row l = 6 * nodes_in (trees_of_codes l.row.now.value.items) + 2

abbrev pub decreases-method_trees : goal.decreases-method_trees
decreases-method_trees l = 6 * nodes_of (methods_of_codes l.methods.now) + 4

abbrev pub decreases-defined_list : goal.decreases-defined_list
decreases-defined_list l = 6 * nodes (tree_of_code l.list.now.value) + 5

abbrev pub decreases-called : goal.decreases-called
decreases-called l = 6 * (nodes (tree_of_code l.receiver.now.value) + nodes_in (trees_of_codes l.args.now.value.items)) + 5

abbrev pub decreases-sent : goal.decreases-sent
decreases-sent l = 6 * (nodes (tree_of_code l.receiver.now.value) + nodes_in (trees_of_codes l.args.now.value.items)) + 5

abbrev pub decreases-compared : goal.decreases-compared
decreases-compared l = 6 * (nodes (tree_of_code l.left.now.value) + nodes (tree_of_code l.right.now.value)) + 5

abbrev pub decreases-chosen : goal.decreases-chosen
decreases-chosen l = 6 * (nodes (tree_of_code l.condition.now.value) + nodes_in (trees_of_codes l.first.now.value.items) + nodes_in (trees_of_codes l.second.now.value.items)) + 5

abbrev pub decreases-repeated : goal.decreases-repeated
decreases-repeated l = 6 * (nodes (tree_of_code l.condition.now.value) + nodes_in (trees_of_codes l.body.now.value.items)) + 5

abbrev pub decreases-walked : goal.decreases-walked
decreases-walked l = 6 * (nodes (tree_of_code l.list.now.value) + nodes_in (trees_of_codes l.body.now.value.items)) + 5

abbrev pub decreases-tried : goal.decreases-tried
decreases-tried l = 6 * (nodes_in (trees_of_codes l.body.now.value.items) + nodes_in (trees_of_codes l.handler.now.value.items)) + 5

abbrev pub decreases-made : goal.decreases-made
decreases-made l = 6 * nodes_of (methods_of_codes l.methods.now.value.items) + 5

abbrev pub decreases-escaped : goal.decreases-escaped
decreases-escaped l = 6 * nodes_in (trees_of_codes l.body.now.value.items) + 5

abbrev pub decreases-awaited : goal.decreases-awaited
decreases-awaited l = 6 * (nodes (tree_of_code l.value.now.value) + nodes_in (trees_of_codes l.body.now.value.items)) + 5

abbrev pub decreases-caught : goal.decreases-caught
decreases-caught l = 6 * (nodes (tree_of_code l.value.now.value) + nodes_in (trees_of_codes l.body.now.value.items) + nodes_in (trees_of_codes l.handler.now.value.items)) + 5
