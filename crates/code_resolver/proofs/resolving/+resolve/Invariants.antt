use Rattle.std.proofs.Common.{◌≡◌, ◌*◌, ◌+◌, ◌++◌, List, drop}
use Rattle.kernele.specs.View.{tree_of, trees_of, methods_of}
use Rattle.kernele_scopes.specs.Scope.{nodes, nodes_in, nodes_of}
use Rattle.code.specs.Frames.{Frame}
use Rattle.code_resolver.specs.Resolves.{ResolvesAll, ResolvesMethods}
use Rattle.code.specs.declared.code.Code.{Code}
use Rattle.code.specs.declared.code.MethodCode.{MethodCode}
use Rattle.code_resolver.proofs.resolving.+resolve.Given as goal

-- the rank of a tree: its parts in order, a row of them, a block of them, methods, and the construct above them
abbrev pub decreases-resolve_expr : goal.decreases-resolve_expr
decreases-resolve_expr l = 6 * nodes (tree_of l.e.now)

abbrev pub decreases-resolve_part : goal.decreases-resolve_part
decreases-resolve_part l = 6 * nodes (tree_of l.e.now.value) + 1

abbrev pub decreases-resolve_row : goal.decreases-resolve_row
decreases-resolve_row l = 6 * nodes_in (trees_of l.row.now.value.items) + 2

abbrev pub decreases-resolve_block : goal.decreases-resolve_block
decreases-resolve_block l = 6 * nodes_in (trees_of l.body.now.value.items) + 3

abbrev pub decreases-resolve_bound_block : goal.decreases-resolve_bound_block
decreases-resolve_bound_block l = 6 * nodes_in (trees_of l.body.now.value.items) + 3

abbrev pub decreases-resolve_methods : goal.decreases-resolve_methods
decreases-resolve_methods l = 6 * nodes_of (methods_of l.methods.now) + 4

abbrev pub decreases-resolve_object : goal.decreases-resolve_object
decreases-resolve_object l = 6 * nodes_of (methods_of l.methods.now.value.items) + 5

abbrev pub decreases-resolve_right : goal.decreases-resolve_right
decreases-resolve_right l = 6 * nodes (tree_of l.right.now.value) + 5

abbrev pub decreases-resolve_call : goal.decreases-resolve_call
decreases-resolve_call l = 6 * (nodes (tree_of l.receiver.now.value) + nodes_in (trees_of l.args.now.value.items)) + 5

abbrev pub decreases-resolve_send : goal.decreases-resolve_send
decreases-resolve_send l = 6 * (nodes (tree_of l.receiver.now.value) + nodes_in (trees_of l.args.now.value.items)) + 5

abbrev pub decreases-resolve_same : goal.decreases-resolve_same
decreases-resolve_same l = 6 * (nodes (tree_of l.left.now.value) + nodes (tree_of l.right.now.value)) + 5

abbrev pub decreases-resolve_if : goal.decreases-resolve_if
decreases-resolve_if l = 6 * (nodes (tree_of l.condition.now.value) + nodes_in (trees_of l.first.now.value.items) + nodes_in (trees_of l.second.now.value.items)) + 5

abbrev pub decreases-resolve_while : goal.decreases-resolve_while
decreases-resolve_while l = 6 * (nodes (tree_of l.condition.now.value) + nodes_in (trees_of l.body.now.value.items)) + 5

abbrev pub decreases-resolve_for : goal.decreases-resolve_for
decreases-resolve_for l = 6 * (nodes (tree_of l.list.now.value) + nodes_in (trees_of l.body.now.value.items)) + 5

abbrev pub decreases-resolve_try : goal.decreases-resolve_try
decreases-resolve_try l = 6 * (nodes_in (trees_of l.body.now.value.items) + nodes_in (trees_of l.handler.now.value.items)) + 5

abbrev pub decreases-resolve_escape : goal.decreases-resolve_escape
decreases-resolve_escape l = 6 * nodes_in (trees_of l.body.now.value.items) + 5

abbrev pub decreases-resolve_when : goal.decreases-resolve_when
decreases-resolve_when l = 6 * (nodes (tree_of l.value.now.value) + nodes_in (trees_of l.body.now.value.items)) + 5

abbrev pub decreases-resolve_when_catch : goal.decreases-resolve_when_catch
decreases-resolve_when_catch l = 6 * (nodes (tree_of l.value.now.value) + nodes_in (trees_of l.body.now.value.items) + nodes_in (trees_of l.handler.now.value.items)) + 5

-- whatever the trees that are left give, the code so far and then it is what all give
abbrev pub invariant-resolve_row-loop-tree : goal.invariant-resolve_row-loop-tree
invariant-resolve_row-loop-tree l = (rest : List Code) (next : Frame) → ResolvesAll l.own_scope l.frame.items (trees_of (drop l.tree-index l.tree-items)) rest next
    → ResolvesAll l.own_scope l.initial.frame.items (trees_of l.tree-items) (l.codes.items ++ rest) next

-- the same of methods, which leave the frame as it is
abbrev pub invariant-resolve_methods-loop-method : goal.invariant-resolve_methods-loop-method
invariant-resolve_methods-loop-method l = record {
  stays : l.frame.items ≡ l.initial.frame.items;
  code : (rest : List MethodCode) → ResolvesMethods l.initial.frame.items (methods_of (drop l.method-index l.methods)) rest → ResolvesMethods l.initial.frame.items (methods_of l.methods) (l.codes.items ++ rest);
}
