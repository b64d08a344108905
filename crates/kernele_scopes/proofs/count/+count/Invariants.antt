use Rattle.std.proofs.Common.{◌≡◌, ◌+◌, ◌*◌, drop}
use Rattle.kernele.specs.View.{tree_of, trees_of, methods_of}
use Rattle.kernele_scopes.specs.Scope.{nodes_in, nodes_of, depth, depth_in, depth_of}
use Rattle.kernele_scopes.specs.Parts.{part_in, part_depth}
use Rattle.kernele_scopes.specs.Room.{room_behind}
use Rattle.kernele_scopes.proofs.count.+count.Given as goal

-- what the trees that are left leave is what all leave
abbrev pub invariant-behind_all-loop-tree : goal.invariant-behind_all-loop-tree
invariant-behind_all-loop-tree l =
    room_behind l.levels l.room (nodes_in (trees_of (drop l.tree-index l.trees))) (depth_in (trees_of (drop l.tree-index l.trees)))
    ≡ room_behind l.levels l.initial.room (nodes_in (trees_of l.trees)) (depth_in (trees_of l.trees))

-- the same of methods
abbrev pub invariant-behind_methods-loop-method : goal.invariant-behind_methods-loop-method
invariant-behind_methods-loop-method l =
    room_behind l.levels l.room (nodes_of (methods_of (drop l.method-index l.methods))) (depth_of (methods_of (drop l.method-index l.methods)))
    ≡ room_behind l.levels l.initial.room (nodes_of (methods_of l.methods)) (depth_of (methods_of l.methods))

-- how deep the trees are, and the order of the calls that go no deeper
abbrev pub decreases-behind_tree : goal.decreases-behind_tree
decreases-behind_tree l = 4 * depth (tree_of l.e.now)

abbrev pub decreases-behind_all : goal.decreases-behind_all
decreases-behind_all l = 4 * depth_in (trees_of l.trees.now) + 1

abbrev pub decreases-behind_methods : goal.decreases-behind_methods
decreases-behind_methods l = 4 * depth_of (methods_of l.methods.now) + 2

abbrev pub decreases-behind_part : goal.decreases-behind_part
decreases-behind_part l = 4 * part_depth (part_in l.part) + 3
