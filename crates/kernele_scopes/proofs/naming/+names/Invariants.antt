use Rattle.std.proofs.Common.{◌≡◌, ◌+◌, ◌*◌, ◌++◌, drop}
use Rattle.kernele.specs.View.{tree_of, trees_of}
use Rattle.kernele_scopes.specs.Scope.{own_names_in, depth, depth_in}
use Rattle.kernele_scopes.specs.Parts.{part_in, part_depth}
use Rattle.kernele_scopes.proofs.naming.+names.Given as goal

-- the names so far, and those of the trees that are left
abbrev pub invariant-add_all_names-loop-tree : goal.invariant-add_all_names-loop-tree
invariant-add_all_names-loop-tree l = l.names.items ++ own_names_in (trees_of (drop l.tree-index l.trees)) ≡ l.initial.names.items ++ own_names_in (trees_of l.trees)

-- how deep the trees are, and the order of the calls that go no deeper
abbrev pub decreases-add_names : goal.decreases-add_names
decreases-add_names l = 3 * depth (tree_of l.e.now)

abbrev pub decreases-add_all_names : goal.decreases-add_all_names
decreases-add_all_names l = 3 * depth_in (trees_of l.trees.now) + 1

abbrev pub decreases-add_part_names : goal.decreases-add_part_names
decreases-add_part_names l = 3 * part_depth (part_in l.part) + 2
