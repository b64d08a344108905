use Rattle.std.proofs.Common.{◌≡◌, ◌+◌, ◌*◌, [], drop, take, map, length, ◌-◌}
use Rattle.kernele.specs.View.{tree_of, trees_of, methods_of}
use Rattle.kernele_scopes.specs.Scope.{checked_all, checked_methods, depth, depth_in, depth_of}
use Rattle.kernele_scopes.specs.Check.{scopes_in, signature_of}
use Rattle.kernele_scopes.specs.Parts.{part_in, part_depth}
use Rattle.kernele_scopes.proofs.checking.+check.Given as goal

-- what the trees that are left give here is what all give
abbrev pub invariant-check_all-loop-tree : goal.invariant-check_all-loop-tree
invariant-check_all-loop-tree l = checked_all (trees_of l.trees) (scopes_in l.initial.scopes) ≡ checked_all (trees_of (drop l.tree-index l.trees)) (scopes_in l.scopes)

-- what the methods that are left give behind those before them is what all give
abbrev pub invariant-check_methods-loop-index : goal.invariant-check_methods-loop-index
invariant-check_methods-loop-index l = checked_methods [] (methods_of l.methods) (scopes_in l.scopes) ≡ checked_methods (map signature_of (take l.index l.methods)) (methods_of (drop l.index l.methods)) (scopes_in l.scopes)

abbrev pub decreases-check_methods-loop-index : goal.decreases-check_methods-loop-index
decreases-check_methods-loop-index l = length l.methods - l.index

-- how deep the trees are, and the order of the calls that go no deeper
abbrev pub decreases-check_expr : goal.decreases-check_expr
decreases-check_expr l = 5 * depth (tree_of l.e.now)

abbrev pub decreases-check_all : goal.decreases-check_all
decreases-check_all l = 5 * depth_in (trees_of l.trees.now) + 1

abbrev pub decreases-check_block : goal.decreases-check_block
decreases-check_block l = 5 * depth_in (trees_of l.body.now) + 2

abbrev pub decreases-check_methods : goal.decreases-check_methods
decreases-check_methods l = 5 * depth_of (methods_of l.methods.now) + 3

abbrev pub decreases-check_part : goal.decreases-check_part
decreases-check_part l = 5 * part_depth (part_in l.part) + 4
