use Rattle.std.proofs.Common.{◌≡◌, ◌+◌, ◌*◌, ◌++◌, drop}
use Rattle.kernele.specs.View.{tree_of, trees_of, methods_of}
use Rattle.kernele_scopes.specs.Scope.{own_names_in, depth, depth_in, depth_of}
use Rattle.kernele_scopes.specs.Free.{free_in, free_of}
use Rattle.kernele_scopes.specs.Found.{with_all_new}
use Rattle.kernele_scopes.specs.Parts.{part_in, part_depth}
use Rattle.kernele_scopes.proofs.free.+free.Given as goal

-- what is found, and what the trees that are left give
abbrev pub invariant-find_in_all-loop-tree : goal.invariant-find_in_all-loop-tree
invariant-find_in_all-loop-tree l = record {
  inside : l.inside.items ++ own_names_in (trees_of (drop l.tree-index l.trees)) ≡ l.initial.inside.items ++ own_names_in (trees_of l.trees);
  found : with_all_new l.found.items (free_in (trees_of (drop l.tree-index l.trees)) l.inside.items) ≡ with_all_new l.initial.found.items (free_in (trees_of l.trees) l.initial.inside.items);
}

-- the same of methods
abbrev pub invariant-find_in_methods-loop-method : goal.invariant-find_in_methods-loop-method
invariant-find_in_methods-loop-method l = record {
  inside : l.inside.items ≡ l.initial.inside.items;
  found : with_all_new l.found.items (free_of (methods_of (drop l.method-index l.methods)) l.inside.items) ≡ with_all_new l.initial.found.items (free_of (methods_of l.methods) l.initial.inside.items);
}

-- how deep the trees are, and the order of the calls that go no deeper
abbrev pub decreases-find_in : goal.decreases-find_in
decreases-find_in l = 5 * depth (tree_of l.e.now)

abbrev pub decreases-find_in_all : goal.decreases-find_in_all
decreases-find_in_all l = 5 * depth_in (trees_of l.trees.now) + 1

abbrev pub decreases-find_in_block : goal.decreases-find_in_block
decreases-find_in_block l = 5 * depth_in (trees_of l.body.now) + 2

abbrev pub decreases-find_in_methods : goal.decreases-find_in_methods
decreases-find_in_methods l = 5 * depth_of (methods_of l.methods.now) + 3

abbrev pub decreases-find_in_part : goal.decreases-find_in_part
decreases-find_in_part l = 5 * part_depth (part_in l.part) + 4
