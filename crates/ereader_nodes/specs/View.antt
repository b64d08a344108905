-- What methods and what a value is given to stand for.
use Rattle.kernele.specs.declared.tree.Method.{Method}
use Rattle.kernele.specs.View.{trees_of}
use Rattle.ereader_nodes.specs.declared.target.Target.{Target}
use Rattle.ereader_nodes.specs.declared.target.Target.TheVariants as target
use Rattle.ereader_nodes.specs.Nodes.{Place, definition, definitions, new_variable, assignment, MethodTree, method_tree}

-- the method that a method stands for
abbrev pub method_of : Method → MethodTree
method_of m = method_tree m.verb m.parameters.value.items (trees_of m.body.value.items)

-- what a value is given to
abbrev pub place_of : Target → Place
place_of (target.Definition p) = definition p
place_of (target.Definitions ps) = definitions ps.items
place_of (target.Variable x) = new_variable x
place_of (target.Assignment x) = assignment x
