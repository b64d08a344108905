-- What a value is given to, and what methods are, as trees.
use Rattle.std.specs.Prelude.{List}
use Rattle.kernele.specs.declared.tree.Pattern.{Pattern}
use Rattle.kernele.specs.Tree.{Name, Tree, define, variable, assign, define_list, Trees}

-- what a value is given to: what a definition binds, the items of a list that a definition binds, a new variable, a name
-- that is assigned
pub data Place : Type 0 where
  definition : (p : Pattern) → Place
  definitions : (ps : List Pattern) → Place
  new_variable : (x : Name) → Place
  assignment : (x : Name) → Place

-- the tree of a value and what it is given to
abbrev pub given : Place → Tree → Tree
given (definition p) t = define p t
given (definitions ps) t = define_list ps t
given (new_variable x) t = variable x t
given (assignment x) t = assign x t

-- a method: its verb, what its parameters bind, and its block
pub data MethodTree : Type 0 where
  method_tree : (verb : Name) → (ps : List Pattern) → (body : Trees) → MethodTree
