-- What the program's trees stand for.
use Rattle.std.specs.Prelude.{List, [], ◌∷◌}
use Rattle.kernele.specs.Tree.{Tree, null_tree, bool_tree, int_tree, text_tree, noun, define, variable, assign, call, list_tree, same_tree, define_list, hide, if_tree, while_tree, for_tree, try_tree, primitive, object_tree, escape_tree, send, when_tree, when_catch_tree, new_promise, Trees, none, and_then, Methods, no_methods, and_method}
use Rattle.kernele.specs.declared.tree.Expr as code
use Rattle.kernele.specs.declared.tree.Expr.{Expr}
use Rattle.kernele.specs.declared.tree.Method.{Method}
use Rattle.kernele.specs.declared.tree.Block.{Block}
use Rattle.kernele.specs.declared.tree.Program.{Program}

abbrev mutual
  pub tree_of : Expr → Tree
  tree_of code.Null = null_tree
  tree_of (code.Bool b) = bool_tree b
  tree_of (code.Int z) = int_tree z
  tree_of (code.Text s) = text_tree s
  tree_of (code.Noun x) = noun x
  tree_of (code.Def' pattern p e) = define pattern (tree_of e)
  tree_of (code.Var' x p e) = variable x (tree_of e)
  tree_of (code.Assign' x p e) = assign x (tree_of e)
  tree_of (code.Call' p r verb q shape args) = call (tree_of r) verb (trees_of_row args)
  tree_of (code.List' p shape items) = list_tree (trees_of_row items)
  tree_of (code.Same' p l q r) = same_tree (tree_of l) (tree_of r)
  tree_of (code.DefList' patterns p e) = define_list patterns.value.items (tree_of e)
  tree_of (code.Hide' p shape body) = hide (trees_of_row body)
  tree_of (code.If' p c q shape first r shape2 second) = if_tree (tree_of c) (trees_of_row first) (trees_of_row second)
  tree_of (code.While' p c q shape body) = while_tree (tree_of c) (trees_of_row body)
  tree_of (code.For' pattern p e q shape body) = for_tree pattern (tree_of e) (trees_of_row body)
  tree_of (code.Try' p shape body pattern q shape2 handler) = try_tree (trees_of_row body) pattern (trees_of_row handler)
  tree_of (code.Primitive' q p e) = primitive q (tree_of e)
  tree_of (code.Object' pattern p shape ms) = object_tree pattern (methods_of_row ms)
  tree_of (code.Escape' x p shape body) = escape_tree x (trees_of_row body)
  tree_of (code.Send' p r verb q shape args) = send (tree_of r) verb (trees_of_row args)
  tree_of (code.When' p e q shape body) = when_tree (tree_of e) (trees_of_row body)
  tree_of (code.WhenCatch' p e q shape body pattern r shape2 handler) = when_catch_tree (tree_of e) (trees_of_row body) pattern (trees_of_row handler)
  tree_of code.NewPromise = new_promise

  pub trees_of_row : {n : _} → code.Row_of-Expr n → Trees
  trees_of_row code.end_of-Expr = none
  trees_of_row (code.more_of-Expr e rest) = and_then (tree_of e) (trees_of_row rest)

  pub methods_of_row : {n : _} → code.Row_of-Method n → Methods
  methods_of_row code.end_of-Method = no_methods
  methods_of_row (code.more_of-Method verb ps p shape body rest) = and_method verb ps.value.items (trees_of_row body) (methods_of_row rest)

-- a block, arguments, or the items of a list
abbrev pub trees_of : List Expr → Trees
trees_of [] = none
trees_of (e ∷ es) = and_then (tree_of e) (trees_of es)

-- the methods of an object
abbrev pub methods_of : List Method → Methods
methods_of [] = no_methods
methods_of (m ∷ ms) = and_method m.verb m.parameters.value.items (trees_of m.body.value.items) (methods_of ms)

abbrev pub block_of : Block → Trees
block_of b = trees_of b.0.value.items

abbrev pub program_of : Program → Trees
program_of p = block_of p.0
