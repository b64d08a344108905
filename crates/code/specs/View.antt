-- What resolved code stands for: the tree that it was made from.
use Rattle.std.specs.Prelude.{List, [], ◌∷◌}
use Rattle.kernele.specs.Tree.{Tree, null_tree, bool_tree, int_tree, text_tree, noun, define, variable, assign, call, list_tree, same_tree, define_list, hide, if_tree, while_tree, for_tree, try_tree, primitive, object_tree, escape_tree, send, when_tree, when_catch_tree, new_promise, Trees, none, and_then, Methods, no_methods, and_method}
use Rattle.code.specs.declared.code.Code as code
use Rattle.code.specs.declared.code.Code.{Code}
use Rattle.code.specs.declared.code.MethodCode.{MethodCode}

abbrev mutual
  pub tree_of_code : Code → Tree
  tree_of_code code.Null = null_tree
  tree_of_code (code.Bool b) = bool_tree b
  tree_of_code (code.Int z) = int_tree z
  tree_of_code (code.Text s) = text_tree s
  tree_of_code (code.Noun x place) = noun x
  tree_of_code (code.Def' pattern p e) = define pattern (tree_of_code e)
  tree_of_code (code.Var' x p e) = variable x (tree_of_code e)
  tree_of_code (code.Assign' x place p e) = assign x (tree_of_code e)
  tree_of_code (code.Call' p r verb q shape args) = call (tree_of_code r) verb (trees_of_code_row args)
  tree_of_code (code.List' p shape items) = list_tree (trees_of_code_row items)
  tree_of_code (code.Same' p l q r) = same_tree (tree_of_code l) (tree_of_code r)
  tree_of_code (code.DefList' patterns p e) = define_list patterns.value.items (tree_of_code e)
  tree_of_code (code.Hide' p shape body) = hide (trees_of_code_row body)
  tree_of_code (code.If' p c q shape first r shape2 second) = if_tree (tree_of_code c) (trees_of_code_row first) (trees_of_code_row second)
  tree_of_code (code.While' p c q shape body) = while_tree (tree_of_code c) (trees_of_code_row body)
  tree_of_code (code.For' pattern p e q shape body) = for_tree pattern (tree_of_code e) (trees_of_code_row body)
  tree_of_code (code.Try' p shape body pattern q shape2 handler) = try_tree (trees_of_code_row body) pattern (trees_of_code_row handler)
  tree_of_code (code.Primitive' q p e) = primitive q (tree_of_code e)
  tree_of_code (code.Object' pattern captured p shape ms index) = object_tree pattern (methods_of_code_row ms)
  tree_of_code (code.Escape' x p shape body) = escape_tree x (trees_of_code_row body)
  tree_of_code (code.Send' p r verb q shape args) = send (tree_of_code r) verb (trees_of_code_row args)
  tree_of_code (code.When' p e captured q shape body) = when_tree (tree_of_code e) (trees_of_code_row body)
  tree_of_code (code.WhenCatch' p e captured q shape body pattern r shape2 handler) = when_catch_tree (tree_of_code e) (trees_of_code_row body) pattern (trees_of_code_row handler)
  tree_of_code code.NewPromise = new_promise

  pub trees_of_code_row : {n : _} → code.Row_of-Code n → Trees
  trees_of_code_row code.end_of-Code = none
  trees_of_code_row (code.more_of-Code e rest) = and_then (tree_of_code e) (trees_of_code_row rest)

  pub methods_of_code_row : {n : _} → code.Row_of-MethodCode n → Methods
  methods_of_code_row code.end_of-MethodCode = no_methods
  methods_of_code_row (code.more_of-MethodCode verb ps p shape body rest) = and_method verb ps.value.items (trees_of_code_row body) (methods_of_code_row rest)

-- a block, arguments, or the items of a list
abbrev pub trees_of_codes : List Code → Trees
trees_of_codes [] = none
trees_of_codes (e ∷ es) = and_then (tree_of_code e) (trees_of_codes es)

-- the methods of an object
abbrev pub methods_of_codes : List MethodCode → Methods
methods_of_codes [] = no_methods
methods_of_codes (m ∷ ms) = and_method m.verb m.parameters.value.items (trees_of_codes m.body.value.items) (methods_of_codes ms)
