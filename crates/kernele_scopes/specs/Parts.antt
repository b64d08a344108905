-- What a construct does to names, part after part, in the order in which it is evaluated.
use Rattle.std.specs.Prelude.{ℕ, List, [], ◌∷◌, ◌++◌, Ok}
use Rattle.kernele.specs.Tree.{Name, Tree, null_tree, bool_tree, int_tree, text_tree, noun, define, variable, assign, call, list_tree, same_tree, define_list, hide, if_tree, while_tree, for_tree, try_tree, primitive, object_tree, escape_tree, send, when_tree, when_catch_tree, new_promise, Trees, Methods}
use Rattle.kernele.specs.View.{tree_of, trees_of, methods_of}
use Rattle.kernele.specs.declared.tree.Pattern.{Pattern}
use Rattle.kernele_scopes.specs.Scope.{Scopes, Checked, in_turn, in_block, found, assigned, added, bound, all_bound, checked, checked_all, checked_methods, defined_name, variable_name, name_of, names_of_all, own_names, own_names_in, nodes, nodes_in, nodes_of, depth, depth_in, depth_of}
use Rattle.kernele_scopes.specs.Free.{free, free_in, free_of, occurring}
use Rattle.kernele_scopes.specs.declared.naming.TopName.{TopName}
use Rattle.kernele_scopes.specs.declared.parts.AddedNames.{AddedNames as CodeBinding}
use Rattle.kernele_scopes.specs.declared.parts.AddedNames.TheVariants as binding
use Rattle.kernele_scopes.specs.declared.parts.NamePart.{NamePart as CodePart}
use Rattle.kernele_scopes.specs.declared.parts.NamePart.TheVariants as code

-- the names that a part adds to a scope
pub data AddedNames : Type 0 where
  no_names_bound : AddedNames
  definition_bound : (x : Name) → AddedNames
  variable_bound : (x : Name) → AddedNames
  pattern_bound : (p : Pattern) → AddedNames
  patterns_bound : (ps : List Pattern) → AddedNames

-- what a part of a construct does to names
pub data NamePart : Type 0 where
  nothing : NamePart
  -- a noun is looked up
  look_up : (x : Name) → NamePart
  -- a name stands in the text before the expression behind which it is assigned
  target : (x : Name) → (e : Tree) → NamePart
  -- a name is assigned
  assign_to : (x : Name) → NamePart
  evaluate : (e : Tree) → NamePart
  evaluate_all : (es : Trees) → NamePart
  bind : (b : AddedNames) → NamePart
  -- a block has a scope of its own, which begins with some names
  block : (b : AddedNames) → (body : Trees) → NamePart
  methods : (ms : Methods) → NamePart

-- what a construct does to names first, then, and last
abbrev pub first : Tree → NamePart
first null_tree = nothing
first (bool_tree b) = nothing
first (int_tree z) = nothing
first (text_tree s) = nothing
first (noun x) = look_up x
first (define p e) = evaluate e
first (variable x e) = evaluate e
first (assign x e) = target x e
first (call r verb args) = evaluate r
first (list_tree items) = evaluate_all items
first (same_tree l r) = evaluate l
first (define_list ps e) = evaluate e
first (hide body) = block no_names_bound body
first (if_tree c one other) = evaluate c
first (while_tree c body) = evaluate c
first (for_tree p e body) = evaluate e
first (try_tree body p handler) = block no_names_bound body
first (primitive q e) = evaluate e
first (object_tree p ms) = bind (pattern_bound p)
first (escape_tree x body) = block (definition_bound x) body
first (send r verb args) = evaluate r
first (when_tree e body) = evaluate e
first (when_catch_tree e body p handler) = evaluate e
first new_promise = nothing

abbrev pub second : Tree → NamePart
second null_tree = nothing
second (bool_tree b) = nothing
second (int_tree z) = nothing
second (text_tree s) = nothing
second (noun x) = nothing
second (define p e) = bind (pattern_bound p)
second (variable x e) = bind (variable_bound x)
second (assign x e) = evaluate e
second (call r verb args) = evaluate_all args
second (list_tree items) = nothing
second (same_tree l r) = evaluate r
second (define_list ps e) = bind (patterns_bound ps)
second (hide body) = nothing
second (if_tree c one other) = block no_names_bound one
second (while_tree c body) = block no_names_bound body
second (for_tree p e body) = block (pattern_bound p) body
second (try_tree body p handler) = block (pattern_bound p) handler
second (primitive q e) = nothing
second (object_tree p ms) = methods ms
second (escape_tree x body) = nothing
second (send r verb args) = evaluate_all args
second (when_tree e body) = block no_names_bound body
second (when_catch_tree e body p handler) = block no_names_bound body
second new_promise = nothing

abbrev pub third : Tree → NamePart
third (assign x e) = assign_to x
third (if_tree c one other) = block no_names_bound other
third (when_catch_tree e body p handler) = block (pattern_bound p) handler
third _ = nothing

-- what the code's parts stand for
abbrev pub binding_in : CodeBinding → AddedNames
binding_in binding.Nothing = no_names_bound
binding_in (binding.Definition x) = definition_bound x.now
binding_in (binding.Variable x) = variable_bound x.now
binding_in (binding.Pattern p) = pattern_bound p.now
binding_in (binding.Patterns ps) = patterns_bound ps.now

abbrev pub part_in : CodePart → NamePart
part_in code.Nothing = nothing
part_in (code.Noun x) = look_up x.now
part_in (code.Target x e) = target x.now (tree_of e.now)
part_in (code.Assign x) = assign_to x.now
part_in (code.Evaluate e) = evaluate (tree_of e.now)
part_in (code.EvaluateAll es) = evaluate_all (trees_of es.now)
part_in (code.Bind b) = bind (binding_in b)
part_in (code.Block b body) = block (binding_in b) (trees_of body.now)
part_in (code.Methods ms) = methods (methods_of ms.now)

-- the scopes with the names of a binding
abbrev pub binding_checked : AddedNames → Scopes → Checked
binding_checked no_names_bound s = Ok s
binding_checked (definition_bound x) s = added (defined_name x) s
binding_checked (variable_bound x) s = added (variable_name x) s
binding_checked (pattern_bound p) s = bound p s
binding_checked (patterns_bound ps) s = all_bound ps s

-- what stands behind a binding, in its scope
abbrev pub checked_behind : AddedNames → (Scopes → Checked) → Scopes → Checked
checked_behind b next s = in_turn (binding_checked b s) next

-- the check of a part
abbrev pub part_checked : NamePart → Scopes → Checked
part_checked nothing s = Ok s
part_checked (look_up x) s = found x s
part_checked (target x e) s = Ok s
part_checked (assign_to x) s = assigned x s
part_checked (evaluate e) s = checked e s
part_checked (evaluate_all es) s = checked_all es s
part_checked (bind b) s = binding_checked b s
part_checked (block b body) s = in_block (checked_behind b (checked_all body)) s
part_checked (methods ms) s = checked_methods [] ms s

-- the names of a binding
abbrev pub binding_names : AddedNames → List TopName
binding_names no_names_bound = []
binding_names (definition_bound x) = defined_name x ∷ []
binding_names (variable_bound x) = variable_name x ∷ []
binding_names (pattern_bound p) = name_of p
binding_names (patterns_bound ps) = names_of_all ps

-- the names that a part defines behind it
abbrev pub part_names : NamePart → List TopName
part_names nothing = []
part_names (look_up x) = []
part_names (target x e) = []
part_names (assign_to x) = []
part_names (evaluate e) = own_names e
part_names (evaluate_all es) = own_names_in es
part_names (bind b) = binding_names b
part_names (block b body) = []
part_names (methods ms) = []

-- the free occurrences of names in a part, where these names are defined inside the object
abbrev pub part_free : NamePart → List TopName → List Name
part_free nothing bs = []
part_free (look_up x) bs = occurring x bs
part_free (target x e) bs = occurring x (bs ++ own_names e)
part_free (assign_to x) bs = []
part_free (evaluate e) bs = free e bs
part_free (evaluate_all es) bs = free_in es bs
part_free (bind b) bs = []
part_free (block b body) bs = free_in body (bs ++ binding_names b)
part_free (methods ms) bs = free_of ms bs

-- how many nodes a part has
abbrev pub part_nodes : NamePart → ℕ
part_nodes nothing = 0
part_nodes (look_up x) = 0
part_nodes (target x e) = 0
part_nodes (assign_to x) = 0
part_nodes (evaluate e) = nodes e
part_nodes (evaluate_all es) = nodes_in es
part_nodes (bind b) = 0
part_nodes (block b body) = nodes_in body
part_nodes (methods ms) = nodes_of ms

-- how deep a part is
abbrev pub part_depth : NamePart → ℕ
part_depth nothing = 0
part_depth (look_up x) = 0
part_depth (target x e) = 0
part_depth (assign_to x) = 0
part_depth (evaluate e) = depth e
part_depth (evaluate_all es) = depth_in es
part_depth (bind b) = 0
part_depth (block b body) = depth_in body
part_depth (methods ms) = depth_of ms
