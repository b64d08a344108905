-- Which programs may be evaluated: their size, their depth, and the scope of their names.
use Rattle.std.specs.Prelude.{◌≡◌, ℕ, ◌+◌, max, List, [], ◌∷◌, ◌++◌, map, Option, Some, None, is_some, nat_lt, nat_eq, length, Bool, true, false, Result, Ok, Err, if◌then◌else◌}
use Rattle.std.specs.Option.{option_or}
use Rattle.std.specs.Str.{bytes_eq}
use Rattle.kernele.specs.Tree.{Name, Tree, null_tree, bool_tree, int_tree, text_tree, noun, define, variable, assign, call, list_tree, same_tree, define_list, hide, if_tree, while_tree, for_tree, try_tree, primitive, object_tree, escape_tree, send, when_tree, when_catch_tree, new_promise, Trees, none, and_then, Methods, no_methods, and_method}
use Rattle.kernele.specs.declared.tree.Pattern.{Pattern}
use Rattle.kernele.specs.declared.tree.Pattern.TheVariants as pattern
use Rattle.kernele_scopes.specs.declared.naming.NameKind.{NameKind}
use Rattle.kernele_scopes.specs.declared.naming.NameKind.TheVariants as kind
use Rattle.kernele_scopes.specs.declared.naming.TopName.{TopName}
use Rattle.kernele_scopes.specs.declared.checking.TheConstants.{MOST_NODES, GREATEST_DEPTH}

-- how many nodes a tree has; a block is none and a method is none: the items belong to the node that has the block or the method
abbrev mutual
  pub nodes : Tree → ℕ
  nodes null_tree = 1
  nodes (bool_tree b) = 1
  nodes (int_tree z) = 1
  nodes (text_tree s) = 1
  nodes (noun x) = 1
  nodes (define p e) = 1 + nodes e
  nodes (variable x e) = 1 + nodes e
  nodes (assign x e) = 1 + nodes e
  nodes (call r verb args) = 1 + nodes r + nodes_in args
  nodes (list_tree items) = 1 + nodes_in items
  nodes (same_tree l r) = 1 + nodes l + nodes r
  nodes (define_list ps e) = 1 + nodes e
  nodes (hide body) = 1 + nodes_in body
  nodes (if_tree c first second) = 1 + nodes c + nodes_in first + nodes_in second
  nodes (while_tree c body) = 1 + nodes c + nodes_in body
  nodes (for_tree p e body) = 1 + nodes e + nodes_in body
  nodes (try_tree body p handler) = 1 + nodes_in body + nodes_in handler
  nodes (primitive q e) = 1 + nodes e
  nodes (object_tree p ms) = 1 + nodes_of ms
  nodes (escape_tree x body) = 1 + nodes_in body
  nodes (send r verb args) = 1 + nodes r + nodes_in args
  nodes (when_tree e body) = 1 + nodes e + nodes_in body
  nodes (when_catch_tree e body p handler) = 1 + nodes e + nodes_in body + nodes_in handler
  nodes new_promise = 1

  pub nodes_in : Trees → ℕ
  nodes_in none = 0
  nodes_in (and_then t ts) = nodes t + nodes_in ts

  pub nodes_of : Methods → ℕ
  nodes_of no_methods = 0
  nodes_of (and_method verb ps body ms) = nodes_in body + nodes_of ms

-- how many nodes stand below one another; a leaf has depth 1
abbrev mutual
  pub depth : Tree → ℕ
  depth null_tree = 1
  depth (bool_tree b) = 1
  depth (int_tree z) = 1
  depth (text_tree s) = 1
  depth (noun x) = 1
  depth (define p e) = 1 + depth e
  depth (variable x e) = 1 + depth e
  depth (assign x e) = 1 + depth e
  depth (call r verb args) = 1 + max (depth r) (depth_in args)
  depth (list_tree items) = 1 + depth_in items
  depth (same_tree l r) = 1 + max (depth l) (depth r)
  depth (define_list ps e) = 1 + depth e
  depth (hide body) = 1 + depth_in body
  depth (if_tree c first second) = 1 + max (depth c) (max (depth_in first) (depth_in second))
  depth (while_tree c body) = 1 + max (depth c) (depth_in body)
  depth (for_tree p e body) = 1 + max (depth e) (depth_in body)
  depth (try_tree body p handler) = 1 + max (depth_in body) (depth_in handler)
  depth (primitive q e) = 1 + depth e
  depth (object_tree p ms) = 1 + depth_of ms
  depth (escape_tree x body) = 1 + depth_in body
  depth (send r verb args) = 1 + max (depth r) (depth_in args)
  depth (when_tree e body) = 1 + max (depth e) (depth_in body)
  depth (when_catch_tree e body p handler) = 1 + max (depth e) (max (depth_in body) (depth_in handler))
  depth new_promise = 1

  pub depth_in : Trees → ℕ
  depth_in none = 0
  depth_in (and_then t ts) = max (depth t) (depth_in ts)

  pub depth_of : Methods → ℕ
  depth_of no_methods = 0
  depth_of (and_method verb ps body ms) = max (depth_in body) (depth_of ms)

-- the names of a scope: which kind a name is, if the scope has it
abbrev pub Names : Type 0
Names = Name → Option NameKind

-- it has no name
abbrev pub no_names : Names
no_names = λ y. None

-- one more name
abbrev pub with_name : TopName → Names → Names
with_name t names = λ y. if bytes_eq t.name y then Some t.kind else names y

-- the names of a list besides, in order
abbrev pub with_names : List TopName → Names → Names
with_names [] names = names
with_names (t ∷ ts) names = with_names ts (with_name t names)

-- the names of a list
abbrev pub names_in : List TopName → Names
names_in ts = with_names ts no_names

-- a name of a definition
abbrev pub defined_name : Name → TopName
defined_name x = record { name = x; kind = kind.Definition }

-- a name of a variable
abbrev pub variable_name : Name → TopName
variable_name x = record { name = x; kind = kind.Variable }

-- the names of earlier vats are no variables
abbrev pub definitions : List Name → List TopName
definitions xs = map defined_name xs

-- where an expression stands: the names of the innermost scope so far, and those of the scopes around it
pub record Scopes : Type 0 where
  pub own : Names
  pub around : Names

-- a script stands in a scope that has the names of earlier vats
abbrev pub script_scopes : List Name → Scopes
script_scopes earlier = record { own = names_in (definitions earlier); around = no_names }

-- an asked program stands in a scope of its own, inside one that has the names of the vats before its own and those that the script of
-- its vat defined
abbrev pub asked_scopes : List Name → List TopName → Scopes
asked_scopes earlier tops = record { own = no_names; around = with_names tops (names_in (definitions earlier)) }

-- why a program is refused
pub data Refusal : Type 0 where
  unbound : (x : Name) → Refusal
  assign_to_def : (x : Name) → Refusal
  duplicate_name : (x : Name) → Refusal
  too_deep : Refusal
  too_long : Refusal

-- what an expression leaves of its scopes, or why it is refused
abbrev pub Checked : Type 0
Checked = Result Scopes Refusal

-- first one, and then another in the scopes that it leaves
abbrev pub in_turn : Checked → (Scopes → Checked) → Checked
in_turn (Ok s) next = next s
in_turn (Err refusal) next = Err refusal

-- which kind a name is, where it is in one of the scopes; an inner name hides an outer one
abbrev pub kind_in : Scopes → Name → Option NameKind
kind_in s x = option_or (s.own x) (s.around x)

-- a noun is in one of the scopes
abbrev pub found : Name → Scopes → Checked
found x s = if is_some (kind_in s x) then Ok s else Err (unbound x)

abbrev pub assigned_to : Option NameKind → Name → Scopes → Checked
assigned_to None x s = Err (unbound x)
assigned_to (Some kind.Definition) x s = Err (assign_to_def x)
assigned_to (Some kind.Variable) x s = Ok s

-- the name that is assigned is that of a variable
abbrev pub assigned : Name → Scopes → Checked
assigned x s = assigned_to (kind_in s x) x s

-- a name is added to its own scope, which must not have it; it may hide one of a scope around
abbrev pub added : TopName → Scopes → Checked
added t s = if is_some (s.own t.name) then Err (duplicate_name t.name) else Ok (record s { own = with_name t s.own })

-- a definition adds the name of its pattern
abbrev pub bound : Pattern → Scopes → Checked
bound (pattern.Name x) s = added (defined_name x) s
bound pattern.Ignore s = Ok s

-- a definition of a list adds the names of its patterns, from the left
abbrev pub all_bound : List Pattern → Scopes → Checked
all_bound [] s = Ok s
all_bound (p ∷ ps) s = in_turn (bound p s) (all_bound ps)

-- inside the braces of a block begins a scope without names; all that was in scope lies around it
abbrev pub entered : Scopes → Scopes
entered s = record { own = no_names; around = kind_in s }

-- behind its braces the scopes are those from before
abbrev pub left_for : Scopes → Checked → Checked
left_for s (Ok inner) = Ok s
left_for s (Err refusal) = Err refusal

-- what stands in a block
abbrev pub in_block : (Scopes → Checked) → Scopes → Checked
in_block inside s = left_for s (inside (entered s))

-- what stands behind a pattern, in its scope
abbrev pub checked_with : Pattern → (Scopes → Checked) → Scopes → Checked
checked_with p next s = in_turn (bound p s) next

-- what stands behind parameters, in their scope
abbrev pub checked_taking : List Pattern → (Scopes → Checked) → Scopes → Checked
checked_taking ps next s = in_turn (all_bound ps s) next

-- how a method is found: by its verb, and how many parameters it has
abbrev pub Signature : Type 0
Signature = Name × ℕ

abbrev pub same_signature : Signature → Signature → Bool
same_signature a b = if bytes_eq a.0 b.0 then nat_eq a.1 b.1 else false

abbrev pub has_signature : List Signature → Signature → Bool
has_signature [] b = false
has_signature (a ∷ earlier) b = if same_signature a b then true else has_signature earlier b

-- an object has no two methods that are found alike
abbrev pub new_method : List Signature → Signature → Scopes → Checked
new_method earlier m s = if has_signature earlier m then Err (duplicate_name m.0) else Ok s

-- the names of an expression, in the order in which it is evaluated: a receiver before its arguments, those from the left,
-- a condition before its blocks, a list before the body, what a `when` waits for before its blocks, a body before its handler,
-- an object's own name before its methods;
-- each block is a scope of its own, which begins with the names of its patterns
abbrev mutual
  pub checked : Tree → Scopes → Checked
  checked null_tree s = Ok s
  checked (bool_tree b) s = Ok s
  checked (int_tree z) s = Ok s
  checked (text_tree t) s = Ok s
  checked (noun x) s = found x s
  checked (define p e) s = in_turn (checked e s) (bound p)
  checked (variable x e) s = in_turn (checked e s) (added (variable_name x))
  checked (assign x e) s = in_turn (checked e s) (assigned x)
  checked (call r verb args) s = in_turn (checked r s) (checked_all args)
  checked (list_tree items) s = checked_all items s
  checked (same_tree l r) s = in_turn (checked l s) (checked r)
  checked (define_list ps e) s = in_turn (checked e s) (all_bound ps)
  checked (hide body) s = in_block (checked_all body) s
  checked (if_tree c first second) s = in_turn (in_turn (checked c s) (in_block (checked_all first))) (in_block (checked_all second))
  checked (while_tree c body) s = in_turn (checked c s) (in_block (checked_all body))
  checked (for_tree p e body) s = in_turn (checked e s) (in_block (checked_with p (checked_all body)))
  checked (try_tree body p handler) s = in_turn (in_block (checked_all body) s) (in_block (checked_with p (checked_all handler)))
  checked (primitive q e) s = checked e s
  checked (object_tree p ms) s = in_turn (bound p s) (checked_methods [] ms)
  checked (escape_tree x body) s = in_block (checked_with (pattern.Name x) (checked_all body)) s
  checked (send r verb args) s = in_turn (checked r s) (checked_all args)
  checked (when_tree e body) s = in_turn (checked e s) (in_block (checked_all body))
  checked (when_catch_tree e body p handler) s = in_turn (in_turn (checked e s) (in_block (checked_all body))) (in_block (checked_with p (checked_all handler)))
  checked new_promise s = Ok s

  pub checked_all : Trees → Scopes → Checked
  checked_all none s = Ok s
  checked_all (and_then t ts) s = in_turn (checked t s) (checked_all ts)

  -- methods, behind those with these signatures
  pub checked_methods : List Signature → Methods → Scopes → Checked
  checked_methods earlier no_methods s = Ok s
  checked_methods earlier (and_method verb ps body ms) s =
      in_turn (in_turn (new_method earlier (verb, length ps) s) (in_block (checked_taking ps (checked_all body)))) (checked_methods (earlier ++ (verb, length ps) ∷ []) ms)

-- a program: first its size, then its depth, each no greater than a program may have, then its names
abbrev pub checked_program : Trees → Scopes → Checked
checked_program ts s =
    if nat_lt MOST_NODES (nodes_in ts) then Err too_long
    else (if nat_lt GREATEST_DEPTH (depth_in ts) then Err too_deep else checked_all ts s)

-- the limits of a tree, as numbers
abbrev pub LimitsAreNumbers : Type 0
LimitsAreNumbers = (MOST_NODES ≡ 16384) × (GREATEST_DEPTH ≡ 200)

-- the name that a definition adds
abbrev pub name_of : Pattern → List TopName
name_of (pattern.Name x) = defined_name x ∷ []
name_of pattern.Ignore = []

-- the names that a definition of a list adds
abbrev pub names_of_all : List Pattern → List TopName
names_of_all [] = []
names_of_all (p ∷ ps) = name_of p ++ names_of_all ps

-- the names that a program defines in its own scope, in the order in which they are defined; those of a block end with it
abbrev mutual
  pub own_names : Tree → List TopName
  own_names null_tree = []
  own_names (bool_tree b) = []
  own_names (int_tree z) = []
  own_names (text_tree s) = []
  own_names (noun x) = []
  own_names (define p e) = own_names e ++ name_of p
  own_names (variable x e) = own_names e ++ variable_name x ∷ []
  own_names (assign x e) = own_names e
  own_names (call r verb args) = own_names r ++ own_names_in args
  own_names (list_tree items) = own_names_in items
  own_names (same_tree l r) = own_names l ++ own_names r
  own_names (define_list ps e) = own_names e ++ names_of_all ps
  own_names (hide body) = []
  own_names (if_tree c first second) = own_names c
  own_names (while_tree c body) = own_names c
  own_names (for_tree p e body) = own_names e
  own_names (try_tree body p handler) = []
  own_names (primitive q e) = own_names e
  own_names (object_tree p ms) = name_of p
  own_names (escape_tree x body) = []
  own_names (send r verb args) = own_names r ++ own_names_in args
  own_names (when_tree e body) = own_names e
  own_names (when_catch_tree e body p handler) = own_names e
  own_names new_promise = []

  pub own_names_in : Trees → List TopName
  own_names_in none = []
  own_names_in (and_then t ts) = own_names t ++ own_names_in ts

-- a program that is not refused adds the names that it defines to its own scope, as what it defines them, and nothing else
abbrev pub AddsOwnNames : Type 0
AddsOwnNames = (ts : Trees) (s r : Scopes) → checked_all ts s ≡ Ok r → r ≡ record s { own = with_names (own_names_in ts) s.own }
