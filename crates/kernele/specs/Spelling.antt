-- The canonical spelling: one way to write each tree.
use Rattle.std.specs.Prelude.{ℕ, List, [], ◌∷◌, ◌++◌, map, Bool, true, false, codes, if◌then◌else◌}
use Rattle.std.specs.Fmt.{signed_decimal}
use Rattle.ids.specs.Quoted.{quoted}
use Rattle.kernele.specs.Tree.{Name, Tree, null_tree, bool_tree, int_tree, text_tree, noun, define, variable, assign, call, list_tree, same_tree, define_list, hide, if_tree, while_tree, for_tree, try_tree, primitive, object_tree, escape_tree, send, when_tree, when_catch_tree, new_promise, Trees, none, and_then, Methods, no_methods, and_method}
use Rattle.kernele.specs.declared.tree.Pattern.{Pattern}
use Rattle.kernele.specs.declared.tree.Pattern.TheVariants as pattern
use Rattle.kernele.specs.declared.tree.Primitive.{Primitive}
use Rattle.kernele.specs.declared.tree.Primitive.TheVariants as primitives

-- texts, each behind a separator
abbrev pub led_by : List ℕ → List (List ℕ) → List ℕ
led_by separator [] = []
led_by separator (s ∷ rest) = separator ++ s ++ led_by separator rest

-- texts with a separator between them
abbrev pub joined : List ℕ → List (List ℕ) → List ℕ
joined separator [] = []
joined separator (s ∷ rest) = s ++ led_by separator rest

-- a text in round brackets, where they are wanted
abbrev pub bracketed : Bool → List ℕ → List ℕ
bracketed wanted s = if wanted then codes "(" ++ s ++ codes ")" else s

-- what a definition binds
abbrev pub bound_name : Pattern → List ℕ
bound_name (pattern.Name x) = x
bound_name pattern.Ignore = codes "_"

-- what stands before the value that a primitive is of
abbrev pub primitive_words : Primitive → List ℕ
primitive_words primitives.Throw = codes "throw("
primitive_words primitives.BreakRef = codes "Ref.broken("
primitive_words primitives.StateRef = codes "Ref.state("

-- only as an item of a block does a definition, of a name or a list, a variable or an assignment stand without brackets
abbrev pub needs_brackets : Tree → Bool
needs_brackets null_tree = false
needs_brackets (bool_tree b) = false
needs_brackets (int_tree z) = false
needs_brackets (text_tree s) = false
needs_brackets (noun x) = false
needs_brackets (define p e) = true
needs_brackets (variable x e) = true
needs_brackets (assign x e) = true
needs_brackets (call r verb args) = false
needs_brackets (list_tree items) = false
needs_brackets (same_tree l r) = false
needs_brackets (define_list ps e) = true
needs_brackets (hide body) = false
needs_brackets (if_tree c first second) = false
needs_brackets (while_tree c body) = false
needs_brackets (for_tree p e body) = false
needs_brackets (try_tree body p handler) = false
needs_brackets (primitive q e) = false
needs_brackets (object_tree p ms) = false
needs_brackets (escape_tree x body) = false
needs_brackets (send r verb args) = false
needs_brackets (when_tree e body) = false
needs_brackets (when_catch_tree e body p handler) = false
needs_brackets new_promise = false

-- nouns, literals, lists, calls, sends and comparisons are receivers without brackets
abbrev pub is_bare_receiver : Tree → Bool
is_bare_receiver null_tree = true
is_bare_receiver (bool_tree b) = true
is_bare_receiver (int_tree z) = true
is_bare_receiver (text_tree s) = true
is_bare_receiver (noun x) = true
is_bare_receiver (define p e) = false
is_bare_receiver (variable x e) = false
is_bare_receiver (assign x e) = false
is_bare_receiver (call r verb args) = true
is_bare_receiver (list_tree items) = true
is_bare_receiver (same_tree l r) = true
is_bare_receiver (define_list ps e) = false
is_bare_receiver (hide body) = false
is_bare_receiver (if_tree c first second) = false
is_bare_receiver (while_tree c body) = false
is_bare_receiver (for_tree p e body) = false
is_bare_receiver (try_tree body p handler) = false
is_bare_receiver (primitive q e) = false
is_bare_receiver (object_tree p ms) = false
is_bare_receiver (escape_tree x body) = false
is_bare_receiver (send r verb args) = true
is_bare_receiver (when_tree e body) = false
is_bare_receiver (when_catch_tree e body p handler) = false
is_bare_receiver new_promise = false

-- a part of another tree, from its spelling
abbrev pub as_part : Tree → List ℕ → List ℕ
as_part t s = bracketed (needs_brackets t) s

-- a receiver, from its spelling
abbrev pub as_receiver : Tree → List ℕ → List ℕ
as_receiver t s = if is_bare_receiver t then s else bracketed true s

-- a verb with its arguments
abbrev pub message : Name → List (List ℕ) → List ℕ
message verb args = verb ++ codes "(" ++ joined (codes ", ") args ++ codes ")"

-- the items of a block, in its braces
abbrev pub in_braces : List (List ℕ) → List ℕ
in_braces [] = codes "{ }"
in_braces (s ∷ rest) = codes "{ " ++ joined (codes "; ") (s ∷ rest) ++ codes " }"

-- the methods of an object, in its braces
abbrev pub methods_in_braces : List (List ℕ) → List ℕ
methods_in_braces [] = codes "{ }"
methods_in_braces (s ∷ rest) = codes "{ " ++ joined (codes " ") (s ∷ rest) ++ codes " }"

-- a method: its verb, its parameters, and its block
abbrev pub method_text : Name → List Pattern → List (List ℕ) → List ℕ
method_text verb ps body = codes "method " ++ message verb (map bound_name ps) ++ codes " " ++ in_braces body

abbrev mutual
  -- a tree, as it stands as an item of a block
  pub spelled : Tree → List ℕ
  spelled null_tree = codes "null"
  spelled (bool_tree b) = if b then codes "true" else codes "false"
  spelled (int_tree z) = signed_decimal z
  spelled (text_tree s) = quoted s
  spelled (noun x) = x
  spelled (define p e) = codes "def " ++ bound_name p ++ codes " := " ++ as_part e (spelled e)
  spelled (variable x e) = codes "var " ++ x ++ codes " := " ++ as_part e (spelled e)
  spelled (assign x e) = x ++ codes " := " ++ as_part e (spelled e)
  spelled (call r verb args) = as_receiver r (spelled r) ++ codes "." ++ message verb (spelled_parts args)
  spelled (list_tree items) = codes "[" ++ joined (codes ", ") (spelled_parts items) ++ codes "]"
  spelled (same_tree l r) = codes "(" ++ as_part l (spelled l) ++ codes " == " ++ as_part r (spelled r) ++ codes ")"
  spelled (define_list ps e) = codes "def [" ++ joined (codes ", ") (map bound_name ps) ++ codes "] := " ++ as_part e (spelled e)
  spelled (hide body) = in_braces (spelled_items body)
  spelled (if_tree c first second) = codes "if (" ++ as_part c (spelled c) ++ codes ") " ++ in_braces (spelled_items first) ++ codes " else " ++ in_braces (spelled_items second)
  spelled (while_tree c body) = codes "while (" ++ as_part c (spelled c) ++ codes ") " ++ in_braces (spelled_items body)
  spelled (for_tree p e body) = codes "for " ++ bound_name p ++ codes " in " ++ as_part e (spelled e) ++ codes " " ++ in_braces (spelled_items body)
  spelled (try_tree body p handler) = codes "try " ++ in_braces (spelled_items body) ++ codes " catch " ++ bound_name p ++ codes " " ++ in_braces (spelled_items handler)
  spelled (primitive q e) = primitive_words q ++ as_part e (spelled e) ++ codes ")"
  spelled (object_tree p ms) = codes "def " ++ bound_name p ++ codes " " ++ methods_in_braces (spelled_methods ms)
  spelled (escape_tree x body) = codes "escape " ++ x ++ codes " " ++ in_braces (spelled_items body)
  spelled (send r verb args) = as_receiver r (spelled r) ++ codes " <- " ++ message verb (spelled_parts args)
  spelled (when_tree e body) = codes "when (" ++ as_part e (spelled e) ++ codes ") -> " ++ in_braces (spelled_items body)
  spelled (when_catch_tree e body p handler) = codes "when (" ++ as_part e (spelled e) ++ codes ") -> " ++ in_braces (spelled_items body) ++ codes " catch " ++ bound_name p ++ codes " " ++ in_braces (spelled_items handler)
  spelled new_promise = codes "Ref.promise()"

  -- arguments, or the items of a list
  pub spelled_parts : Trees → List (List ℕ)
  spelled_parts none = []
  spelled_parts (and_then t ts) = as_part t (spelled t) ∷ spelled_parts ts

  -- the items of a block
  pub spelled_items : Trees → List (List ℕ)
  spelled_items none = []
  spelled_items (and_then t ts) = spelled t ∷ spelled_items ts

  -- the methods of an object
  pub spelled_methods : Methods → List (List ℕ)
  spelled_methods no_methods = []
  spelled_methods (and_method verb ps body ms) = method_text verb ps (spelled_items body) ∷ spelled_methods ms

-- a program: the items of its block, without braces
abbrev pub spelling : Trees → List ℕ
spelling ts = joined (codes "; ") (spelled_items ts)
