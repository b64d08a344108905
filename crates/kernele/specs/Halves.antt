-- A tree's spelling in two: what it begins with, and the rest.
use Rattle.std.specs.Prelude.{List, [], ◌++◌, ℕ, map, codes, if◌then◌else◌}
use Rattle.std.specs.Fmt.{signed_decimal}
use Rattle.ids.specs.Quoted.{quoted}
use Rattle.kernele.specs.Tree.{Tree, null_tree, bool_tree, int_tree, text_tree, noun, define, variable, assign, call, list_tree, same_tree, define_list, hide, if_tree, while_tree, for_tree, try_tree, primitive, object_tree, escape_tree, send, when_tree, when_catch_tree, new_promise}
use Rattle.kernele.specs.Spelling.{joined, bound_name, primitive_words, as_part, as_receiver, message, in_braces, methods_in_braces, spelled, spelled_parts, spelled_items, spelled_methods}

-- up to and with the first tree, block or name in it
abbrev pub beginning : Tree → List ℕ
beginning null_tree = codes "null"
beginning (bool_tree b) = if b then codes "true" else codes "false"
beginning (int_tree z) = signed_decimal z
beginning (text_tree s) = quoted s
beginning (noun x) = x
beginning (define p e) = codes "def " ++ bound_name p
beginning (variable x e) = codes "var " ++ x
beginning (assign x e) = x
beginning (call r verb args) = as_receiver r (spelled r)
beginning (list_tree items) = codes "[" ++ joined (codes ", ") (spelled_parts items) ++ codes "]"
beginning (same_tree l r) = codes "(" ++ as_part l (spelled l)
beginning (define_list ps e) = codes "def [" ++ joined (codes ", ") (map bound_name ps)
beginning (hide body) = in_braces (spelled_items body)
beginning (if_tree c first second) = codes "if (" ++ as_part c (spelled c)
beginning (while_tree c body) = codes "while (" ++ as_part c (spelled c)
beginning (for_tree p e body) = codes "for " ++ bound_name p
beginning (try_tree body p handler) = codes "try " ++ in_braces (spelled_items body)
beginning (primitive q e) = primitive_words q ++ as_part e (spelled e)
beginning (object_tree p ms) = codes "def " ++ bound_name p
beginning (escape_tree x body) = codes "escape " ++ x
beginning (send r verb args) = as_receiver r (spelled r)
beginning (when_tree e body) = codes "when (" ++ as_part e (spelled e)
beginning (when_catch_tree e body p handler) = codes "when (" ++ as_part e (spelled e)
beginning new_promise = codes "Ref.promise()"

-- what stands behind that
abbrev pub rest_of : Tree → List ℕ
rest_of null_tree = []
rest_of (bool_tree b) = []
rest_of (int_tree z) = []
rest_of (text_tree s) = []
rest_of (noun x) = []
rest_of (define p e) = codes " := " ++ as_part e (spelled e)
rest_of (variable x e) = codes " := " ++ as_part e (spelled e)
rest_of (assign x e) = codes " := " ++ as_part e (spelled e)
rest_of (call r verb args) = codes "." ++ message verb (spelled_parts args)
rest_of (list_tree items) = []
rest_of (same_tree l r) = codes " == " ++ as_part r (spelled r) ++ codes ")"
rest_of (define_list ps e) = codes "] := " ++ as_part e (spelled e)
rest_of (hide body) = []
rest_of (if_tree c first second) = codes ") " ++ in_braces (spelled_items first) ++ codes " else " ++ in_braces (spelled_items second)
rest_of (while_tree c body) = codes ") " ++ in_braces (spelled_items body)
rest_of (for_tree p e body) = codes " in " ++ as_part e (spelled e) ++ codes " " ++ in_braces (spelled_items body)
rest_of (try_tree body p handler) = codes " catch " ++ bound_name p ++ codes " " ++ in_braces (spelled_items handler)
rest_of (primitive q e) = codes ")"
rest_of (object_tree p ms) = codes " " ++ methods_in_braces (spelled_methods ms)
rest_of (escape_tree x body) = codes " " ++ in_braces (spelled_items body)
rest_of (send r verb args) = codes " <- " ++ message verb (spelled_parts args)
rest_of (when_tree e body) = codes ") -> " ++ in_braces (spelled_items body)
rest_of (when_catch_tree e body p handler) = codes ") -> " ++ in_braces (spelled_items body) ++ codes " catch " ++ bound_name p ++ codes " " ++ in_braces (spelled_items handler)
rest_of new_promise = []
