-- The names that an object captures, those that are free in its methods, and the names that a `when` captures, those that are free in
-- its blocks.
use Rattle.std.specs.Prelude.{◌≡◌, List, [], ◌∷◌, ◌++◌, Bool, true, false, if◌then◌else◌, Ok, Err, All, Contains, IsSome, IsNone}
use Rattle.std.specs.Str.{bytes_eq}
use Rattle.kernele.specs.Tree.{Name, Tree, null_tree, bool_tree, int_tree, text_tree, noun, define, variable, assign, call, list_tree, same_tree, define_list, hide, if_tree, while_tree, for_tree, try_tree, primitive, object_tree, escape_tree, send, when_tree, when_catch_tree, new_promise, Trees, none, and_then, Methods, no_methods, and_method}
use Rattle.kernele_scopes.specs.Scope.{Scopes, unbound, kind_in, checked_all, defined_name, name_of, names_of_all, own_names}
use Rattle.kernele.specs.declared.tree.Pattern.{Pattern}
use Rattle.kernele_scopes.specs.declared.naming.TopName.{TopName}

-- a name is defined by one of these
abbrev pub defines : List TopName → Name → Bool
defines [] x = false
defines (t ∷ ts) x = if bytes_eq t.name x then true else defines ts x

-- a name occurs free where nothing inside has defined it
abbrev pub occurring : Name → List TopName → List Name
occurring x bs = if defines bs x then [] else x ∷ []

-- the free occurrences of names in a tree, in the order of the text, where these names are defined inside the object or the block:
-- what a part defines is defined behind it, and what a block defines ends with it
abbrev mutual
  pub free : Tree → List TopName → List Name
  free null_tree bs = []
  free (bool_tree b) bs = []
  free (int_tree z) bs = []
  free (text_tree s) bs = []
  free (noun x) bs = occurring x bs
  free (define p e) bs = free e bs
  free (variable x e) bs = free e bs
  -- the name stands first in the text, and is looked up behind its right side
  free (assign x e) bs = occurring x (bs ++ own_names e) ++ free e bs
  free (call r verb args) bs = free r bs ++ free_in args (bs ++ own_names r)
  free (list_tree items) bs = free_in items bs
  free (same_tree l r) bs = free l bs ++ free r (bs ++ own_names l)
  free (define_list ps e) bs = free e bs
  free (hide body) bs = free_in body bs
  free (if_tree c first second) bs = free c bs ++ free_in first (bs ++ own_names c) ++ free_in second (bs ++ own_names c)
  free (while_tree c body) bs = free c bs ++ free_in body (bs ++ own_names c)
  free (for_tree p e body) bs = free e bs ++ free_in body ((bs ++ own_names e) ++ name_of p)
  free (try_tree body p handler) bs = free_in body bs ++ free_in handler (bs ++ name_of p)
  free (primitive q e) bs = free e bs
  free (object_tree p ms) bs = free_of ms (bs ++ name_of p)
  free (escape_tree x body) bs = free_in body (bs ++ defined_name x ∷ [])
  free (send r verb args) bs = free r bs ++ free_in args (bs ++ own_names r)
  free (when_tree e body) bs = free e bs ++ free_in body (bs ++ own_names e)
  free (when_catch_tree e body p handler) bs = free e bs ++ free_in body (bs ++ own_names e) ++ free_in handler ((bs ++ own_names e) ++ name_of p)
  free new_promise bs = []

  pub free_in : Trees → List TopName → List Name
  free_in none bs = []
  free_in (and_then t ts) bs = free t bs ++ free_in ts (bs ++ own_names t)

  -- in methods: the parameters of a method are defined in its body
  pub free_of : Methods → List TopName → List Name
  free_of no_methods bs = []
  free_of (and_method verb ps body ms) bs = free_in body (bs ++ names_of_all ps) ++ free_of ms bs

-- a name is among these
abbrev pub is_among : List Name → Name → Bool
is_among [] x = false
is_among (y ∷ ys) x = if bytes_eq y x then true else is_among ys x

-- names without those that are among others
abbrev pub without : List Name → List Name → List Name
without xs [] = []
without xs (y ∷ ys) = if is_among xs y then without xs ys else y ∷ without xs ys

-- each name once, where it first occurs
abbrev pub distinct : List Name → List Name
distinct [] = []
distinct (x ∷ xs) = x ∷ without (x ∷ []) (distinct xs)

-- what an object captures: the names that are free in its methods, each once, in the order in which they first occur; its own name is none
abbrev pub captures : Pattern → Methods → List Name
captures p ms = distinct (free_of ms (name_of p))

-- what a `when` captures behind its value: the names that are free in its block and its handler, each once, in the order in which they
-- first occur; where it has no `catch`, nothing is in the handler
abbrev pub when_captures : Trees → Pattern → Trees → List Name
when_captures body p handler = distinct (free_in body [] ++ free_in handler (name_of p))

-- where a program is not refused, each name that is free in it is in scope
abbrev pub FreeNamesAreInScope : Type 0
FreeNamesAreInScope = (ts : Trees) (s r : Scopes) → checked_all ts s ≡ Ok r → All (λ x. IsSome (kind_in s x)) (free_in ts [])

-- a name for which a program is refused as unbound is free in it, and not in scope
abbrev pub UnboundNamesAreFree : Type 0
UnboundNamesAreFree = (ts : Trees) (s : Scopes) (x : Name) → checked_all ts s ≡ Err (unbound x) → Contains (free_in ts []) x × IsNone (kind_in s x)
