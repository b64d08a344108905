-- The rules of scope, said of what happens to names in a program, one thing after the other: where a name is bound, and what is wrong.
use Rattle.std.specs.Prelude.{◌≡◌, ◌⊎◌, ◌↔◌, ℕ, zero, suc, ◌<◌, ◌≤◌, List, [], ◌∷◌, ◌++◌, map, length, Option, Some, None, Err, IsOk}
use Rattle.kernele.specs.Tree.{Name, Tree, null_tree, bool_tree, int_tree, text_tree, noun, define, variable, assign, call, list_tree, same_tree, define_list, hide, if_tree, while_tree, for_tree, try_tree, primitive, object_tree, escape_tree, send, when_tree, when_catch_tree, new_promise, Trees, none, and_then, Methods, no_methods, and_method}
use Rattle.kernele_scopes.specs.Scope.{Scopes, script_scopes, asked_scopes, checked_program, Refusal, unbound, assign_to_def, duplicate_name, too_deep, too_long, Signature, nodes_in, depth_in, defined_name, variable_name, name_of, names_of_all, definitions}
use Rattle.kernele_scopes.specs.declared.naming.NameKind.{NameKind}
use Rattle.kernele_scopes.specs.declared.naming.NameKind.TheVariants as kind
use Rattle.kernele_scopes.specs.declared.naming.TopName.{TopName}
use Rattle.kernele_scopes.specs.declared.checking.TheConstants.{MOST_NODES, GREATEST_DEPTH}

-- what happens to names
pub data Happening : Type 0 where
  -- a pair of braces opens, or closes
  opens : Happening
  closes : Happening
  -- a name is defined, as a definition or as a variable
  defines : (t : TopName) → Happening
  -- an object gets a method, which is found by its verb and its number of parameters
  gets_method : (m : Signature) → Happening
  -- a noun is used
  uses : (x : Name) → Happening
  -- a name is assigned
  assigns : (x : Name) → Happening

-- names are defined, from the left
abbrev pub defining : List TopName → List Happening
defining ts = map defines ts

-- this happens inside a pair of braces
abbrev pub braced : List Happening → List Happening
braced inside = opens ∷ (inside ++ closes ∷ [])

-- what happens in a tree, in the order in which it is evaluated: a name is defined behind its right side, but an object's before its
-- methods; each block has braces, which begin with the names of its pattern, its parameters or its escape; an object's braces have its methods
abbrev mutual
  pub happens : Tree → List Happening
  happens null_tree = []
  happens (bool_tree b) = []
  happens (int_tree z) = []
  happens (text_tree s) = []
  happens (noun x) = uses x ∷ []
  happens (define p e) = happens e ++ defining (name_of p)
  happens (variable x e) = happens e ++ defines (variable_name x) ∷ []
  happens (assign x e) = happens e ++ assigns x ∷ []
  happens (call r verb args) = happens r ++ happens_in args
  happens (list_tree items) = happens_in items
  happens (same_tree l r) = happens l ++ happens r
  happens (define_list ps e) = happens e ++ defining (names_of_all ps)
  happens (hide body) = braced (happens_in body)
  happens (if_tree c first second) = happens c ++ braced (happens_in first) ++ braced (happens_in second)
  happens (while_tree c body) = happens c ++ braced (happens_in body)
  happens (for_tree p e body) = happens e ++ braced (defining (name_of p) ++ happens_in body)
  happens (try_tree body p handler) = braced (happens_in body) ++ braced (defining (name_of p) ++ happens_in handler)
  happens (primitive q e) = happens e
  happens (object_tree p ms) = defining (name_of p) ++ braced (happens_of ms)
  happens (escape_tree x body) = braced (defines (defined_name x) ∷ happens_in body)
  happens (send r verb args) = happens r ++ happens_in args
  happens (when_tree e body) = happens e ++ braced (happens_in body)
  happens (when_catch_tree e body p handler) = happens e ++ braced (happens_in body) ++ braced (defining (name_of p) ++ happens_in handler)
  happens new_promise = []

  pub happens_in : Trees → List Happening
  happens_in none = []
  happens_in (and_then t ts) = happens t ++ happens_in ts

  pub happens_of : Methods → List Happening
  happens_of no_methods = []
  happens_of (and_method verb ps body ms) = gets_method (verb, length ps) ∷ (braced (defining (names_of_all ps) ++ happens_in body) ++ happens_of ms)

-- one more pair of braces is open
abbrev pub opened : Option ℕ → Option ℕ
opened None = None
opened (Some n) = Some (suc n)

-- one pair fewer, if one is open
abbrev pub closed : Option ℕ → Option ℕ
closed None = None
closed (Some zero) = None
closed (Some (suc n)) = Some n

-- The past is told from its end: what happened last comes first.

-- how many pairs of braces that opened in this past are open at its end; none is told where one closed that did not open in it
abbrev pub left_open : List Happening → Option ℕ
left_open [] = Some 0
left_open (opens ∷ past) = opened (left_open past)
left_open (closes ∷ past) = closed (left_open past)
left_open (_ ∷ past) = left_open past

-- this happened in braces that are open still, and so many pairs are open inside those
abbrev pub Happened : Happening → ℕ → List Happening → Type 0
Happened h inside past = (since before : List Happening) × (past ≡ since ++ h ∷ before) × (left_open since ≡ Some inside)

-- no definition of a name is in scope: if there were any, their braces have closed
abbrev pub IsUnbound : Name → List Happening → Type 0
IsUnbound x past = (kind : NameKind) (inside : ℕ) → ¬ Happened (defines (record { name = x; kind = kind })) inside past

-- a name means the last of its definitions that are in scope, which hides those before it, and that one is of this kind
abbrev pub Means : Name → NameKind → List Happening → Type 0
Means x kind past = (since before : List Happening) × (inside : ℕ) × (past ≡ since ++ defines (record { name = x; kind = kind }) ∷ before) × (left_open since ≡ Some inside) × IsUnbound x since

-- the innermost scope has a definition of a name
abbrev pub IsDefinedHere : Name → List Happening → Type 0
IsDefinedHere x past = (kind : NameKind) × Happened (defines (record { name = x; kind = kind })) 0 past

-- what is right behind this past: a noun that means something, a name that is assigned and means a variable, a name that its scope does
-- not have yet, though one around it may, and a method that is not found like another of its object
abbrev pub IsRight : List Happening → Happening → Type 0
IsRight past opens = Unit {0}
IsRight past closes = Unit {0}
IsRight past (defines t) = ¬ IsDefinedHere t.name past
IsRight past (gets_method m) = ¬ Happened (gets_method m) 0 past
IsRight past (uses x) = (kind : NameKind) × Means x kind past
IsRight past (assigns x) = Means x kind.Variable past

-- what is wrong behind this past, and why
pub data IsWrong (past : List Happening) : Happening → Refusal → Type 0 where
  unbound_noun : {x : Name} → IsUnbound x past → IsWrong past (uses x) (unbound x)
  unbound_assigned : {x : Name} → IsUnbound x past → IsWrong past (assigns x) (unbound x)
  assigned_definition : {x : Name} → Means x kind.Definition past → IsWrong past (assigns x) (assign_to_def x)
  defined_twice : {t : TopName} → IsDefinedHere t.name past → IsWrong past (defines t) (duplicate_name t.name)
  method_twice : {m : Signature} → Happened (gets_method m) 0 past → IsWrong past (gets_method m) (duplicate_name m.0)

-- all of this is right behind the past, one thing after the other
abbrev pub AreRight : List Happening → List Happening → Type 0
AreRight past [] = Unit {0}
AreRight past (h ∷ hs) = IsRight past h × AreRight (h ∷ past) hs

-- the first thing that is wrong is wrong for this reason
abbrev pub IsFirstFault : List Happening → List Happening → Refusal → Type 0
IsFirstFault past [] r = ⊥
IsFirstFault past (h ∷ hs) r = IsWrong past h r ⊎ (IsRight past h × IsFirstFault (h ∷ past) hs r)

-- the past behind things that happen
abbrev pub following : List Happening → List Happening → List Happening
following past [] = past
following past (h ∷ hs) = following (h ∷ past) hs

-- the past of a script: its own scope has the names of earlier vats
abbrev pub before_script : List Name → List Happening
before_script earlier = following [] (defining (definitions earlier))

-- the past of an asked program: its scope is in braces, around which are the names of the vats before its own and those of its script
abbrev pub before_asked : List Name → List TopName → List Happening
before_asked earlier tops = opens ∷ following (before_script earlier) (defining tops)

-- a program passes behind this past
pub record Passes (past : List Happening) (ts : Trees) : Type 0 where
  pub few : nodes_in ts ≤ MOST_NODES
  pub shallow : depth_in ts ≤ GREATEST_DEPTH
  pub right : AreRight past (happens_in ts)

-- it is refused: for its size first, then for its depth, then for the first thing that is wrong
pub data IsRefused (past : List Happening) (ts : Trees) : Refusal → Type 0 where
  is_too_long : MOST_NODES < nodes_in ts → IsRefused past ts too_long
  is_too_deep : nodes_in ts ≤ MOST_NODES → GREATEST_DEPTH < depth_in ts → IsRefused past ts too_deep
  is_wrong : {r : Refusal} → nodes_in ts ≤ MOST_NODES → depth_in ts ≤ GREATEST_DEPTH → IsFirstFault past (happens_in ts) r → IsRefused past ts r

-- in these scopes the check passes the programs that pass behind this past, and refuses the others for their reasons
abbrev pub IsCheckBehind : List Happening → Scopes → Type 0
IsCheckBehind past s = (ts : Trees) → (IsOk (checked_program ts s) ↔ Passes past ts) × ((r : Refusal) → (checked_program ts s ≡ Err r) ↔ IsRefused past ts r)

-- so are scripts checked
abbrev pub ScriptsAreChecked : Type 0
ScriptsAreChecked = (earlier : List Name) → IsCheckBehind (before_script earlier) (script_scopes earlier)

-- so are programs that are asked
abbrev pub AskedAreChecked : Type 0
AskedAreChecked = (earlier : List Name) (tops : List TopName) → IsCheckBehind (before_asked earlier tops) (asked_scopes earlier tops)
