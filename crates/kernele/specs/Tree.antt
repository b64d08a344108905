-- Trees as plain data: no pointers, no capacities.
use Rattle.std.specs.Prelude.{ℕ, ℤ, Bool, List}
use Rattle.kernele.specs.declared.tree.Pattern.{Pattern}
use Rattle.kernele.specs.declared.tree.Primitive.{Primitive}

-- a name, a verb or a text: its bytes
abbrev pub Name : Type 0
Name = List ℕ

mutual
  pub data Tree : Type 0 where
    null_tree : Tree
    bool_tree : (b : Bool) → Tree
    int_tree : (z : ℤ) → Tree
    text_tree : (s : Name) → Tree
    noun : (x : Name) → Tree
    define : (p : Pattern) → (e : Tree) → Tree
    variable : (x : Name) → (e : Tree) → Tree
    assign : (x : Name) → (e : Tree) → Tree
    call : (r : Tree) → (verb : Name) → (args : Trees) → Tree
    list_tree : (items : Trees) → Tree
    same_tree : (l : Tree) → (r : Tree) → Tree
    define_list : (ps : List Pattern) → (e : Tree) → Tree
    hide : (body : Trees) → Tree
    if_tree : (c : Tree) → (first : Trees) → (second : Trees) → Tree
    while_tree : (c : Tree) → (body : Trees) → Tree
    for_tree : (p : Pattern) → (e : Tree) → (body : Trees) → Tree
    try_tree : (body : Trees) → (p : Pattern) → (handler : Trees) → Tree
    primitive : (q : Primitive) → (e : Tree) → Tree
    object_tree : (p : Pattern) → (methods : Methods) → Tree
    escape_tree : (x : Name) → (body : Trees) → Tree
    send : (r : Tree) → (verb : Name) → (args : Trees) → Tree
    when_tree : (e : Tree) → (body : Trees) → Tree
    when_catch_tree : (e : Tree) → (body : Trees) → (p : Pattern) → (handler : Trees) → Tree
    new_promise : Tree
    deriving IsSet as Tree-set

  -- a block, arguments, or the items of a list
  pub data Trees : Type 0 where
    none : Trees
    and_then : (t : Tree) → (ts : Trees) → Trees
    deriving IsSet as Trees-set

  -- the methods of an object
  pub data Methods : Type 0 where
    no_methods : Methods
    and_method : (verb : Name) → (ps : List Pattern) → (body : Trees) → (ms : Methods) → Methods
    deriving IsSet as Methods-set
