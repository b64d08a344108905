-- Code that holds a vector stands for a tree of the trees of the vector's code.
use Rattle.std.proofs.Common.{◌≡◌, List, ℕ, Option, refl, ap, sym, ◌∙◌}
use Rattle.kernele.specs.Tree.{call, list_tree, hide, if_tree, while_tree, for_tree, try_tree, object_tree, escape_tree, send, when_tree, when_catch_tree, Trees, Methods, and_then, and_method}
use Rattle.kernele.specs.declared.tree.Pattern.{Pattern}
use Rattle.code.specs.View.{tree_of_code, trees_of_codes, trees_of_code_row, methods_of_codes, methods_of_code_row}
use Rattle.code.specs.declared.code.Capture.{Capture}
use Rattle.code.specs.declared.code.Code as code
use Rattle.code.specs.declared.code.Code.{Code}
use Rattle.code.specs.declared.code.MethodCode.{MethodCode}
use Rattle.code.specs.declared.index.MethodIndex.{MethodIndex}
use Rattle.std.specs.declared.sync.Arc.{Arc}
use Rattle.std.specs.declared.vec.Vec.{Vec}
use Rattle.std.specs.declared.alloc.Global.{Global}

row_items : {n : _} (k : code.Row_of-Code n) → trees_of_code_row k ≡ trees_of_codes (code.items-the_row-Code _ k)
row_items code.end_of-Code = refl
row_items (code.more_of-Code e rest) = ap (and_then (tree_of_code e)) (row_items rest)

pub trees_row : (xs : Vec Code Global) → trees_of_code_row (code.TheBlock.hidden-the_row-Code-0 xs) ≡ trees_of_codes xs.items
trees_row xs = row_items (code.TheBlock.hidden-the_row-Code-0 xs) ∙ ap trees_of_codes (code.items_hidden-the_row-Code-0 xs)

pub tree_of_code-Call : (r : Arc Code Global) (verb : List ℕ) (args : Arc (Vec Code Global) Global) → tree_of_code (code.Call r verb args) ≡ call (tree_of_code r.value) verb (trees_of_codes args.value.items)
tree_of_code-Call r verb args = ap (call (tree_of_code r.value) verb) (trees_row args.value)

pub tree_of_code-List : (items : Arc (Vec Code Global) Global) → tree_of_code (code.List items) ≡ list_tree (trees_of_codes items.value.items)
tree_of_code-List items = ap list_tree (trees_row items.value)

pub tree_of_code-Hide : (body : Arc (Vec Code Global) Global) → tree_of_code (code.Hide body) ≡ hide (trees_of_codes body.value.items)
tree_of_code-Hide body = ap hide (trees_row body.value)

pub tree_of_code-If : (c : Arc Code Global) (first second : Arc (Vec Code Global) Global) → tree_of_code (code.If c first second) ≡ if_tree (tree_of_code c.value) (trees_of_codes first.value.items) (trees_of_codes second.value.items)
tree_of_code-If c first second = λ i. if_tree (tree_of_code c.value) (trees_row first.value i) (trees_row second.value i)

pub tree_of_code-While : (c : Arc Code Global) (body : Arc (Vec Code Global) Global) → tree_of_code (code.While c body) ≡ while_tree (tree_of_code c.value) (trees_of_codes body.value.items)
tree_of_code-While c body = ap (while_tree (tree_of_code c.value)) (trees_row body.value)

pub tree_of_code-For : (p : Pattern) (e : Arc Code Global) (body : Arc (Vec Code Global) Global) → tree_of_code (code.For p e body) ≡ for_tree p (tree_of_code e.value) (trees_of_codes body.value.items)
tree_of_code-For p e body = ap (for_tree p (tree_of_code e.value)) (trees_row body.value)

pub tree_of_code-Try : (body : Arc (Vec Code Global) Global) (p : Pattern) (handler : Arc (Vec Code Global) Global) → tree_of_code (code.Try body p handler) ≡ try_tree (trees_of_codes body.value.items) p (trees_of_codes handler.value.items)
tree_of_code-Try body p handler = λ i. try_tree (trees_row body.value i) p (trees_row handler.value i)

pub tree_of_code-Escape : (x : List ℕ) (body : Arc (Vec Code Global) Global) → tree_of_code (code.Escape x body) ≡ escape_tree x (trees_of_codes body.value.items)
tree_of_code-Escape x body = ap (escape_tree x) (trees_row body.value)

pub tree_of_code-Send : (r : Arc Code Global) (verb : List ℕ) (args : Arc (Vec Code Global) Global) → tree_of_code (code.Send r verb args) ≡ send (tree_of_code r.value) verb (trees_of_codes args.value.items)
tree_of_code-Send r verb args = ap (send (tree_of_code r.value) verb) (trees_row args.value)

pub tree_of_code-When : (e : Arc Code Global) (captured : Arc (Vec Capture Global) Global) (body : Arc (Vec Code Global) Global) → tree_of_code (code.When e captured body) ≡ when_tree (tree_of_code e.value) (trees_of_codes body.value.items)
tree_of_code-When e captured body = ap (when_tree (tree_of_code e.value)) (trees_row body.value)

pub tree_of_code-WhenCatch : (e : Arc Code Global) (captured : Arc (Vec Capture Global) Global) (body : Arc (Vec Code Global) Global) (p : Pattern) (handler : Arc (Vec Code Global) Global)
    → tree_of_code (code.WhenCatch e captured body p handler) ≡ when_catch_tree (tree_of_code e.value) (trees_of_codes body.value.items) p (trees_of_codes handler.value.items)
tree_of_code-WhenCatch e captured body p handler = λ i. when_catch_tree (tree_of_code e.value) (trees_row body.value i) p (trees_row handler.value i)

method_same : {verb : List ℕ} {ps : List Pattern} {b c : Trees} {r s : Methods} → b ≡ c → r ≡ s → and_method verb ps b r ≡ and_method verb ps c s
method_same {verb = verb} {ps = ps} p q = λ i. and_method verb ps (p i) (q i)

method_items : {n : _} (k : code.Row_of-MethodCode n) → methods_of_code_row k ≡ methods_of_codes (code.items-the_row-MethodCode _ k)
method_items code.end_of-MethodCode = refl
method_items (code.more_of-MethodCode verb ps p shape body rest) =
    method_same (row_items body ∙ ap trees_of_codes (sym (code.items_shown-the_row-Code-0 shape body))) (method_items rest)

pub methods_row : (xs : Vec MethodCode Global) → methods_of_code_row (code.TheBlock.hidden-the_row-MethodCode-1 xs) ≡ methods_of_codes xs.items
methods_row xs = method_items (code.TheBlock.hidden-the_row-MethodCode-1 xs) ∙ ap methods_of_codes (code.items_hidden-the_row-MethodCode-1 xs)

pub tree_of_code-Object : (p : Pattern) (captured : Arc (Vec Capture Global) Global) (ms : Arc (Vec MethodCode Global) Global) (index : Option (Arc MethodIndex Global)) → tree_of_code (code.Object p captured ms index) ≡ object_tree p (methods_of_codes ms.value.items)
tree_of_code-Object p captured ms index = ap (object_tree p) (methods_row ms.value)
